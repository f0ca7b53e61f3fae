use Rattle.std.proofs.Common.{◌≡◌, ◌+◌, ◌-◌, ◌/◌, take, get_or, IsTrue, ap, ◌∙◌, sym, arith, rules}
use Rattle.modular_arithmetic.specs.Limbs.{value_below}
use Rattle.rsa_signatures.proofs.OctetNumbers.{are_zeros, zeros_at, front_is_zeros, zeros_in_front}
use Rattle.rsa_signatures.proofs.PssRepresentatives.{representative, representative_fits}
use Rattle.rsa_signatures.proofs.pss.is_pss.Goals as goal

pub returns-then-is_zero : goal.returns-then-is_zero
returns-then-is_zero c = λ n b.
    let xs = c.octets_of-octets.result in
    let bits = c.args.bits in
    let size = (bits - 1 + 7) / 8 in
    let mid = 1024 - size in
    let m = value_below c.args.representative.now c.args.len in
    let front = c.split_at.result.0.now in
    let front-is : front ≡ take mid xs = c.split_at.ensures.front in
    let none = c.is_zero.ensures.0 (search rules) in
    let zeros : take mid xs ≡ _ = are_zeros (take mid xs) (λ k h. ap (λ t. get_or t k 0) (sym front-is) ∙ none k (rw front-is h)) in
    let found = front_is_zeros xs mid size m (search rules) (λ i. search rules) c.octets_of-octets.ensures zeros in
    representative c.args.hash n bits m c.args.message.now c.split_at.result.1.now c.is_encoding.result b found.0
    (c.split_at.ensures.back ∙ found.1) c.is_encoding.ensures

pub returns-else-is_zero : goal.returns-else-is_zero
returns-else-is_zero c = λ n b.
    let xs = c.octets_of-octets.result in
    let bits = c.args.bits in
    let size = (bits - 1 + 7) / 8 in
    let mid = 1024 - size in
    let m = value_below c.args.representative.now c.args.len in
    let front = c.split_at.result.0.now in
    let front-is : front ≡ take mid xs = c.split_at.ensures.front in (
      λ t. absurd (let f : ⊥ = grind arith in f),
      λ p.
          let fits = representative_fits c.args.hash n bits m c.args.message.now b p in
          let zeros = zeros_in_front xs mid size m (search rules) c.octets_of-octets.ensures fits in
          let holds : IsTrue c.is_zero.result = c.is_zero.ensures.1 (λ k h. ap (λ t. get_or t k 0) front-is ∙ zeros_at (take mid xs) _ k zeros) in
          absurd (let f : ⊥ = grind arith in f),
    )
