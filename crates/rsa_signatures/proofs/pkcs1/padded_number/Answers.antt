use Rattle.std.proofs.Common.{◌≡◌, ℕ, List, ◌+◌, ◌-◌, ◌%◌, ◌≤◌, [], ◌∷◌, ◌++◌, replicate, length, length-append, ap, ◌∙◌, sym, arith, rules}
use Rattle.modular_arithmetic.specs.Octets.{number_onto, number, AreOctets}
use Rattle.rsa_signatures.specs.Pkcs1.{with_padding}
use Rattle.modular_arithmetic.specs.Limbs.{limb_weight, value_below}
use Rattle.modular_arithmetic.proofs.LimbValues.{value_below-lt, value_below_zeros, zeros_are_limbs}
use Rattle.modular_arithmetic.proofs.OctetNumbers.{exact, number_fits}
use Rattle.rsa_signatures.proofs.OctetNumbers.{push_more, pushed_is, with_padding-octets, length-with_padding, AreOctets-append}
use Rattle.rsa_signatures.proofs.pkcs1.padded_number.Goals as goal

pub push_all-requires-clause-limbs : goal.push_all-requires-clause-limbs
push_all-requires-clause-limbs c = zeros_are_limbs 128 c.args.len

pub returns : goal.returns
returns c =
    let len = c.args.len in
    let w = limb_weight len in
    let size = c.args.size in
    let prefix = c.args.prefix.now in
    let digest = c.args.digest.now in
    let t : List ℕ = prefix ++ digest in
    let count = size - (length prefix + length digest) - 3 in
    let ones : List ℕ = replicate count 255 in
    let v1 = value_below c.push_all.new.limbs len in
    let v2 = value_below c.push_repeated.new.limbs len in
    let v3 = value_below c.push_all-2.new.limbs len in
    let v4 = value_below c.push_all-3.new.limbs len in
    let v5 = value_below c.push_all-4.new.limbs len in
    let e1 : v1 % w ≡ number (0 ∷ 1 ∷ []) % w = c.push_all.ensures.value ∙ ap (λ t. number_onto t (0 ∷ 1 ∷ []) % w) (value_below_zeros 128 len) in
    let e2 = push_more v1 v2 (0 ∷ 1 ∷ []) ones w e1 c.push_repeated.ensures.value in
    let e3 = push_more v2 v3 ((0 ∷ 1 ∷ []) ++ ones) (0 ∷ []) w e2 c.push_all-2.ensures.value in
    let e4 = push_more v3 v4 (((0 ∷ 1 ∷ []) ++ ones) ++ 0 ∷ []) prefix w e3 c.push_all-3.ensures.value in
    let e5 = push_more v4 v5 ((((0 ∷ 1 ∷ []) ++ ones) ++ 0 ∷ []) ++ prefix) digest w e4 c.push_all-4.ensures.value in
    let count-is : count ≡ size - length t - 3 = ap (λ l. size - l - 3) (sym (length-append prefix digest)) in
    let all : number (((((0 ∷ 1 ∷ []) ++ ones) ++ 0 ∷ []) ++ prefix) ++ digest) ≡ number (with_padding size t) =
    ap number (pushed_is count prefix digest) ∙ ap (λ k. number (0 ∷ 1 ∷ (replicate k 255 ++ 0 ∷ t))) count-is in
    let octets : AreOctets t = AreOctets-append prefix digest (λ i. search rules) (λ i. search rules) in
    let room : length t + 3 ≤ size = omega (arith, length-append prefix digest) in
    exact v5 (number (with_padding size t)) w (value_below-lt c.push_all-4.new.limbs len c.push_all-4.ensures.limbs)
    (number_fits (with_padding size t) len (with_padding-octets size t octets) (rw (length-with_padding size t room) c.requires.fits))
    (e5 ∙ ap (λ t. t % w) all)
