use Rattle.std.proofs.Common.{length, sym, ◌∙◌, inl, inr}
use Rattle.std.proofs.lemmas.Bool.{cases_lt, lt-ltb, le-ltb, le-leb, lt-leb}
use Rattle.modular_arithmetic.specs.Octets.{number}
use Rattle.rsa_signatures.specs.PublicKey.{modulus_limit}
use Rattle.rsa_signatures.proofs.Keys.{fewer_bytes, more_bytes, modulus_limit_is}
use Rattle.rsa_signatures.proofs.public_key.is_long.Goals as goal

pub returns : goal.returns
returns c =
    let bs = c.args.bytes.now in
    elim (cases_lt 1024 (length bs)) [
      | inl l ↦ lt-ltb 1024 (length bs) l ∙ sym (le-leb modulus_limit (number bs) (more_bytes bs 1024 modulus_limit modulus_limit_is c.requires l))
      | inr l ↦ le-ltb 1024 (length bs) l ∙ sym (lt-leb modulus_limit (number bs) (fewer_bytes bs 1024 modulus_limit modulus_limit_is (λ i. (c.type_inv.bytes i).fits) l))
    ]
