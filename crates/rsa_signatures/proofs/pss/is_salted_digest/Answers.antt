use Rattle.std.proofs.Common.{◌≡◌, ◌++◌, [], take, replicate, ap, ◌∙◌, sym}
use Rattle.std.proofs.lemmas.List.{append-nil}
use Rattle.std.proofs.lemmas.Bool.Decides.{Decides-eqb}
use Rattle.std.proofs.lemmas.Slice.Eq.{slice_eq-Decides}
use Rattle.hash_functions.specs.HashFunction.{digest_of}
use Rattle.rsa_signatures.proofs.pss.is_salted_digest.Goals as goal

pub returns : goal.returns
returns c =
    let hash = c.args.hash in
    let m = c.args.message.now in
    let salt = c.args.salt.now in
    let digest = c.digest-digest.result in
    let expected = c.digest-expected.result in
    let found = take c.size-2.result expected in
    let inner : take c.size.result digest ≡ digest_of hash m =
    ap (λ t. take t digest) c.size.ensures.value ∙ c.digest-digest.ensures ∙ ap (digest_of hash) (append-nil (m ++ []) ∙ append-nil m) in
    let whole : found ≡ digest_of hash (replicate 8 0 ++ digest_of hash m ++ salt) =
    ap (λ t. take t expected) c.size-2.ensures.value ∙ c.digest-expected.ensures ∙ ap (λ t. digest_of hash (replicate 8 0 ++ t ++ salt)) inner in
    let same = slice_eq-Decides Decides-eqb c.args.found.now found c.eq.result c.eq.ensures in
    (λ t. same.0 t ∙ whole, λ e. same.1 (e ∙ sym whole))
