use Rattle.std.proofs.Common.{◌≡◌, ◌++◌, ◌≤◌, take, ap, ◌∙◌, arith, append-nil}
use Rattle.hash_functions.specs.HashFunction.{digest_of, block_size}
use Rattle.hmac_signatures.proofs.Keys.{take-padded}
use Rattle.hmac_signatures.proofs.hmac.digest_after_key.Goals as goal

pub returns : goal.returns
returns c =
    let size = block_size c.args.hash in
    let most : size ≤ 128 = omega (arith, c.block_size.ensures.value, c.block_size.ensures.most) in
    let first : take c.block_size.result c.padded_key-padded.result ≡ _ =
    ap (λ n. take n c.padded_key-padded.result) c.block_size.ensures.value ∙ ap (λ xs. take size xs) c.padded_key-padded.ensures ∙ take-padded c.args.key.now c.args.with size 128 c.requires most in
    c.digest.ensures ∙ ap (digest_of c.args.hash) (append-nil _) ∙ ap (λ block. digest_of c.args.hash (block ++ c.args.text.now)) first
