use Rattle.std.proofs.Common.{◌≡◌, ℕ, ◌%◌, ◌<◌, ◌≤◌, ◌++◌, length, take, set, get_or, bit_xor, sym, ap, ◌∙◌, arith, below_more, get_or-set_same, get_or-set_other, length-take-le}
use Rattle.std.proofs.Math.Nat.{zero-mod}
use Rattle.std.proofs.Math.ListN.{length-set}
use Rattle.std.proofs.lemmas.List.{get_or-take, length-replicate}
use Rattle.hash_functions.specs.HashFunction.{digest_of, hash_size}
use Rattle.rsa_signatures.specs.Octets.{octets_of}
use Rattle.rsa_signatures.specs.Pss.{mgf1}
use Rattle.rsa_signatures.proofs.Masks.{mask_octet, mgf1-at, length-mgf1, same_block, xored_is}
use Rattle.rsa_signatures.proofs.pss.without_mask.Goals as goal

pub loop-i-init : goal.loop-i-init
loop-i-init c = record {
  done = λ k h. absurd (omega arith);
  block = λ n. absurd (n (zero-mod (hash_size c.args.hash)));
  room = length-replicate {A = ℕ} 1024 0;
}

pub loop-i-preserved : goal.loop-i-preserved
loop-i-preserved c =
    let l = c.loop-i in
    let i = l.i in
    let hash = c.args.hash in
    let seed = c.args.seed.now in
    let masked = c.args.masked.now in
    let block = c.block_at-block.result in
    let size-is : c.size-size.result ≡ hash_size hash = c.size-size.ensures.value in
    let within : i < length l.octets = omega (arith, l.invariant.room) in
    let inside : i % hash_size hash < hash_size hash = omega (arith, c.size-size.ensures.least) in
    let octet : get_or block (i % c.size-size.result) 0 ≡ mask_octet hash seed i =
    ap (λ t. get_or block (i % t) 0) size-is ∙ sym (get_or-take (hash_size hash) block (i % hash_size hash) 0 inside)
    ∙ ap (λ t. get_or t (i % hash_size hash) 0) c.block_at-block.ensures in
    let value = bit_xor (get_or masked i 0) (get_or block (i % c.size-size.result) 0) in
    let P : ℕ → Type 0 = λ k. get_or (set l.octets i value) k 0 ≡ bit_xor (get_or masked k 0) (mask_octet hash seed k) in
    record {
      done = below_more P i (λ k h. get_or-set_other l.octets i k value 0 (λ e. omega arith) ∙ l.invariant.done k h)
          (get_or-set_same l.octets i value 0 within ∙ ap (bit_xor (get_or masked i 0)) octet);
      block = λ n. c.block_at-block.ensures ∙ ap (λ t. digest_of hash (seed ++ octets_of 4 t)) (same_block hash i n);
      room = length-set l.octets i value ∙ l.invariant.room;
    }

pub returns : goal.returns
returns c =
    let l = c.loop-i in
    let hash = c.args.hash in
    let seed = c.args.seed.now in
    let masked = c.args.masked.now in
    let n = length masked in
    let room : n ≤ length l.octets = omega (arith, l.invariant.room) in
    let mask = mgf1 hash seed n in
    let enough : n ≤ length mask = omega (arith, length-mgf1 hash seed n) in
    xored_is (take n l.octets) masked mask (length-take-le n l.octets room) enough
    (λ k h. get_or-take n l.octets k 0 h ∙ l.invariant.done k (omega arith) ∙ ap (bit_xor (get_or masked k 0)) (sym (mgf1-at hash seed n k h)))
