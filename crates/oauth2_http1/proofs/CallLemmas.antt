-- Calls one after the other.
use Rattle.std.proofs.Common.{OnOk, ◌≡◌, ℕ, ◌+◌, List, [], ◌∷◌, ◌++◌, Ok, Err, length, length-append, Option, refl, sym, ap, subst, ◌∙◌, add_assoc, zero-add, arith, take, drop, ◌-◌, append_assoc, take-append-drop}
use Rattle.std.proofs.lemmas.List.{take_rest}
use Rattle.std.specs.Prelude.{Result, nat_lt}
use Rattle.std.proofs.lemmas.Bool.Decides.{nat_tests}
use Rattle.std.specs.declared.io.Error.{Error}
use Rattle.std.specs.Io.KnownBytes.{Keeps, ReadConsumes}
use Rattle.std.specs.Io.{ReadsAtMost}
use Rattle.std.proofs.KnownBytes.{Consumes-nil, Consumes-trans, Consumes-kept}
use Rattle.oauth2_http1.specs.Bounds.{most_bytes}
use Rattle.oauth2_http1.specs.declared.bounds.Bounds.{Bounds}
use Rattle.oauth2_http1.specs.declared.source.ReplySource.{ReplySource}
use Rattle.oauth2_http1.specs.declared.fault.ReplyFault.{ReplyFault}
use Rattle.oauth2_http1.specs.declared.fault.ReplyFault.TheVariants as Fault
use Rattle.oauth2_http1.specs.Calls.{bytes_returned, successes, GoesOn, Made, Goes, Fails, TakesNone, ReadsWithin, ReadFails}
use Rattle.oauth2_http1.specs.Kept.{ReadsAny}
use Rattle.oauth2_http1.specs.private.Phase.{Tried, Took, IsPartFault}

bytes_returned-append : (ss rs : List (Result ℕ Error)) → bytes_returned (ss ++ rs) ≡ bytes_returned ss + bytes_returned rs
bytes_returned-append [] rs = sym (zero-add (bytes_returned rs))
bytes_returned-append (Ok n ∷ ss) rs = ap (λ k. n + k) (bytes_returned-append ss rs) ∙ sym (add_assoc n (bytes_returned ss) (bytes_returned rs))
bytes_returned-append (Err e ∷ ss) rs = bytes_returned-append ss rs

successes-append : (ss rs : List (Result ℕ Error)) → successes (ss ++ rs) ≡ successes ss + successes rs
successes-append [] rs = sym (zero-add (successes rs))
successes-append (Ok n ∷ ss) rs = ap (λ k. 1 + k) (successes-append ss rs) ∙ sym (add_assoc 1 (successes ss) (successes rs))
successes-append (Err e ∷ ss) rs = successes-append ss rs

GoesOn-append : (ss rs : List (Result ℕ Error)) → GoesOn ss → GoesOn rs → GoesOn (ss ++ rs)
GoesOn-append [] rs on going = going
GoesOn-append (Ok n ∷ ss) rs on going = GoesOn-append ss rs on going
GoesOn-append (Err e ∷ ss) rs (interrupted, on) going = (interrupted, GoesOn-append ss rs on going)

pub on_ok : {T E : Type 0} (r : Result T E) (P : Type 0) → P → OnOk r P
on_ok (Ok x) P p = p
on_ok (Err e) P p = tt

-- a part more at the front of what is done
pub moves_front : (all done rest : List ℕ) (n : ℕ) → all ≡ done ++ rest → all ≡ (done ++ take n rest) ++ take (length rest - n) (drop n rest)
moves_front all done rest n e =
    e ∙ ap (λ l. done ++ l) (sym (take-append-drop n rest)) ∙ sym (append_assoc done (take n rest) (drop n rest)) ∙ ap (λ l. (done ++ take n rest) ++ l) (sym (take_rest rest n))

module _ {S : Type 0} (does : S → Result ℕ Error → S → Type 0) where
  pub Made-append : (ss rs : List (Result ℕ Error)) (a b c : S) → Made does rs a b → Made does ss b c → Made does (ss ++ rs) a c
  Made-append [] rs a b c first same = subst (Made does rs a) (sym same) first
  Made-append (s ∷ ss) rs a b c first (mid, before, last) = (mid, Made-append ss rs a b mid first before, last)

  pub Goes-refl : (a : S) → Goes does a a
  Goes-refl a = ([], tt, refl)

  pub Goes-trans : (a b c : S) → Goes does a b → Goes does b c → Goes does a c
  Goes-trans a b c (rs, going, made) (ss, on, more) = (ss ++ rs, GoesOn-append ss rs on going, Made-append ss rs a b c made more)

  pub Fails-behind : (e : Error) (a b c : S) → Goes does a b → Fails does e b c → Fails does e a c
  Fails-behind e a b c (rs, going, made) (ss, on, last) =
      (ss ++ rs, GoesOn-append ss rs on going, Made-append (Err e ∷ ss) rs a b c made last)

  pub TakesNone-behind : (e : Error) (a b c : S) → Goes does a b → TakesNone does e b c → TakesNone does e a c
  TakesNone-behind e a b c (rs, going, made) (ss, on, last, none) =
      (ss ++ rs, GoesOn-append ss rs on going, Made-append (Ok 0 ∷ ss) rs a b c made last, none)

  pub ReadFails-behind : (fault : ReplyFault) (a b c : S) → Goes does a b → ReadFails does fault b c → ReadFails does fault a c
  ReadFails-behind (Fault.Response e) a b c first last = Goes-trans a b c first last
  ReadFails-behind Fault.EmptyLine a b c first last = Goes-trans a b c first last
  ReadFails-behind Fault.TransferCoding a b c first last = Goes-trans a b c first last
  ReadFails-behind Fault.TooLong a b c first last = Goes-trans a b c first last
  ReadFails-behind Fault.TooManyBytes a b c first last = Goes-trans a b c first last
  ReadFails-behind Fault.TooManyReads a b c first last = Goes-trans a b c first last
  ReadFails-behind Fault.Fields a b c first last = Goes-trans a b c first last
  ReadFails-behind (Fault.Read e) a b c first last = Fails-behind e a b c first last
  ReadFails-behind Fault.Memory a b c first last = Goes-trans a b c first last

  -- where a part of a reply has no place, no read failed
  pub part_fails : (fault : ReplyFault) (a b : S) → IsPartFault fault → Goes does a b → ReadFails does fault a b
  part_fails (Fault.Response e) a b part went = went
  part_fails Fault.EmptyLine a b part went = went
  part_fails Fault.TransferCoding a b part went = went
  part_fails Fault.TooLong a b part went = went
  part_fails Fault.TooManyBytes a b part went = went
  part_fails Fault.TooManyReads a b part went = went
  part_fails Fault.Fields a b part went = went
  part_fails (Fault.Read e) a b part went = absurd part
  part_fails Fault.Memory a b part went = went

module _ {R : Type 0} (remaining : R → Option (List ℕ)) (reads : R → Result ℕ Error → R → Type 0) where
  pub Took-refl : (r : R) (s : ReplySource) → Took remaining reads r r s s
  Took-refl r s = record {
    all = record { returned = []; made = refl; bytes = []; taken = Consumes-nil (remaining r); counted = refl };
    bytes = zero-add s.bytes_left;
    times = zero-add s.reads_left;
  }

  pub Took-trans : (a b c : R) (s t u : ReplySource) → Took remaining reads a b s t → Took remaining reads b c t u → Took remaining reads a c s u
  Took-trans a b c s t u p q = record {
    all = record {
      returned = q.all.returned ++ p.all.returned;
      made = Made-append reads q.all.returned p.all.returned a b c p.all.made q.all.made;
      bytes = p.all.bytes ++ q.all.bytes;
      taken = Consumes-trans (remaining a) (remaining b) (remaining c) p.all.bytes q.all.bytes p.all.taken q.all.taken;
      counted = omega (arith, length-append p.all.bytes q.all.bytes, bytes_returned-append q.all.returned p.all.returned, p.all.counted, q.all.counted);
    };
    bytes = omega (arith, bytes_returned-append q.all.returned p.all.returned, p.bytes, q.bytes);
    times = omega (arith, successes-append q.all.returned p.all.returned, p.times, q.times);
  }

  -- what is used of the bytes that were read takes nothing
  pub Took-same : (a b : R) (s t u : ReplySource) → Took remaining reads a b s t → u.bytes_left ≡ t.bytes_left → u.reads_left ≡ t.reads_left → Took remaining reads a b s u
  Took-same a b s t u p bytes times = record {
    all = p.all;
    bytes = ap (λ n. bytes_returned p.all.returned + n) bytes ∙ p.bytes;
    times = ap (λ n. successes p.all.returned + n) times ∙ p.times;
  }

  -- where that much was left, no more was taken
  pub Took-within : (bounds : Bounds) (a b : R) (s t : ReplySource) → Took remaining reads a b s t → s.bytes_left ≡ most_bytes bounds → s.reads_left ≡ bounds.max_reads
      → ReadsWithin remaining reads bounds a b
  Took-within bounds a b s t p bytes times = (p.all, omega (arith, p.bytes, bytes), omega (arith, p.times, times))

  -- by how much is left, whether any byte was taken
  pub Took-any : (bounds : Bounds) (a b : R) (s t : ReplySource) → Took remaining reads a b s t → s.bytes_left ≡ most_bytes bounds → s.reads_left ≡ bounds.max_reads
      → ReadsAny remaining reads bounds (nat_lt t.bytes_left (most_bytes bounds)) a b
  Took-any bounds a b s t p bytes times =
      (p.all, omega (arith, p.bytes, bytes), omega (arith, p.times, times), below (bytes_returned p.all.returned) t.bytes_left (most_bytes bounds) (p.bytes ∙ bytes))
    where
      below : (n left most : ℕ) → n + left ≡ most → nat_lt left most ≡ nat_lt 0 n
      below n left most e = grind (arith, nat_tests)

  -- one read that succeeded
  pub Took-read : (a b : R) (s t : ReplySource) (n : ℕ) (chunk : List ℕ) → Tried reads (Ok n) a b → ReadsAtMost {E = Error} (Ok n) chunk
      → ReadConsumes {E = Error} (remaining a) (remaining b) (Ok n) chunk → n + t.bytes_left ≡ s.bytes_left → 1 + t.reads_left ≡ s.reads_left → Took remaining reads a b s t
  Took-read a b s t n chunk tried within consumes bytes times = record {
    all = record {
      returned = Ok n ∷ tried.before;
      made = tried.made;
      bytes = take n chunk;
      taken = consumes.0;
      counted = omega (arith, within.1, tried.none_given);
    };
    bytes = omega (arith, tried.none_given, bytes);
    times = omega (arith, tried.none_done, times);
  }

  -- one that failed
  pub Took-none : (a b : R) (s : ReplySource) (e : Error) → Tried reads (Err e) a b → Keeps (remaining a) (remaining b) → Took remaining reads a b s s
  Took-none a b s e tried keeps = record {
    all = record {
      returned = Err e ∷ tried.before;
      made = tried.made;
      bytes = [];
      taken = Consumes-kept (remaining a) (remaining a) (remaining b) [] (Consumes-nil (remaining a)) keeps;
      counted = sym tried.none_given;
    };
    bytes = omega (arith, tried.none_given);
    times = omega (arith, tried.none_done);
  }
