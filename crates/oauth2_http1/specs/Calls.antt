-- The results of the calls of a connection, one after the other.
use Rattle.std.specs.Prelude.{◌≡◌, ℕ, ◌+◌, ◌≤◌, ◌⊎◌, ⊤, List, [], ◌∷◌, length, Option, Result, Ok, Err}
use Rattle.std.specs.declared.io.Error.{Error}
use Rattle.std.specs.declared.io.ErrorKind.TheVariants.{Interrupted, WriteZero}
use Rattle.std.specs.Io.KnownBytes.{Consumes}
use Rattle.std.specs.IoError.{error_kind}
use Rattle.oauth2_http1.specs.Bounds.{most_bytes}
use Rattle.oauth2_http1.specs.declared.bounds.Bounds.{Bounds}
use Rattle.oauth2_http1.specs.declared.fault.ReplyFault.{ReplyFault}
use Rattle.oauth2_http1.specs.declared.fault.ReplyFault.TheVariants as Fault

-- how many bytes the successful calls returned in total
abbrev pub bytes_returned : List (Result ℕ Error) → ℕ
bytes_returned [] = 0
bytes_returned (Ok n ∷ rs) = n + bytes_returned rs
bytes_returned (Err e ∷ rs) = bytes_returned rs

-- how many of the calls succeeded
abbrev pub successes : List (Result ℕ Error) → ℕ
successes [] = 0
successes (Ok n ∷ rs) = 1 + successes rs
successes (Err e ∷ rs) = successes rs

-- each call that failed was interrupted, so it was made again
abbrev pub GoesOn : List (Result ℕ Error) → Type 0
GoesOn [] = ⊤
GoesOn (Ok n ∷ rs) = GoesOn rs
GoesOn (Err e ∷ rs) = (error_kind e ≡ Interrupted) × GoesOn rs

module _ {S : Type 0} (does : S → Result ℕ Error → S → Type 0) where
  -- calls with these results lead from `old` to `new`; the list begins with the last call
  abbrev pub Made : List (Result ℕ Error) → S → S → Type 0
  Made [] old new = new ≡ old
  Made (r ∷ rs) old new = (mid : S) × Made rs old mid × does mid r new

  -- calls lead from `old` to `new`, and none failed except by an interruption
  abbrev pub Goes : S → S → Type 0
  Goes old new = (rs : List (Result ℕ Error)) × GoesOn rs × Made rs old new

  -- calls lead from `old` to `new`; the last one failed with this error, and no earlier one failed
  -- except by an interruption
  abbrev pub Fails : Error → S → S → Type 0
  Fails e old new = (rs : List (Result ℕ Error)) × GoesOn rs × Made (Err e ∷ rs) old new

module _ {R : Type 0} (remaining : R → Option (List ℕ)) (reads : R → Result ℕ Error → R → Type 0) where
  -- reads lead from `old` to `new`, and took these bytes from the front of those that remain, if
  -- they are known
  pub record ReadsOf (old new : R) : Type 0 where
    pub returned : List (Result ℕ Error)
    pub made : Made reads returned old new
    pub bytes : List ℕ
    pub taken : Consumes (remaining old) (remaining new) bytes
    pub counted : length bytes ≡ bytes_returned returned

  -- the reads took at most as many bytes as the bounds allow, in at most as many reads; failed
  -- reads do not count
  abbrev pub ReadsWithin : Bounds → R → R → Type 0
  ReadsWithin bounds old new =
      (all : ReadsOf old new) × (bytes_returned all.returned ≤ most_bytes bounds) × (successes all.returned ≤ bounds.max_reads)

module _ {R : Type 0} (reads : R → Result ℕ Error → R → Type 0) where
  -- a fault `Read` has the error of the last read; with any other fault, no read failed except by
  -- an interruption
  abbrev pub ReadFails : ReplyFault → R → R → Type 0
  ReadFails (Fault.Response e) old new = Goes reads old new
  ReadFails Fault.EmptyLine old new = Goes reads old new
  ReadFails Fault.TransferCoding old new = Goes reads old new
  ReadFails Fault.TooLong old new = Goes reads old new
  ReadFails Fault.TooManyBytes old new = Goes reads old new
  ReadFails Fault.TooManyReads old new = Goes reads old new
  ReadFails Fault.Fields old new = Goes reads old new
  ReadFails (Fault.Read e) old new = Fails reads e old new
  ReadFails Fault.Memory old new = Goes reads old new

-- the last write took no byte, and the error has the kind `WriteZero`
abbrev pub TakesNone : {W : Type 0} → (W → Result ℕ Error → W → Type 0) → Error → W → W → Type 0
TakesNone writes e old new =
    (rs : List (Result ℕ Error)) × GoesOn rs × Made writes (Ok 0 ∷ rs) old new × (error_kind e ≡ WriteZero)

module _ {W : Type 0} (writes : W → Result ℕ Error → W → Type 0) (flushes : W → Result ⊤ Error → W → Type 0) where
  -- writes, followed by a flush with this result
  abbrev pub Flushes : Result ⊤ Error → W → W → Type 0
  Flushes r old new = (mid : W) × Goes writes old mid × flushes mid r new

  -- what was written, by the result: on success, all writes and then a flush succeeded; the error
  -- is that of the last write or of the flush, or says that a write took no byte
  abbrev pub Sends : Result ⊤ Error → W → W → Type 0
  Sends (Ok done) old new = Flushes (Ok done) old new
  Sends (Err e) old new =
      Fails writes e old new ⊎ Flushes (Err e) old new ⊎ TakesNone writes e old new
