-- How often a run calls its reader. `reads` says what one read may do: it returns a number of
-- bytes, or `None` if it fails.
use Rattle.std.specs.Prelude.{◌≡◌, ℕ, zero, suc, ◌<◌, ◌⊎◌, Option, Some, None, Result, Ok, Err}
use Rattle.oauth2_commands.specs.declared.status.RunFault.{RunFault}
use Rattle.oauth2_commands.specs.declared.status.RunFault.TheVariants.{Read, Write, Memory}

-- how often a run calls its reader at most
abbrev pub most_reads : ℕ
most_reads = 1_048_576

module _ {R : Type 0} (reads : R → Option ℕ → R → Type 0) where
  -- `n` reads, each of which returned at least one byte
  unfoldable pub GivesBytes : ℕ → R → R → Type 0
  GivesBytes zero old new = new ≡ old
  GivesBytes (suc n) old new =
      (mid : R) × (count : ℕ) × GivesBytes n old mid × reads mid (Some (suc count)) new

  -- some reads that each returned bytes, and then a last one that returned `given`
  abbrev pub LastGives : Option ℕ → R → R → Type 0
  LastGives given old new =
      (n : ℕ) × (mid : R) × (n < most_reads) × GivesBytes n old mid × reads mid given new

  -- some reads that each returned bytes, and then one that returned no byte: the end
  abbrev pub IsReadToItsEnd : R → R → Type 0
  IsReadToItsEnd old new = LastGives (Some 0) old new

  -- one read or more that each returned bytes; memory ran out for the bytes of the last one
  abbrev pub IsLeft : R → R → Type 0
  IsLeft old new = (n : ℕ) × (n < most_reads) × GivesBytes (suc n) old new

  -- the reads of a run with this result
  abbrev pub Calls : {X : Type 0} → Result X RunFault → R → R → Type 0
  Calls (Ok x) old new = IsReadToItsEnd old new
  Calls (Err Read) old new = LastGives None old new ⊎ GivesBytes most_reads old new
  Calls (Err Write) old new = IsReadToItsEnd old new
  Calls (Err Memory) old new = IsReadToItsEnd old new ⊎ IsLeft old new
