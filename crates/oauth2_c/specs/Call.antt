-- What a call of the library gives.
use Rattle.std.specs.Prelude.{◌≡◌, ℕ, ℤ, pos, ◌≤◌, ◌<◌, ◌++◌, ◌⊎◌, List, length, drop, codes}
use Rattle.oauth2_commands.specs.Run.{IsResultOf}
use Rattle.oauth2_request_commands.specs.declared.status.RunStatus.{RunStatus}
use Rattle.oauth2_request_commands.specs.declared.status.RunStatus.TheVariants.{Answered, Fault, BadScript}

-- the exit status that the program has at the end of such a run
abbrev pub status_code : RunStatus → ℕ
status_code Answered = 0
status_code Fault = 1
status_code BadScript = 2

-- a room begins with the text and is else as it was; if it does not fit, all of it is as it was
abbrev pub IsPut : List ℕ → List ℕ → List ℕ → Type 0
IsPut text old new =
    (length text ≤ length old → new ≡ text ++ drop (length text) old)
    × (length old < length text → new ≡ old)

-- a text of so many bytes is in the room, if it fits
abbrev pub IsText : List ℕ → List ℕ → List ℕ → ℕ → Type 0
IsText text old new count = (count ≡ length text) × IsPut text old new

-- the version of the library
abbrev pub version : List ℕ
version = codes "0.1.0"

-- the script has a result with this status, whose text has so many bytes and is in the room
abbrev pub IsRun : List ℕ → List ℕ → List ℕ → ℕ → ℤ → Type 0
IsRun script old new count status =
    (text : List ℕ) × (s : RunStatus) × IsResultOf script text s
    × (status ≡ pos (status_code s)) × IsText text old new count

-- memory ran out outside a call of the client: there is no text, and the room is as it was
abbrev pub IsUnfed : List ℕ → List ℕ → ℕ → ℤ → Type 0
IsUnfed old new count status = (status ≡ pos 3) × (count ≡ 0) × (new ≡ old)

-- a call with this script: the room before it and after it, the count that it stores, and its result
abbrev pub IsCall : List ℕ → List ℕ → List ℕ → ℕ → ℤ → Type 0
IsCall script old new count status =
    IsRun script old new count status ⊎ IsUnfed old new count status
