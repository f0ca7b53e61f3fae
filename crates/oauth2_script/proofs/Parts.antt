-- Parts of a script as they were read.
use Rattle.std.proofs.lemmas.Iterator.Adapters.{option_map_id}

-- an optional member that is kept as it was read
pub ruleset kept = (option_map_id)
