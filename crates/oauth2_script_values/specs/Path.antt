-- The text of the path from a script to a member of it.
use Rattle.std.specs.Prelude.{ℕ, List, [], ◌++◌, codes, decimal}
use Rattle.oauth2_script_values.specs.Reading.{Step, to_member, to_item, end, Path}

-- the text of a step that begins a path
abbrev pub first_text : Step → List ℕ
first_text (to_member name) = name
first_text (to_item n) = codes "[" ++ decimal n ++ codes "]"
first_text end = []

-- the text of a step behind others
abbrev pub step_text : Step → List ℕ
step_text (to_member name) = codes "." ++ name
step_text (to_item n) = codes "[" ++ decimal n ++ codes "]"
step_text end = []

-- the text of a path, as `replies[2].status`; empty for the whole input
abbrev pub path_text : Path → List ℕ
path_text p = first_text p.first ++ step_text p.second ++ step_text p.third ++ step_text p.fourth
