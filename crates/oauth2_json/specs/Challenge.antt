-- A code challenge and its method (RFC 7636, 4.3) as the members of an object.
use Rattle.std.specs.Prelude.{ℕ, List, [], ◌∷◌, Some, Ok, codes}
use Rattle.serde_json.specs.Data.{Data, Members, string, object, no_members}
use Rattle.serde_json.specs.Find.{get_member}
use Rattle.oauth2_types.specs.Pkce.{Challenge}
use Rattle.oauth2_json.specs.Reading.{Reading, read_then, ◌⊛◌}
use Rattle.oauth2_json.specs.Writing.{Writing}
use Rattle.oauth2_json.specs.Members.{members_of_object, needed_member}
use Rattle.oauth2_json.specs.Puts.{Row, put_all}
use Rattle.oauth2_json.specs.Values.{text}

-- a code challenge from its text and its method
abbrev pub challenge : List ℕ → List ℕ → Challenge
challenge c m = record { text = c; method = m }

-- reads the two members of a challenge, each a JSON string; other members are ignored
abbrev pub challenge_in : Members → Reading Challenge
challenge_in ms =
    Ok challenge
    ⊛ needed_member text (codes "code_challenge") (get_member (codes "code_challenge") ms)
    ⊛ needed_member text (codes "code_challenge_method") (get_member (codes "code_challenge_method") ms)

-- what a JSON value reads to as a code challenge; it has to be an object
abbrev pub challenge_reading : Data → Reading Challenge
challenge_reading d = read_then (members_of_object d) challenge_in

-- the two members that a code challenge is written as
abbrev pub challenge_rows : Challenge → List Row
challenge_rows c =
    (codes "code_challenge", Some (string c.text))
    ∷ (codes "code_challenge_method", Some (string c.method))
    ∷ []

-- the JSON object that a code challenge is written as; no challenge is refused
abbrev pub challenge_writing : Challenge → Writing
challenge_writing c = Ok (object (put_all (challenge_rows c) no_members))
