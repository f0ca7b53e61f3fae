-- An error response with one text, in place of the standard's error response.
use Rattle.std.specs.Prelude.{ℕ, List, Ok, codes, string_bytes}
use Rattle.serde_json.specs.Data.{Data, no_members, put, string, object}
use Rattle.serde_json.specs.Find.{get_member}
use Rattle.oauth2_json.specs.Reading.{Reading, read_then}
use Rattle.oauth2_json.specs.Writing.{Writing}
use Rattle.oauth2_json.specs.Members.{members_of_object, needed_member}
use Rattle.oauth2_json.specs.Values.{text}
use Rattle.oauth2_callers.specs.declared.own_types.custom_error.CustomErrorResponse.{CustomErrorResponse}

-- the error response's text, without its place in memory
abbrev pub custom_seen : CustomErrorResponse → List ℕ
custom_seen response = string_bytes response.custom_error

-- a JSON value read as this error response: an object whose member `custom_error` is a text
abbrev pub custom_reading : Data → Reading (List ℕ)
custom_reading d =
    read_then (members_of_object d)
    (λ ms. needed_member text (codes "custom_error") (get_member (codes "custom_error") ms))

-- this error response written as JSON: an object with the member `custom_error`
abbrev pub custom_writing : List ℕ → Writing
custom_writing error = Ok (object (put (codes "custom_error") (string error) no_members))
