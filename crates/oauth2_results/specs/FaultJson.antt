-- A fault as JSON.
use Rattle.std.specs.Prelude.{ℕ, List, [], ◌∷◌, codes}
use Rattle.oauth2_codes.specs.ErrorResponse.{ErrorParts}
use Rattle.oauth2_json.specs.Reading.{Fault as Unread}
use Rattle.oauth2_world.specs.Events.{Details, none, refused, unread, Fault}
use Rattle.oauth2_world.specs.Quotation.{quotation}
use Rattle.oauth2_results.specs.Json.{object_text, optional_text}
use Rattle.oauth2_results.specs.Words.{kind_word, cause_name}

-- the members of an error response (RFC 6749, 5.2)
abbrev pub members_json : ErrorParts (List ℕ) → List ℕ
members_json m =
    object_text ((codes "error", quotation m.error)
    ∷ (codes "error_description", optional_text m.description)
    ∷ (codes "error_uri", optional_text m.uri) ∷ [])

-- which member of a body could not be read, and why
abbrev pub parse_fault_json : Unread → List ℕ
parse_fault_json f =
    object_text
    ((codes "member", quotation f.member) ∷ (codes "cause", quotation (cause_name f.cause)) ∷ [])

-- the error response of the server, or `null`
abbrev pub error_json : Details → List ℕ
error_json none = codes "null"
error_json (refused members) = members_json members
error_json (unread fault) = codes "null"

-- what could not be read, or `null`
abbrev pub unread_json : Details → List ℕ
unread_json none = codes "null"
unread_json (refused members) = codes "null"
unread_json (unread fault) = parse_fault_json fault

-- a fault
abbrev pub fault_json : Fault → List ℕ
fault_json f =
    object_text ((codes "event", quotation (codes "fault"))
    ∷ (codes "kind", quotation (kind_word f.kind))
    ∷ (codes "text", quotation f.text)
    ∷ (codes "error", error_json f.details)
    ∷ (codes "unread", unread_json f.details) ∷ [])
