-- Requests that need an assertion, and requests that have one.
use Rattle.std.specs.Prelude.{◌≡◌, ℕ, Bool, false, ◌&&◌, ◌||◌, List, ◌++◌, bytes_eq, codes, Option, Some, None, is_some}
use Rattle.std.specs.List.{list_any}
use Rattle.form_urlencoded.specs.Form.{extend_pairs}
use Rattle.http_header.specs.FieldValue.{FieldValue}
use Rattle.http_header.specs.HeaderMap.{get}
use Rattle.oauth2_form.specs.Pairs.{Pair, form}
use Rattle.oauth2_wire.specs.Request.{RequestView, authorization_of}

-- the Content-Type is that of a form, as each request of a client has it (RFC 6749, 3.2)
abbrev pub is_form : Option FieldValue → Bool
is_form None = false
is_form (Some value) = bytes_eq value.bytes (codes "application/x-www-form-urlencoded")

-- the request is a POST whose first Content-Type is that of a form
abbrev pub is_form_post : RequestView → Bool
is_form_post v = bytes_eq v.method (codes "POST") && is_form (get v.headers (codes "content-type"))

-- the parameter authenticates a client (RFC 6749, 2.3.1; RFC 7521, 4.2)
abbrev pub is_credential_name : List ℕ → Bool
is_credential_name name =
    bytes_eq name (codes "client_secret")
    || bytes_eq name (codes "client_assertion")
    || bytes_eq name (codes "client_assertion_type")

-- at least one parameter does
abbrev pub has_credential : List Pair → Bool
has_credential pairs = list_any (λ pair. is_credential_name pair.0) pairs

-- the request authenticates the client already, by its header or in its form (RFC 6749, 2.3)
abbrev pub authenticates : RequestView → Bool
authenticates v = is_some (authorization_of v) || has_credential (form v.body)

-- the second request is the first with these pairs behind its form: a server that does nothing but
-- decode the form reads those of the first and then these; all else is equal
pub record IsExtended (pairs : List Pair) (old new : RequestView) : Type 0 where
  pub text : new ≡ record old { body = extend_pairs old.body pairs }
  pub form : form new.body ≡ form old.body ++ pairs
