-- What a server reads from the bytes of a configured request.
use Rattle.std.specs.Prelude.{◌≡◌, ℕ, List, [], ◌∷◌, ◌++◌, map, codes, option_to_list, Some}
use Rattle.http_uri.specs.declared.uri.Uri.{Uri}
use Rattle.http.specs.Request.{head_of, body_of}
use Rattle.http1.specs.declared.conn.Limits.{Limits}
use Rattle.http1.specs.Fields.{values_named}
use Rattle.http1.specs.ServerTrace.{SeenRequest}
use Rattle.oauth2_wire.specs.Request.{HttpRequest}
use Rattle.oauth2_form.specs.Pairs.{form}
use Rattle.oauth2_form.specs.Basic.{basic}
use Rattle.oauth2_wire.specs.ByName.{ReadsByName}
use Rattle.oauth2_wire.specs.Expected.{Configuration, expected_basic, expected_pairs}
use Rattle.oauth2_http1.specs.Origin.{Place, host_text, origin_form}
use Rattle.oauth2_http1.specs.Message.{ReadsOnly, Takes, head_text, sent_fields}

-- the values of all fields with this name, in upper or lower case
abbrev pub values : SeenRequest → List ℕ → List (List ℕ)
values seen name = values_named name seen.headers

-- the request that a server reads is the configured one
pub record Carries (c : Configuration) (place : Place) (uri : Uri) (seen : SeenRequest) : Type 0 where
  pub method : seen.method ≡ codes "POST"
  pub target : seen.target ≡ origin_form uri
  pub host : values seen (codes "host") ≡ host_text place ∷ []
  pub connection : values seen (codes "connection") ≡ codes "close" ∷ []
  pub content_type : values seen (codes "content-type") ≡ codes "application/x-www-form-urlencoded" ∷ []
  pub accept : values seen (codes "accept") ≡ codes "application/json" ∷ []
  pub accept_encoding : values seen (codes "accept-encoding") ≡ codes "identity" ∷ []
  -- each Authorization value, as a server decodes it: the configured credentials, or no value
  pub authorization : map basic (values seen (codes "authorization")) ≡ map Some (option_to_list (expected_basic c))
  pub by_name : ReadsByName c (form seen.body.bytes)
  pub form : form seen.body.bytes ≡ expected_pairs c
  pub trailers : seen.body.trailers ≡ []

-- the bytes of the head of a request to a place
abbrev pub wire_head : Place → HttpRequest → List ℕ
wire_head place r =
    head_text (head_of r).method (origin_form (head_of r).uri)
    (sent_fields place (head_of r).headers) (body_of r).items

-- every server that takes the head reads the bytes, whatever follows them, as one request and in
-- only one way; that request is the configured one
abbrev pub AreReadAs : Configuration → Place → HttpRequest → List ℕ → Type 0
AreReadAs c place r bytes =
    (limits : Limits) (rest : List ℕ) → Takes limits (wire_head place r)
    → (seen : SeenRequest) × ReadsOnly limits (bytes ++ rest) seen rest × Carries c place (head_of r).uri seen
