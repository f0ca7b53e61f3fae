-- The bytes of a request for a configuration carry it, on a connection that is used again.
use Rattle.std.proofs.Common.{◌≡◌, ℕ, List, [], ◌∷◌, ◌++◌, length, map, Option, Some, None, false, sym, refl, ap, ◌∙◌}
use Rattle.std.specs.Prelude.{codes, option_to_list, option_and_then}
use Rattle.http_header.specs.HeaderMap.{get}
use Rattle.http1.specs.Text.{eq_ignore_case}
use Rattle.http1.specs.Fields.{Header, known_fields, values_named}
use Rattle.http1.specs.Conn.{length_header, states_framing}
use Rattle.http.specs.Request.{head_of, body_of}
use Rattle.oauth2_form.specs.Pairs.{Pair}
use Rattle.oauth2_form.specs.Basic.{basic}
use Rattle.oauth2_wire.specs.Expected.{Configuration, expected_basic, headers_before, authorization_header}
use Rattle.oauth2_wire.specs.Request.{HttpRequest, IsRequestOf, view_of}
use Rattle.oauth2_http1.specs.Origin.{Place, host_text}
use Rattle.oauth2_http1.specs.Message.{IsKeptWire, length_fields, with_length, kept_fields}
use Rattle.oauth2_http1_connections.specs.KeptFromBytes.{AreReadAs}

abbrev all_fields : Option (List ℕ) → Place → Option Pair → List ℕ → List Header
all_fields agent place credentials body =
    kept_fields agent place (headers_before (authorization_header credentials)) ++ length_header (length body) ∷ []

posted : (body : List ℕ) → length_fields (codes "POST") body ≡ length_header (length body) ∷ []
posted [] = refl
posted (b ∷ bs) = refl

hosts : (agent : Option (List ℕ)) (place : Place) (credentials : Option Pair) (body : List ℕ) → values_named (codes "host") (all_fields agent place credentials body) ≡ host_text place ∷ []
unfolding eq_ignore_case
hosts None place None body = refl
hosts None place (Some pair) body = refl
hosts (Some value) place None body = refl
hosts (Some value) place (Some pair) body = refl

connections : (agent : Option (List ℕ)) (place : Place) (credentials : Option Pair) (body : List ℕ) → values_named (codes "connection") (all_fields agent place credentials body) ≡ []
unfolding eq_ignore_case
connections None place None body = refl
connections None place (Some pair) body = refl
connections (Some value) place None body = refl
connections (Some value) place (Some pair) body = refl

content_types : (agent : Option (List ℕ)) (place : Place) (credentials : Option Pair) (body : List ℕ) → values_named (codes "content-type") (all_fields agent place credentials body) ≡ codes "application/x-www-form-urlencoded" ∷ []
unfolding eq_ignore_case
content_types None place None body = refl
content_types None place (Some pair) body = refl
content_types (Some value) place None body = refl
content_types (Some value) place (Some pair) body = refl

accepts : (agent : Option (List ℕ)) (place : Place) (credentials : Option Pair) (body : List ℕ) → values_named (codes "accept") (all_fields agent place credentials body) ≡ codes "application/json" ∷ []
unfolding eq_ignore_case
accepts None place None body = refl
accepts None place (Some pair) body = refl
accepts (Some value) place None body = refl
accepts (Some value) place (Some pair) body = refl

encodings : (agent : Option (List ℕ)) (place : Place) (credentials : Option Pair) (body : List ℕ) → values_named (codes "accept-encoding") (all_fields agent place credentials body) ≡ codes "identity" ∷ []
unfolding eq_ignore_case
encodings None place None body = refl
encodings None place (Some pair) body = refl
encodings (Some value) place None body = refl
encodings (Some value) place (Some pair) body = refl

agents : (agent : Option (List ℕ)) (place : Place) (credentials : Option Pair) (body : List ℕ) → values_named (codes "user-agent") (all_fields agent place credentials body) ≡ option_to_list agent
unfolding eq_ignore_case
agents None place None body = refl
agents None place (Some pair) body = refl
agents (Some value) place None body = refl
agents (Some value) place (Some pair) body = refl

-- such a request leaves its framing to the client
pub unframed : (agent : Option (List ℕ)) (place : Place) (credentials : Option Pair) → states_framing (known_fields (kept_fields agent place (headers_before (authorization_header credentials)))) ≡ false
unfolding known_fields eq_ignore_case
unframed None place None = refl
unframed None place (Some pair) = refl
unframed (Some value) place None = refl
unframed (Some value) place (Some pair) = refl

authorizations : (agent : Option (List ℕ)) (place : Place) (credentials : Option Pair) (body : List ℕ) → option_and_then (λ value. basic value.bytes) (get (headers_before (authorization_header credentials)) (codes "authorization")) ≡ credentials
    → map basic (values_named (codes "authorization") (all_fields agent place credentials body)) ≡ map Some (option_to_list credentials)
unfolding eq_ignore_case
authorizations None place None body read = refl
authorizations None place (Some pair) body read = ap (λ x. x ∷ []) read
authorizations (Some value) place None body read = refl
authorizations (Some value) place (Some pair) body read = ap (λ x. x ∷ []) read

pub carried : (c : Configuration) (text : List ℕ) (agent : Option (List ℕ)) (r : HttpRequest) (place : Place) (bytes : List ℕ) → IsRequestOf c text (view_of r) → IsKeptWire agent place r bytes → AreReadAs c agent place r bytes
carried c text agent r place bytes is wire =
    let body = (body_of r).items in
    let headers : with_length (head_of r).method (kept_fields agent place (head_of r).headers) body ≡ all_fields agent place (expected_basic c) body =
    (λ i. kept_fields agent place (is.headers i) ++ (ap (λ m. length_fields m body) is.method ∙ posted body) i) in
    let given = expected_basic c in (
      wire.read,
      record {
        method = is.method;
        target = refl;
        host = ap (values_named (codes "host")) headers ∙ hosts agent place given body;
        connection = ap (values_named (codes "connection")) headers ∙ connections agent place given body;
        content_type = ap (values_named (codes "content-type")) headers ∙ content_types agent place given body;
        accept = ap (values_named (codes "accept")) headers ∙ accepts agent place given body;
        accept_encoding = ap (values_named (codes "accept-encoding")) headers ∙ encodings agent place given body;
        user_agent = ap (values_named (codes "user-agent")) headers ∙ agents agent place given body;
        authorization = ap (λ h. map basic (values_named (codes "authorization") h)) headers
            ∙ authorizations agent place given body (sym (ap (λ h. option_and_then (λ value. basic value.bytes) (get h (codes "authorization"))) is.headers) ∙ is.basic);
        form = is.form;
        by_name = is.by_name;
        trailers = refl;
      },
    )
