-- The bytes of a request for a configuration carry it.
use Rattle.std.proofs.Common.{◌≡◌, ℕ, List, [], ◌∷◌, ◌++◌, length, map, Option, Some, None, false, sym, refl, ap, ◌∙◌}
use Rattle.std.specs.Prelude.{codes, option_to_list, option_and_then}
use Rattle.http_header.specs.FieldValue.{FieldValue}
use Rattle.http_header.specs.HeaderMap.{Entries, get}
use Rattle.http1.specs.Text.{eq_ignore_case}
use Rattle.http1.specs.Fields.{Header, known_fields, values_named}
use Rattle.http.specs.Request.{head_of, body_of}
use Rattle.oauth2_form.specs.Pairs.{Pair}
use Rattle.oauth2_form.specs.Basic.{basic}
use Rattle.oauth2_wire.specs.Expected.{Configuration, expected_basic, headers_before, authorization_header}
use Rattle.oauth2_wire.specs.Request.{HttpRequest, IsRequestOf, view_of}
use Rattle.oauth2_http1.specs.Origin.{Place, host_text, origin_form}
use Rattle.http1.specs.Conn.{length_header, states_framing}
use Rattle.oauth2_http1.specs.Message.{IsWire, seen_request, length_fields, with_length, sent_fields}
use Rattle.oauth2_http1.specs.Law.{AreReadAs}

abbrev all_fields : Place → Option Pair → List ℕ → List Header
all_fields place credentials body =
    sent_fields place (headers_before (authorization_header credentials)) ++ length_header (length body) ∷ []

posted : (body : List ℕ) → length_fields (codes "POST") body ≡ length_header (length body) ∷ []
posted [] = refl
posted (b ∷ bs) = refl

hosts : (place : Place) (credentials : Option Pair) (body : List ℕ) → values_named (codes "host") (all_fields place credentials body) ≡ host_text place ∷ []
unfolding eq_ignore_case
hosts place None body = refl
hosts place (Some pair) body = refl

connections : (place : Place) (credentials : Option Pair) (body : List ℕ) → values_named (codes "connection") (all_fields place credentials body) ≡ codes "close" ∷ []
unfolding eq_ignore_case
connections place None body = refl
connections place (Some pair) body = refl

content_types : (place : Place) (credentials : Option Pair) (body : List ℕ) → values_named (codes "content-type") (all_fields place credentials body) ≡ codes "application/x-www-form-urlencoded" ∷ []
unfolding eq_ignore_case
content_types place None body = refl
content_types place (Some pair) body = refl

accepts : (place : Place) (credentials : Option Pair) (body : List ℕ) → values_named (codes "accept") (all_fields place credentials body) ≡ codes "application/json" ∷ []
unfolding eq_ignore_case
accepts place None body = refl
accepts place (Some pair) body = refl

encodings : (place : Place) (credentials : Option Pair) (body : List ℕ) → values_named (codes "accept-encoding") (all_fields place credentials body) ≡ codes "identity" ∷ []
unfolding eq_ignore_case
encodings place None body = refl
encodings place (Some pair) body = refl

-- such a request leaves its framing to the client
pub unframed : (place : Place) (credentials : Option Pair) → states_framing (known_fields (sent_fields place (headers_before (authorization_header credentials)))) ≡ false
unfolding known_fields eq_ignore_case
unframed place None = refl
unframed place (Some pair) = refl

read_basic : Entries FieldValue → Option Pair
read_basic headers = option_and_then (λ value. basic value.bytes) (get headers (codes "authorization"))

authorizations : (place : Place) (credentials : Option Pair) (body : List ℕ) → option_and_then (λ value. basic value.bytes) (get (headers_before (authorization_header credentials)) (codes "authorization")) ≡ credentials
    → map basic (values_named (codes "authorization") (all_fields place credentials body)) ≡ map Some (option_to_list credentials)
unfolding eq_ignore_case
authorizations place None body read = refl
authorizations place (Some pair) body read = ap (λ x. x ∷ []) read

pub carried : (c : Configuration) (text : List ℕ) (r : HttpRequest) (place : Place) (bytes : List ℕ) → IsRequestOf c text (view_of r) → IsWire place r bytes → AreReadAs c place r bytes
carried c text r place bytes is wire = λ limits rest takes.
    let body = (body_of r).items in
    let headers : with_length (head_of r).method (sent_fields place (head_of r).headers) body ≡ all_fields place (expected_basic c) body =
    (λ i. sent_fields place (is.headers i) ++ (ap (λ m. length_fields m body) is.method ∙ posted body) i) in
    let given = expected_basic c in (
      seen_request (head_of r).method (origin_form (head_of r).uri) (sent_fields place (head_of r).headers) (body_of r).items,
      wire.read limits rest takes,
      record {
        method = is.method;
        target = refl;
        host = ap (values_named (codes "host")) headers ∙ hosts place given (body_of r).items;
        connection = ap (values_named (codes "connection")) headers ∙ connections place given (body_of r).items;
        content_type = ap (values_named (codes "content-type")) headers ∙ content_types place given (body_of r).items;
        accept = ap (values_named (codes "accept")) headers ∙ accepts place given (body_of r).items;
        accept_encoding = ap (values_named (codes "accept-encoding")) headers ∙ encodings place given (body_of r).items;
        authorization = ap (λ h. map basic (values_named (codes "authorization") h)) headers
            ∙ authorizations place given (body_of r).items (sym (ap (λ h. option_and_then (λ value. basic value.bytes) (get h (codes "authorization"))) is.headers) ∙ is.basic);
        form = is.form;
        by_name = is.by_name;
        trailers = refl;
      },
    )
