-- A request whose form has more pairs.
use Rattle.std.proofs.Common.{◌≡◌, ℕ, List, [], ◌∷◌, Vec, ap, ◌∙◌, subst}
use Rattle.std.specs.Prelude.{codes}
use Rattle.std.specs.declared.alloc.Global.{Global}
use Rattle.http.specs.declared.request.Parts.{Parts}
use Rattle.http.specs.Request.{head_of, body_of}
use Rattle.oauth2_form.specs.ExtendsForm.{ExtendsForm}
use Rattle.oauth2_form.specs.Pairs.{Pair, form}
use Rattle.oauth2_form.proofs.FormLaws.{parse-extend_pairs}
use Rattle.oauth2_form.proofs.QueryLaws.{ExtendsForm-then}
use Rattle.oauth2_wire.specs.Request.{HttpRequest, RequestView, view_of}
use Rattle.oauth2_client_assertions.specs.declared.assertion_type.AssertionType.{AssertionType}
use Rattle.oauth2_client_assertions.specs.Assertions.{assertion_pairs, assertion_type_text}
use Rattle.oauth2_client_assertions.specs.Requests.{IsExtended}

-- two pairs were appended, one after the other
extended_by_both : (old new : RequestView) (between body : List ℕ) (first second : Pair)
    → ExtendsForm old.body between (first ∷ []) → ExtendsForm between body (second ∷ [])
    → new ≡ record old { body = body } → IsExtended (first ∷ second ∷ []) old new
extended_by_both old new between body first second one two is =
    let both : ExtendsForm old.body body (first ∷ second ∷ []) = ExtendsForm-then one two in
    record {
      text = is ∙ ap (λ (x : List ℕ). record old { body = x }) both.text;
      form = ap (λ (v : RequestView). form v.body) is ∙ ap form both.text ∙ parse-extend_pairs old.body (first ∷ second ∷ []) both.bytes;
    }

-- the values of a request with this head and this body
abbrev seen : Parts → List ℕ → RequestView
seen head body = record { method = head.method; target = head.uri; version = head.version; headers = head.headers; body = body }

pub with_both : (request sent : HttpRequest) (kind : AssertionType) (assertion text : List ℕ) (head : Parts) (start between body : Vec ℕ Global)
    → head ≡ head_of request → start ≡ body_of request → text ≡ assertion_type_text kind
    → ExtendsForm start.items between.items ((codes "client_assertion_type", text) ∷ [])
    → ExtendsForm between.items body.items ((codes "client_assertion", assertion) ∷ [])
    → head_of sent ≡ head → body_of sent ≡ body
    → IsExtended (assertion_pairs kind assertion) (view_of request) (view_of sent)
with_both request sent kind assertion text head start between body head_is start_is text_is one two sent_head sent_body =
    let first : ExtendsForm (body_of request).items between.items ((codes "client_assertion_type", text) ∷ []) =
    subst (λ (v : Vec ℕ Global). ExtendsForm v.items between.items ((codes "client_assertion_type", text) ∷ [])) start_is one in
    let named : ExtendsForm (body_of request).items between.items ((codes "client_assertion_type", assertion_type_text kind) ∷ []) =
    subst (λ (t : List ℕ). ExtendsForm (body_of request).items between.items ((codes "client_assertion_type", t) ∷ [])) text_is first in
    extended_by_both (view_of request) (view_of sent) between.items body.items (codes "client_assertion_type", assertion_type_text kind) (codes "client_assertion", assertion) named two
    (ap (λ (h : Parts). seen h (body_of sent).items) (sent_head ∙ head_is) ∙ ap (λ (v : Vec ℕ Global). seen (head_of request) v.items) sent_body)
