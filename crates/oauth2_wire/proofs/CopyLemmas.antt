-- A copy of a request is the request of each configuration that the other is.
use Rattle.std.proofs.Common.{◌≡◌, ◌∙◌, ℕ, List, [], ◌∷◌, refl, ap, codes, Option}
use Rattle.std.specs.Prelude.{option_and_then}
use Rattle.std.specs.List.{AllZip}
use Rattle.http_header.specs.FieldValue.{FieldValue}
use Rattle.http_header.specs.HeaderMap.{Entries, IsMapClone, get}
use Rattle.http_uri.specs.Grammar.{IsUriText}
use Rattle.oauth2_form.specs.Pairs.{form}
use Rattle.oauth2_form.specs.Basic.{basic}
use Rattle.oauth2_wire.specs.Expected.{Configuration}
use Rattle.oauth2_wire.specs.Request.{RequestView, IsCopyOf, IsRequestOf}

copied_values : {X : Type 0} (values copy : List X) → AllZip (λ x y. y ≡ x) values copy → copy ≡ values
copied_values [] [] h = refl
copied_values [] (y ∷ ys) h = absurd h
copied_values (x ∷ xs) [] h = absurd h
copied_values (x ∷ xs) (y ∷ ys) h = λ i. h.0 i ∷ copied_values xs ys h.1 i

pub copied_headers : {X : Type 0} (headers copy : Entries X) → IsMapClone (λ x y. y ≡ x) headers copy → copy ≡ headers
copied_headers [] [] h = refl
copied_headers [] (f ∷ fs) h = absurd h
copied_headers (e ∷ es) [] h = absurd h
copied_headers (e ∷ es) (f ∷ fs) h = λ i. (h.0.0 i, copied_values e.1 f.1 h.0.1 i) ∷ copied_headers es fs h.1 i

copied_target : (text : List ℕ) (s scheme a authority : Option (List ℕ)) (k kept : List ℕ) → s ≡ scheme → a ≡ authority → k ≡ kept → IsUriText text scheme authority kept → IsUriText text s a k
copied_target text s scheme a authority k kept e f g is = rw (e, f, g) is

pub IsRequestOf-copy : (c : Configuration) (text : List ℕ) (seen copy : RequestView) → IsCopyOf seen copy → IsRequestOf c text seen → IsRequestOf c text copy
IsRequestOf-copy c text seen copy (method, target, version, headers, body) is = record {
  method = method ∙ is.method;
  target = copied_target text _ _ _ _ _ _ target.0 target.1 target.2 is.target;
  version = version ∙ is.version;
  headers = headers ∙ is.headers;
  body = body ∙ is.body;
  by_name = rw body is.by_name;
  form = ap form body ∙ is.form;
  basic = ap (λ (fields : Entries FieldValue). option_and_then (λ value. basic value.bytes) (get fields (codes "authorization"))) headers ∙ is.basic;
}
