-- A login that was written as JSON reads back.
use Rattle.std.proofs.Common.{◌≡◌, ℕ, List, Option, Some, None, option_map, codes, false, Ok, Err, refl, sym, subst}
use Rattle.serde_json.specs.Data.{boolean, object, string, no_members}
use Rattle.url.specs.Parser.{Parsed}
use Rattle.url.specs.Parts.{Parts}
use Rattle.oauth2_urls.specs.Addressed.{Addressed}
use Rattle.oauth2_json.specs.Members.{needed_member}
use Rattle.oauth2_json.specs.Reading.{Reading, whole, at_member}
use Rattle.oauth2_json.specs.declared.read.ParseCause.TheVariants as cause
use Rattle.oauth2_json.specs.Puts.{put_all}
use Rattle.oauth2_json.specs.Values.{url}
use Rattle.oauth2_member_rows.proofs.Tables.{object_read_back}
use Rattle.oauth2_redirect.specs.Redirect.{IssuerExpectation, required, compared, unknown, compared_if_known}
use Rattle.oauth2_redirect.specs.Login.{LoginView, IsReadFromText, is_required, issuer_reading, issuer_text, login_view_of, login_table, login_rows, login_reading}

abbrev text_and_url : List ℕ → List ℕ → Parsed Parts → Reading Addressed
text_and_url name s p = at_member name (elim p [ Ok u ↦ Ok (record { text = s; url = u }) | Err e ↦ Err (whole cause.BadUrl) ])

uri-back : (name : List ℕ) (uri : Addressed) → IsReadFromText uri → needed_member url name (Some (string uri.text)) ≡ Ok uri
uri-back name u h = subst (λ p. text_and_url name u.text p ≡ Ok u) (sym h) refl

issuer-back : (name other : List ℕ) (i : IssuerExpectation) → issuer_reading name other (option_map string (issuer_text i)) (Some (boolean (is_required i))) ≡ Ok i
issuer-back name other (required issuer) = refl
issuer-back name other (compared issuer) = refl
issuer-back name other unknown = refl

pub login_back : (l : LoginView) → IsReadFromText l.redirect_uri → login_reading (object (put_all (login_rows l) no_members)) ≡ Ok l
login_back l h =
    object_read_back login_table l (l.state, (l.verifier, (l.redirect_uri, (l.issuer, (l.client_id, (l.token_url, tt)))))) refl
    (refl, (refl, (uri-back (codes "redirect_uri") l.redirect_uri h, (issuer-back (codes "issuer") (codes "issuer_in_each_redirect") l.issuer, (refl, (refl, tt)))))) LoginView login_view_of

-- the text of an issuer that a redirect may leave out
pub known-text : (o : Option (List ℕ)) → issuer_text (compared_if_known o) ≡ o
known-text None = refl
known-text (Some issuer) = refl

pub known-not_required : (o : Option (List ℕ)) → is_required (compared_if_known o) ≡ false
known-not_required None = refl
known-not_required (Some issuer) = refl
