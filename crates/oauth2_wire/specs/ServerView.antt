-- What `server_view` returns for a request.
use Rattle.std.specs.Prelude.{◌≡◌, map, None, Some, option_map, string_bytes, String}
use Rattle.std.specs.Str.Lossy.{utf8_lossy}
use Rattle.http_header.specs.FieldValue.{FieldValue}
use Rattle.http_uri.specs.Uri.{uri_text}
use Rattle.oauth2_wire.specs.declared.view.ServerView.{ServerView}
use Rattle.oauth2_form.specs.Pairs.{Pair, form}
use Rattle.oauth2_form.specs.Basic.{basic}
use Rattle.oauth2_wire.specs.Request.{RequestView, authorization_of, basic_of}

-- the texts of a pair
abbrev pub pair_texts : {Y Z : Type 0} → String Y × String Z → Pair
pair_texts p = (string_bytes p.0, string_bytes p.1)

-- a pair of byte strings as texts, with U+FFFD in place of what is not UTF-8
abbrev pub shown_pair : Pair → Pair
shown_pair p = (utf8_lossy p.0, utf8_lossy p.1)

-- there is an Authorization value, but it holds no identifier and secret
abbrev pub IsBadBasic : RequestView → Type 0
IsBadBasic r = (value : FieldValue) × (authorization_of r ≡ Some value) × (basic value.bytes ≡ None)

-- the view holds what a server reads from the request by decoding it
pub record IsServerView (r : RequestView) (v : ServerView) : Type 0 where
  pub method : string_bytes v.method ≡ r.method
  pub target : string_bytes v.target ≡ uri_text r.target
  pub basic : option_map pair_texts v.basic ≡ option_map shown_pair (basic_of r)
  pub readable : ¬ (IsBadBasic r)
  pub form : map pair_texts v.form.items ≡ map shown_pair (form r.body)
