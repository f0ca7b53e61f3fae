-- The colors, the fields and the error codes read back as they were written.
use Rattle.std.proofs.Common.{◌≡◌, ℕ, ◌^◌, ◌<◌, nat_lt, List, true, Option, Some, None, IfSome, option_map, string_bytes, Ok, refl}
use Rattle.std.proofs.lemmas.Bool.{lt-ltb}
use Rattle.serde_json.specs.Data.{Data, string, object, depth}
use Rattle.oauth2_json.specs.Members.{beside}
use Rattle.oauth2_json.specs.Puts.{put_all}
use Rattle.oauth2_codes.specs.ErrorResponse.{IsReadBack}
use Rattle.oauth2_replies.specs.Kept.{IsTypeKept, AreFieldsKept}
use Rattle.oauth2_replies.specs.Token.{token, token_writing, token_names, token_rows}
use Rattle.oauth2_callers.specs.declared.own_types.colorful_error.ColorfulErrorResponseType.{ColorfulErrorResponseType}
use Rattle.oauth2_callers.specs.declared.own_types.colorful_error.ColorfulErrorResponseType.TheVariants.{TooDark, TooLight, WrongColorSpace}
use Rattle.oauth2_callers.specs.declared.own_types.colorful_fields.ColorfulFields.{ColorfulFields}
use Rattle.oauth2_callers.specs.declared.own_types.colorful_token_type.ColorfulTokenType.{ColorfulTokenType}
use Rattle.oauth2_callers.specs.declared.own_types.colorful_token_type.ColorfulTokenType.TheVariants.{Green, Red}
use Rattle.oauth2_callers.specs.own_types.Asked.{ColorfulToken}
use Rattle.oauth2_callers.specs.own_types.ColorErrors.{color_error_text, color_error_reading, color_error_writing}
use Rattle.oauth2_callers.specs.own_types.Colors.{color_text, color_reading, color_writing}
use Rattle.oauth2_callers.specs.own_types.Fields.{Fields, fields_members, fields_reading, fields_writing, fields_seen}

pub color_kept : (color : ColorfulTokenType) → IsTypeKept color_reading (λ c. c) color_writing color
color_kept Green = record { type_text = color_text Green; written = refl; lowered = refl; back = refl }
color_kept Red = record { type_text = color_text Red; written = refl; lowered = refl; back = refl }

pub error_kept : (error : ColorfulErrorResponseType) → IsReadBack color_error_reading (λ e. e) color_error_writing error
error_kept TooDark = (color_error_text TooDark, refl, refl)
error_kept TooLight = (color_error_text TooLight, refl, refl)
error_kept WrongColorSpace = (color_error_text WrongColorSpace, refl, refl)

fields_back : (shape : Option (List ℕ)) (height : ℕ) → nat_lt height (2 ^ 32) ≡ true → fields_reading (object (fields_members (shape, height))) ≡ Ok (shape, height)
fields_back None height in_range = rw in_range refl
fields_back (Some shape) height in_range = rw in_range refl

pub fields_kept : (fields : ColorfulFields) → fields.height < 2 ^ 32 → AreFieldsKept fields_reading fields_seen (λ f. fields_writing (fields_seen f)) fields
fields_kept fields in_range = record {
  members = fields_members (fields_seen fields);
  written = refl;
  back = fields_back (option_map string_bytes fields.shape) fields.height (lt-ltb fields.height (2 ^ 32) in_range);
}

pub color_kept_if : (color : Option ColorfulTokenType) → IfSome color (IsTypeKept color_reading (λ c. c) color_writing)
color_kept_if None = tt
color_kept_if (Some color) = color_kept color

-- ---- a token response is an object of texts and numbers alone

beside_fields : (shape : Option (List ℕ)) (height : ℕ) → beside token_names (object (fields_members (shape, height))) ≡ Ok (fields_members (shape, height))
beside_fields None height = refl
beside_fields (Some shape) height = refl

flat : (color a : List ℕ) (e : Option ℕ) (r : Option (List ℕ)) (s : Option (List (List ℕ))) (shape : Option (List ℕ)) (height : ℕ)
    → depth (object (put_all (token_rows {E = Fields} (string color) (token a color e r s (shape, height))) (fields_members (shape, height)))) ≡ 1
flat color a None None None None height = refl
flat color a None None None (Some shape) height = refl
flat color a None None (Some s) None height = refl
flat color a None None (Some s) (Some shape) height = refl
flat color a None (Some r) None None height = refl
flat color a None (Some r) None (Some shape) height = refl
flat color a None (Some r) (Some s) None height = refl
flat color a None (Some r) (Some s) (Some shape) height = refl
flat color a (Some e) None None None height = refl
flat color a (Some e) None None (Some shape) height = refl
flat color a (Some e) None (Some s) None height = refl
flat color a (Some e) None (Some s) (Some shape) height = refl
flat color a (Some e) (Some r) None None height = refl
flat color a (Some e) (Some r) None (Some shape) height = refl
flat color a (Some e) (Some r) (Some s) None height = refl
flat color a (Some e) (Some r) (Some s) (Some shape) height = refl

pub token_depth : (r : ColorfulToken) (d : Data) → token_writing (λ f. fields_writing (fields_seen f)) color_writing r ≡ Ok d → depth d ≡ 1
token_depth r d written =
    let f = fields_seen r.extra_fields in
    let is : object (put_all (token_rows (string (color_text r.token_type)) r) (fields_members f)) ≡ d = (let e = rw (beside_fields f.0 f.1) at written in cc) in
    rw (← is) (flat (color_text r.token_type) r.access_token r.expires_in r.refresh_token r.scopes f.0 f.1)
