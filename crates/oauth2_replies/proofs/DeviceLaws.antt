-- A device authorization response reads back.
use Rattle.std.proofs.Common.{◌≡◌, ℕ, List, Bool, true, false, Option, Some, None, Ok, Err, refl, sym, subst}
use Rattle.std.specs.Str.{is_utf8}
use Rattle.serde_json.specs.Data.{Data, Members, null, boolean, number, string, array, object}
use Rattle.serde_json.specs.Read.{read}
use Rattle.url.specs.Parser.{Parsed, parse_url}
use Rattle.url.specs.Parts.{Parts}
use Rattle.oauth2_urls.specs.Addressed.{Addressed}
use Rattle.oauth2_json.specs.Body.{body_reading, value_reading}
use Rattle.oauth2_json.specs.Reading.{Reading, read_then, whole, at_member}
use Rattle.oauth2_json.specs.declared.read.ParseCause.TheVariants as cause
use Rattle.oauth2_json.specs.Writing.{Writing}
use Rattle.oauth2_json.specs.Members.{members_of_object, needed_member, either_name}
use Rattle.oauth2_json.specs.Values.{url}
use Rattle.oauth2_json.proofs.Objects.{optional-text}
use Rattle.oauth2_body_members.specs.private.Meanings.{Meanings}
use Rattle.oauth2_member_rows.specs.Objects.{reading_with, row_with}
use Rattle.oauth2_member_rows.proofs.Pairs.{both_parts}
use Rattle.oauth2_member_rows.proofs.Tables.{pairs_reading, each_read, with_read_back}
use Rattle.oauth2_replies.specs.Kept.{AreFieldsKept}
use Rattle.oauth2_replies.specs.Device.{DeviceAuthorization, device_authorization, device_seen, device_table, device_names, address_reading, device_reading, device_writing}
use Rattle.oauth2_replies.specs.private.Address.{IsAddress}

-- ---- the URL

abbrev text_and_url : List ℕ → List ℕ → Parsed Parts → Reading Addressed
text_and_url name s p = at_member name (elim p [ Ok u ↦ Ok (record { text = s; url = u }) | Err e ↦ Err (whole cause.BadUrl) ])

address_at : (p : Parsed Parts) (name s : List ℕ) (a : Addressed) → parse_url None s ≡ p → text_and_url name s p ≡ Ok a → IsAddress a
unfolding IsAddress
address_at (Ok u) name s a is h =
    let t : a.text ≡ s = cc in
    let v : a.url ≡ u = cc in
    rw (t, v) is
address_at (Err e) name s a is h = cc

address_needed : (name : List ℕ) (o : Option Data) (a : Addressed) → needed_member url name o ≡ Ok a → IsAddress a
address_needed name None a h = cc
address_needed name (Some null) a h = cc
address_needed name (Some (boolean b)) a h = cc
address_needed name (Some (number n)) a h = cc
address_needed name (Some (string s)) a h = address_at (parse_url None s) name s a refl h
address_needed name (Some (array ds)) a h = cc
address_needed name (Some (object ms)) a h = cc

-- a URL that was read is that of its text
address_read : (name : List ℕ) (v o : Option Data) (a : Addressed) → either_name url name v o ≡ Ok a → IsAddress a
address_read name None o a h = address_needed name o a h
address_read name (Some d) None a h = address_needed name (Some d) a h
address_read name (Some d) (Some e) a h = cc

of_pair : (name : List ℕ) (v o : Option Data) (a : Addressed) → address_reading name v o ≡ Ok a → IsAddress a
unfolding address_reading
of_pair name v o a h = address_read name v o a h

-- and it is read again from the text
address_back : (name : List ℕ) (a : Addressed) → IsAddress a → address_reading name (Some (string a.text)) None ≡ Ok a
unfolding IsAddress address_reading
address_back name a h = subst (λ p. text_and_url name a.text p ≡ Ok a) (sym h) refl

-- ---- the whole response

module _ {E : Type 0} (er : Data → Reading E) where
  abbrev read_with : Data → Reading (Meanings device_table × E)
  read_with d = reading_with device_names (pairs_reading device_table) er d

  of_members : (ms : Members) (v : Meanings device_table × E) → row_with device_names (pairs_reading device_table) er ms ≡ Ok v → IsAddress v.0.1.1.0
  of_members ms v h =
      let own = both_parts _ _ v.0 v.1 h in
      of_pair _ _ _ v.0.1.1.0 (each_read device_table ms v.0 own.0).1.1.0

  of_object : (r : Reading Members) (v : Meanings device_table × E) → read_then r (row_with device_names (pairs_reading device_table) er) ≡ Ok v → IsAddress v.0.1.1.0
  of_object (Err e) v h = cc h
  of_object (Ok ms) v h = of_members ms v h

  -- a URL that was read is that of its text
  pub address_of : (d : Data) (v : Meanings device_table × E) → read_with d ≡ Ok v → IsAddress v.0.1.1.0
  address_of d v h = of_object (members_of_object d) v h

  of_value : (o : Option Data) (v : Meanings device_table × E) → value_reading read_with o ≡ Ok v → IsAddress v.0.1.1.0
  of_value None v h = cc h
  of_value (Some d) v h = address_of d v h

  of_text : (bytes : List ℕ) (b : Bool) (v : Meanings device_table × E) → is_utf8 bytes ≡ b → body_reading read_with bytes ≡ Ok v → IsAddress v.0.1.1.0
  of_text bytes true v is h = of_value (read bytes) v (rw is at h)
  of_text bytes false v is h = cc (rw is at h)

  pub address_of_body : (bytes : List ℕ) (v : Meanings device_table × E) → body_reading read_with bytes ≡ Ok v → IsAddress v.0.1.1.0
  address_of_body bytes v h = of_text bytes (is_utf8 bytes) v refl h

pub device_back : {E F : Type 0} (er : Data → Reading F) (em : E → F) (ew : E → Writing) (r : DeviceAuthorization E) → IsAddress r.verification_uri → (d : Data)
    → device_writing ew r ≡ Ok d → AreFieldsKept er em ew r.extra_fields → device_reading er d ≡ Ok (device_seen em r)
device_back {F = F} er em ew r address d h x =
    with_read_back device_table (device_seen (λ _. tt) r) (r.device_code, (r.user_code, (r.verification_uri, (r.verification_uri_complete, (r.expires_in, (r.interval, tt)))))) refl
    (refl, (refl, (address_back _ r.verification_uri address, (optional-text _ r.verification_uri_complete, (refl, (refl, tt))))))
    refl (ew r.extra_fields) x.members d x.written h (DeviceAuthorization F) device_authorization er (em r.extra_fields) x.back
