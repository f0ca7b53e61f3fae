-- What the rows of metadata read: each group, and all of it.
use Rattle.std.proofs.Common.{◌≡◌, ℕ, List, Ok, Err, refl, codes}
use Rattle.serde_json.specs.Data.{Data, Members}
use Rattle.serde_json.specs.Find.{get_member}
use Rattle.oauth2_json.specs.Body.{body_reading}
use Rattle.oauth2_json.specs.Members.{members_of_object, needed_member}
use Rattle.oauth2_json.specs.Reading.{Reading, ErrsAs, ◌⊛◌}
use Rattle.oauth2_json.specs.Values.{text}
use Rattle.oauth2_json.specs.declared.read.ReadError.{ReadError}
use Rattle.oauth2_body_members.specs.Table.{Table, Builder, table_reading}
use Rattle.oauth2_body_members.specs.private.Meanings.{Meanings, uncurried}
use Rattle.oauth2_member_rows.specs.Rows.{joined}
use Rattle.oauth2_member_rows.specs.Objects.{reading_with, row_with}
use Rattle.oauth2_member_rows.proofs.Tables.{pairs_reading, each_read, built, made_of, made_errs, made_then, made_body}
use Rattle.oauth2_metadata.specs.Metadata.{EndpointMembers, SupportedMembers, AuthMethodMembers, SigningAlgorithmMembers, PageMembers, ServiceMembers}
use Rattle.oauth2_metadata.specs.Metadata.{endpoint_group, endpoint_table, endpoint_in, supported_in, auth_method_in, signing_algorithm_in, page_in, service_in}
use Rattle.oauth2_metadata.specs.Metadata.{Metadata, metadata, metadata_names, metadata_in, metadata_reading}
use Rattle.oauth2_metadata.specs.private.Kept.{AreAddresses}
use Rattle.oauth2_metadata.proofs.Addresses.{address_read}

-- ---- one group

module _ {R : Type 0} (X : Type 0) (t : Table R) (f : Builder t X) (ms : Members) where
  pub group_read : (m : Meanings t) → pairs_reading t ms ≡ Ok m → table_reading t (Ok f) ms ≡ Ok (uncurried {X = X} t f m)
  group_read m h = made_of (uncurried {X = X} t f) _ _ (built t f ms) m h

  pub group_errs : (e : ReadError) → ErrsAs e (pairs_reading t ms) → ErrsAs e (table_reading t (Ok f) ms)
  group_errs e h = made_errs (uncurried {X = X} t f) _ _ (built t f ms) e h

-- the endpoints that were read are addresses
pub endpoint_addresses : (ms : Members) (m : Meanings endpoint_table) → pairs_reading endpoint_table ms ≡ Ok m → AreAddresses (uncurried {X = EndpointMembers} endpoint_table endpoint_group m)
endpoint_addresses ms m h =
    let rows = each_read endpoint_table ms m h in (
      address_read _ _ m.0 rows.0,
      address_read _ _ m.1.0 rows.1.0,
      address_read _ _ m.1.1.0 rows.1.1.0,
      address_read _ _ m.1.1.1.0 rows.1.1.1.0,
      address_read _ _ m.1.1.1.1.0 rows.1.1.1.1.0,
    )

-- ---- the issuer, the groups and the extra fields

module _ {A B C D E F G H X : Type 0} (make : A → B → C → D → E → F → G → H → X) where
  abbrev of_eight : (A × (B × (C × (D × (E × (F × G)))))) × H → X
  of_eight v = make v.0.0 v.0.1.0 v.0.1.1.0 v.0.1.1.1.0 v.0.1.1.1.1.0 v.0.1.1.1.1.1.0 v.0.1.1.1.1.1.1 v.1

  eight : (a : Reading A) (b : Reading B) (c : Reading C) (d : Reading D) (e : Reading E) (f : Reading F) (g : Reading G) (h : Reading H)
      → Ok of_eight ⊛ (Ok joined ⊛ (Ok joined ⊛ a ⊛ (Ok joined ⊛ b ⊛ (Ok joined ⊛ c ⊛ (Ok joined ⊛ d ⊛ (Ok joined ⊛ e ⊛ (Ok joined ⊛ f ⊛ g)))))) ⊛ h)
      ≡ Ok make ⊛ a ⊛ b ⊛ c ⊛ d ⊛ e ⊛ f ⊛ g ⊛ h
  eight (Err x) b c d e f g h = refl
  eight (Ok a) (Err x) c d e f g h = refl
  eight (Ok a) (Ok b) (Err x) d e f g h = refl
  eight (Ok a) (Ok b) (Ok c) (Err x) e f g h = refl
  eight (Ok a) (Ok b) (Ok c) (Ok d) (Err x) f g h = refl
  eight (Ok a) (Ok b) (Ok c) (Ok d) (Ok e) (Err x) g h = refl
  eight (Ok a) (Ok b) (Ok c) (Ok d) (Ok e) (Ok f) (Err x) h = refl
  eight (Ok a) (Ok b) (Ok c) (Ok d) (Ok e) (Ok f) (Ok g) (Err x) = refl
  eight (Ok a) (Ok b) (Ok c) (Ok d) (Ok e) (Ok f) (Ok g) (Ok h) = refl

-- what the rows read to, as nested pairs
abbrev pub Values : Type 0
Values = List ℕ × (EndpointMembers × (SupportedMembers × (AuthMethodMembers × (SigningAlgorithmMembers × (PageMembers × ServiceMembers)))))

abbrev pub values_in : Members → Reading Values
values_in ms =
    Ok joined
    ⊛ needed_member text (codes "issuer") (get_member (codes "issuer") ms)
    ⊛ (Ok joined ⊛ endpoint_in ms ⊛ (Ok joined ⊛ supported_in ms ⊛ (Ok joined ⊛ auth_method_in ms ⊛ (Ok joined ⊛ signing_algorithm_in ms ⊛ (Ok joined ⊛ page_in ms ⊛ service_in ms)))))

module _ {F : Type 0} (extra : Data → Reading F) where
  abbrev pub metadata_of : Values × F → Metadata F
  metadata_of v = of_eight metadata v

  row_made : (ms : Members) → Ok metadata_of ⊛ row_with metadata_names values_in extra ms ≡ metadata_in extra ms
  row_made ms = eight metadata _ _ _ _ _ _ _ _

  made : (d : Data) → Ok metadata_of ⊛ reading_with metadata_names values_in extra d ≡ metadata_reading extra d
  made d = made_then metadata_of (row_with metadata_names values_in extra) (metadata_in extra) row_made (members_of_object d)

  body_made : (bytes : List ℕ) → Ok metadata_of ⊛ body_reading (reading_with metadata_names values_in extra) bytes ≡ body_reading (metadata_reading extra) bytes
  body_made bytes = made_body metadata_of (reading_with metadata_names values_in extra) (metadata_reading extra) made bytes

  -- what an object reads to, and its fault
  pub value_read : (d : Data) (v : Values × F) → reading_with metadata_names values_in extra d ≡ Ok v → metadata_reading extra d ≡ Ok (metadata_of v)
  value_read d v h = made_of metadata_of _ _ (made d) v h

  pub value_errs : (d : Data) (e : ReadError) → ErrsAs e (reading_with metadata_names values_in extra d) → ErrsAs e (metadata_reading extra d)
  value_errs d e h = made_errs metadata_of _ _ (made d) e h

  -- what a body reads to, and its fault
  pub body_read : (bytes : List ℕ) (v : Values × F) → body_reading (reading_with metadata_names values_in extra) bytes ≡ Ok v → body_reading (metadata_reading extra) bytes ≡ Ok (metadata_of v)
  body_read bytes v h = made_of metadata_of _ _ (body_made bytes) v h

  pub body_errs : (bytes : List ℕ) (e : ReadError) → ErrsAs e (body_reading (reading_with metadata_names values_in extra) bytes) → ErrsAs e (body_reading (metadata_reading extra) bytes)
  body_errs bytes e h = made_errs metadata_of _ _ (body_made bytes) e h
