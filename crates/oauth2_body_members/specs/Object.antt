-- The members of an object, which are held in a map or in a list.
use Rattle.std.specs.Prelude.{◌≡◌, ℕ, List, [], ◌∷◌, map, Bool, true, false, ◌||◌, Option, option_map, Result, Ok, Err}
use Rattle.std.specs.Str.{bytes_eq}
use Rattle.serde_json.specs.Data.{Data, Members, no_members}
use Rattle.serde_json.specs.Find.{get_member}
use Rattle.serde_json.specs.View.{view, members_view}
use Rattle.oauth2_json.specs.Members.{put_some}
use Rattle.oauth2_json.specs.Reading.{Reading, ErrsAs}
use Rattle.oauth2_json.specs.declared.read.ReadError.{ReadError}
use Rattle.oauth2_body_members.specs.declared.member.Member.{Member}
use Rattle.oauth2_body_members.specs.declared.object.Object.{Object}
use Rattle.oauth2_body_members.specs.declared.object.BodySource.{BodySource}
use Rattle.oauth2_body_members.specs.declared.object.BodySource.TheVariants.{Map, List as Listed}

-- puts the members in one after another, so a later value of a name replaces an earlier one;
-- a member without a value, which was taken, changes nothing
abbrev pub put_each : List (List ℕ × Option Data) → Members → Members
put_each [] ms = ms
put_each (e ∷ es) ms = put_each es (put_some e.0 e.1 ms)

-- the name of a member, and its value, which is `None` once it is taken
abbrev pub entry_of : Member → List ℕ × Option Data
entry_of m = (m.name.now, option_map view m.value)

-- the members of a list; of several with the same name, the last one with a value counts
abbrev pub list_members : List Member → Members
list_members list = put_each (map entry_of list) no_members

-- the members that a map or a list holds
abbrev pub source_members : BodySource → Members
source_members (Map m) = members_view m.entries
source_members (Listed list) = list_members list.items

-- the members that an `Object` holds
unfoldable pub object_members : Object → Members
object_members o = source_members o.source

-- ---- keeping the members of some names, and on request the other members

-- whether `name` is one of these names
abbrev pub has_name : List ℕ → List (List ℕ) → Bool
has_name name [] = false
has_name name (k ∷ ks) = bytes_eq k name || has_name name ks

-- under each of these names, the kept members have the value that all members have; if the other
-- members are kept too, nothing is missing; if not, no other name is specified
pub record Keeps (names : List (List ℕ)) (with_others : Bool) (all kept : Members) : Type 0 where
  pub own : (name : List ℕ) → has_name name names ≡ true → get_member name kept ≡ get_member name all
  pub rest : with_others ≡ true → kept ≡ all

-- what a function returned, mapped by `meaning`, keeps these members of those that were read;
-- an error is that of the reading, unless memory ran out
abbrev pub KeptAs : {T : Type 0} → (T → Members) → List (List ℕ) → Bool → Result T ReadError → Reading Members → Type 0
KeptAs meaning names with_others (Ok t) expected = (all : Members) × (expected ≡ Ok all) × Keeps names with_others all (meaning t)
KeptAs meaning names with_others (Err e) expected = ErrsAs e expected
