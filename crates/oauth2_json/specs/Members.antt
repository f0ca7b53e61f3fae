-- Reading and writing the members of a JSON object, each looked up by its name.
use Rattle.std.specs.Prelude.{ℕ, List, [], ◌∷◌, Bool, false, ◌||◌, if◌then◌else◌, Option, Some, None, is_some, Result, Ok, Err}
use Rattle.std.specs.Ordering.{nat_cmp, match_ordering}
use Rattle.std.specs.Cmp.Lexicographic.{slice_cmp}
use Rattle.serde_json.specs.Written.{members_have_float}
use Rattle.serde_json.specs.Data.{Data, null, boolean, number, string, array, object, Members, no_members, member, put}
use Rattle.serde_json.specs.Find.{get_member}
use Rattle.oauth2_json.specs.Reading.{Reading, whole, at_member, ◌⊛◌}
use Rattle.oauth2_json.specs.Writing.{Writing, WriteRefusal, name_clash, float as refused_float}
use Rattle.oauth2_json.specs.declared.read.ParseCause.TheVariants as cause

-- the members of a JSON object; any other value is `NotObject`
abbrev pub members_of_object : Data → Reading Members
members_of_object null = Err (whole cause.NotObject)
members_of_object (boolean b) = Err (whole cause.NotObject)
members_of_object (number n) = Err (whole cause.NotObject)
members_of_object (string s) = Err (whole cause.NotObject)
members_of_object (array ds) = Err (whole cause.NotObject)
members_of_object (object ms) = Ok ms

-- a required member: absent is `Missing`, null is `WrongType`
abbrev pub needed_member : {A : Type 0} → (Data → Reading A) → List ℕ → Option Data → Reading A
needed_member kind name None = Err (record { member = name; cause = cause.Missing })
needed_member kind name (Some null) = Err (record { member = name; cause = cause.WrongType })
needed_member kind name (Some d) = at_member name (kind d)

-- an optional member: absent and null read as `None`
abbrev pub optional_member : {A : Type 0} → (Data → Reading A) → List ℕ → Option Data → Reading (Option A)
optional_member kind name None = Ok None
optional_member kind name (Some null) = Ok None
optional_member kind name (Some d) = Ok Some ⊛ at_member name (kind d)

-- an optional member: absent reads as `None`, but null is read like any other value
abbrev pub present_member : {A : Type 0} → (Data → Reading A) → List ℕ → Option Data → Reading (Option A)
present_member kind name None = Ok None
present_member kind name (Some d) = Ok Some ⊛ at_member name (kind d)

-- a member with the default `a`: absent and null read as `a`
abbrev pub member_or : {A : Type 0} → (Data → Reading A) → List ℕ → A → Option Data → Reading A
member_or kind name a None = Ok a
member_or kind name a (Some null) = Ok a
member_or kind name a (Some d) = at_member name (kind d)

-- a required member that has one of two names, not both, where null counts as present;
-- a fault reports `name`, the first of the two
abbrev pub either_name : {A : Type 0} → (Data → Reading A) → List ℕ → Option Data → Option Data → Reading A
either_name kind name None o = needed_member kind name o
either_name kind name (Some d) None = needed_member kind name (Some d)
either_name kind name (Some d) (Some e) = Err (record { member = name; cause = cause.BothNames })

-- the members without the first one that has the name `k`
abbrev pub without : List ℕ → Members → Members
without k no_members = no_members
without k (member l e ms) =
    match_ordering (slice_cmp nat_cmp k l) (member l e (without k ms)) ms (member l e (without k ms))

-- the members without those of these names, removed one after another
abbrev pub others : List (List ℕ) → Members → Members
others [] ms = ms
others (k ∷ ks) ms = others ks (without k ms)

-- ---- writing

-- puts in a member that has a value; `None` changes nothing
abbrev pub put_some : List ℕ → Option Data → Members → Members
put_some k None ms = ms
put_some k (Some d) ms = put k d ms

-- the result of a writer, as that of an optional value that is present
abbrev pub some_written : Writing → Result (Option Data) WriteRefusal
some_written (Ok d) = Ok (Some d)
some_written (Err e) = Err e

-- what `w` writes for an optional value; `None` writes nothing and is not refused
abbrev pub optional_writing : {T : Type 0} → (T → Writing) → Option T → Result (Option Data) WriteRefusal
optional_writing w None = Ok None
optional_writing w (Some t) = some_written (w t)

-- whether a member has one of these names
abbrev pub clashes : List (List ℕ) → Members → Bool
clashes [] ms = false
clashes (k ∷ ks) ms = is_some (get_member k ms) || clashes ks ms

-- the extra members, which are written next to a type's own members: refused if the value is not
-- an object, if one has a name of `own`, or if one holds a float
abbrev pub beside : List (List ℕ) → Data → Result Members WriteRefusal
beside own null = Err name_clash
beside own (boolean b) = Err name_clash
beside own (number n) = Err name_clash
beside own (string s) = Err name_clash
beside own (array ds) = Err name_clash
beside own (object ms) =
    if clashes own ms then Err name_clash else (if members_have_float ms then Err refused_float else Ok ms)
