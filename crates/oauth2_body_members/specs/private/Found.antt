-- The members that were found in a body, before their texts are copied.
use Rattle.std.specs.Prelude.{ℕ, List, map, Option, Some, None}
use Rattle.serde_json.specs.Data.{Data, Members, string, no_members}
use Rattle.serde_json.specs.View.{view}
use Rattle.serde_json.specs.declared.value.Value.{Value}
use Rattle.oauth2_body_members.specs.Object.{put_each}
use Rattle.oauth2_body_members.specs.declared.member.Member.{Member}

-- a value, or the text that is still to be copied if there is no value
abbrev pub value_or_text : Option Value → List ℕ → Data
value_or_text None s = string s
value_or_text (Some v) s = view v

-- the value that a member has once its text is copied
abbrev pub found_value : Member → Data
found_value m = value_or_text m.value m.text.now

-- the name of a member, and the value that it has once its text is copied
abbrev pub found_entry : Member → List ℕ × Option Data
found_entry m = (m.name.now, Some (found_value m))

-- the members of a list, once their texts are copied; the last value of a name counts
abbrev pub found_members : List Member → Members
found_members list = put_each (map found_entry list) no_members
