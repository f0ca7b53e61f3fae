-- Taking a member's value.
use Rattle.std.specs.Prelude.{ℕ, List, None, if◌then◌else◌}
use Rattle.std.specs.Str.{bytes_eq}
use Rattle.oauth2_body_members.specs.declared.member.Member.{Member}

-- the member without its value if its name is `k`, else unchanged
abbrev pub blank_at : List ℕ → Member → Member
blank_at k m = if bytes_eq m.name.now k then record m { value = None } else m
