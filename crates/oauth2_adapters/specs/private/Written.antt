-- An object whose members are read and written one by one.
use Rattle.std.specs.Prelude.{◌≡◌, ℕ, ◌<◌, List, [], ◌∷◌, ◌++◌, length, Bool, ◌||◌, Option, Some, None, option_map, is_some, unwrap_or, if◌then◌else◌}
use Rattle.json.specs.Token.{Token}
use Rattle.json.specs.Json.{Json, Members, value}
use Rattle.json.specs.Print.{print}
use Rattle.json.specs.Tree.{json_tokens, members_tokens}
use Rattle.json.specs.Written.{Written}
use Rattle.oauth2_adapters.specs.Rewriting.{Change, changes, changed_members}

-- the writer wrote the value, or what it becomes; `changed` says whether it changed
pub record WritesValue (becomes : Option Json) (value : Json) (changed : Bool) (old new : Written) : Type 0 where
  pub flag : changed ≡ is_some becomes
  pub tokens : new.tokens ≡ old.tokens ++ json_tokens (unwrap_or becomes value)
  pub before : new.before ≡ old.before

-- what was written of a member whose name was read: the reader had the tokens `before` and then
-- `after`, the writer was `old` and then `new`. `Some changed`: a value was read, and the member was
-- written with what the value becomes, or with the value if it does not change. `None`: the tokens do
-- not begin with a value that fits. A body may nest 127 deep, and its object is one of them
abbrev pub WritesMember : (Json → Option Json) → List ℕ → List Token → List Token → Written
    → Written → Option Bool → Type 0
WritesMember becomes name before after old new None = value 126 before ≡ None
WritesMember becomes name before after old new (Some changed) =
    (j : Json) × (value 126 before ≡ Some (j, after)) × (length after < length before) × (changed ≡ is_some (becomes j))
    × (new.tokens ≡ old.tokens ++ Token.key name ∷ [] ++ json_tokens (unwrap_or (becomes j) j))
    × (new.before ≡ old.before)

-- whether a member changed so far, and the tokens that were written
abbrev pub Progress : Type 0
Progress = Bool × List Token

-- the progress after the members that were read, with the tokens that follow them
abbrev pub progress_in : Change → Bool → List Token → Option (Members × List Token)
    → Option (Progress × List Token)
progress_in change changed written read =
    option_map
    (λ p. ((changed || changes change p.0, written ++ members_tokens (changed_members change p.0)), p.1))
    read

-- the text of the written tokens, if no token follows the object
abbrev pub text_if_none : List Token → List Token → Option (List ℕ)
text_if_none [] written = Some (print written)
text_if_none (t ∷ ts) written = None

-- that text if also a member changed; else `None`
abbrev pub text_at_end : Option (Progress × List Token) → Option (List ℕ)
text_at_end None = None
text_at_end (Some (progress, follow)) = if progress.0 then text_if_none follow progress.1 else None
