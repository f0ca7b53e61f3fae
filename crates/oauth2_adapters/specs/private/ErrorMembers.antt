-- The members of a body, read one by one to find out whether it is an error response.
use Rattle.std.specs.Prelude.{◌≡◌, ℕ, ◌<◌, List, [], ◌∷◌, length, Bool, true, false, ◌&&◌, ◌||◌, not, Option, Some, None, option_map, bytes_eq, codes}
use Rattle.json.specs.Token.{Token}
use Rattle.json.specs.Json.{Json, Members, value}
use Rattle.oauth2_adapters.specs.Objects.{any_member}
use Rattle.oauth2_adapters.specs.ErrorsAtStatus200.{is_error, is_no_error}

-- whether the members are those of an error response; `found` says whether an error came before
-- them
abbrev pub tell_after : Bool → Members → Bool
tell_after found ms = (found || any_member is_error ms) && not (any_member is_no_error ms)

-- that verdict on the members that were read, with the tokens that follow them
abbrev pub told_in : Bool → Option (Members × List Token) → Option (Bool × List Token)
told_in found read = option_map (λ p. (tell_after found p.0, p.1)) read

-- the members were read, and are those of an error response
abbrev pub is_told : Option (Bool × List Token) → Bool
is_told None = false
is_told (Some p) = p.0

-- they are, and no token follows the object
abbrev pub told_at_end : Option (Bool × List Token) → Bool
told_at_end None = false
told_at_end (Some (told, [])) = told
told_at_end (Some (told, t ∷ ts)) = false

-- a value was read that can be in an error response under that name
abbrev pub MayStandInError : List ℕ → List Token → List Token → Type 0
MayStandInError name before after =
    (j : Json) × (value 126 before ≡ Some (j, after)) × (length after < length before)
    × (is_no_error name j ≡ false) × (is_error name j ≡ bytes_eq name (codes "error"))

-- any value that can be read under that name makes the body no error response
abbrev pub StandsInNone : List ℕ → List Token → Type 0
StandsInNone name before =
    (j : Json) (after : List Token) → value 126 before ≡ Some (j, after) → is_no_error name j ≡ true
