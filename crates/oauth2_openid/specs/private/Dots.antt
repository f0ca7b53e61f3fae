-- Cutting a text at one dot after another, as the code does.
use Rattle.std.specs.Prelude.{ℕ, List, nat_lt, length, is_some, if◌then◌else◌, Option, Some, None}
use Rattle.std.specs.List.{position_or_len, before_first, after_first}
use Rattle.oauth2_openid.specs.Token.{is_dot, Parts, token_parts}

-- the text before the first dot, and the text after it; `None` if there is no dot
abbrev pub split_dot : List ℕ → Option (List ℕ × List ℕ)
split_dot s =
    if nat_lt (position_or_len is_dot s) (length s)
    then Some (before_first is_dot s, after_first is_dot s)
    else None

-- the three parts, if the text after the header was cut in two and no dot is left
abbrev pub last_two : List ℕ → Option (List ℕ × List ℕ) → Option Parts
last_two first None = None
last_two first (Some two) =
    if is_some (split_dot two.1) then None else Some (token_parts first two.0 two.1)

-- the three parts, if the whole text was cut into the header and the text after it
abbrev pub after_header : Option (List ℕ × List ℕ) → Option Parts
after_header None = None
after_header (Some two) = last_two two.0 (split_dot two.1)
