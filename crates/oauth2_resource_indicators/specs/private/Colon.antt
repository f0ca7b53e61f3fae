-- A text that is cut at its first colon.
use Rattle.std.specs.Prelude.{ℕ, List, nat_lt, length, if◌then◌else◌, Option, Some, None}
use Rattle.std.specs.List.{position_or_len, before_first, after_first}
use Rattle.oauth2_resource_indicators.specs.AbsoluteUri.{is_colon}

-- what is before the first colon, and after it
abbrev pub split_colon : List ℕ → Option (List ℕ × List ℕ)
split_colon text =
    if nat_lt (position_or_len is_colon text) (length text)
    then Some (before_first is_colon text, after_first is_colon text)
    else None
