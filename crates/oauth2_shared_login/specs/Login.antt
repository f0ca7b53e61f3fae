-- The token of a login that many processes share.
use Rattle.std.specs.Prelude.{ℕ, ℤ, pos, ◌+ℤ◌, int_le, Bool, List, Option}
use Rattle.std.specs.Option.{option_or}
use Rattle.oauth2_stored_token.specs.AtEndpoint.{AtEndpoint}

-- the last response of the token endpoint, the moment that the clock read before it was asked for,
-- in nanoseconds since 1970, how long its access token is good after that, in nanoseconds, the
-- refresh token that was sent for it, and the client and the token endpoint that it belongs to
pub record Login (TR : Type 0) : Type 0 where
  pub response : TR
  pub accepted_at : ℤ
  pub lifetime : ℕ
  pub earlier_refresh_token : Option (List ℕ)
  pub client : AtEndpoint

-- the access token is good at `now` with the margin to spare: `now` and the margin are not past the
-- end of its lifetime (nanoseconds)
abbrev pub is_good_at : {TR : Type 0} → Login TR → ℤ → ℕ → Bool
is_good_at login now margin = int_le (now +ℤ pos margin) (login.accepted_at +ℤ pos login.lifetime)

-- the refresh token of the response; where it has none, the earlier one stays in use (RFC 6749, 6)
abbrev pub refresh_token_of : {TR : Type 0} → (TR → Option (List ℕ)) → Login TR → Option (List ℕ)
refresh_token_of sent login = option_or (sent login.response) login.earlier_refresh_token
