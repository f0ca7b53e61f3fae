-- What a client knows of a provider whose ID tokens it verifies.
use Rattle.std.specs.Prelude.{Some}
use Rattle.oauth2_openid_login.specs.Provider.{Provider}
use Rattle.oauth2_keys.specs.Signature.{Check, registered_algorithm}

-- what is expected of a provider's redirects and of the claims of its ID tokens, and how the
-- signature of an ID token is checked
pub record Verifying : Type 0 where
  pub provider : Provider
  pub check : Check

-- this provider with this check, whose algorithm an ID token must have too (OpenID Connect Core
-- 1.0, 3.1.3.7, 7)
abbrev pub verifying : Provider → Check → Verifying
verifying provider check =
    record {
      provider = record provider { algorithm = Some (registered_algorithm check) };
      check = check;
    }
