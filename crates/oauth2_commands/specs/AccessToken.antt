-- The command `access_token`: a JWT access token is read, and checked as a resource server does
-- (RFC 9068, 4).
use Rattle.std.specs.Prelude.{◌≡◌, ◌⊎◌, ℤ, List, Option, Some, None, Ok, Err}
use Rattle.oauth2_json.specs.ErrorTexts.{parse_fault_text}
use Rattle.oauth2_json.specs.Reading.{Reading}
use Rattle.oauth2_keys.specs.KeySet.{set_reading}
use Rattle.oauth2_keys.specs.declared.algorithm.SignatureAlgorithm.{SignatureAlgorithm}
use Rattle.oauth2_keys.specs.declared.json_web_key.ListedKey.{ListedKey}
use Rattle.oauth2_signed_tokens.specs.access_tokens.AccessToken.{AccessToken, access_token_reading}
use Rattle.oauth2_signed_tokens.specs.access_tokens.ErrorTexts.{access_token_fault_text}
use Rattle.oauth2_signed_tokens.specs.access_tokens.Introspection.{introspection_of}
use Rattle.oauth2_signed_tokens.specs.access_tokens.Rules.{Expectation, AccessTokenHolds, IsFirstFault}
use Rattle.oauth2_signed_tokens.specs.declared.access_tokens.expected.SenderConstraint.TheVariants.{NoKeyProven}
use Rattle.oauth2_signed_tokens.specs.declared.access_tokens.fault.AccessTokenFault.{AccessTokenFault}
use Rattle.oauth2_world.specs.Clock.{Clock, reading_of}
use Rattle.oauth2_world.specs.declared.event.FaultKind.TheVariants.{BadAccessToken, BadKeys}
use Rattle.oauth2_request_commands.specs.Introspect.{introspection_json}
use Rattle.oauth2_request_commands.specs.Out.{Output, success_output, failure_output}
use Rattle.oauth2_script.specs.AccessTokenParams.{AccessTokenParams}
use Rattle.oauth2_commands.specs.IdToken.{signature_algorithm, IsReadOutput, unchecked_output}

-- what a resource server expects of the token of a script, signed with this algorithm
abbrev pub access_token_expectation : AccessTokenParams → SignatureAlgorithm → Expectation
access_token_expectation p algorithm =
    record {
      issuer = p.issuer;
      audience = p.audience;
      algorithm = algorithm;
      constraint = NoKeyProven;
      leeway = p.leeway;
    }

-- the output of a token at the moment `now`: if all rules hold, what an introspection tells of such
-- a token (RFC 7662, 2.2); else the first rule that does not hold (RFC 9068, 4)
abbrev pub IsJudgedOutput : Expectation → List ListedKey → ℤ → AccessToken → Output → Type 0
IsJudgedOutput expected keys now token o =
    (AccessTokenHolds expected keys now token × (o ≡ success_output (introspection_json (introspection_of token tt))))
    ⊎ ((fault : AccessTokenFault) × IsFirstFault expected keys now token fault × (o ≡ failure_output BadAccessToken (access_token_fault_text fault)))

-- the output of a token for a resource server that has these keys: why they are no key set, or
-- what is found of the token
abbrev pub IsKeyedOutput : Expectation → Reading (List ListedKey) → ℤ → AccessToken → Output
    → Type 0
IsKeyedOutput expected (Err fault) now token o = o ≡ failure_output BadKeys (parse_fault_text fault)
IsKeyedOutput expected (Ok keys) now token o = IsJudgedOutput expected keys now token o

-- the output of a token by the algorithm of a script: that none of its signatures is checked, or
-- what is found by the keys
abbrev pub IsTokenOutput : AccessTokenParams → ℤ → Option SignatureAlgorithm → AccessToken → Output
    → Type 0
IsTokenOutput p now None token o = o ≡ unchecked_output
IsTokenOutput p now (Some algorithm) token o =
    IsKeyedOutput (access_token_expectation p algorithm) (set_reading p.keys) now token o

-- the output of `access_token`; the clock is read once for the moment of the checks
abbrev pub IsAccessTokenOutput : AccessTokenParams → Clock → Output → Type 0
IsAccessTokenOutput p clock o =
    IsReadOutput (IsTokenOutput p (reading_of clock) (signature_algorithm p.algorithm))
    (access_token_reading p.access_token) o
