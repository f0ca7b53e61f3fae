-- The text that `Display` writes of an error.
use Rattle.std.specs.Prelude.{ℕ, List, codes}
use Rattle.oauth2_stored_token.specs.declared.stored_token_error.StoredTokenError.{StoredTokenError}
use Rattle.oauth2_stored_token.specs.declared.stored_token_error.StoredTokenError.TheVariants.{OtherClient, OtherEndpoint}

-- the text of an error, without the stored token in it
abbrev pub stored_token_error_text : StoredTokenError → List ℕ
stored_token_error_text (OtherClient it) = codes "The stored token is of another client"
stored_token_error_text (OtherEndpoint it) = codes "The stored token is of another token endpoint"
