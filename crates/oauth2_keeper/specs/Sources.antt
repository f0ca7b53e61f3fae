-- The tokens that a keeper keeps, by where their texts are.
use Rattle.std.specs.Prelude.{ℕ, List, Option, Some, None, string_bytes}
use Rattle.oauth2_keeper.specs.Keeper.{AcceptedToken}
use Rattle.oauth2_keeper.specs.declared.kept_token.AccessSource.{AccessSource}
use Rattle.oauth2_keeper.specs.declared.kept_token.AccessSource.TheVariants as access
use Rattle.oauth2_keeper.specs.declared.refresh_source.RefreshSource.{RefreshSource}
use Rattle.oauth2_keeper.specs.declared.refresh_source.RefreshSource.TheVariants as refresh

-- a token that is held, and the refresh token in its reply
pub record Held : Type 0 where
  pub token : AcceptedToken
  pub refresh_token : Option (List ℕ)

-- the token and the refresh token of a keeper
pub record Tokens : Type 0 where
  pub token : Option AcceptedToken
  pub refresh_token : Option (List ℕ)

-- the text of an access token, where `text` is that in a reply
abbrev pub access_text : {D : Type 0} → (D → List ℕ) → AccessSource D → List ℕ
access_text text (access.Stored token token_type) = token
access_text text (access.Reply reply) = text reply

-- the text of its type, where `text` is that in a reply
abbrev pub source_type : {D : Type 0} → (D → List ℕ) → AccessSource D → List ℕ
source_type text (access.Stored token token_type) = string_bytes token_type
source_type text (access.Reply reply) = text reply

-- the refresh token in the reply that has the access token
abbrev pub refresh_text_in : {D : Type 0} → (D → Option (List ℕ)) → AccessSource D
    → Option (List ℕ)
refresh_text_in text (access.Stored token token_type) = None
refresh_text_in text (access.Reply reply) = text reply

-- the refresh token of the held token, if one is held
abbrev pub refresh_text_of : Option Held → Option (List ℕ)
refresh_text_of None = None
refresh_text_of (Some held) = held.refresh_token

-- the refresh token, where `held` is kept beside it
abbrev pub refresh_text : {D : Type 0} → (D → Option (List ℕ)) → Option Held → RefreshSource D
    → Option (List ℕ)
refresh_text text held refresh.Absent = None
refresh_text text held (refresh.Given token) = Some token
refresh_text text held refresh.Kept = refresh_text_of held
refresh_text text held (refresh.Earlier reply) = text reply
