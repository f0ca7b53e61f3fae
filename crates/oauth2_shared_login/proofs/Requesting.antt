-- The request of a refresh is that of its client, and a login is refreshed by it.
use Rattle.std.proofs.Common.{◌≡◌, ℕ, Bool, true, List, Option, Some, Result, sym, subst, inl}
use Rattle.url.specs.Parts.{serialize}
use Rattle.oauth2_wire.specs.declared.content_type.ReplyRule.{ReplyRule}
use Rattle.oauth2_wire.specs.declared.error.RequestTokenError.{RequestTokenError}
use Rattle.oauth2_wire.specs.Request.{RequestView, IsRequestOf}
use Rattle.oauth2_requests.specs.Refresh.{RefreshRequest, refresh_configuration}
use Rattle.oauth2.specs.NewRequest.{new_refresh_request}
use Rattle.oauth2.specs.Settings.{Settings}
use Rattle.jiff.specs.Types.{Timestamp}
use Rattle.oauth2_shared_login.specs.declared.refresh_fault.RefreshFault.{RefreshFault}
use Rattle.oauth2_stored_token.specs.AtEndpoint.{AtEndpoint}
use Rattle.oauth2_shared_login.specs.Login.{Login, refresh_token_of}
use Rattle.oauth2_shared_login.specs.Refreshing.{Requests, RefreshesBy, RefreshesIf, Refreshes, is_of_client, is_of_endpoint}

module _ {D T RE C : Type 0} (asks : ReplyRule → (List ℕ → RequestView → Type 0) → List ℕ → C → Result D (RequestTokenError RE T) → C → Type 0)
    (client : Settings) (refresh_token : List ℕ) (before : C) (answer : Result D (RequestTokenError RE T)) (after : C) where
  pub requests_by : (r : RefreshRequest) → client.token_url ≡ Some r.token_url → r ≡ new_refresh_request client r.token_url refresh_token
      → asks r.base.reply_rule (IsRequestOf (refresh_configuration r)) (serialize r.token_url.url) before answer after
      → Requests asks client refresh_token before answer after
  requests_by r url new asked =
      (r.token_url, url, subst (λ (s : RefreshRequest). asks s.base.reply_rule (IsRequestOf (refresh_configuration s)) (serialize r.token_url.url) before answer after) new asked)

-- a login of the client that has a refresh token is refreshed by it
module _ {D T RE W : Type 0} (asks : ReplyRule → (List ℕ → RequestView → Type 0) → List ℕ → W → Result D (RequestTokenError RE T) → W → Type 0)
    (client : Settings) (reads : W → Timestamp → W → Type 0) (lifetime : D → Option ℕ) (default_lifetime : ℕ) (is_understood : D → Bool)
    (sent : D → Option (List ℕ)) (login : Login D) (before : W) (result : Result (Login D) (RefreshFault RE T D)) (after : W) where
  pub refreshes_sent : (token : List ℕ) (named : AtEndpoint) → is_of_client client login ≡ true → is_of_endpoint client login ≡ true
      → refresh_token_of sent login ≡ Some token → named ≡ login.client
      → RefreshesBy asks client reads lifetime default_lifetime is_understood token named before result after
      → Refreshes asks client reads lifetime default_lifetime is_understood sent login before result after
  refreshes_sent token named own place has same h =
      subst (λ (x : Bool). RefreshesIf asks client reads lifetime default_lifetime is_understood x (is_of_endpoint client login) (refresh_token_of sent login) login.client before result after) (sym own)
      (subst (λ (x : Bool). RefreshesIf asks client reads lifetime default_lifetime is_understood true x (refresh_token_of sent login) login.client before result after) (sym place)
      (subst (λ (x : Option (List ℕ)). RefreshesIf asks client reads lifetime default_lifetime is_understood true true x login.client before result after) (sym has)
      (inl (subst (λ (x : AtEndpoint). RefreshesBy asks client reads lifetime default_lifetime is_understood token x before result after) same h))))
