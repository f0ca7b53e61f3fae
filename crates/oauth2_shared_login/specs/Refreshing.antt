-- How a shared login is refreshed.
use Rattle.std.specs.Prelude.{◌≡◌, ◌⊎◌, ℕ, ℤ, Bool, true, false, List, Option, Some, None, unwrap_or, option_map, Result, Ok, Err}
use Rattle.jiff.specs.Types.{Timestamp}
use Rattle.url.specs.Parts.{serialize}
use Rattle.oauth2_urls.specs.Addressed.{Addressed}
use Rattle.oauth2_wire.specs.declared.content_type.ReplyRule.{ReplyRule}
use Rattle.oauth2_wire.specs.declared.error.RequestTokenError.{RequestTokenError}
use Rattle.oauth2_wire.specs.declared.error.RequestTokenError.TheVariants.{Memory}
use Rattle.oauth2_wire.specs.Request.{RequestView, IsRequestOf}
use Rattle.oauth2_requests.specs.Refresh.{refresh_configuration}
use Rattle.oauth2.specs.NewRequest.{new_refresh_request}
use Rattle.oauth2.specs.Settings.{Settings}
use Rattle.oauth2_stored_token.specs.AtEndpoint.{AtEndpoint}
use Rattle.oauth2_stored_token.specs.Started.{is_of}
use Rattle.oauth2_shared_login.specs.declared.refresh_fault.RefreshFault.{RefreshFault}
use Rattle.oauth2_shared_login.specs.declared.refresh_fault.RefreshFault.TheVariants as fault
use Rattle.oauth2_shared_login.specs.Login.{Login, refresh_token_of}

-- the login belongs to this client
abbrev pub is_of_client : {D : Type 0} → Settings → Login D → Bool
is_of_client client login = is_of (Some login.client.client_id) (Some client.client_id)

-- it belongs to the token endpoint of this client
abbrev pub is_of_endpoint : {D : Type 0} → Settings → Login D → Bool
is_of_endpoint client login =
    is_of (Some login.client.token_url) (option_map (λ endpoint. serialize endpoint.url) client.token_url)

module _ {D T RE W : Type 0} (asks : ReplyRule → (List ℕ → RequestView → Type 0) → List ℕ → W → Result D (RequestTokenError RE T) → W → Type 0)
    (client : Settings) where
  -- a token is requested with this refresh token at the client's token endpoint (RFC 6749, 6)
  abbrev pub Requests : List ℕ → W → Result D (RequestTokenError RE T) → W → Type 0
  Requests refresh_token before answer after =
      (endpoint : Addressed) × (client.token_url ≡ Some endpoint)
      × asks client.reply_rule
      (IsRequestOf (refresh_configuration (new_refresh_request client endpoint refresh_token)))
      (serialize endpoint.url) before answer after

  module _ (reads : W → Timestamp → W → Type 0) (lifetime : D → Option ℕ) (default_lifetime : ℕ) (is_understood : D → Bool) where
    -- the clock reads this moment, and then a token is requested with this refresh token: the
    -- request begins in the state that the reading left, so the time of the request counts
    abbrev pub RequestsAt : Timestamp → List ℕ → W → Result D (RequestTokenError RE T) → W → Type 0
    RequestsAt now refresh_token before answer after =
        (read : W) × reads before now read × Requests refresh_token read answer after

    -- the login of a response that was asked for at this moment, with this refresh token
    abbrev pub refreshed : List ℕ → AtEndpoint → ℤ → D → Login D
    refreshed refresh_token named now response = record {
      response = response;
      accepted_at = now;
      lifetime = unwrap_or (lifetime response) default_lifetime;
      earlier_refresh_token = Some refresh_token;
      client = named;
    }

    -- this login is that of a response to a request with this refresh token, which was made after
    -- the clock was read; and whether its token type is understood
    abbrev pub Gets : List ℕ → AtEndpoint → W → Login D → Bool → W → Type 0
    Gets refresh_token named before new understood after =
        (now : Timestamp) × (response : D) × RequestsAt now refresh_token before (Ok response) after
        × (is_understood response ≡ understood)
        × (new ≡ refreshed refresh_token named now.nanosecond response)

    -- the clock is read, and then a token is requested; its response is the new login, or one of
    -- another token type, or its error is told
    abbrev pub RefreshesBy : List ℕ → AtEndpoint → W → Result (Login D) (RefreshFault RE T D) → W → Type 0
    RefreshesBy refresh_token named before (Ok new) after =
        Gets refresh_token named before new true after
    RefreshesBy refresh_token named before (Err (fault.OtherTokenType new)) after =
        Gets refresh_token named before new false after
    RefreshesBy refresh_token named before (Err (fault.Request error)) after =
        (now : Timestamp) × RequestsAt now refresh_token before (Err error) after
    RefreshesBy refresh_token named before (Err fault.OtherClient) after = ⊥
    RefreshesBy refresh_token named before (Err fault.OtherEndpoint) after = ⊥
    RefreshesBy refresh_token named before (Err fault.NoRefreshToken) after = ⊥

    -- whether the login belongs to the client, whether it belongs to its token endpoint, and its
    -- refresh token: a login of another client or of another token endpoint is refused, and one
    -- without a refresh token; then nothing is sent. That of any other is sent once, or memory runs
    -- out before that
    abbrev pub RefreshesIf : Bool → Bool → Option (List ℕ) → AtEndpoint → W
        → Result (Login D) (RefreshFault RE T D) → W → Type 0
    RefreshesIf false own_endpoint refresh_token named before result after =
        (result ≡ Err fault.OtherClient) × (after ≡ before)
    RefreshesIf true false refresh_token named before result after =
        (result ≡ Err fault.OtherEndpoint) × (after ≡ before)
    RefreshesIf true true None named before result after =
        (result ≡ Err fault.NoRefreshToken) × (after ≡ before)
    RefreshesIf true true (Some refresh_token) named before result after =
        RefreshesBy refresh_token named before result after
        ⊎ ((result ≡ Err (fault.Request (Memory false))) × (after ≡ before))

    -- what becomes of a login, by what it belongs to and by its refresh token
    abbrev pub Refreshes : (D → Option (List ℕ)) → Login D → W
        → Result (Login D) (RefreshFault RE T D) → W → Type 0
    Refreshes sent login before result after =
        RefreshesIf (is_of_client client login) (is_of_endpoint client login) (refresh_token_of sent login) login.client
        before result after
