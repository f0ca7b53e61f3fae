-- What a keeper of an access token keeps, and what a call of it does.
use Rattle.std.specs.Prelude.{◌≡◌, ◌⊎◌, ℕ, ℤ, pos, ◌+ℤ◌, ◌-ℤ◌, int_le, Bool, true, false, IsTrue, List, [], map, Option, Some, None, unwrap_or, Vec, IsSomeAnd, Result, Ok, Err}
use Rattle.std.specs.Option.{option_or}
use Rattle.std.specs.declared.alloc.Global.{Global}
use Rattle.url.specs.Parts.{serialize}
use Rattle.oauth2_json.specs.Writing.{Writing}
use Rattle.oauth2_urls.specs.Addressed.{Addressed}
use Rattle.oauth2_wire.specs.declared.content_type.ReplyRule.{ReplyRule}
use Rattle.oauth2_wire.specs.declared.error.RequestTokenError.{RequestTokenError}
use Rattle.oauth2_wire.specs.Request.{RequestView, IsRequestOf}
use Rattle.oauth2_form.specs.Pairs.{Pair}
use Rattle.oauth2_wire.specs.declared.texts.ParamText.{ParamText}
use Rattle.oauth2_wire.specs.Texts.{param_pair}
use Rattle.oauth2_wire.specs.Expected.{Configuration}
use Rattle.oauth2_requests.specs.Base.{Base, configuration_of}
use Rattle.oauth2_requests.specs.ClientCredentials.{client_credentials_pairs}
use Rattle.oauth2_requests.specs.Refresh.{refresh_pairs}
use Rattle.oauth2.specs.NewRequest.{base_of}
use Rattle.oauth2.specs.Settings.{Settings}
use Rattle.oauth2_keeper.specs.TokenTypes.{type_in}

-- a token that was accepted: its text, the text of its type, the moment of the call that got it, in
-- nanoseconds since 1970, and its lifetime in nanoseconds
pub record AcceptedToken : Type 0 where
  pub access_token : List ℕ
  pub token_type : List ℕ
  pub accepted_at : ℤ
  pub lifetime : ℕ

-- whether a token is good at a time: that time plus the margin is not past the end of its lifetime
-- (all in nanoseconds, without overflow)
abbrev pub is_good_at : ℕ → ℤ → AcceptedToken → Bool
is_good_at margin now token = int_le (now +ℤ pos margin) (token.accepted_at +ℤ pos token.lifetime)

-- the parameters that were added, in order; `None` is an empty list
abbrev pub pairs_of : Option (Vec (ParamText × ParamText) Global) → List Pair
pairs_of None = []
pairs_of (Some params) = map param_pair params.items

-- what a keeper keeps: its client; the margin, and the lifetime of a token whose reply has none, in
-- nanoseconds; the scopes that it requests with the client's credentials, and those with a refresh
-- token, each as one text; the parameters that it adds to both requests; the token and the refresh
-- token
pub record Keeper : Type 0 where
  pub client : Settings
  pub margin : ℕ
  pub default_lifetime : ℕ
  pub scope : Option (List ℕ)
  pub refresh_scope : Option (List ℕ)
  pub extra_params : List Pair
  pub token : Option AcceptedToken
  pub refresh_token : Option (List ℕ)

-- there is a token, and it is good
abbrev pub is_good_if_any : ℕ → ℤ → Option AcceptedToken → Bool
is_good_if_any margin now None = false
is_good_if_any margin now (Some token) = is_good_at margin now token

-- whether the kept token is good at `now`, in nanoseconds since 1970
abbrev pub is_good : Keeper → ℤ → Bool
is_good keeper now = is_good_if_any keeper.margin now keeper.token

-- the last moment at which a token is good, in nanoseconds since 1970
abbrev pub good_until_of : ℕ → AcceptedToken → ℤ
good_until_of margin token = (token.accepted_at +ℤ pos token.lifetime) -ℤ pos margin

-- a new keeper: it has no token, and adds nothing to its requests; the margin and the lifetime of a
-- token whose reply has none are in nanoseconds
abbrev pub new_keeper : Settings → Option (List ℕ) → ℕ → ℕ → Keeper
new_keeper client refresh_token margin default_lifetime = record {
  client = client;
  margin = margin;
  default_lifetime = default_lifetime;
  scope = None;
  refresh_scope = None;
  extra_params = [];
  token = None;
  refresh_token = refresh_token;
}

-- a keeper with a token that was stored, and with the refresh token that was stored with it
abbrev pub starting_from : Keeper → AcceptedToken → Option (List ℕ) → Keeper
starting_from keeper token refresh_token = record keeper {
  token = Some token;
  refresh_token = refresh_token;
}

-- what a keeper uses of a reply: the access token, the text of its type, and its lifetime in
-- nanoseconds and a refresh token if the reply has them (RFC 6749, 5.1)
pub record Given : Type 0 where
  pub access_token : List ℕ
  pub token_type : List ℕ
  pub lifetime : Option ℕ
  pub refresh_token : Option (List ℕ)

-- the token of a reply that was accepted at `now`; its lifetime is the keeper's default one if the
-- reply has none
abbrev pub accepted_token : ℕ → ℤ → Given → AcceptedToken
accepted_token default_lifetime now given = record {
  access_token = given.access_token;
  token_type = given.token_type;
  accepted_at = now;
  lifetime = unwrap_or given.lifetime default_lifetime;
}

-- what is kept after a reply was accepted at `now`: its token, and its refresh token in place of
-- the old one if it has one (RFC 6749, 6)
abbrev pub accept : Keeper → ℤ → Given → Keeper
accept keeper now given = record keeper {
  token = Some (accepted_token keeper.default_lifetime now given);
  refresh_token = option_or given.refresh_token keeper.refresh_token;
}

-- the parameters of the grant for another token: the refresh token if there is one (RFC 6749, 6),
-- and else the client's credentials (RFC 6749, 4.4)
abbrev pub grant_pairs : Option (List ℕ) → List Pair
grant_pairs (Some refresh_token) = refresh_pairs refresh_token
grant_pairs None = client_credentials_pairs

-- the scopes that are requested with that grant (RFC 6749, 4.4.2 and 6)
abbrev pub grant_scope : Keeper → Option (List ℕ) → Option (List ℕ)
grant_scope keeper (Some refresh_token) = keeper.refresh_scope
grant_scope keeper None = keeper.scope

-- the client's settings with the scopes and the extra parameters of the request for another token
abbrev pub renewal_base : Keeper → Base
renewal_base keeper = record (base_of keeper.client) {
  scope = grant_scope keeper keeper.refresh_token;
  extra_params = keeper.extra_params;
}

-- the configuration of the request for another token
abbrev pub renewal : Keeper → Configuration
renewal keeper = configuration_of (renewal_base keeper) (grant_pairs keeper.refresh_token) None

-- the outcome of a call: the kept token is good and nothing is sent; or a request is made and its
-- reply is accepted; or that request fails
pub data Outcome : Type 0 where
  quiet : Outcome
  accepted : Given → Outcome
  failed : Outcome

-- what is kept after a call at `now`: only an accepted reply changes it
abbrev pub kept_after : Keeper → ℤ → Outcome → Keeper
kept_after keeper now quiet = keeper
kept_after keeper now (accepted given) = accept keeper now given
kept_after keeper now failed = keeper

module _ {D T RE C : Type 0} (asks : ReplyRule → (List ℕ → RequestView → Type 0) → List ℕ → C → Result D (RequestTokenError RE T) → C → Type 0) where
  -- another token is requested at the client's token endpoint
  abbrev pub Renews : Keeper → C → Result D (RequestTokenError RE T) → C → Type 0
  Renews keeper before answer after =
      (endpoint : Addressed) × (keeper.client.token_url ≡ Some endpoint)
      × asks keeper.client.reply_rule (IsRequestOf (renewal keeper)) (serialize endpoint.url) before
      answer after

  module _ (told : D → Given) where
    -- a call at `now` with this outcome: what it does to the HTTP client, and its result
    abbrev pub IsOutcome : Keeper → ℤ → C → Result Unit (RequestTokenError RE T) → C → Outcome
        → Type 0
    IsOutcome keeper now before result after quiet =
        IsTrue (is_good keeper now) × (result ≡ Ok tt) × (after ≡ before)
    IsOutcome keeper now before result after (accepted given) =
        (is_good keeper now ≡ false) × (result ≡ Ok tt) × ((reply : D) × (given ≡ told reply) × Renews keeper before (Ok reply) after)
    IsOutcome keeper now before result after failed =
        (is_good keeper now ≡ false) × ((error : RequestTokenError RE T) × (result ≡ Err error) × Renews keeper before (Err error) after)

    -- a call at `now`: its result, and what is kept before and after it
    abbrev pub KeeperCalls : Keeper → ℤ → C → Result Unit (RequestTokenError RE T) → C → Keeper
        → Type 0
    KeeperCalls keeper now before result after kept =
        (outcome : Outcome) × IsOutcome keeper now before result after outcome × (kept ≡ kept_after keeper now outcome)

    -- a call at `now` whose value is one that `Gives` allows for the text of the kept token
    abbrev pub Answers : {A : Type 0} → (List ℕ → A → Type 0) → Keeper → ℤ → C
        → Result A (RequestTokenError RE T) → C → Keeper → Type 0
    Answers Gives keeper now before (Ok value) after kept =
        KeeperCalls keeper now before (Ok tt) after kept
        × IsSomeAnd kept.token (λ token. Gives token.access_token value)
    Answers Gives keeper now before (Err error) after kept =
        KeeperCalls keeper now before (Err error) after kept × (kept ≡ keeper)

    -- the same, where the value is lent as an `Option` and the error is put into a slot
    abbrev pub AnswersInSlot : {A : Type 0} → (List ℕ → A → Type 0) → Keeper → ℤ → C → Option A
        → Option (RequestTokenError RE T) → C → Keeper → Type 0
    AnswersInSlot Gives keeper now before (Some value) slot after kept =
        Answers Gives keeper now before (Ok value) after kept × (slot ≡ None)
    AnswersInSlot Gives keeper now before None slot after kept =
        IsSomeAnd slot (λ error. KeeperCalls keeper now before (Err error) after kept)
        × (kept ≡ keeper)

-- what a keeper uses of a token response, by what a token type is written as and the functions that
-- read the response's parts
abbrev pub given_by : {D K : Type 0} → (K → Writing) → (D → List ℕ) → (D → K) → (D → Option ℕ)
    → (D → Option (List ℕ)) → D → Given
given_by writing access_token token_type lifetime refresh_token reply = record {
  access_token = access_token reply;
  token_type = type_in writing token_type reply;
  lifetime = lifetime reply;
  refresh_token = refresh_token reply;
}
