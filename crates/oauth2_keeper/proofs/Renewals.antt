-- The request of a keeper is that of its configuration.
use Rattle.std.proofs.Common.{rules, ◌≡◌, ℕ, List, Option, Some, None, Result, Ok, Err, subst, sym, refl}
use Rattle.std.specs.Prelude.{ℤ, false, IsSomeAnd, option_map}
use Rattle.url.specs.Parts.{serialize}
use Rattle.oauth2_wire.specs.declared.content_type.ReplyRule.{ReplyRule}
use Rattle.oauth2_wire.specs.declared.error.RequestTokenError.{RequestTokenError}
use Rattle.oauth2_wire.specs.Request.{RequestView, IsRequestOf}
use Rattle.oauth2_form.specs.Pairs.{Pair}
use Rattle.oauth2_requests.specs.Base.{configuration_of}
use Rattle.oauth2_requests.specs.ClientCredentials.{ClientCredentialsRequest, client_credentials_pairs, client_credentials_configuration}
use Rattle.oauth2_requests.specs.Refresh.{RefreshRequest, refresh_pairs, refresh_configuration}
use Rattle.oauth2.specs.NewRequest.{base_of, new_client_credentials_request, new_refresh_request}
use Rattle.oauth2_keeper.specs.Keeper.{Keeper, AcceptedToken, Given, Renews, KeeperCalls, renewal, is_good, accepted, failed}
use Rattle.oauth2_keeper.specs.private.Params.{with_params}
use Rattle.oauth2_keeper.specs.private.Settled.{Settles}

pub with_none : (keeper : Keeper) (scope : Option (List ℕ)) (pairs : List Pair)
    → configuration_of (with_params (base_of keeper.client) scope keeper.extra_params) pairs None
    ≡ configuration_of (record (base_of keeper.client) { scope = scope; extra_params = keeper.extra_params }) pairs None
with_none keeper None pairs = refl
with_none keeper (Some text) pairs = refl

-- scopes and parameters that are added to a request that has none are all that it has
pub refresh_renewal : (keeper : Keeper) (refresh_token : List ℕ) → keeper.refresh_token ≡ Some refresh_token
    → configuration_of (with_params (base_of keeper.client) keeper.refresh_scope keeper.extra_params) (refresh_pairs refresh_token) None ≡ renewal keeper
refresh_renewal keeper refresh_token there = rw there (with_none keeper keeper.refresh_scope (refresh_pairs refresh_token))

pub client_renewal : (keeper : Keeper) → keeper.refresh_token ≡ None
    → configuration_of (with_params (base_of keeper.client) keeper.scope keeper.extra_params) client_credentials_pairs None ≡ renewal keeper
client_renewal keeper none = rw none (with_none keeper keeper.scope client_credentials_pairs)

module _ {D T RE C : Type 0} (asks : ReplyRule → (List ℕ → RequestView → Type 0) → List ℕ → C → Result D (RequestTokenError RE T) → C → Type 0) (keeper : Keeper) (before : C) (answer : Result D (RequestTokenError RE T)) (after : C) where
  pub by_refresh_token : (r sent : RefreshRequest) → keeper.refresh_token ≡ Some r.refresh_token → keeper.client.token_url ≡ Some r.token_url
      → r ≡ new_refresh_request keeper.client r.token_url r.refresh_token → sent ≡ record r { base = with_params r.base keeper.refresh_scope keeper.extra_params }
      → asks sent.base.reply_rule (IsRequestOf (refresh_configuration sent)) (serialize sent.token_url.url) before answer after → Renews asks keeper before answer after
  by_refresh_token r sent there url new grown asked =
      let same = subst (λ s. asks s.base.reply_rule (IsRequestOf (refresh_configuration s)) (serialize s.token_url.url) before answer after) grown asked in
      let fresh = subst (λ (s : RefreshRequest). asks s.base.reply_rule (IsRequestOf (configuration_of (with_params s.base keeper.refresh_scope keeper.extra_params) (refresh_pairs r.refresh_token) None)) (serialize r.token_url.url) before answer after) new same in
      (r.token_url, url, subst (λ configuration. asks keeper.client.reply_rule (IsRequestOf configuration) (serialize r.token_url.url) before answer after) (refresh_renewal keeper r.refresh_token there) fresh)

  pub by_client_credentials : (r sent : ClientCredentialsRequest) → keeper.refresh_token ≡ None → keeper.client.token_url ≡ Some r.token_url
      → r ≡ new_client_credentials_request keeper.client r.token_url → sent ≡ record r { base = with_params r.base keeper.scope keeper.extra_params }
      → asks sent.base.reply_rule (IsRequestOf (client_credentials_configuration sent)) (serialize sent.token_url.url) before answer after → Renews asks keeper before answer after
  by_client_credentials r sent none url new grown asked =
      let same = subst (λ s. asks s.base.reply_rule (IsRequestOf (client_credentials_configuration s)) (serialize s.token_url.url) before answer after) grown asked in
      let fresh = subst (λ (s : ClientCredentialsRequest). asks s.base.reply_rule (IsRequestOf (configuration_of (with_params s.base keeper.scope keeper.extra_params) client_credentials_pairs None)) (serialize r.token_url.url) before answer after) new same in
      (r.token_url, url, subst (λ configuration. asks keeper.client.reply_rule (IsRequestOf configuration) (serialize r.token_url.url) before answer after) (client_renewal keeper none) fresh)

module _ {D T RE C : Type 0} (asks : ReplyRule → (List ℕ → RequestView → Type 0) → List ℕ → C → Result D (RequestTokenError RE T) → C → Type 0) (told : D → Given) (keeper : Keeper) (now : ℤ) (stale : is_good keeper now ≡ false) (before after : C) where
  -- the answer to the request, and what it leaves, are what the call does
  pub settled : (answer : Result D (RequestTokenError RE T)) → Renews asks keeper before answer after → (result : Result Unit (RequestTokenError RE T)) (kept : Keeper)
      → Settles told keeper now answer result kept → KeeperCalls asks told keeper now before result after kept
  settled (Ok reply) renews (Ok done) kept is = (accepted (told reply), (stale, refl, (reply, refl, renews)), is)
  settled (Ok reply) renews (Err error) kept is = absurd is
  settled (Err fault) renews (Ok done) kept is = absurd is
  settled (Err fault) renews (Err error) kept is =
      (failed, (stale, (error, refl, subst (λ e. Renews asks keeper before (Err e) after) (sym is.0) renews)), is.1)

-- a token that was got is the kept one
pub kept_text : (kept : Option AcceptedToken) (text : List ℕ) → option_map (λ token. token.access_token) kept ≡ Some text → IsSomeAnd kept (λ token. text ≡ token.access_token)
kept_text None text is = search (rules, is)
kept_text (Some token) text is = search (rules, is)
