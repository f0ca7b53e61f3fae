-- What a resource server asks about the tokens that it is sent, over a connection that it keeps
-- (RFC 7662, 2).
use Rattle.std.specs.Prelude.{◌≡◌, ◌⊎◌, ℕ, ℤ, ⊤, Bool, true, false, List, Option, Result, Ok, Err}
use Rattle.std.specs.declared.io.Error as Io
use Rattle.oauth2_wire.specs.Request.{HttpRequest, RequestView}
use Rattle.oauth2_wire.specs.Reply.{HttpResponse}
use Rattle.oauth2_wire.specs.declared.content_type.ReplyRule.{ReplyRule}
use Rattle.oauth2_wire.specs.declared.error.RequestTokenError.{RequestTokenError}
use Rattle.oauth2_wire.specs.declared.error.RequestTokenError.TheVariants as token
use Rattle.oauth2_http1.specs.Origin.{Place}
use Rattle.oauth2_http1_connections.specs.Client.{IsSetAs, Calls}
use Rattle.oauth2_http1_connections.specs.declared.client.KeepAliveClient.{KeepAliveClient}
use Rattle.oauth2_http1_connections.specs.declared.error.KeepAliveError.{KeepAliveError}
use Rattle.oauth2_http1_connections.specs.declared.error.KeepAliveError.TheVariants as kept
use Rattle.oauth2_introspection_cache.specs.Cache.{Cache, CacheCalls}

-- one request of a client that keeps connections: which one it takes, what goes over it, and which it
-- keeps (RFC 9112, 9.2 and 9.3)
abbrev pub StepsOver : {C S E : Type 0} → (C → Place → Result S E → C → Type 0)
    → (S → Bool → S → Type 0)
    → (S → Option (List ℕ)) → (S → Option (List ℕ))
    → (S → Result ℕ Io.Error → S → Type 0)
    → (S → Result ℕ Io.Error → S → Type 0)
    → (S → Result ⊤ Io.Error → S → Type 0)
    → KeepAliveClient C S
    → HttpRequest
    → Result HttpResponse (KeepAliveError E)
    → KeepAliveClient C S
    → Type 0
StepsOver opens looks contents remaining reads writes flushes before request answer after =
    IsSetAs before after
    × Calls opens looks contents remaining reads writes flushes before request answer after

-- the request went over a connection that was used before, and no byte of a reply came
abbrev pub is_unanswered : {A E T : Type 0} → Result A (RequestTokenError (KeepAliveError E) T)
    → Bool
is_unanswered (Err (token.Request (kept.Unanswered error again))) = true
is_unanswered result = false

module _ {D T E C : Type 0} (asks : ReplyRule → (List ℕ → RequestView → Type 0) → List ℕ → C → Result D (RequestTokenError (KeepAliveError E) T) → C → Type 0)
    (is_active : D → Bool) (expires : D → Option ℤ) where
  -- a question about a token at `now`: one call of the cache; and if its request was unanswered, one
  -- more (RFC 9110, 9.2.2: a POST may be sent again where it is known to change nothing, as here)
  abbrev pub Asks : Cache D → List ℕ → ℤ → C → Result Bool (RequestTokenError (KeepAliveError E) T)
      → C → Cache D → Type 0
  Asks cache token now before result after next =
      ((is_unanswered result ≡ false) × CacheCalls asks is_active expires cache token now before result after next)
      ⊎ ((lost : Result Bool (RequestTokenError (KeepAliveError E) T)) × (middle : C) × (left : Cache D) × (is_unanswered lost ≡ true)
      × CacheCalls asks is_active expires cache token now before lost middle left
      × CacheCalls asks is_active expires left token now middle result after next)
