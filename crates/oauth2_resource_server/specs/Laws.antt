-- Laws of a resource server's questions.
use Rattle.std.specs.Prelude.{◌≡◌, ℕ, ℤ, ⊤, Bool, true, List, Option, MatchOption, Result, Ok}
use Rattle.std.specs.declared.io.Error as Io
use Rattle.oauth2_wire.specs.Once.{AsksOnce}
use Rattle.oauth2_wire.specs.Reply.{ReplyView, Answer}
use Rattle.oauth2_wire.specs.declared.content_type.ReplyRule.{ReplyRule}
use Rattle.oauth2_wire.specs.declared.error.RequestTokenError.{RequestTokenError}
use Rattle.oauth2_wire.specs.Request.{RequestView}
use Rattle.oauth2_http1.specs.Origin.{Place}
use Rattle.oauth2_http1_connections.specs.Law.{EachHasHistory}
use Rattle.oauth2_http1_connections.specs.declared.client.KeepAliveClient.{KeepAliveClient}
use Rattle.oauth2_http1_connections.specs.declared.error.KeepAliveError.{KeepAliveError}
use Rattle.oauth2_introspection_cache.specs.Cache.{Cache, good_answer, Introspects}
use Rattle.oauth2_resource_server.specs.Questions.{Asks, StepsOver}

module _ {D T E C : Type 0} (asks : ReplyRule → (List ℕ → RequestView → Type 0) → List ℕ → C → Result D (RequestTokenError (KeepAliveError E) T) → C → Type 0)
    (is_active : D → Bool) (expires : D → Option ℤ) where
  -- the server is asked about the token
  abbrev pub IsAskedAbout : Cache D → List ℕ → C → Type 0
  IsAskedAbout cache token before =
      (answer : Result D (RequestTokenError (KeepAliveError E) T))
      × (after : C)
      × Introspects asks cache token before answer after

  -- a question is sent exactly where no kept answer is good: if one is, the HTTP client is not called
  abbrev pub AsksWhereNoAnswerIsGood : Type 0
  AsksWhereNoAnswerIsGood =
      (cache next : Cache D) (token : List ℕ) (now : ℤ) (before after : C) (result : Result Bool (RequestTokenError (KeepAliveError E) T))
      → Asks asks is_active expires cache token now before result after next
      → MatchOption (good_answer expires cache token now) (IsAskedAbout cache token before)
      (λ answer. (result ≡ Ok true) × (after ≡ before))

module _ {C S E D A T R : Type 0} (opens : C → Place → Result S E → C → Type 0) (looks : S → Bool → S → Type 0) (contents remaining : S → Option (List ℕ))
    (reads writes : S → Result ℕ Io.Error → S → Type 0) (flushes : S → Result ⊤ Io.Error → S → Type 0) (meaning : D → A) (error_meaning : T → R)
    (says : ReplyRule → ReplyView → Answer A R) (is_active : D → Bool) (expires : D → Option ℤ) where
  -- each idle connection was opened to its place and carried exchanges for it alone, one after the other,
  -- and a question leaves it so
  abbrev pub KeepsEachHistory : Type 0
  KeepsEachHistory =
      (cache next : Cache D) (token : List ℕ) (now : ℤ) (before after : KeepAliveClient C S) (result : Result Bool (RequestTokenError (KeepAliveError E) T))
      → EachHasHistory opens looks contents remaining reads writes flushes before
      → Asks
      (λ rule. AsksOnce meaning error_meaning (StepsOver opens looks contents remaining reads writes flushes) (says rule))
      is_active expires cache token now before result after next
      → EachHasHistory opens looks contents remaining reads writes flushes after
