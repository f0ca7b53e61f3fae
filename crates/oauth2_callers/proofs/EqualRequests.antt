-- What was asked by one request was asked by an equal one.
use Rattle.std.proofs.Common.{◌≡◌, ℕ, List, subst}
use Rattle.std.specs.Prelude.{Result}
use Rattle.serde_json.specs.Data.{Data}
use Rattle.url.specs.Parts.{serialize}
use Rattle.oauth2_json.specs.Reading.{Reading}
use Rattle.oauth2_urls.specs.Addressed.{Addressed}
use Rattle.oauth2_wire.specs.declared.content_type.ReplyRule.{ReplyRule}
use Rattle.oauth2_wire.specs.declared.error.RequestTokenError.{RequestTokenError}
use Rattle.oauth2_wire.specs.Expected.{Configuration}
use Rattle.oauth2_wire.specs.Request.{HttpRequest, IsRequestOf}
use Rattle.oauth2_wire.specs.Reply.{HttpResponse, answer_of}
use Rattle.oauth2_wire.specs.Once.{AsksOnce}
use Rattle.oauth2_device.specs.DeviceToken.{DeviceToken}
use Rattle.oauth2_device.specs.Events.{PollCall}
use Rattle.oauth2_device.specs.Poll.{PollError}
use Rattle.oauth2_callers.specs.own_types.Asked.{ColorfulToken, PollsForToken}

module _ {D A T E RE C R : Type 0} (meaning : D → A) (error_meaning : T → E) (reading : Data → Reading A) (error_reading : Data → Reading E) (step : C → HttpRequest → Result HttpResponse RE → C → Type 0) (rule : R → ReplyRule) (configuration : R → Configuration) (a b : R) (endpoint : Addressed) (before : C) (result : Result D (RequestTokenError RE T)) (after : C) where
  pub AsksOnce-equal : a ≡ b
      → AsksOnce meaning error_meaning step (answer_of (rule a) reading error_reading) (IsRequestOf (configuration a)) (serialize endpoint.url) before result after
      → AsksOnce meaning error_meaning step (answer_of (rule b) reading error_reading) (IsRequestOf (configuration b)) (serialize endpoint.url) before result after
  AsksOnce-equal same asked =
      subst (λ r. AsksOnce meaning error_meaning step (answer_of (rule r) reading error_reading) (IsRequestOf (configuration r)) (serialize endpoint.url) before result after) same asked

pub PollsForToken-equal : {RE : Type 0} (a b : DeviceToken) (max_polls : ℕ) (e : List (PollCall RE)) (result : Result ColorfulToken (PollError RE)) → a ≡ b
    → PollsForToken a max_polls e result → PollsForToken b max_polls e result
PollsForToken-equal a b max_polls e result same polled = subst (λ r. PollsForToken r max_polls e result) same polled
