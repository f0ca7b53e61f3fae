-- The end of a login by `finish` is an event.
use Rattle.std.proofs.Common.{◌≡◌, ℕ, List, Result, refl, ◌⊎◌, inl, inr}
use Rattle.std.specs.List.{Contains}
use Rattle.serde_json.specs.Data.{Data}
use Rattle.oauth2_json.specs.Reading.{Reading}
use Rattle.oauth2_wire.specs.Reply.{HttpResponse}
use Rattle.oauth2_wire.specs.Request.{HttpRequest}
use Rattle.oauth2_redirect.specs.End.{FinishesLogin, login_exchange}
use Rattle.oauth2_login_laws.specs.Finish.{EachFinishIsAnEvent}

module _ {D A T E RE C : Type 0} (meaning : D → A) (error_meaning : T → E) (reading : Data → Reading A) (error_reading : Data → Reading E) (is_ready : C → Type 0) (step : C → HttpRequest → Result HttpResponse RE → C → Type 0) where
  pub each_finish_is_an_event : EachFinishIsAnEvent meaning error_meaning reading error_reading is_ready step
  each_finish_is_an_event c client login called pairs before result later pending finished =
      elim finished.end [
        | inl asked ↦
            let exchange = asked.3 in
            let request = login_exchange client exchange.2.0 login asked.0 in
            inr (request, (pending, refl, asked.1, asked.2, (exchange.2.0, exchange.2.1, refl)), (exchange.0, exchange.1, exchange.2.2))
        | inr refused ↦ inl (pending, refused.3)
      ]
