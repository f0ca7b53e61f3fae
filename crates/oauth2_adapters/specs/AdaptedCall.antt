-- A call of a client whose replies are adapted.
use Rattle.std.specs.Prelude.{◌≡◌, Bool, IsTrue, Result, Ok, Err}
use Rattle.oauth2_wire.specs.Reply.{HttpResponse}
use Rattle.oauth2_wire.specs.Request.{HttpRequest}
use Rattle.oauth2_adapters.specs.Reply.{Reply, reply_values}
use Rattle.oauth2_adapters.specs.declared.error.AdapterError.{AdapterError}
use Rattle.oauth2_adapters.specs.declared.error.AdapterError.TheVariants as error

module _ {E : Type 0} (adapted : Reply → Reply) (needs_memory : Reply → Bool) where
  -- the result is the adapted reply of the inner client, or the error of the inner client; the
  -- error is `Memory` only if adapting that reply needs memory
  abbrev pub IsAdapted : Result HttpResponse E → Result HttpResponse (AdapterError E) → Type 0
  IsAdapted (Ok reply) (Ok new) = reply_values new ≡ adapted (reply_values reply)
  IsAdapted (Ok reply) (Err error.Memory) = IsTrue (needs_memory (reply_values reply))
  IsAdapted (Ok reply) (Err (error.Client fault)) = ⊥
  IsAdapted (Err fault) result = result ≡ Err (error.Client fault)

-- the adapter calls the inner client once with this request, and adapts its reply
abbrev pub CallsAndAdapts : {C A E : Type 0}
    → (C → HttpRequest → Result HttpResponse E → C → Type 0)
    → (A → Reply → Reply) → (A → Reply → Bool)
    → C × A → HttpRequest → Result HttpResponse (AdapterError E) → C × A → Type 0
CallsAndAdapts {E = E} step adapted needs_memory before request result after =
    (answer : Result HttpResponse E) × step before.0 request answer after.0 × (after.1 ≡ before.1)
    × IsAdapted (adapted before.1) (needs_memory before.1) answer result
