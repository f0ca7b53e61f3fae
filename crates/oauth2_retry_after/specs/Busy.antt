-- A call of a client that tells by its error that a server is busy.
use Rattle.std.specs.Prelude.{◌≡◌, ℕ, false, IsTrue, Option, None, option_map, Result, Ok, Err}
use Rattle.std.specs.Duration.{as_nanos}
use Rattle.http.specs.Response.{head_of}
use Rattle.oauth2_wire.specs.Reply.{HttpResponse}
use Rattle.oauth2_wire.specs.Request.{HttpRequest}
use Rattle.oauth2_retry_after.specs.RetryAfter.{is_busy, asked_wait}
use Rattle.oauth2_retry_after.specs.declared.error.BusyError.{BusyError}
use Rattle.oauth2_retry_after.specs.declared.error.BusyError.TheVariants.{Busy, Client}

-- the wait that an error says that the server asks for, in nanoseconds; an error of the inner
-- client says none
abbrev pub wait_asked_by : {E : Type 0} → BusyError E → Option ℕ
wait_asked_by (Busy status retry_after) = option_map as_nanos retry_after
wait_asked_by (Client error) = None

-- what is returned for an answer of the inner client: a reply with status 429 or 503 becomes an
-- error with its status and the wait that it asks for (RFC 6585, 4; RFC 9110, 10.2.3 and 15.6.4);
-- any other reply is returned as it is, and so is an error
abbrev pub IsTold : {E : Type 0} → Result HttpResponse E → Result HttpResponse (BusyError E)
    → Type 0
IsTold (Ok reply) (Ok told) = (is_busy (head_of reply).status ≡ false) × (told ≡ reply)
IsTold (Ok reply) (Err (Busy status retry_after)) =
    IsTrue (is_busy (head_of reply).status)
    × (status ≡ (head_of reply).status)
    × (option_map as_nanos retry_after ≡ asked_wait reply)
IsTold (Ok reply) (Err (Client error)) = ⊥
IsTold (Err error) result = result ≡ Err (Client error)

-- the inner client is called once with this request, and its answer is told
abbrev pub CallsAndTells : {C E : Type 0} → (C → HttpRequest → Result HttpResponse E → C → Type 0)
    → C → HttpRequest → Result HttpResponse (BusyError E) → C → Type 0
CallsAndTells {E = E} step before request result after = (answer : Result HttpResponse E) × step before request answer after × IsTold answer result
