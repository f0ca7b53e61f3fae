-- An HTTP client that returns the same reply to every request.
use Rattle.std.specs.Prelude.{◌≡◌, ℕ, List, None, Result, Ok, Err, string_bytes}
use Rattle.std.specs.declared.alloc.AllocError.{AllocError}
use Rattle.oauth2_wire.specs.Request.{HttpRequest}
use Rattle.oauth2_wire.specs.Reply.{HttpResponse, ReplyView, reply_of}
use Rattle.oauth2_bench.specs.declared.canned.CannedClient.{CannedClient}

-- the reply with this body: status 200 and no Content-Type
abbrev pub canned_reply : List ℕ → ReplyView
canned_reply body = record { status = 200; content_type = None; body = body }

-- a call returns the reply, unless memory runs out, and leaves the client's body as it is
abbrev pub HandsBack : CannedClient → HttpRequest → Result HttpResponse AllocError → CannedClient
    → Type 0
HandsBack before request (Ok reply) after =
    (reply_of reply ≡ canned_reply (string_bytes before.body)) × (after.body ≡ before.body)
HandsBack before request (Err error) after = after.body ≡ before.body
