-- What a request over an HTTP/1.1 client wrote and read.
use Rattle.std.proofs.Common.{◌≡◌, ℕ, List, Option, Some, None, Ok, Err, inl, inr, true, false, String, Global, refl, sym, ap, subst, ◌∙◌}
use Rattle.std.specs.Prelude.{Result, ⊤, Vec, IfSome, IsTrue, option_map, codes, string_bytes}
use Rattle.std.specs.declared.io.Error as Io
use Rattle.http_header.specs.HeaderMap.{get}
use Rattle.http.specs.Request.{head_of}
use Rattle.http1.specs.Conn.{is_connect, states_framing}
use Rattle.http1.specs.Fields.{known_fields}
use Rattle.http1.specs.Framing.{method_kind}
use Rattle.http1.specs.Message.{Response}
use Rattle.oauth2_json.specs.declared.read.ParseFault.{ParseFault}
use Rattle.oauth2_json.specs.Reading.{fault_of}
use Rattle.oauth2_wire.specs.declared.error.RequestTokenError.{RequestTokenError}
use Rattle.oauth2_wire.specs.declared.error.RequestTokenError.TheVariants as token
use Rattle.oauth2_wire.specs.declared.request.RequestFault.TheVariants as fault
use Rattle.oauth2_wire.specs.Expected.{Configuration, expected_basic}
use Rattle.oauth2_wire.specs.Once.{AsksOnce}
use Rattle.oauth2_wire.specs.Reply.{HttpResponse, ReplyView, Answer, accepted, refused, unread, other, ShowsAnswer, reply_of}
use Rattle.oauth2_wire.specs.Request.{HttpRequest, IsRequestOf, view_of}
use Rattle.oauth2_http1.specs.declared.client.Http1Client.{Http1Client}
use Rattle.oauth2_http1.specs.declared.error.Http1Error.{Http1Error}
use Rattle.oauth2_http1.specs.declared.error.Http1Error.TheVariants as http
use Rattle.oauth2_http1.specs.declared.fault.MessageFault as Fault
use Rattle.oauth2_http1.specs.declared.fault.MessageFault.TheVariants as why
use Rattle.oauth2_http1.specs.Origin.{Place}
use Rattle.oauth2_http1.specs.Message.{sent_fields}
use Rattle.oauth2_http1.specs.Reply.{Terms, IsResponseOf, GivesReply}
use Rattle.oauth2_http1.specs.Client.{Writes, Exchanges, CannotSend, NoReply, reply_terms}
use Rattle.oauth2_http1.specs.FromBytes.{view_of_reply, BeginsWith, CannotPost, SendsBytes, Replied, NotReplied, FromBytes}
use Rattle.oauth2_http1.proofs.Carried.{carried, unframed}
use Rattle.oauth2_http1.proofs.Replies.{reply_unique}

-- an answer that a reply shows, by the result; of the reply R says
module _ {D A T X RE : Type 0} (meaning : D → A) (error_meaning : T → X) (says : ReplyView → Answer A X) (R : (ReplyView → Type 0) → Type 0)
    (P : Result D (RequestTokenError RE T) → Type 0) where
  of_shown : ((Says : ReplyView → Type 0) → R Says → (view : ReplyView) × Says view)
      → ((value : D) → R (λ view. says view ≡ accepted (meaning value)) → P (Ok value))
      → ((error : T) → R (λ view. says view ≡ refused (error_meaning error)) → P (Err (token.ServerResponse error)))
      → ((f : ParseFault) (body : Vec ℕ Global) → R (λ view. says view ≡ unread (fault_of f) body.items) → P (Err (token.Parse f body)))
      → ((what : String Global) → R (λ view. says view ≡ other (string_bytes what)) → P (Err (token.Other what)))
      → (R (λ view. IsTrue true) → P (Err (token.Memory true)))
      → (result : Result D (RequestTokenError RE T)) → R (λ view. ShowsAnswer meaning error_meaning (says view) result) → P result
  of_shown view value error fault text memory (Ok v) came = value v came
  of_shown view value error fault text memory (Err (token.ServerResponse e)) came = error e came
  of_shown view value error fault text memory (Err (token.Parse f body)) came = fault f body came
  of_shown view value error fault text memory (Err (token.Other what)) came = text what came
  of_shown view value error fault text memory (Err (token.Memory true)) came = memory came
  of_shown view value error fault text memory (Err (token.Memory false)) came =
      let shown : false ≡ true = (view (λ it. IsTrue false) came).1 in cc
  of_shown view value error fault text memory (Err (token.Request e)) came = absurd (view (λ it. ⊥) came).1

reply_view : (m : Response) (r : HttpResponse) → IsResponseOf m r → reply_of r ≡ view_of_reply m
reply_view m r is = λ i. record {
  status = is.status_is i;
  content_type = option_map (λ value. value.bytes) (get (is.headers_are i) (codes "content-type"));
  body = is.body_is i;
}

begins : (t : Terms) (reply : HttpResponse) (known : Option (List ℕ)) → IfSome known (λ stream. GivesReply t stream reply)
    → IfSome known (BeginsWith t (reply_of reply))
begins t reply None given = tt
begins t reply (Some stream) (m, rest, reads, is) = record {
  reply = m;
  rest = rest;
  reads = reads;
  only = λ another after took. reply_unique t took.0 reads.0 stream another m after rest took.1 reads.1;
  is = reply_view m reply is;
}

cannot_post : (c : Configuration) (text : List ℕ) (request : HttpRequest) (f : Fault.MessageFault) → IsRequestOf c text (view_of request)
    → CannotSend f request → CannotPost f request
cannot_post c text request why.NoOrigin is cannot = cannot
cannot_post c text request why.NoHost is cannot = cannot
cannot_post c text request why.BadPort is cannot = cannot
cannot_post c text request why.OwnFraming is (place, at, frames) =
    let plain = ap (λ h. states_framing (known_fields (sent_fields place h))) is.headers ∙ unframed place (expected_basic c) in cc
cannot_post c text request why.Connect is (place, at, tunnel) =
    let post : is_connect (method_kind (head_of request).method) ≡ false = ap (λ m. is_connect (method_kind m)) is.method in cc
cannot_post c text request (why.Refused e) is cannot = cannot
cannot_post c text request why.Memory is cannot = cannot

module _ {C S E D A T X : Type 0} (opens : C → Place → Result S E → C → Type 0) (contents remaining : S → Option (List ℕ))
    (reads writes : S → Result ℕ Io.Error → S → Type 0) (flushes : S → Result ⊤ Io.Error → S → Type 0) (c : Configuration) (text : List ℕ) (meaning : D → A) (error_meaning : T → X) (says : ReplyView → Answer A X) (before after : Http1Client C) where
  abbrev Over : Result D (RequestTokenError (Http1Error E) T) → Type 0
  Over result = FromBytes opens contents remaining reads writes flushes c text meaning error_meaning says before result after

  sends : (request : HttpRequest) (sent : S) → IsRequestOf c text (view_of request)
      → Writes opens contents remaining reads writes flushes before.connect request sent after.connect → after.bounds ≡ before.bounds
      → SendsBytes opens contents remaining reads writes flushes c text before sent after
  sends request sent is wrote bounds = record {
    request = request;
    is = is;
    wrote = wrote;
    read_as = carried c text request wrote.place wrote.bytes is wrote.wire;
    bounds = bounds;
  }

  -- a reply came
  of_reply : (result : Result D (RequestTokenError (Http1Error E) T))
      → Replied opens contents remaining reads writes flushes c text before after (λ view. ShowsAnswer meaning error_meaning (says view) result) → Over result
  of_reply result came =
      of_shown meaning error_meaning says (Replied opens contents remaining reads writes flushes c text before after) Over
      (λ Says came. (came.view, came.says))
      (λ value came. came)
      (λ error came. came)
      (λ f body came. came)
      (λ what came. inl came)
      (λ came. record { sent = came.sent; sends = came.sends; view = came.view; says = tt; within = came.within; came = came.came })
      result came

  replied : (request : HttpRequest) (reply : HttpResponse) (result : Result D (RequestTokenError (Http1Error E) T)) → IsRequestOf c text (view_of request)
      → Exchanges opens contents remaining reads writes flushes before request (Ok reply) after → ShowsAnswer meaning error_meaning (says (reply_of reply)) result → Over result
  replied request reply result is did shown = of_reply result (record {
    sent = did.1;
    sends = sends request did.1 is did.2 did.0;
    view = reply_of reply;
    says = shown;
    within = did.4;
    came = begins (reply_terms before.bounds (codes "POST")) reply (remaining did.1)
        (subst (λ method. IfSome (remaining did.1) (λ stream. GivesReply (reply_terms before.bounds method) stream reply)) is.method did.3);
  })

  -- the client failed
  failed : (request : HttpRequest) (error : Http1Error E) → IsRequestOf c text (view_of request)
      → Exchanges opens contents remaining reads writes flushes before request (Err error) after → NotReplied opens contents remaining reads writes flushes c text before error after
  failed request (http.Request f) is did = (did.0, request, is, cannot_post c text request f is did.1)
  failed request (http.Connect error) is did = (did.0, request, is, did.1, did.2)
  failed request (http.Write error) is did = (did.0, request, is, did.1, did.2, did.3, did.4, did.5)
  failed request (http.Reply f) is did = (
    did.1,
    sends request did.1 is did.2 did.0,
    subst (λ method. NoReply f before.bounds method (remaining did.1)) is.method did.3,
    did.4,
    did.5,
  )

  pub from_bytes : (result : Result D (RequestTokenError (Http1Error E) T))
      → AsksOnce meaning error_meaning (Exchanges opens contents remaining reads writes flushes) says (IsRequestOf c) text before result after
      → FromBytes opens contents remaining reads writes flushes c text meaning error_meaning says before result after
  from_bytes result (Ok request, is, target, (Ok reply, did, shown)) = replied request reply result is did shown
  from_bytes result (Ok request, is, target, (Err error, did, shown)) = subst Over (sym shown) (failed request error is did)
  from_bytes (Err (token.Memory sent)) (Err kind, is, target, (unsent, same)) = subst (λ b. Over (Err (token.Memory b))) (sym unsent) same
  from_bytes (Err (token.Other what)) (Err fault.NotHttp, is, target, (told, same)) = inr (same, target refl, told)
  from_bytes (Err (token.Other what)) (Err fault.Memory, is, target, unsent) = absurd unsent
  from_bytes (Err (token.ServerResponse error)) (Err kind, is, target, unsent) = absurd unsent
  from_bytes (Err (token.Request error)) (Err kind, is, target, unsent) = absurd unsent
  from_bytes (Err (token.Parse f body)) (Err kind, is, target, unsent) = absurd unsent
  from_bytes (Ok value) (Err kind, is, target, unsent) = absurd unsent
