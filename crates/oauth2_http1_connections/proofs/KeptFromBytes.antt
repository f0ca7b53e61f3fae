-- What a request over a client that uses connections again wrote and read.
use Rattle.std.proofs.Common.{◌≡◌, ℕ, Bool, List, Option, Some, None, Ok, Err, inl, inr, true, false, refl, sym, ap, subst, ◌∙◌}
use Rattle.std.specs.Prelude.{Result, ⊤, IfSome, option_map, codes}
use Rattle.std.specs.declared.io.Error as Io
use Rattle.http_header.specs.HeaderMap.{get}
use Rattle.http.specs.Request.{head_of}
use Rattle.http1.specs.Conn.{is_connect, states_framing}
use Rattle.http1.specs.Fields.{known_fields}
use Rattle.http1.specs.Framing.{method_kind}
use Rattle.http1.specs.Message.{Response}
use Rattle.oauth2_wire.specs.declared.error.RequestTokenError.{RequestTokenError}
use Rattle.oauth2_wire.specs.declared.error.RequestTokenError.TheVariants as token
use Rattle.oauth2_wire.specs.declared.request.RequestFault.TheVariants as fault
use Rattle.oauth2_wire.specs.Expected.{Configuration, expected_basic}
use Rattle.oauth2_wire.specs.Once.{AsksOnce}
use Rattle.oauth2_wire.specs.Reply.{HttpResponse, ReplyView, Answer, ShowsAnswer, reply_of}
use Rattle.oauth2_wire.specs.Request.{HttpRequest, IsRequestOf, view_of}
use Rattle.oauth2_http1.specs.declared.error.Http1Error.TheVariants as Error
use Rattle.oauth2_http1.specs.declared.fault.MessageFault as Fault
use Rattle.oauth2_http1.specs.declared.fault.MessageFault.TheVariants as why
use Rattle.oauth2_http1.specs.declared.fault.ReplyFault.{ReplyFault}
use Rattle.oauth2_http1.specs.Client.{reply_terms}
use Rattle.oauth2_http1.specs.FromBytes.{view_of_reply, BeginsWith}
use Rattle.oauth2_http1.specs.Message.{kept_fields}
use Rattle.oauth2_http1.specs.Origin.{Place}
use Rattle.oauth2_http1.specs.Reply.{Terms, IsResponseOf}
use Rattle.oauth2_http1.proofs.Replies.{reply_unique}
use Rattle.oauth2_http1_connections.specs.Client.{agent_of, IsSetAs, CannotSend, GetsReady, GetsNoReply, Calls}
use Rattle.oauth2_http1_connections.specs.Exchange.{Writes, Leaves}
use Rattle.oauth2_http1_connections.specs.Method.{is_idempotent}
use Rattle.oauth2_http1_connections.specs.Law.{EachHasHistory}
use Rattle.oauth2_http1_connections.specs.KeptFromBytes.{CannotPost, IsConfigured, Replied, Unread, NotReplied, FromKeptBytes, KeptResult}
use Rattle.oauth2_http1_connections.specs.declared.client.KeepAliveClient.{KeepAliveClient}
use Rattle.oauth2_http1_connections.specs.declared.error.KeepAliveError.{KeepAliveError}
use Rattle.oauth2_http1_connections.specs.declared.error.KeepAliveError.TheVariants.{Http1, Unanswered}
use Rattle.oauth2_http1_connections.proofs.Histories.{keeps_histories}
use Rattle.oauth2_http1_connections.proofs.KeptCarried.{carried, unframed}
use Rattle.oauth2_http1_connections.proofs.Next.{follows}

reply_view : (m : Response) (r : HttpResponse) → IsResponseOf m r → reply_of r ≡ view_of_reply m
reply_view m r is = λ i. record {
  status = is.status_is i;
  content_type = option_map (λ value. value.bytes) (get (is.headers_are i) (codes "content-type"));
  body = is.body_is i;
}

begins : (t : Terms) (closes kept : Bool) (known left : Option (List ℕ)) (reply : HttpResponse) → IfSome known (λ stream. Leaves t closes stream reply kept left)
    → IfSome known (BeginsWith t (reply_of reply))
begins t closes kept None left reply came = tt
begins t closes kept (Some stream) left reply came = record {
  reply = came.reply;
  rest = came.rest;
  reads = came.reads;
  only = λ another after took. reply_unique t took.0 came.reads.0 stream another came.reply after came.rest took.1 came.reads.1;
  is = reply_view came.reply reply came.is;
}

cannot_post : (c : Configuration) (text : List ℕ) (agent : Option (List ℕ)) (request : HttpRequest) (f : Fault.MessageFault) → IsRequestOf c text (view_of request)
    → CannotSend agent f request → CannotPost agent f request
cannot_post c text agent request why.NoOrigin is cannot = cannot
cannot_post c text agent request why.NoHost is cannot = cannot
cannot_post c text agent request why.BadPort is cannot = cannot
cannot_post c text agent request why.OwnFraming is (place, at, frames) =
    let plain = ap (λ h. states_framing (known_fields (kept_fields agent place h))) is.headers ∙ unframed agent place (expected_basic c) in cc
cannot_post c text agent request why.Connect is (place, at, tunnel) =
    let post : is_connect (method_kind (head_of request).method) ≡ false = ap (λ m. is_connect (method_kind m)) is.method in cc
cannot_post c text agent request (why.Refused e) is cannot = cannot
cannot_post c text agent request why.Memory is cannot = cannot

-- a POST may not be sent again
not_again : (c : Configuration) (text : List ℕ) (request : HttpRequest) (again : Bool) → IsRequestOf c text (view_of request)
    → again ≡ is_idempotent (head_of request).method → again ≡ false
not_again c text request again is told = told ∙ ap is_idempotent is.method

module _ {C S E D A T X : Type 0} (opens : C → Place → Result S E → C → Type 0) (looks : S → Bool → S → Type 0) (contents remaining : S → Option (List ℕ))
    (reads writes : S → Result ℕ Io.Error → S → Type 0) (flushes : S → Result ⊤ Io.Error → S → Type 0) (c : Configuration) (text : List ℕ) (meaning : D → A) (error_meaning : T → X) (says : ReplyView → Answer A X) (before after : KeepAliveClient C S) where
  abbrev Over : Result D (RequestTokenError (KeepAliveError E) T) → Type 0
  Over result = FromKeptBytes opens looks contents remaining reads writes flushes c text meaning error_meaning says before result after

  abbrev CameTo : (ReplyView → Type 0) → Type 0
  CameTo Says = Replied opens looks contents remaining reads writes flushes c text before after Says

  -- the client's one step with the request
  abbrev Steps : HttpRequest → Result HttpResponse (KeepAliveError E) → Type 0
  Steps request answer = Calls opens looks contents remaining reads writes flushes before request answer after

  -- what the reply says, by the result
  of_reply : (result : Result D (RequestTokenError (KeepAliveError E) T)) → CameTo (λ view. ShowsAnswer meaning error_meaning (says view) result) → Over result
  of_reply (Ok value) came = came
  of_reply (Err (token.ServerResponse error)) came = came
  of_reply (Err (token.Parse f body)) came = came
  of_reply (Err (token.Other what)) came = inl came
  of_reply (Err (token.Memory true)) came = record {
    request = came.request;
    response = came.response;
    answers = came.answers;
    configured = came.configured;
    says = tt;
    came = came.came;
  }
  of_reply (Err (token.Memory false)) came =
      let shown : false ≡ true = came.says in cc
  of_reply (Err (token.Request error)) came = absurd came.says

  configured : (request : HttpRequest) (place : Place) (used : Bool) (stream sent : S) (gets : GetsReady opens looks contents remaining place before used stream after)
      (wrote : Writes contents remaining reads writes flushes (agent_of before) before.bounds place request stream sent)
      → IsRequestOf c text (view_of request) → IsConfigured opens looks contents remaining reads writes flushes c text before request place gets.taken stream sent wrote
  configured request place used stream sent gets wrote is = record {
    is = is;
    read_as = carried c text (agent_of before) request place wrote.bytes is wrote.wire;
    follows = follows opens looks contents remaining reads writes flushes (agent_of before) before request place used gets.taken stream sent gets.ready wrote;
  }

  replied : (request : HttpRequest) (reply : HttpResponse) (result : Result D (RequestTokenError (KeepAliveError E) T)) → IsRequestOf c text (view_of request)
      → Steps request (Ok reply) → ShowsAnswer meaning error_meaning (says (reply_of reply)) result → Over result
  replied request reply result is did shown = of_reply result (record {
    request = request;
    response = reply;
    answers = did;
    configured = configured request did.place did.used did.stream did.exchange.sent did.gets did.exchange.wrote is;
    says = shown;
    came = subst (λ method. IfSome (remaining did.exchange.sent) (BeginsWith (reply_terms before.bounds method) (reply_of reply))) is.method
        (begins (reply_terms before.bounds (head_of request).method) _ did.kept (remaining did.exchange.sent) (remaining did.left) reply did.exchange.came);
  })

  unanswered : (request : HttpRequest) (f : ReplyFault) (used came : Bool) → IsRequestOf c text (view_of request)
      → GetsNoReply opens looks contents remaining reads writes flushes before request f used came after
      → Unread opens looks contents remaining reads writes flushes c text before f used came after
  unanswered request f used came is none = record {
    request = request;
    gets_none = none;
    configured = configured request none.place used none.stream none.sent none.gets none.wrote is;
  }

  -- the client failed
  failed : (request : HttpRequest) (error : KeepAliveError E) → IsRequestOf c text (view_of request)
      → Steps request (Err error) → NotReplied opens looks contents remaining reads writes flushes c text before error after
  failed request (Http1 (Error.Request f)) is did = (did.0, did.1, request, is, cannot_post c text (agent_of before) request f is did.2)
  failed request (Http1 (Error.Connect error)) is did = (request, is, did.0, did.1, did.2, did.3)
  failed request (Http1 (Error.Write error)) is did = (request, is, did)
  failed request (Http1 (Error.Reply f)) is did = (did.0, did.1, did.2, unanswered request f did.0 did.1 is did.3)
  failed request (Unanswered (Error.Request f) again) is did = absurd did
  failed request (Unanswered (Error.Connect error) again) is did = absurd did
  failed request (Unanswered (Error.Write error) again) is did = (not_again c text request again is did.0, (request, is, did.1))
  failed request (Unanswered (Error.Reply f) again) is did = (not_again c text request again is did.0, unanswered request f true false is did.1)

  abbrev Comes : Result D (RequestTokenError (KeepAliveError E) T) → Type 0
  Comes result = KeptResult opens looks contents remaining reads writes flushes c text meaning error_meaning says before result after

  abbrev Histories : KeepAliveClient C S → Type 0
  Histories client = EachHasHistory opens looks contents remaining reads writes flushes client

  -- after a step of the client
  stepped : (request : HttpRequest) (answer : Result HttpResponse (KeepAliveError E)) (result : Result D (RequestTokenError (KeepAliveError E) T))
      → IsSetAs before after → Steps request answer → Over result → Comes result
  stepped request answer result set did over = record {
    bytes = over;
    set = set;
    histories = λ each. (keeps_histories opens looks contents remaining reads writes flushes before request answer after each did).kept;
  }

  -- the client was not called
  uncalled : (result : Result D (RequestTokenError (KeepAliveError E) T)) → after ≡ before → Over result → Comes result
  uncalled result same over = record {
    bytes = over;
    set = record {
      bounds = ap (λ (client : KeepAliveClient C S). client.bounds) same;
      user_agent = ap (λ (client : KeepAliveClient C S). client.user_agent) same;
      most = ap (λ (client : KeepAliveClient C S). client.idle.most) same;
    };
    histories = subst Histories (sym same);
  }

  pub from_kept_bytes : (result : Result D (RequestTokenError (KeepAliveError E) T))
      → AsksOnce meaning error_meaning
      (λ old request answer new. IsSetAs old new × Calls opens looks contents remaining reads writes flushes old request answer new)
      says (IsRequestOf c) text before result after
      → KeptResult opens looks contents remaining reads writes flushes c text meaning error_meaning says before result after
  from_kept_bytes result (Ok request, is, target, (Ok reply, (set, did), shown)) =
      stepped request (Ok reply) result set did (replied request reply result is did shown)
  from_kept_bytes result (Ok request, is, target, (Err error, (set, did), shown)) =
      stepped request (Err error) result set did (subst Over (sym shown) (failed request error is did))
  from_kept_bytes (Err (token.Memory sent)) (Err kind, is, target, (unsent, same)) =
      uncalled (Err (token.Memory sent)) same (subst (λ b. Over (Err (token.Memory b))) (sym unsent) same)
  from_kept_bytes (Err (token.Other what)) (Err fault.NotHttp, is, target, (told, same)) =
      uncalled (Err (token.Other what)) same (inr (same, target refl, told))
  from_kept_bytes (Err (token.Other what)) (Err fault.Memory, is, target, unsent) = absurd unsent
  from_kept_bytes (Err (token.ServerResponse error)) (Err kind, is, target, unsent) = absurd unsent
  from_kept_bytes (Err (token.Request error)) (Err kind, is, target, unsent) = absurd unsent
  from_kept_bytes (Err (token.Parse f body)) (Err kind, is, target, unsent) = absurd unsent
  from_kept_bytes (Ok value) (Err kind, is, target, unsent) = absurd unsent
