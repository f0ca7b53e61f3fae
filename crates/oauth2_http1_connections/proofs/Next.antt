-- One exchange behind those that a connection carried since it was opened.
use Rattle.std.proofs.Common.{ℕ, Bool, false, List, [], ◌∷◌, ◌++◌, Option, None, Some, refl, sym, subst, append_assoc}
use Rattle.std.specs.Prelude.{⊤, Result, IfSome}
use Rattle.std.specs.List.{AllByRecursion}
use Rattle.std.specs.declared.io.Error as Io
use Rattle.std.specs.Io.KnownBytes.{Appends}
use Rattle.std.proofs.KnownBytes.{Appends-trans}
use Rattle.http.specs.Request.{head_of}
use Rattle.http1.specs.declared.conn.Limits.{Limits}
use Rattle.http1.specs.Message.{Response}
use Rattle.oauth2_http1.specs.Client.{reply_terms}
use Rattle.oauth2_http1.specs.Origin.{Place}
use Rattle.oauth2_http1.specs.Message.{ReadsOnly}
use Rattle.oauth2_http1.specs.Reply.{ReadsReply, IsResponseOf}
use Rattle.oauth2_wire.specs.Request.{HttpRequest}
use Rattle.oauth2_wire.specs.Reply.{HttpResponse}
use Rattle.oauth2_http1_connections.specs.Client.{agent_of, Answers}
use Rattle.oauth2_http1_connections.specs.Exchange.{IsReady, Writes, Leaves}
use Rattle.oauth2_http1_connections.specs.Law.{Asked, asked_of, BeginsWithReplies, BeginsWithRequests, seen_of, HasHistory, Follows, IsNext}
use Rattle.oauth2_http1_connections.specs.Law.{written_since, read_since}
use Rattle.oauth2_http1_connections.proofs.Chains.{replies, requests, ready_written, written}
use Rattle.oauth2_http1_connections.specs.declared.client.KeepAliveClient.{KeepAliveClient}

all_before : {A : Type 0} (P : A → Type 0) (xs : List A) (x : A) → AllByRecursion P (xs ++ x ∷ []) → AllByRecursion P xs × P x
all_before P [] x (last, none) = (tt, last)
all_before P (first ∷ more) x (one, all) =
    let parts = all_before P more x all in ((one, parts.0), parts.1)

one_more_reply : (all : List Asked) (asked : Asked) (whole stream rest : List ℕ) (reply : Response) → BeginsWithReplies all whole stream
    → ReadsReply (reply_terms asked.bounds (head_of asked.request).method) stream reply rest → IsResponseOf reply asked.response
    → BeginsWithReplies (all ++ asked ∷ []) whole rest
one_more_reply [] asked whole stream rest reply same reads is =
    (reply, rest, subst (λ s. ReadsReply (reply_terms asked.bounds (head_of asked.request).method) s reply rest) (sym same) reads, is, refl)
one_more_reply (first ∷ later) asked whole stream rest reply (one, after, begun, first_is, others) reads is =
    (one, after, begun, first_is, one_more_reply later asked after stream rest reply others reads is)

one_more_request : (limits : Limits) (place : Place) (all : List Asked) (asked : Asked) (whole stream rest : List ℕ) → BeginsWithRequests limits place all whole stream
    → ReadsOnly limits stream (seen_of place asked) rest → BeginsWithRequests limits place (all ++ asked ∷ []) whole rest
one_more_request limits place [] asked whole stream rest same reads =
    (rest, subst (λ s. ReadsOnly limits s (seen_of place asked) rest) (sym same) reads, refl)
one_more_request limits place (first ∷ later) asked whole stream rest (after, begun, others) reads =
    (after, begun, one_more_request limits place later asked after stream rest others reads)

-- what holds of a known stream
if_some : (P : List ℕ → Type 0) (known : Option (List ℕ)) → ((stream : List ℕ) → P stream) → IfSome known P
if_some P None each = tt
if_some P (Some stream) each = each stream

next_replies : (all : List Asked) (asked : Asked) (front : List ℕ) (closes kept : Bool) (known left : Option (List ℕ)) → IfSome known (λ stream. BeginsWithReplies all (front ++ stream) stream)
    → IfSome known (λ stream. Leaves (reply_terms asked.bounds (head_of asked.request).method) closes stream asked.response kept left)
    → IfSome known (λ stream. (rest : List ℕ) × BeginsWithReplies (all ++ asked ∷ []) (front ++ stream) rest)
next_replies all asked front closes kept None left begun came = tt
next_replies all asked front closes kept (Some stream) left begun came =
    (came.rest, one_more_reply all asked (front ++ stream) stream came.rest came.reply begun came.reads came.is)

module _ {C S E : Type 0} (opens : C → Place → Result S E → C → Type 0) (looks : S → Bool → S → Type 0) (contents remaining : S → Option (List ℕ))
    (reads writes : S → Result ℕ Io.Error → S → Type 0) (flushes : S → Result ⊤ Io.Error → S → Type 0) where
  pub follows : (agent : Option (List ℕ)) (before : KeepAliveClient C S) (request : HttpRequest) (place : Place) (used : Bool) (taken stream sent : S)
      → IsReady looks contents remaining used taken stream →
      (wrote : Writes contents remaining reads writes flushes agent before.bounds place request stream sent)
      (history : HasHistory opens looks contents remaining reads writes flushes place taken)
      → Follows opens looks contents remaining reads writes flushes place taken history wrote.bytes sent
  follows agent before request place used taken stream sent ready wrote history =
      let all = history.exchanges in
      let earlier = written_since opens looks contents remaining reads writes flushes place taken history in
      record {
        written = λ leave. Appends-trans (contents history.opened) (contents taken) (contents sent) _ _
            (written looks contents remaining reads writes flushes place leave false all history.opened taken history.carried)
            (subst (λ c. Appends c (contents sent) wrote.bytes) (ready_written looks contents remaining reads writes flushes place used taken stream ready) wrote.written);
        requests = λ limits more takes. subst (λ s. BeginsWithRequests limits place all s (wrote.bytes ++ more))
            (sym (append_assoc earlier wrote.bytes more))
            (requests looks contents remaining reads writes flushes place limits false all history.opened taken history.carried (wrote.bytes ++ more) takes);
        replies = λ known. if_some _ (remaining sent)
            (λ rest. replies looks contents remaining reads writes flushes place false all history.opened taken history.carried rest known);
      }

  pub is_next : (before after : KeepAliveClient C S) (request : HttpRequest) (response : HttpResponse)
      (did : Answers opens looks contents remaining reads writes flushes before request response after)
      (history : HasHistory opens looks contents remaining reads writes flushes did.place did.gets.taken)
      → IsNext opens looks contents remaining reads writes flushes did.place did.gets.taken history
      (asked_of before request response)
      did.exchange.wrote.bytes did.exchange.sent
  is_next before after request response did history =
      let asked = asked_of before request response in
      let place = did.place in
      let wrote = did.exchange.wrote in
      let all = history.exchanges in
      let behind = follows (agent_of before) before request place did.used did.gets.taken did.stream did.exchange.sent did.gets.ready wrote history in
      record {
        follows = behind;
        requests = λ limits more takes.
            let parts = all_before _ all asked takes in
            one_more_request limits place all asked _ (wrote.bytes ++ more) more (behind.requests limits more parts.0) (wrote.wire.read limits more parts.1);
        replies = λ known. next_replies all asked (read_since opens looks contents remaining reads writes flushes place did.gets.taken history) _ did.kept
            (remaining did.exchange.sent) (remaining did.left) (behind.replies known) did.exchange.came;
      }
