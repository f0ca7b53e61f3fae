use Rattle.std.proofs.Common.{◌≤◌, ◌∷◌, not, ◌&&◌, length, take, refl, sym, ap, ◌∙◌, subst, Err}
use Rattle.std.specs.Prelude.{IfSome}
use Rattle.std.specs.Io.KnownBytes.{Appends}
use Rattle.http.specs.Request.{head_of}
use Rattle.http.specs.Response.{body_of}
use Rattle.http1.specs.Framing.{method_kind}
use Rattle.oauth2_http1.specs.Calls.{ReadsWithin}
use Rattle.oauth2_http1.specs.Client.{reply_terms}
use Rattle.oauth2_http1.specs.Kept.{TakesReply, ReadsAny, keeps_connection}
use Rattle.oauth2_http1.specs.Origin.{place_of, IsPlaceOf, NamesNoPlace}
use Rattle.oauth2_http1.proofs.ReplySteps.{terms_of}
use Rattle.oauth2_http1_connections.specs.Client.{agent_of, Calls}
use Rattle.oauth2_http1_connections.specs.Exchange.{request_closes}
use Rattle.oauth2_http1_connections.specs.Idle.{without}
use Rattle.oauth2_http1_connections.specs.Method.{is_idempotent}
use Rattle.oauth2_http1_connections.specs.private.Told.{told_as}
use Rattle.oauth2_http1.specs.declared.error.Http1Error.TheVariants as Error
use Rattle.oauth2_http1_connections.proofs.Steps.{no_place, leaves, no_reply, gets_from, set_trans, holds, write_told, fault_told}
use Rattle.oauth2_http1_connections.proofs.client.KeepAliveClientStreamSyncHttpClient.call.Goals as goal

pub returns-in-Err-clause-step : goal.returns-in-Err-clause-step
returns-in-Err-clause-step g c = (
  record { bounds = refl; user_agent = refl; most = refl },
  (refl, refl, no_place (agent_of c.args.self.now) c.in-Err.e c.args.request (subst (NamesNoPlace c.in-Err.e) c.uri.ensures c.in-Err.ensures.fault)),
)

pub returns-in-Err-send-clause-step : goal.returns-in-Err-send-clause-step
returns-in-Err-send-clause-step g c =
    let before = c.args.self.now in
    let next = c.connection.new.self in
    let place = place_of c.in-Ok.origin in
    let again = c.is_idempotent-again.ensures ∙ ap is_idempotent (c.as_bytes.ensures.value ∙ c.as_str.ensures.value ∙ c.method.ensures) in (
      set_trans before c.prepare.new.self next c.prepare.ensures.settings c.connection.ensures.settings,
      subst (λ e. Calls g.C.Connect.opens g.C.KeepAliveConnect.looks g.C.Stream.Transmit.contents g.C.Stream.Receive.remaining g.C.Stream.Receive.reads g.C.Stream.Transmit.writes g.C.Stream.Transmit.flushes before c.args.request (Err e) next)
          (sym c.failed.ensures)
          (write_told g.C.Connect.opens g.C.KeepAliveConnect.looks g.C.Stream.Transmit.contents g.C.Stream.Receive.remaining g.C.Stream.Receive.reads g.C.Stream.Transmit.writes g.C.Stream.Transmit.flushes before next c.args.request
          c.is_idempotent-again.result again c.in-Err-send.e c.in-Ok-connection.got.1 (record {
            place = place;
            can = record {
              is_place = subst (λ u. IsPlaceOf u place) c.uri.ensures c.in-Ok.ensures.place;
              bytes = c.in-Ok-prepare.prepared.0.bytes.items;
              wire = c.in-Ok-prepare.ensures.wire;
            };
            stream = c.in-Ok-connection.got.0;
            gets = gets_from g.C.Connect.opens g.C.KeepAliveConnect.looks g.C.Stream.Transmit.contents g.C.Stream.Receive.remaining place before c.prepare.new.self next next c.in-Ok-connection.got.1 c.in-Ok-connection.got.0 c.prepare.ensures.idle c.prepare.ensures.connect refl c.in-Ok-connection.ensures.gets;
            left = c.send.new.writer;
            fails = c.in-Err-send.ensures.calls;
            holds = c.connection.ensures.others ∙ ap (without place) c.prepare.ensures.idle;
          })),
    )

pub returns-in-Ok-take_reply-clause-step : goal.returns-in-Ok-take_reply-clause-step
returns-in-Ok-take_reply-clause-step g c =
    let before = c.args.self.now in
    let next = c.connection.new.self in
    let after = record next { idle = c.hold.new.self } in
    let place = place_of c.in-Ok.origin in
    let made = c.in-Ok-prepare.prepared.0 in
    let stream = c.take_reply.new.reader in
    let set = set_trans before c.prepare.new.self next c.prepare.ensures.settings c.connection.ensures.settings in
    let others = c.connection.ensures.others ∙ ap (without place) c.prepare.ensures.idle in
    let method = (head_of c.args.request).method in
    let terms = terms_of before.bounds.limits (method_kind method) made.client c.in-Ok-prepare.ensures.waits in
    let closes = request_closes (agent_of before) place c.args.request in
    let read = c.in-Ok-take_reply.read in
    let keeps = c.may_be_used_again-keeps.ensures ∙ ap (λ b. not b && keeps_connection read) c.in-Ok-prepare.ensures.closes in (
      record { bounds = set.bounds; user_agent = set.user_agent; most = c.hold.ensures.most ∙ set.most },
      record {
        place = place;
        used = c.in-Ok-connection.got.1;
        stream = c.in-Ok-connection.got.0;
        gets = gets_from g.C.Connect.opens g.C.KeepAliveConnect.looks g.C.Stream.Transmit.contents g.C.Stream.Receive.remaining place before c.prepare.new.self next after c.in-Ok-connection.got.1 c.in-Ok-connection.got.0 c.prepare.ensures.idle c.prepare.ensures.connect refl c.in-Ok-connection.ensures.gets;
        kept = c.may_be_used_again-keeps.result;
        left = stream;
        exchange = record {
          sent = c.send.new.writer;
          wrote = record {
            is_place = subst (λ u. IsPlaceOf u place) c.uri.ensures c.in-Ok.ensures.place;
            bytes = made.bytes.items;
            wire = c.in-Ok-prepare.ensures.wire;
            written = subst (Appends (g.C.Stream.Transmit.contents c.in-Ok-connection.got.0) (g.C.Stream.Transmit.contents c.send.new.writer)) c.deref.ensures.value c.in_default.ensures.bytes;
            sends = c.in_default.ensures.calls;
          };
          within = subst (λ b. ReadsWithin g.C.Stream.Receive.remaining g.C.Stream.Receive.reads b c.send.new.writer stream) set.bounds c.take_reply.ensures.reads;
          went = c.in-Ok-take_reply.ensures.went;
          bound = subst (λ b. length (body_of read.response).items ≤ b.max_body) set.bounds c.in-Ok-take_reply.ensures.bound;
          came = leaves (reply_terms before.bounds method) closes (g.C.Stream.Receive.remaining c.send.new.writer) (g.C.Stream.Receive.remaining stream) read c.may_be_used_again-keeps.result keeps
              (subst (λ t. IfSome (g.C.Stream.Receive.remaining c.send.new.writer) (λ s. TakesReply t s read (g.C.Stream.Receive.remaining stream))) terms c.in-Ok-take_reply.ensures.reply);
        };
        holds = holds place before after c.in-Ok-prepare.prepared.1 stream c.may_be_used_again-keeps.result c.in-Ok-prepare.ensures.place
            (λ is. c.hold.ensures.kept is ∙ (λ i. take (set.most i) (record { place = c.in-Ok-prepare.prepared.1; stream = stream } ∷ others i)))
            (λ is. c.hold.ensures.dropped is ∙ others);
      },
    )

pub returns-clause-step : goal.returns-clause-step
returns-clause-step g c =
    let before = c.args.self.now in
    let next = c.connection.new.self in
    let place = place_of c.in-Ok.origin in
    let made = c.in-Ok-prepare.prepared.0 in
    let set = set_trans before c.prepare.new.self next c.prepare.ensures.settings c.connection.ensures.settings in
    let method = (head_of c.args.request).method in
    let terms = terms_of before.bounds.limits (method_kind method) made.client c.in-Ok-prepare.ensures.waits in
    let again = c.is_idempotent-again.ensures ∙ ap is_idempotent (c.as_bytes.ensures.value ∙ c.as_str.ensures.value ∙ c.method.ensures) in
    let unread = c.in-Err-take_reply.unread in (
      set,
      subst (λ e. Calls g.C.Connect.opens g.C.KeepAliveConnect.looks g.C.Stream.Transmit.contents g.C.Stream.Receive.remaining g.C.Stream.Receive.reads g.C.Stream.Transmit.writes g.C.Stream.Transmit.flushes before c.args.request (Err e) next)
          (ap (λ b. told_as b c.is_idempotent-again.result (Error.Reply unread.fault)) (sym c.is_unanswered-unanswered.ensures) ∙ sym c.failed-in-Err-take_reply.ensures)
          (fault_told g.C.Connect.opens g.C.KeepAliveConnect.looks g.C.Stream.Transmit.contents g.C.Stream.Receive.remaining g.C.Stream.Receive.reads g.C.Stream.Transmit.writes g.C.Stream.Transmit.flushes before next c.args.request
          c.is_idempotent-again.result again unread.fault c.in-Ok-connection.got.1 unread.came (record {
            place = place;
            stream = c.in-Ok-connection.got.0;
            gets = gets_from g.C.Connect.opens g.C.KeepAliveConnect.looks g.C.Stream.Transmit.contents g.C.Stream.Receive.remaining place before c.prepare.new.self next next c.in-Ok-connection.got.1 c.in-Ok-connection.got.0 c.prepare.ensures.idle c.prepare.ensures.connect refl c.in-Ok-connection.ensures.gets;
            sent = c.send.new.writer;
            wrote = record {
              is_place = subst (λ u. IsPlaceOf u place) c.uri.ensures c.in-Ok.ensures.place;
              bytes = made.bytes.items;
              wire = c.in-Ok-prepare.ensures.wire;
              written = subst (Appends (g.C.Stream.Transmit.contents c.in-Ok-connection.got.0) (g.C.Stream.Transmit.contents c.send.new.writer)) c.deref.ensures.value c.in_default.ensures.bytes;
              sends = c.in_default.ensures.calls;
            };
            no_reply = no_reply before.bounds next.bounds method _ unread.fault _ set.bounds terms c.in-Err-take_reply.ensures.refused c.in-Err-take_reply.ensures.cause c.in-Err-take_reply.ensures.spent_bytes c.in-Err-take_reply.ensures.spent c.in-Err-take_reply.ensures.fields;
            left = c.take_reply.new.reader;
            fails = c.in-Err-take_reply.ensures.failed;
            any = subst (λ b. ReadsAny g.C.Stream.Receive.remaining g.C.Stream.Receive.reads b unread.came c.send.new.writer c.take_reply.new.reader) set.bounds c.in-Err-take_reply.ensures.came;
            holds = c.connection.ensures.others ∙ ap (without place) c.prepare.ensures.idle;
          })),
    )
