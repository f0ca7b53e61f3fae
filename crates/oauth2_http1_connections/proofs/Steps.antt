-- The steps of one call.
use Rattle.std.proofs.Common.{◌≡◌, ℕ, ◌<◌, Bool, true, false, inl, inr, not, ◌&&◌, eqb, List, ◌∷◌, length, take, Option, None, Some, Ok, Err, refl, sym, ap, ◌∙◌, subst}
use Rattle.std.specs.Prelude.{⊤, Result, IfSome}
use Rattle.std.specs.declared.io.Error as Io
use Rattle.http.specs.Request.{head_of}
use Rattle.oauth2_wire.specs.Request.{HttpRequest}
use Rattle.oauth2_http1.specs.declared.error.Http1Error.TheVariants as Error
use Rattle.oauth2_http1.specs.declared.fault.MessageFault.{MessageFault}
use Rattle.oauth2_http1.specs.declared.fault.MessageFault.TheVariants as Fault
use Rattle.oauth2_http1.specs.declared.bounds.Bounds.{Bounds}
use Rattle.oauth2_http1.specs.declared.fault.ReplyFault.{ReplyFault}
use Rattle.oauth2_http1.specs.declared.fault.ReplyFault.TheVariants as Reading
use Rattle.oauth2_http1.specs.Bounds.{most_bytes}
use Rattle.oauth2_http1.specs.Cause.{HasCause}
use Rattle.oauth2_http1.specs.Client.{reply_terms, NoReply}
use Rattle.oauth2_http1.specs.Unread.{Refuses, Spent, longest_name}
use Rattle.oauth2_http1.specs.declared.kept.ReplyRead.{ReplyRead}
use Rattle.oauth2_http1.specs.Kept.{TakesReply, keeps_connection}
use Rattle.oauth2_http1.specs.Origin.{Place, NamesNoPlace}
use Rattle.oauth2_http1.specs.Reply.{Terms}
use Rattle.oauth2_http1_connections.specs.Client.{IsSetAs, CannotSend, IsSilent, HasNoSilent, GetsReady, FailsToOpen, HoldsAfter, GetsNoReply, FailsToWrite, Calls}
use Rattle.oauth2_http1_connections.specs.Exchange.{Leaves}
use Rattle.oauth2_http1_connections.specs.Idle.{text_of, find, without}
use Rattle.oauth2_http1_connections.specs.Method.{is_idempotent}
use Rattle.oauth2_http1_connections.specs.private.Told.{told_as}
use Rattle.oauth2_http1_connections.specs.declared.client.KeepAliveClient.{KeepAliveClient}
use Rattle.oauth2_http1_connections.specs.declared.idle.OwnPlace.{OwnPlace}

pub no_place : (agent : Option (List ℕ)) (e : MessageFault) (r : HttpRequest) → NamesNoPlace e (head_of r).uri → CannotSend agent e r
no_place agent Fault.NoOrigin r none = none
no_place agent Fault.NoHost r none = none
no_place agent Fault.BadPort r none = none
no_place agent Fault.OwnFraming r none = absurd none
no_place agent Fault.Connect r none = absurd none
no_place agent (Fault.Refused e) r none = absurd none
no_place agent Fault.Memory r none = absurd none

-- where a connection is kept, no byte of the reply is left over
pub leaves : (t : Terms) (closes : Bool) (known left : Option (List ℕ)) (read : ReplyRead) (kept : Bool) → kept ≡ (not closes && keeps_connection read)
    → IfSome known (λ stream. TakesReply t stream read left) → IfSome known (λ stream. Leaves t closes stream read.response kept left)
leaves t closes None left read kept is took = tt
leaves t closes (Some stream) left read kept is took = record {
  reply = took.reply;
  rest = took.rest;
  reads = took.reads;
  is = took.is;
  beyond = read.beyond.items;
  follows = λ ends. took.rest_is (took.ended_is ∙ ends);
  kept_is = is ∙ (λ i. not closes && (took.ended_is i && (took.persists_is i && eqb (length read.beyond.items) 0)));
}

-- why no reply was read, by the terms and the bounds of the client
pub no_reply : (bounds now : Bounds) (method : List ℕ) (t : Terms) (fault : ReplyFault) (known : Option (List ℕ)) → now ≡ bounds → t ≡ reply_terms bounds method
    → Refuses fault t now.max_body known → IfSome known (HasCause fault t) → (fault ≡ Reading.TooManyBytes → Spent (most_bytes now) known) → (fault ≡ Reading.TooManyReads → Spent now.max_reads known)
    → (fault ≡ Reading.Fields → longest_name < t.limits.max_head_len) → NoReply fault bounds method known
no_reply bounds now method t fault known same terms refused cause spent_bytes spent fields = record {
  refused = subst (λ b. Refuses fault (reply_terms bounds method) b.max_body known) same (subst (λ x. Refuses fault x now.max_body known) terms refused);
  cause = subst (λ x. IfSome known (HasCause fault x)) terms cause;
  spent_bytes = λ is. subst (λ b. Spent (most_bytes b) known) same (spent_bytes is);
  spent = λ is. subst (λ b. Spent b.max_reads known) same (spent is);
  fields = λ is. subst (λ x. longest_name < x.limits.max_head_len) terms (fields is);
}

module _ {C S E : Type 0} (opens : C → Place → Result S E → C → Type 0) (looks : S → Bool → S → Type 0) (contents remaining : S → Option (List ℕ)) where
  none_silent : (place : Place) (before mid : KeepAliveClient C S) → mid.idle.kept.items ≡ before.idle.kept.items → HasNoSilent looks contents remaining place mid
      → HasNoSilent looks contents remaining place before
  none_silent place before mid kept (inl none) = inl (ap (find place) (sym kept) ∙ none)
  none_silent place before mid kept (inr (idle, left, found, looked)) = inr (idle, left, ap (find place) (sym kept) ∙ found, looked)

  -- the idle connection, which was looked at
  pub gets_silent : (place : Place) (before next : KeepAliveClient C S) (stream : S) → next.connect ≡ before.connect → IsSilent looks contents remaining place before stream
      → GetsReady opens looks contents remaining place before true stream next
  gets_silent place before next stream same (idle, found, looked) = record { taken = idle; gets = (found, same); ready = looked }

  -- a connection that was opened
  pub gets_opened : (place : Place) (before mid next : KeepAliveClient C S) (stream : S) → mid.connect ≡ before.connect → HasNoSilent looks contents remaining place before
      → opens mid.connect place (Ok stream) next.connect → GetsReady opens looks contents remaining place before false stream next
  gets_opened place before mid next stream same none opened =
      record { taken = stream; gets = (none, subst (λ c. opens c place (Ok stream) next.connect) same opened); ready = inl refl }

  -- what is taken after the client made room for one more connection
  pub gets_from : (place : Place) (before mid next after : KeepAliveClient C S) (used : Bool) (stream : S) → mid.idle.kept.items ≡ before.idle.kept.items
      → mid.connect ≡ before.connect → after.connect ≡ next.connect → GetsReady opens looks contents remaining place mid used stream next → GetsReady opens looks contents remaining place before used stream after
  gets_from place before mid next after true stream kept same last got =
      record { taken = got.taken; gets = (ap (find place) (sym kept) ∙ got.gets.0, last ∙ got.gets.1 ∙ same); ready = got.ready }
  gets_from place before mid next after false stream kept same last got = record {
    taken = got.taken;
    gets = (
      none_silent place before mid kept got.gets.0,
      subst (λ c. opens c place (Ok got.taken) after.connect) same (subst (opens mid.connect place (Ok got.taken)) (sym last) got.gets.1),
    );
    ready = got.ready;
  }

  pub opens_none : (place : Place) (before mid next : KeepAliveClient C S) (error : E) → mid.idle.kept.items ≡ before.idle.kept.items
      → mid.connect ≡ before.connect → FailsToOpen opens looks contents remaining place mid error next → FailsToOpen opens looks contents remaining place before error next
  opens_none place before mid next error kept same (none, failed) =
      (none_silent place before mid kept none, subst (λ c. opens c place (Err error) next.connect) same failed)

module _ {C S : Type 0} where
  pub set_trans : (a b c : KeepAliveClient C S) → IsSetAs a b → IsSetAs b c → IsSetAs a c
  set_trans a b c x y = record {
    bounds = y.bounds ∙ x.bounds;
    user_agent = y.user_agent ∙ x.user_agent;
    most = y.most ∙ x.most;
  }

  -- what is held, by whether the connection is kept
  pub holds : (place : Place) (before after : KeepAliveClient C S) (own : OwnPlace) (stream : S) (keeps : Bool) → text_of own ≡ place
      → (keeps ≡ true → after.idle.kept.items ≡ take before.idle.most (record { place = own; stream = stream } ∷ without place before.idle.kept.items))
      → (keeps ≡ false → after.idle.kept.items ≡ without place before.idle.kept.items) → HoldsAfter place before stream keeps after
  holds place before after own stream true is kept dropped = (own, is, kept refl)
  holds place before after own stream false is kept dropped = dropped refl

module _ {C S E : Type 0} (opens : C → Place → Result S E → C → Type 0) (looks : S → Bool → S → Type 0) (contents remaining : S → Option (List ℕ))
    (reads writes : S → Result ℕ Io.Error → S → Type 0) (flushes : S → Result ⊤ Io.Error → S → Type 0) (before after : KeepAliveClient C S) (request : HttpRequest) (again : Bool) (is : again ≡ is_idempotent (head_of request).method) where
  pub write_told : (error : Io.Error) (used : Bool) → FailsToWrite opens looks contents remaining reads writes flushes before request error used after
      → Calls opens looks contents remaining reads writes flushes before request (Err (told_as used again (Error.Write error))) after
  write_told error true fails = (is, fails)
  write_told error false fails = fails

  pub fault_told : (fault : ReplyFault) (used came : Bool) → GetsNoReply opens looks contents remaining reads writes flushes before request fault used came after
      → Calls opens looks contents remaining reads writes flushes before request (Err (told_as (used && not came) again (Error.Reply fault))) after
  fault_told fault true true fails = (true, true, (λ same. refl), fails)
  fault_told fault true false fails = (is, fails)
  fault_told fault false came fails = (false, came, (λ same. let no : false ≡ true = same in cc), fails)
