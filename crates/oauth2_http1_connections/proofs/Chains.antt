-- Exchanges one after the other over one connection.
use Rattle.std.proofs.Common.{◌≡◌, ℕ, Bool, true, false, inl, inr, not, ◌&&◌, List, [], ◌∷◌, ◌++◌, length, Option, None, Some, refl, sym, ap, ◌∙◌, subst, append-nil, append_assoc, arith}
use Rattle.std.specs.Prelude.{⊤, Result, IfSome, IsSome}
use Rattle.std.specs.declared.io.Error.{Error}
use Rattle.std.specs.Io.KnownBytes.{Appends, Keeps, Consumes}
use Rattle.std.proofs.KnownBytes.{Appends-trans, Keeps-trans}
use Rattle.std.proofs.lemmas.Bool.{eqb-true}
use Rattle.std.proofs.lemmas.List.{append_cancel_right}
use Rattle.http.specs.Request.{head_of}
use Rattle.http1.specs.declared.conn.Limits.{Limits}
use Rattle.http1.specs.Message.{Response}
use Rattle.oauth2_http1.specs.Calls.{Made}
use Rattle.oauth2_http1.specs.Client.{reply_terms}
use Rattle.oauth2_http1.specs.Kept.{ends_itself, persists}
use Rattle.oauth2_http1.specs.Origin.{Place}
use Rattle.oauth2_http1.specs.Reply.{Terms, ReadsAfter, ReadsReply, IsResponseOf}
use Rattle.oauth2_http1.specs.Message.{ReadsOnly}
use Rattle.oauth2_wire.specs.Reply.{HttpResponse}
use Rattle.oauth2_http1_connections.specs.Exchange.{LookedAt, IsReady, Exchange, Leaves}
use Rattle.oauth2_http1_connections.specs.Law.{Asked, Carries, sent_bytes, read_bytes, AreKnown, ReadsLeave, BeginsWithReplies, TakesAll, BeginsWithRequests, seen_of}
use Rattle.oauth2_http1_connections.proofs.Delimits.{reply_delimited}

pub and_parts : (a b : Bool) → (a && b) ≡ true → (a ≡ true) × (b ≡ true)
and_parts true b is = (refl, is)
and_parts false b is = cc

none_left : (bytes : List ℕ) → length bytes ≡ 0 → bytes ≡ []
none_left [] is = refl
none_left (b ∷ bs) is = absurd (omega (arith, is))

-- the bytes that were read from a connection that is kept are those of the reply, whatever follows
one_reply : (t : Terms) (closes : Bool) (known left : Option (List ℕ)) (response : HttpResponse) (bytes more : List ℕ) → IsSome known → Consumes known left bytes
    → IfSome known (λ stream. Leaves t closes stream response true left)
    → (reply : Response) × ReadsReply t (bytes ++ more) reply more × IsResponseOf reply response
one_reply t closes None left response bytes more is took came = let no : false ≡ true = is in cc
one_reply t closes (Some stream) None response bytes more is took came = absurd took
one_reply t closes (Some stream) (Some after) response bytes more is took came =
    let open_side = (and_parts (not closes) _ (sym came.kept_is)).1 in
    let ended = and_parts (ends_itself t.method came.reply.head) _ open_side in
    let empty = none_left came.beyond (eqb-true _ _ (and_parts (persists came.reply.head) _ ended.1).1) in
    let next : Some (came.beyond ++ after) ≡ Some came.rest = came.follows ended.0 in
    let rest : came.beyond ++ after ≡ came.rest = cc in
    let same : after ≡ came.rest = ap (λ xs. xs ++ after) (sym empty) ∙ rest in
    let d = reply_delimited t came.reads.0 stream came.reply came.rest ended.0 came.reads.1 in
    let used = append_cancel_right bytes d.0 came.rest (ap (λ xs. bytes ++ xs) (sym same) ∙ sym took ∙ d.1) in
    (came.reply, (came.reads.0, subst (λ xs. ReadsAfter t came.reads.0 (xs ++ more) came.reply more) (sym used) (d.2 more)), came.is)

module _ {S : Type 0} (looks : S → Bool → S → Type 0) (contents remaining : S → Option (List ℕ)) (reads writes : S → Result ℕ Error → S → Type 0)
    (flushes : S → Result ⊤ Error → S → Type 0) (place : Place) where
  abbrev Carried : Bool → List Asked → S → S → Type 0
  Carried = Carries looks contents remaining reads writes flushes place

  pub replies : (used : Bool) (all : List Asked) (before after : S) (carried : Carried used all before after) (more : List ℕ)
      → AreKnown looks contents remaining reads writes flushes place used all before after carried
      → BeginsWithReplies all (read_bytes looks contents remaining reads writes flushes place used all before after carried ++ more) more
  replies used [] before after carried more known = refl
  replies used (asked ∷ later) before after (ready, silent, mid, exchange, carried) more (is, known) =
      let behind = read_bytes looks contents remaining reads writes flushes place true later mid after carried in
      let one = one_reply (reply_terms asked.bounds (head_of asked.request).method) _ (remaining exchange.sent) (remaining mid) asked.response exchange.within.0.bytes (behind ++ more) is exchange.within.0.taken exchange.came in (
        one.0,
        behind ++ more,
        subst (λ s. ReadsReply (reply_terms asked.bounds (head_of asked.request).method) s one.0 (behind ++ more)) (sym (append_assoc exchange.within.0.bytes behind more)) one.1,
        one.2,
        replies true later mid after carried more known,
      )

  pub requests : (limits : Limits) (used : Bool) (all : List Asked) (before after : S) (carried : Carried used all before after) (more : List ℕ)
      → TakesAll limits place all → BeginsWithRequests limits place all (sent_bytes looks contents remaining reads writes flushes place used all before after carried ++ more) more
  requests limits used [] before after carried more takes = refl
  requests limits used (asked ∷ later) before after (ready, silent, mid, exchange, carried) more (head, takes) =
      let behind = sent_bytes looks contents remaining reads writes flushes place true later mid after carried in
      let one = exchange.wrote.wire.read limits (behind ++ more) head in (
        behind ++ more,
        subst (λ s. ReadsOnly limits s (seen_of place asked) (behind ++ more)) (sym (append_assoc exchange.wrote.bytes behind more)) one,
        requests limits true later mid after carried more takes,
      )

  -- reads leave what was written
  made_leave : ReadsLeave looks contents remaining reads writes flushes place → (rs : List (Result ℕ Error)) (before after : S) → Made reads rs before after → Keeps (contents before) (contents after)
  made_leave leave [] before after same = subst (λ s. Keeps (contents before) (contents s)) (sym same) (keeps_same (contents before))
    where
      keeps_same : (known : Option (List ℕ)) → Keeps known known
      keeps_same None = tt
      keeps_same (Some bytes) = refl
  made_leave leave (r ∷ rs) before after (mid, made, last) =
      Keeps-trans _ _ _ (made_leave leave rs before mid made) (leave mid after r last)

  appends_kept : (a b c : Option (List ℕ)) (bytes : List ℕ) → Appends a b bytes → Keeps b c → Appends a c bytes
  appends_kept None b c bytes p q = tt
  appends_kept (Some x) None c bytes p q = absurd p
  appends_kept (Some x) (Some y) None bytes p q = absurd q
  appends_kept (Some x) (Some y) (Some z) bytes p q = q ∙ p

  appends_none : (a : Option (List ℕ)) → Appends a a []
  appends_none None = tt
  appends_none (Some x) = sym (append-nil x)

  -- what was written before a connection was made ready is all that was written
  pub ready_written : (used : Bool) (before ready : S) → IsReady looks contents remaining used before ready → contents ready ≡ contents before
  ready_written true before ready looked = looked.written
  ready_written false before ready (inl same) = ap contents same
  ready_written false before ready (inr looked) = looked.written

  pub written : ReadsLeave looks contents remaining reads writes flushes place → (used : Bool) (all : List Asked) (before after : S) (carried : Carried used all before after)
      → Appends (contents before) (contents after) (sent_bytes looks contents remaining reads writes flushes place used all before after carried)
  written leave used [] before after same = subst (λ s. Appends (contents before) (contents s) []) (sym same) (appends_none (contents before))
  written leave used (asked ∷ later) before after (ready, silent, mid, exchange, carried) =
      let (rs, going, made) = exchange.went in
      let wrote = subst (λ c. Appends c (contents exchange.sent) exchange.wrote.bytes) (ready_written used before ready silent) exchange.wrote.written in
      Appends-trans (contents before) (contents mid) (contents after) _ _
      (appends_kept _ _ _ exchange.wrote.bytes wrote (made_leave leave rs exchange.sent mid made))
      (written leave true later mid after carried)

  -- a connection that is silent is ready
  pub looked_ready : (used : Bool) (before ready : S) → LookedAt looks contents remaining true before ready → IsReady looks contents remaining used before ready
  looked_ready true before ready looked = looked
  looked_ready false before ready looked = inr looked

  -- one exchange more, on a connection that is silent
  pub carries_more : (used : Bool) (all : List Asked) (asked : Asked) (before mid ready after : S) → Carried used all before mid
      → LookedAt looks contents remaining true mid ready
      → Exchange contents remaining reads writes flushes asked.agent asked.bounds place asked.request ready asked.response true after
      → Carried used (all ++ asked ∷ []) before after
  carries_more used [] asked before mid ready after same looked exchange =
      (ready, looked_ready used before ready (subst (λ s. LookedAt looks contents remaining true s ready) same looked), after, exchange, refl)
  carries_more used (first ∷ later) asked before mid ready after (begun, silent, next, one, carried) looked exchange =
      (begun, silent, next, one, carries_more true later asked next mid ready after carried looked exchange)
