-- The histories of idle connections.
use Rattle.std.proofs.Common.{◌≡◌, ℕ, Bool, true, false, cond, List, [], ◌∷◌, ◌++◌, take, Option, Some, Ok, Err, refl, sym, subst, zero, suc}
use Rattle.std.specs.Prelude.{⊤, Result, bytes_eq}
use Rattle.std.specs.List.{AllByRecursion}
use Rattle.std.specs.declared.io.Error as Io
use Rattle.std.proofs.lemmas.Bool.{eqb-true}
use Rattle.std.proofs.lemmas.Slice.Eq.{bytes_eq-Decides}
use Rattle.oauth2_http1.specs.declared.error.Http1Error.TheVariants as Error
use Rattle.oauth2_http1.specs.Origin.{Place}
use Rattle.oauth2_wire.specs.Request.{HttpRequest}
use Rattle.oauth2_wire.specs.Reply.{HttpResponse}
use Rattle.oauth2_http1_connections.specs.Client.{agent_of, Gets, GetsReady, HoldsAfter, Answers, Calls}
use Rattle.oauth2_http1_connections.specs.Exchange.{IsReady, Exchange}
use Rattle.oauth2_http1_connections.specs.Idle.{text_of, is_same_place, is_for, find, without}
use Rattle.oauth2_http1_connections.specs.Law.{Asked, HasHistory, EachHasHistory, KeepsHistories}
use Rattle.oauth2_http1_connections.proofs.Chains.{and_parts, carries_more}
use Rattle.oauth2_http1_connections.specs.declared.client.KeepAliveClient.{KeepAliveClient}
use Rattle.oauth2_http1_connections.specs.declared.error.KeepAliveError.{KeepAliveError}
use Rattle.oauth2_http1_connections.specs.declared.error.KeepAliveError.TheVariants.{Http1, Unanswered}
use Rattle.oauth2_http1_connections.specs.declared.idle.Idle.{Idle}

same_place : (a b : Place) → is_same_place a b ≡ true → a ≡ b
same_place a b is =
    let scheme = and_parts (bytes_eq a.scheme b.scheme) _ is in
    let host = and_parts (bytes_eq a.host b.host) _ scheme.1 in
    let schemes = (bytes_eq-Decides a.scheme b.scheme).0 scheme.0 in
    let hosts = (bytes_eq-Decides a.host b.host).0 host.0 in
    let ports = eqb-true a.port b.port host.1 in
    (λ i. record { scheme = schemes i; host = hosts i; port = ports i })

module _ {S : Type 0} (P : Place → S → Type 0) where
  abbrev Each : List (Idle S) → Type 0
  Each kept = AllByRecursion (λ (idle : Idle S). P (text_of idle.place) idle.stream) kept

  found_by : (place : Place) (idle : Idle S) (stream : S) (later : Option S) (b : Bool) → is_for place idle ≡ b → P (text_of idle.place) idle.stream
      → (later ≡ Some stream → P place stream) → cond b (Some idle.stream) later ≡ Some stream → P place stream
  found_by place idle stream later true is one others taken =
      let same : idle.stream ≡ stream = cc in
      subst (λ p. P p stream) (same_place (text_of idle.place) place is) (subst (P (text_of idle.place)) same one)
  found_by place idle stream later false is one others taken = others taken

  found_has : (place : Place) (kept : List (Idle S)) (stream : S) → Each kept → find place kept ≡ Some stream → P place stream
  found_has place [] stream each found = cc
  found_has place (idle ∷ more) stream (one, each) found =
      found_by place idle stream (find place more) (is_for place idle) refl one (λ later. found_has place more stream each later) found

  others_by : (idle : Idle S) (more others : List (Idle S)) (b : Bool) → P (text_of idle.place) idle.stream → Each more → Each others → Each (cond b more (idle ∷ others))
  others_by idle more others true one each rest = each
  others_by idle more others false one each rest = (one, rest)

  others_have : (place : Place) (kept : List (Idle S)) → Each kept → Each (without place kept)
  others_have place [] each = tt
  others_have place (idle ∷ more) (one, each) = others_by idle more (without place more) (is_for place idle) one each (others_have place more each)

  first_have : (n : ℕ) (kept : List (Idle S)) → Each kept → Each (take n kept)
  first_have zero kept each = tt
  first_have (suc n) [] each = tt
  first_have (suc n) (idle ∷ more) (one, each) = (one, first_have n more each)

module _ {C S E : Type 0} (opens : C → Place → Result S E → C → Type 0) (looks : S → Bool → S → Type 0) (contents remaining : S → Option (List ℕ))
    (reads writes : S → Result ℕ Io.Error → S → Type 0) (flushes : S → Result ⊤ Io.Error → S → Type 0) where
  abbrev History : Place → S → Type 0
  History = HasHistory opens looks contents remaining reads writes flushes

  abbrev EachIdle : List (Idle S) → Type 0
  EachIdle = Each History

  -- the connection that a call takes, before the exchange
  taken_has : (place : Place) (before after : KeepAliveClient C S) (used : Bool) (taken : S) → EachIdle before.idle.kept.items → Gets opens looks contents remaining place before used taken after → History place taken
  taken_has place before after true taken each gets = found_has History place before.idle.kept.items taken each gets.0
  taken_has place before after false taken each gets = record {
    before = before.connect;
    after = after.connect;
    opened = taken;
    opens_it = gets.1;
    exchanges = [];
    carried = refl;
  }

  -- after a call that let its connection go
  rest_have : (place : Place) (before : KeepAliveClient C S) (kept : List (Idle S)) → EachIdle before.idle.kept.items → kept ≡ without place before.idle.kept.items → EachIdle kept
  rest_have place before kept each is = subst EachIdle (sym is) (others_have History place before.idle.kept.items each)

  -- the history of a connection after an exchange
  one_more : (place : Place) (before after : KeepAliveClient C S) (asked : Asked) (used : Bool) (taken stream left : S) → EachIdle before.idle.kept.items
      → Gets opens looks contents remaining place before used taken after → IsReady looks contents remaining used taken stream
      → Exchange contents remaining reads writes flushes asked.agent asked.bounds place asked.request stream asked.response true left → History place left
  one_more place before after asked true taken stream left each gets ready exchange =
      let history = found_has History place before.idle.kept.items taken each gets.0 in
      record {
        before = history.before;
        after = history.after;
        opened = history.opened;
        opens_it = history.opens_it;
        exchanges = history.exchanges ++ asked ∷ [];
        carried = carries_more looks contents remaining reads writes flushes place false history.exchanges asked history.opened taken stream left history.carried ready exchange;
      }
  one_more place before after asked false taken stream left each gets ready exchange = record {
    before = before.connect;
    after = after.connect;
    opened = taken;
    opens_it = gets.1;
    exchanges = asked ∷ [];
    carried = (stream, ready, left, exchange, refl);
  }

  -- after an exchange
  held_have : (place : Place) (before after : KeepAliveClient C S) (request : HttpRequest) (response : HttpResponse) (used : Bool) (stream left : S) (kept : Bool) → EachIdle before.idle.kept.items
      → (gets : GetsReady opens looks contents remaining place before used stream after)
      → Exchange contents remaining reads writes flushes (agent_of before) before.bounds place request stream response kept left → HoldsAfter place before left kept after → EachIdle after.idle.kept.items
  held_have place before after request response used stream left true each gets exchange (own, is, holds) =
      let asked : Asked = record { agent = agent_of before; bounds = before.bounds; request = request; response = response } in
      let more : History place left = one_more place before after asked used gets.taken stream left each gets.gets gets.ready exchange in
      subst EachIdle (sym holds)
      (first_have History before.idle.most _ (subst (λ p. History p left) (sym is) more, others_have History place before.idle.kept.items each))
  held_have place before after request response used stream left false each gets exchange holds = rest_have place before after.idle.kept.items each holds

  kept_after : (before : KeepAliveClient C S) (request : HttpRequest) (result : Result HttpResponse (KeepAliveError E)) (after : KeepAliveClient C S) → EachIdle before.idle.kept.items
      → Calls opens looks contents remaining reads writes flushes before request result after → EachIdle after.idle.kept.items
  kept_after before request (Ok response) after each did =
      held_have did.place before after request response did.used did.stream did.left did.kept each did.gets did.exchange did.holds
  kept_after before request (Err (Http1 (Error.Request fault))) after each did = subst EachIdle (sym did.1) each
  kept_after before request (Err (Http1 (Error.Connect error))) after each did = rest_have did.0 before after.idle.kept.items each did.3
  kept_after before request (Err (Http1 (Error.Write error))) after each did = rest_have did.place before after.idle.kept.items each did.holds
  kept_after before request (Err (Http1 (Error.Reply fault))) after each did = rest_have did.3.place before after.idle.kept.items each did.3.holds
  kept_after before request (Err (Unanswered (Error.Request fault) again)) after each did = absurd did
  kept_after before request (Err (Unanswered (Error.Connect error) again)) after each did = absurd did
  kept_after before request (Err (Unanswered (Error.Write error) again)) after each did = rest_have did.1.place before after.idle.kept.items each did.1.holds
  kept_after before request (Err (Unanswered (Error.Reply fault) again)) after each did = rest_have did.1.place before after.idle.kept.items each did.1.holds

  pub keeps_histories : (before : KeepAliveClient C S) (request : HttpRequest) (result : Result HttpResponse (KeepAliveError E)) (after : KeepAliveClient C S)
      → EachHasHistory opens looks contents remaining reads writes flushes before → Calls opens looks contents remaining reads writes flushes before request result after
      → KeepsHistories opens looks contents remaining reads writes flushes before request result after
  keeps_histories before request result after each did = record {
    kept = kept_after before request result after each did;
    used = λ place stream found. found_has History place before.idle.kept.items stream each found;
  }

  -- the connection of a call that got a reply
  pub answered_has : (before : KeepAliveClient C S) (request : HttpRequest) (response : HttpResponse) (after : KeepAliveClient C S)
      → EachHasHistory opens looks contents remaining reads writes flushes before
      → (did : Answers opens looks contents remaining reads writes flushes before request response after)
      → HasHistory opens looks contents remaining reads writes flushes did.place did.gets.taken
  answered_has before request response after each did = taken_has did.place before after did.used did.gets.taken each did.gets.gets
