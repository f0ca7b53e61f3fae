-- A call of the keeper that the code holds is one of the command's definition.
use Rattle.std.proofs.Common.{◌≡◌, ℕ, ℤ, List, [], ◌∷◌, ◌++◌, false, Option, Some, None}
use Rattle.std.proofs.Common.{Result, Ok, Err, inl, inr, refl, ap, sym, subst, ◌∙◌}
use Rattle.std.proofs.Common.{append_assoc, append-nil, ◌+◌, ◌<◌, length, take, get_or, map}
use Rattle.std.specs.Prelude.{option_map}
use Rattle.std.proofs.lemmas.List.{map_more}
use Rattle.jiff.specs.Types.{Timestamp}
use Rattle.url.specs.Parts.{serialize}
use Rattle.oauth2.specs.Settings.{Settings}
use Rattle.oauth2_codes.specs.ErrorCodes.{error_code}
use Rattle.oauth2_codes.specs.ErrorResponse.{parts_of}
use Rattle.oauth2_urls.specs.Addressed.{Addressed}
use Rattle.oauth2_wire.specs.declared.content_type.ReplyRule.{ReplyRule}
use Rattle.oauth2_wire.specs.declared.error.RequestTokenError.{RequestTokenError}
use Rattle.oauth2_wire.specs.declared.error.RequestTokenError.TheVariants as token
use Rattle.oauth2_wire.specs.declared.request.RequestFault.TheVariants as fault
use Rattle.oauth2_wire.specs.Once.{AsksOnce}
use Rattle.oauth2_wire.specs.Request.{RequestView, IsRequestOf, view_of}
use Rattle.oauth2_keeper.specs.Keeper.{Keeper, AcceptedToken, KeeperCalls, renewal}
use Rattle.oauth2_keeper.specs.Keeper.{quiet, accepted, failed}
use Rattle.oauth2_keeper.specs.Patience.{Patient, without_other_type, UsableCalls, PatientCalls}
use Rattle.oauth2_keeper.specs.declared.patient_keeper.PatientError.TheVariants as patient
use Rattle.oauth2_request_commands.proofs.Joined.{joined-assoc, joined-nothing}
use Rattle.oauth2_request_commands.specs.Client.{WithEndpoint, WithToken, missing}
use Rattle.oauth2_request_commands.specs.Exchange.{token_answer}
use Rattle.oauth2_request_commands.specs.Out.{Output, after, both, nothing, both_outputs}
use Rattle.oauth2_request_commands.specs.Out.{success_output, Adds, AddsOutput}
use Rattle.oauth2_request_commands.specs.declared.status.RunStatus.{RunStatus}
use Rattle.oauth2_world.specs.Events.{Event, exchanged}
use Rattle.oauth2_world.specs.Quotation.{quotation}
use Rattle.oauth2_world.specs.Replay.{ReplaysOrStarves, client_replies}
use Rattle.oauth2_world.specs.Replies.{next_reply}
use Rattle.oauth2_world.specs.declared.replay.NoReply.{NoReply}
use Rattle.oauth2_world.specs.declared.replay.ScriptedClient.{ScriptedClient}
use Rattle.oauth2_commands.specs.Keeper.{TokenResponse, token_in, ErrorResponse, KeeperFault}
use Rattle.oauth2_commands.specs.Keeper.{ReplayClient, AsksForToken, given_in, IsShown}
use Rattle.oauth2_commands.specs.Keeper.{Standing, IsCall, AreCalls}
use Rattle.oauth2_commands.specs.private.Kept.{standing, CallAdds, CallsAdd}

-- ---- one call

abbrev RequestFault : Type 0
RequestFault = RequestTokenError NoReply ErrorResponse

-- what the keeper asks of the code's client
abbrev AsksForRenewal : ReplyRule → (List ℕ → RequestView → Type 0) → List ℕ
    → ScriptedClient → Result TokenResponse RequestFault → ScriptedClient → Type 0
AsksForRenewal rule =
    AsksOnce token_in (parts_of error_code) ReplaysOrStarves (token_answer rule)

-- the code's client before a call and behind it
module _ (before mid : ScriptedClient) (fed : mid.is_starved ≡ false) where
  -- the client of the definition before a call
  abbrev uncalled : ScriptedClient → ReplayClient
  uncalled client = record { replies = client_replies client; events = [] }

  abbrev start : ReplayClient
  start = uncalled before

  -- `Says` holds of the client of the definition behind the call, whose events were added
  abbrev Seen : (ReplayClient → Type 0) → Type 0
  Seen Says =
      (sent : List Event) × Says (record { replies = client_replies mid; events = sent })
      × (mid.events ≡ before.events ++ sent) × (before.is_starved ≡ false)

  seen_map : (Says Tells : ReplayClient → Type 0)
      → ((last : ReplayClient) → Says last → Tells last) → Seen Says → Seen Tells
  seen_map Says Tells so seen = (seen.0, so _ seen.1, seen.2, seen.3)

  -- the client was not called
  uncalled_seen : (Says : ReplayClient → Type 0) → mid ≡ before → Says start → Seen Says
  uncalled_seen Says same said = (
    [],
    subst (λ (c : ScriptedClient). Says (uncalled c)) (sym same) said,
    ap (λ (c : ScriptedClient). c.events) same ∙ sym (append-nil before.events),
    ap (λ (c : ScriptedClient). c.is_starved) (sym same) ∙ fed,
  )

  module _ (keeper : Keeper) where
    module _ (endpoint : Addressed) where
      -- what a request does to the code's client, and to that of the definition
      abbrev Asks : Result TokenResponse RequestFault → Type 0
      Asks result =
          AsksForRenewal keeper.client.reply_rule (IsRequestOf (renewal keeper))
          (serialize endpoint.url) before result mid

      abbrev AsksSo : Result TokenResponse RequestFault → ReplayClient → Type 0
      AsksSo result last =
          AsksForToken keeper.client.reply_rule (IsRequestOf (renewal keeper))
          (serialize endpoint.url) start result last

      asked : (result : Result TokenResponse RequestFault) → Asks result → Seen (AsksSo result)
      asked result (Ok request, is, target, (answer, inl starved, shows)) = cc
      asked result (Ok request, is, target, (answer, inr replays, shows)) = (
        exchanged (view_of request) (next_reply (client_replies before)) ∷ [],
        (Ok request, is, target, (answer, (replays.answers, replays.goes_on, refl), shows)),
        replays.shows,
        sym replays.is_fed ∙ fed,
      )
      asked (Err (token.Memory sent)) (Err kind, is, target, (unsent, same)) =
          uncalled_seen (AsksSo (Err (token.Memory sent))) same
          (Err kind, is, target, (unsent, refl))
      asked (Err (token.Other text)) (Err fault.NotHttp, is, target, (said, same)) =
          uncalled_seen (AsksSo (Err (token.Other text))) same
          (Err fault.NotHttp, is, target, (said, refl))
      asked result (Err kind, is, target, unsent) = absurd unsent

    module _ (kept : Keeper) (now : ℤ) where
      abbrev CallsSo : Result Unit RequestFault → ReplayClient → Type 0
      CallsSo result last = KeeperCalls AsksForToken given_in keeper now start result last kept

      -- a call that nothing holds back
      keeper_called : (result : Result Unit RequestFault)
          → KeeperCalls AsksForRenewal given_in keeper now before result mid kept
          → Seen (CallsSo result)
      keeper_called result (quiet, (good, is, same), stays) =
          uncalled_seen (CallsSo result) same (quiet, (good, is, refl), stays)
      keeper_called result (accepted given, (stale, is, (reply, told, (url, there, asks))), stays) =
          seen_map (AsksSo url (Ok reply)) (CallsSo result)
          (λ last so. (accepted given, (stale, is, (reply, told, (url, there, so))), stays))
          (asked url (Ok reply) asks)
      keeper_called result (failed, (stale, (error, is, (url, there, asks))), stays) =
          seen_map (AsksSo url (Err error)) (CallsSo result)
          (λ last so. (failed, (stale, (error, is, (url, there, so))), stays))
          (asked url (Err error) asks)

  module _ (keeper kept : Patient) (now : ℤ) where
    abbrev PatientlyCalls : Result Unit KeeperFault → Type 0
    PatientlyCalls result =
        UsableCalls AsksForRenewal given_in (λ _. None) keeper now before result mid kept

    abbrev PatientlyCallsSo : Result Unit KeeperFault → ReplayClient → Type 0
    PatientlyCallsSo result last =
        UsableCalls AsksForToken given_in (λ _. None) keeper now start result last kept

    called : (result : Result Unit KeeperFault) → PatientlyCalls result
        → Seen (PatientlyCallsSo result)
    called (Ok done) (inl (free, calls, usable, is)) =
        seen_map (CallsSo keeper.keeper kept.keeper now (Ok tt)) (PatientlyCallsSo (Ok done))
        (λ last so. inl (free, so, usable, is))
        (keeper_called keeper.keeper kept.keeper now (Ok tt) calls)
    called (Err patient.OtherTokenType) (free, (got, calls, other, is)) =
        seen_map (CallsSo keeper.keeper got now (Ok tt))
        (PatientlyCallsSo (Err patient.OtherTokenType))
        (λ last so. (free, (got, so, other, is)))
        (keeper_called keeper.keeper got now (Ok tt) calls)
    called (Ok done) (inr (held, same, is)) =
        uncalled_seen (PatientlyCallsSo (Ok done)) same (inr (held, refl, is))
    called (Err (patient.Request error)) (free, calls, is) =
        seen_map (CallsSo keeper.keeper keeper.keeper now (Err error))
        (PatientlyCallsSo (Err (patient.Request error))) (λ last so. (free, so, is))
        (keeper_called keeper.keeper keeper.keeper now (Err error) calls)
    called (Err (patient.Waits until)) (held, is_until, same, is) =
        uncalled_seen (PatientlyCallsSo (Err (patient.Waits until))) same
        (held, is_until, refl, is)

  module _ (keeper kept : Patient) (now : ℤ) where
    -- a call and what is shown of it
    pub call_told : (result : Result Unit KeeperFault)
        → PatientCalls AsksForRenewal given_in (λ _. None) keeper now before result mid kept
        → (shown : Output) → IsShown kept.keeper.token result shown
        → (new : List Event) (s : RunStatus) → AddsOutput mid.events new s shown
        → (before.is_starved ≡ false)
        × CallAdds (standing keeper before) (standing kept mid) before.events new s now
    unfolding IsCall
    call_told result calls shown is_shown new s adds =
        let seen = called (without_other_type keeper) kept now result calls in
        let all : new ≡ before.events ++ (seen.0 ++ shown.events) =
        adds.0 ∙ ap (λ (events : List Event). events ++ shown.events) seen.2
        ∙ append_assoc before.events seen.0 shown.events in (
          seen.3,
          (after seen.0 shown, (result, seen.0, shown, seen.1, is_shown, refl), (all, adds.1)),
        )

-- the token that was got is the kept one
pub token_shown : (kept : Option AcceptedToken) (text : List ℕ)
    → option_map (λ token. token.access_token) kept ≡ Some text
    → IsShown kept (Ok tt) (success_output (quotation text))
token_shown None text is = cc
token_shown (Some token) text is =
    let same : text ≡ token.access_token = cc in
    ap (λ (t : List ℕ). success_output (quotation t)) same

-- ---- one call after another

one_more : (before middle kept : Standing) (moments : List ℤ) (now : ℤ) (o last : Output)
    → AreCalls before moments o middle → IsCall middle now last kept
    → AreCalls before (moments ++ now ∷ []) (both_outputs o last) kept
one_more before middle kept [] now o last (is, same) call =
    (last, kept, nothing, rw (← same) call, (refl, refl), rw is (sym (joined-nothing last)))
one_more before middle kept (m ∷ moments) now o last (first, next, rest, call', calls, is) call =
    let more = one_more next middle kept moments now rest last calls call in
    (first, next, both_outputs rest last, call', more, rw is (joined-assoc first rest last))

-- the moments of readings
abbrev pub moments_of : List Timestamp → List ℤ
moments_of readings = map (λ (t : Timestamp). t.nanosecond) readings

module _ (before middle kept : Standing) (old mid new : List Event) (s later : RunStatus) where
  -- one more of a list of readings
  pub calls_more : (readings : List Timestamp) (i : ℕ) (item : Timestamp)
      → i < length readings → item ≡ get_or readings i item
      → CallsAdd before middle old mid s (moments_of (take i readings))
      → CallAdds middle kept mid new later item.nanosecond
      → CallsAdd before kept old new (both s later) (moments_of (take (i + 1) readings))
  calls_more readings i item lt is (o, are, adds) (last, call, more) =
      let first = moments_of (take i readings) in
      let all : moments_of (take (i + 1) readings) ≡ first ++ item.nanosecond ∷ [] =
      map_more (λ (t : Timestamp). t.nanosecond) readings i item lt
      ∙ ap (λ (t : Timestamp). moments_of (take i readings) ++ t.nanosecond ∷ []) (sym is) in
      let events : new ≡ old ++ (o.events ++ last.events) =
      more.0 ∙ ap (λ (events : List Event). events ++ last.events) adds.0
      ∙ append_assoc old o.events last.events in
      let ended : both s later ≡ both o.status last.status = rw (adds.1, more.1) refl in
      let calls = one_more before middle kept first item.nanosecond o last are call in
      subst (λ (ms : List ℤ). CallsAdd before kept old new (both s later) ms) (sym all)
      (both_outputs o last, calls, (events, ended))

-- ---- the command

-- the calls of the keeper of a copy that has the client's own token endpoint
pub keeper_told : (client made : Settings) (url : Addressed) → client.token_url ≡ Some url
    → made ≡ record client { token_url = Some url } → (Says : Settings → Output → Type 0)
    → (old new : List Event) (s : RunStatus) → Adds old new s (Says made)
    → Adds old new s (WithToken (λ _. Says client) client.token_url)
keeper_told client made url there is Says old new s adds =
    let same : made ≡ client =
    is ∙ ap (λ (o : Option Addressed). record client { token_url = o }) (sym there) in
    subst (λ (o : Option Addressed). Adds old new s (WithToken (λ _. Says client) o)) (sym there)
    (subst (λ (c : Settings). Adds old new s (Says c)) same adds)

-- there is no endpoint of this name
pub unset_told : (name : List ℕ) (IsOut : Addressed → Output → Type 0) (url : Option Addressed)
    → url ≡ None → (old new : List Event) (s : RunStatus) → AddsOutput old new s (missing name)
    → Adds old new s (WithEndpoint name IsOut url)
unset_told name IsOut url none old new s printed =
    subst (λ (u : Option Addressed). Adds old new s (WithEndpoint name IsOut u)) (sym none)
    (missing name, refl, printed.0, printed.1)
