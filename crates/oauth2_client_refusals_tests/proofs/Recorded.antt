-- What a world keeps of a poll.
use Rattle.std.proofs.Common.{◌≡◌, ◌++◌, List, [], ◌∷◌, true, sym, ap, ◌∙◌, append-nil, subst, ℕ, Option}
use Rattle.std.proofs.lemmas.List.{append_assoc}
use Rattle.std.specs.Prelude.{Result}
use Rattle.std.specs.declared.time.Duration.{Duration}
use Rattle.serde_json.specs.Data.{Data}
use Rattle.oauth2_json.specs.Reading.{Reading as JsonReading}
use Rattle.oauth2_device.specs.DeviceToken.{DeviceToken}
use Rattle.oauth2_device.specs.Poll.{Polls, PollError, timeout_of}
use Rattle.oauth2_device.specs.Events.{PollCall, Reading, Sent, Slept, Leads}
use Rattle.oauth2_client_refusals_tests.specs.declared.counting_client.NoReply.{NoReply}
use Rattle.oauth2_client_refusals_tests.specs.declared.recorder.Recorder.{Recorder}
use Rattle.oauth2_client_refusals_tests.specs.declared.recorder.Seen.{Seen}
use Rattle.oauth2_client_refusals_tests.specs.declared.recorder.Seen.TheVariants as seen
use Rattle.oauth2_client_refusals_tests.specs.Recorded.{Notes, RecordsReading, RecordsSending, RecordsSleep, Records, events_seen}

-- one event, and then the others
noted : (w u v : Recorder) (event : Seen) (e : List (PollCall NoReply)) → Notes w event u → Records u e v
    → v.is_whole ≡ true → (w.is_whole ≡ true) × (v.seen.items ≡ w.seen.items ++ (event ∷ events_seen e))
noted w u v event e note records whole =
    let later = records whole in
    let here = note later.0 in
    (here.0, later.1 ∙ ap (λ items. items ++ events_seen e) here.1 ∙ append_assoc w.seen.items (event ∷ []) (events_seen e))

pub recorded : (w : Recorder) (e : List (PollCall NoReply)) (v : Recorder) → Leads RecordsReading RecordsSending RecordsSleep w e v → Records w e v
recorded w [] v same = λ whole. (ap (λ (r : Recorder). r.is_whole) same ∙ whole, ap (λ (r : Recorder). r.seen.items) (sym same) ∙ sym (append-nil w.seen.items))
recorded w (Reading t ∷ e) v (u, did, more) = noted w u v (seen.Reading t) e did (recorded u e v more)
recorded w (Sent r a ∷ e) v (u, did, more) = noted w u v seen.Request e did (recorded u e v more)
recorded w (Slept d ∷ e) v (u, did, more) = noted w u v (seen.Sleep d) e did (recorded u e v more)

-- the poll of an equal request
pub Polls-equal : {D A : Type 0} (meaning : D → A) (reading : Data → JsonReading A) (timeout : Option Duration) (max_polls : ℕ) (e : List (PollCall NoReply)) (result : Result D (PollError NoReply)) (a b : DeviceToken) → a ≡ b
    → Polls meaning reading a (timeout_of a timeout) max_polls e result → Polls meaning reading b (timeout_of b timeout) max_polls e result
Polls-equal meaning reading timeout max_polls e result a b a_is_b is = subst (λ r. Polls meaning reading r (timeout_of r timeout) max_polls e result) a_is_b is
