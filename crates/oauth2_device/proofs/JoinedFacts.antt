-- A trace of a joined world leads each of its parts.
use Rattle.std.proofs.Common.{◌≡◌, List, [], ◌∷◌, Result, sym, ◌∙◌, ap}
use Rattle.std.specs.declared.time.Duration.{Duration}
use Rattle.jiff.specs.Types.{Timestamp}
use Rattle.oauth2_wire.specs.Request.{HttpRequest}
use Rattle.oauth2_wire.specs.Reply.{HttpResponse}
use Rattle.oauth2_device.specs.declared.joined_world.JoinedWorld.{JoinedWorld}
use Rattle.oauth2_device.specs.Events.{PollCall, Reading, Sent, Slept, Leads, ClockLeads, ClientLeads, SleepLeads}
use Rattle.oauth2_device.specs.private.Joined.{joined_reads, joined_sends, joined_sleeps}

module _ {T C S RE : Type 0} (ticks : T → Timestamp → T → Type 0) (step : C → HttpRequest → Result HttpResponse RE → C → Type 0) (sleeps : S → Duration → S → Type 0) where
  pub record EachLed (w : JoinedWorld T C S) (e : List (PollCall RE)) (v : JoinedWorld T C S) : Type 0 where
    pub clock : ClockLeads ticks w.clock e v.clock
    pub client : ClientLeads step w.client.now e v.client.now
    pub sleep : SleepLeads sleeps w.sleep.now e v.sleep.now
    pub same_client : v.client.ghost_name ≡ w.client.ghost_name
    pub same_sleep : v.sleep.ghost_name ≡ w.sleep.ghost_name

  pub each_led : (w : JoinedWorld T C S) (e : List (PollCall RE)) (v : JoinedWorld T C S) → Leads (joined_reads ticks) (joined_sends step) (joined_sleeps sleeps) w e v → EachLed w e v
  each_led w [] v h =
      record {
        clock = ap (λ (x : JoinedWorld T C S). x.clock) h;
        client = ap (λ (x : JoinedWorld T C S). x.client.now) h;
        sleep = ap (λ (x : JoinedWorld T C S). x.sleep.now) h;
        same_client = ap (λ (x : JoinedWorld T C S). x.client.ghost_name) (sym h);
        same_sleep = ap (λ (x : JoinedWorld T C S). x.sleep.ghost_name) (sym h);
      }
  each_led w (Reading t ∷ e) v h =
      let k = each_led h.0 e v h.2 in
      record {
        clock = (h.0.clock, h.1.0, k.clock);
        client = rw (← h.1.1) k.client;
        sleep = rw (← h.1.2) k.sleep;
        same_client = rw (← h.1.1) k.same_client;
        same_sleep = rw (← h.1.2) k.same_sleep;
      }
  each_led w (Sent r a ∷ e) v h =
      let k = each_led h.0 e v h.2 in
      record {
        clock = rw (← h.1.0) k.clock;
        client = (h.0.client.now, h.1.1, k.client);
        sleep = rw (← h.1.3) k.sleep;
        same_client = k.same_client ∙ h.1.2;
        same_sleep = rw (← h.1.3) k.same_sleep;
      }
  each_led w (Slept d ∷ e) v h =
      let k = each_led h.0 e v h.2 in
      record {
        clock = rw (← h.1.0) k.clock;
        client = rw (← h.1.1) k.client;
        sleep = (h.0.sleep.now, h.1.2, k.sleep);
        same_client = rw (← h.1.1) k.same_client;
        same_sleep = k.same_sleep ∙ h.1.3;
      }
