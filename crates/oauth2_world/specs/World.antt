-- The client and the clock that a poll of a script uses, and what each call of them does.
use Rattle.std.specs.Prelude.{◌≡◌, ◌⊎◌, [], ◌∷◌, ◌++◌, true, Result}
use Rattle.std.specs.declared.time.Duration.{Duration}
use Rattle.std.specs.Duration.{as_nanos}
use Rattle.jiff.specs.Types.{Timestamp}
use Rattle.oauth2_wire.specs.Request.{HttpRequest}
use Rattle.oauth2_wire.specs.Reply.{HttpResponse}
use Rattle.oauth2_world.specs.Clock.{reading_of, after_reading}
use Rattle.oauth2_world.specs.Events.{slept}
use Rattle.oauth2_world.specs.Replay.{ReplaysOrStarves, client_replies}
use Rattle.oauth2_world.specs.declared.replay.NoReply.{NoReply}
use Rattle.oauth2_world.specs.declared.world.ScriptedWorld.{ScriptedWorld}

-- the clock is read once, and the client stays as it is
pub record Reads (old : ScriptedWorld) (moment : Timestamp) (new : ScriptedWorld) : Type 0 where
  pub shows : moment.nanosecond ≡ reading_of old.clock
  pub goes_on : new.clock ≡ after_reading old.clock
  pub client : new.http_client ≡ old.http_client

-- the client is called once, and the clock stays as it is
pub record Sends (old : ScriptedWorld) (request : HttpRequest) (answer : Result HttpResponse NoReply) (new : ScriptedWorld) : Type 0 where
  pub clock : new.clock ≡ old.clock
  pub client : ReplaysOrStarves old.http_client request answer new.http_client

-- a sleep adds its event, and takes no reply
pub record Shows (old : ScriptedWorld) (sleep : Duration) (new : ScriptedWorld) : Type 0 where
  pub events : new.http_client.events ≡ old.http_client.events ++ slept (as_nanos sleep) ∷ []
  pub replies : client_replies new.http_client ≡ client_replies old.http_client
  pub is_fed : new.http_client.is_starved ≡ old.http_client.is_starved

-- a sleep adds its event, unless the client has run out of memory; the clock stays as it is
pub record Sleeps (old : ScriptedWorld) (sleep : Duration) (new : ScriptedWorld) : Type 0 where
  pub clock : new.clock ≡ old.clock
  pub client : (new.http_client.is_starved ≡ true) ⊎ Shows old sleep new
