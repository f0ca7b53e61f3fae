-- The scripted client: what one call shows and returns.
use Rattle.std.specs.Prelude.{◌≡◌, List, [], ◌∷◌, ◌++◌, true, Option, Some, None, Result, Ok, Err, map, ◌⊎◌}
use Rattle.oauth2_wire.specs.Reply.{HttpResponse, ReplyView, reply_of}
use Rattle.oauth2_wire.specs.Request.{HttpRequest, view_of}
use Rattle.oauth2_script.specs.Replies.{Reply}
use Rattle.oauth2_world.specs.Replies.{next_reply, later_replies}
use Rattle.oauth2_world.specs.Events.{exchanged}
use Rattle.oauth2_script.specs.Views as script_views
use Rattle.oauth2_world.specs.declared.replay.ScriptedClient.{ScriptedClient}
use Rattle.oauth2_world.specs.declared.replay.NoReply.{NoReply}

-- the reply that a call returned, or `None` for a failed call
abbrev pub reply_seen : Result HttpResponse NoReply → Option ReplyView
reply_seen (Ok reply) = Some (reply_of reply)
reply_seen (Err e) = None

-- the replies of the script that the client has not returned yet
abbrev pub client_replies : ScriptedClient → List Reply
client_replies c = map script_views.stored_reply c.replies.items

-- one call: it returns the next reply of the script, and adds the event of this exchange
pub record Replays (old : ScriptedClient) (request : HttpRequest) (answer : Result HttpResponse NoReply) (new : ScriptedClient) : Type 0 where
  pub answers : reply_seen answer ≡ next_reply (client_replies old)
  pub goes_on : client_replies new ≡ later_replies (client_replies old)
  pub shows : new.events ≡ old.events ++ exchanged (view_of request) (next_reply (client_replies old)) ∷ []
  pub is_fed : new.is_starved ≡ old.is_starved

-- one call that replays the script, unless the client has run out of memory
abbrev pub ReplaysOrStarves : ScriptedClient → HttpRequest → Result HttpResponse NoReply
    → ScriptedClient → Type 0
ReplaysOrStarves old request answer new = (new.is_starved ≡ true) ⊎ Replays old request answer new
