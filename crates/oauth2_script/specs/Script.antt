-- A script, and how it is read from the bytes of the input.
use Rattle.std.specs.Prelude.{ℕ, ℤ, ◌&&◌, List, Option, Some, None, Result, Ok, Err, is_some, if◌then◌else◌, codes}
use Rattle.serde_json.specs.Data.{Data, object, no_members}
use Rattle.serde_json.specs.Find.{get}
use Rattle.oauth2_script.specs.Fault.{Fault, told}
use Rattle.oauth2_script_values.specs.Json.{json_in}
use Rattle.oauth2_script_values.specs.Reading.{Reading, PartFault, ◌>>=◌, fault, fault_inside, inside, to_member}
use Rattle.oauth2_script_values.specs.Part.{list_part, needed_part, present_part, an_object, moment, text}
use Rattle.oauth2_script_values.specs.declared.script_cause.ScriptCause.TheVariants.{Excluded}
use Rattle.oauth2_script.specs.Form.{form_part}
use Rattle.oauth2_script.specs.Client.{Client, client}
use Rattle.oauth2_script.specs.Replies.{Reply, reply}
use Rattle.oauth2_script.specs.ScriptCommand.{ScriptCommand, script_command_of}

-- the client, its command, the replies of the server, and the readings of the clock in nanoseconds
-- since 1970
pub record Script : Type 0 where
  pub client : Client
  pub command : ScriptCommand
  pub replies : List Reply
  pub readings : List ℤ

-- the member `params`, an object; an absent one is empty
abbrev pub object_or_empty : Option Data → Reading Data
object_or_empty None = Ok (object no_members)
object_or_empty (Some d) = inside (to_member (codes "params")) (an_object d)

-- the fault of an assertion that the secret excludes
abbrev pub twice_authenticated : PartFault
twice_authenticated =
    fault_inside (to_member (codes "params"))
    (fault_inside (to_member (codes "client_assertion")) (fault Excluded))

-- the client, by the member `client_assertion` of `params`: a client with a secret sends no
-- assertion, since a request authenticates its client once (RFC 6749, 2.3)
abbrev pub once_authenticated : Option Data → Client → Reading Client
once_authenticated assertion c =
    if is_some assertion && is_some c.secret then Err twice_authenticated else Ok c

-- reads a script from a JSON value; the first part that is bad is reported
unfoldable pub script_of : Data → Reading Script
script_of d = do
  d ← an_object d
  form ← present_part form_part (codes "result") d
  name ← needed_part text (codes "command") d
  replies ← list_part reply (codes "replies") d
  readings ← list_part moment (codes "readings") d
  params ← object_or_empty (get (codes "params") d)
  command ← script_command_of name params
  given ← needed_part client (codes "client") d
  client ← once_authenticated (get (codes "client_assertion") params) given
  Ok (record { client = client; command = command; replies = replies; readings = readings })

-- what the bytes of an input are read as
abbrev pub read_script : List ℕ → Reading Script
read_script input = json_in input >>= script_of

-- the script that the bytes of an input are, or its fault
unfoldable pub script_in : List ℕ → Result Script Fault
script_in input = told (read_script input)
