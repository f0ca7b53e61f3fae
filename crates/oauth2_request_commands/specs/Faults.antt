-- What the output shows of the result of a request, and of one that is not made.
use Rattle.std.specs.Prelude.{ℕ, List, Result, Ok, Err, string_bytes, codes}
use Rattle.oauth2_codes.specs.ErrorResponse.{ErrorParts}
use Rattle.oauth2_json.specs.Reading.{fault_of}
use Rattle.oauth2_wire.specs.declared.error.ConfigurationError.{ConfigurationError}
use Rattle.oauth2_wire.specs.declared.error.ConfigurationError.TheVariants.{MissingUrl, InsecureUrl}
use Rattle.oauth2_wire.specs.declared.error.RequestTokenError.{RequestTokenError}
use Rattle.oauth2_wire.specs.declared.error.RequestTokenError.TheVariants.{ServerResponse, Request, Parse, Other, Memory}
use Rattle.oauth2_world.specs.declared.replay.NoReply.{NoReply}
use Rattle.oauth2_request_commands.specs.Client.{missing}
use Rattle.oauth2_world.specs.declared.event.FaultKind.TheVariants.{RequestFailed}
use Rattle.oauth2_request_commands.specs.Out.{Output, failure_output, no_memory_output, not_read, refused_output, other_output}
use Rattle.oauth2_request_commands.specs.Revoke.{insecure}

module _ {T : Type 0} (members : T → ErrorParts (List ℕ)) where
  -- what is shown of the error of a request; `members` are those of the error response of the server
  abbrev pub fault_output : RequestTokenError NoReply T → Output
  fault_output (ServerResponse e) = refused_output (members e)
  fault_output (Request e) = failure_output RequestFailed (codes "Request failed")
  fault_output (Parse fault body) = not_read (fault_of fault)
  fault_output (Other given) = other_output (string_bytes given)
  fault_output (Memory sent) = no_memory_output

  -- what is shown of the result of a request: `shown` of an answer, or the error
  abbrev pub end_output : {D : Type 0} → (D → Output) → Result D (RequestTokenError NoReply T)
      → Output
  end_output shown (Ok answer) = shown answer
  end_output shown (Err fault) = fault_output fault

-- what is shown if the client lacks an endpoint, or if the URL of one is not `https`
abbrev pub configuration_output : ConfigurationError → Output
configuration_output (MissingUrl name) = missing name.now
configuration_output (InsecureUrl name) = insecure name.now
