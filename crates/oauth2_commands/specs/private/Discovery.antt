-- How the result of a request for metadata is shown.
use Rattle.std.specs.Prelude.{◌≡◌, Result, Ok, Err, string_bytes}
use Rattle.oauth2_metadata.specs.EndpointFault.{fault_text}
use Rattle.oauth2_metadata.specs.Metadata.{Metadata, metadata_seen}
use Rattle.oauth2_metadata.specs.Reply.{other_reply_text}
use Rattle.oauth2_metadata.specs.Request.{other_issuer_text}
use Rattle.oauth2_metadata.specs.declared.issuer.IssuerError.{IssuerError}
use Rattle.oauth2_metadata.specs.declared.issuer.IssuerError.TheVariants.{Memory, TooLong}
use Rattle.oauth2_metadata.specs.declared.metadata_error.MetadataError.{MetadataError}
use Rattle.oauth2_metadata.specs.declared.metadata_error.MetadataError.TheVariants.{Endpoint, OtherIssuer, Reply, Status}
use Rattle.oauth2_replies.specs.declared.token.EmptyExtraTokenFields.{EmptyExtraTokenFields}
use Rattle.oauth2_commands.specs.Metadata.{BasicMetadata, metadata_json}
use Rattle.oauth2_request_commands.specs.Out.{Output, success_output, failure_output}
use Rattle.oauth2_request_commands.specs.Faults.{fault_output}
use Rattle.oauth2_request_commands.specs.private.Results.{ErrorResponse, error_seen}
use Rattle.oauth2_world.specs.declared.event.FaultKind.TheVariants as kind
use Rattle.oauth2_world.specs.declared.replay.NoReply.{NoReply}

-- the error is neither that memory ran out nor that a URL is too long
abbrev pub HasRoom : IssuerError → Type 0
HasRoom error = ¬ (error ≡ Memory) × ¬ (error ≡ TooLong)

-- metadata without extension members, as contracts see the value that the code holds
abbrev pub MetadataSeen : Type 0
MetadataSeen = Metadata EmptyExtraTokenFields

-- metadata that the code holds, as the specification has it
abbrev pub metadata_meaning : MetadataSeen → BasicMetadata
metadata_meaning m = metadata_seen (λ _. tt) m

-- what is shown of an error of a request for metadata
abbrev pub metadata_error_output : MetadataError NoReply ErrorResponse → Output
metadata_error_output (Reply fault) = fault_output error_seen fault
metadata_error_output (Status reply) =
    failure_output kind.OtherStatus (other_reply_text reply.status)
metadata_error_output (Endpoint fault) = failure_output kind.BadMetadata (fault_text fault)
metadata_error_output (OtherIssuer issuer) =
    failure_output kind.OtherIssuer (other_issuer_text (string_bytes issuer))

-- what is shown of the result of a request for metadata: the metadata, or the error
abbrev pub discovery_output : Result MetadataSeen (MetadataError NoReply ErrorResponse) → Output
discovery_output (Ok m) = success_output (metadata_json (metadata_meaning m))
discovery_output (Err error) = metadata_error_output error
