-- The command `metadata`: the client gets an issuer's metadata (RFC 8414, 3; OpenID Connect
-- Discovery 1.0, 4).
use Rattle.std.specs.Prelude.{◌≡◌, ℕ, List, bytes_eq, if◌then◌else◌, Option, None, Some, Ok, Err, unwrap_or}
use Rattle.serde_json.specs.Data.{Data, object, no_members}
use Rattle.serde_json.specs.Written.{compact_text}
use Rattle.url.specs.Parser.{Parsed, parse_url}
use Rattle.url.specs.Parts.{Parts, serialize}
use Rattle.oauth2.specs.Settings.{Settings}
use Rattle.oauth2_codes.specs.ErrorCodes.{ErrorCode, error_code_text, error_code_reading}
use Rattle.oauth2_codes.specs.ErrorResponse.{ErrorParts, error_reading}
use Rattle.oauth2_json.specs.Puts.{put_all}
use Rattle.oauth2_metadata.specs.Issuer.{issuer_error_text, metadata_place, openid_place, issuer_refusal}
use Rattle.oauth2_metadata.specs.EndpointFault.{endpoint_fault, fault_text}
use Rattle.oauth2_metadata.specs.Metadata.{Metadata, metadata_reading, metadata_rows}
use Rattle.oauth2_metadata.specs.Reply.{Found, found_answer, other_reply_text}
use Rattle.oauth2_metadata.specs.Request.{IsGetOf, other_issuer_text}
use Rattle.oauth2_metadata.specs.declared.endpoint_fault.EndpointFault.{EndpointFault}
use Rattle.oauth2_metadata.specs.declared.issuer.IssuerError.{IssuerError}
use Rattle.oauth2_metadata.specs.declared.issuer.IssuerError.TheVariants.{NotUrl}
use Rattle.oauth2_replies.specs.Kept.{any_object}
use Rattle.oauth2_wire.specs.declared.content_type.ReplyRule.{ReplyRule}
use Rattle.oauth2_wire.specs.Reply.{Answer, ReplyView}
use Rattle.oauth2_world.specs.declared.event.FaultKind.TheVariants.{OtherStatus, BadMetadata, OtherIssuer, BadIssuer}
use Rattle.oauth2_request_commands.specs.Exchange.{IsRequestShown, error_members}
use Rattle.oauth2_request_commands.specs.Out.{Output, success_output, failure_output}
use Rattle.oauth2_script.specs.MetadataParams.{MetadataParams}
use Rattle.oauth2_script.specs.Replies.{Reply}
use Rattle.oauth2_script.specs.declared.metadata_params.WellKnown.{WellKnown}
use Rattle.oauth2_script.specs.declared.metadata_params.WellKnown.TheVariants.{OauthAuthorizationServer, OpenidConfiguration}

-- the URL of the metadata of an issuer, by the name of the well-known URI
abbrev pub place : WellKnown → Parts → Parts
place OauthAuthorizationServer = metadata_place
place OpenidConfiguration = openid_place

-- metadata of an issuer without extension members (RFC 8414, 2)
abbrev pub BasicMetadata : Type 0
BasicMetadata = Metadata (Unit {0})

-- metadata as a JSON object; absent members are left out
unfoldable pub metadata_data : BasicMetadata → Data
metadata_data m = object (put_all (metadata_rows m) no_members)

-- metadata as compact JSON
unfoldable pub metadata_json : BasicMetadata → List ℕ
metadata_json m = compact_text (metadata_data m)

-- the output for metadata: a client has to be allowed to call each endpoint, and the metadata has
-- to name the issuer, byte for byte (RFC 8414, 3.3)
abbrev pub document_output : List ℕ → BasicMetadata → Option EndpointFault → Output
document_output issuer m (Some fault) = failure_output BadMetadata (fault_text fault)
document_output issuer m None =
    if bytes_eq m.issuer issuer
    then success_output (metadata_json m)
    else failure_output OtherIssuer (other_issuer_text m.issuer)

-- the output for a reply: its metadata, or a status that is not 200
abbrev pub metadata_output : List ℕ → Found BasicMetadata → Output
metadata_output issuer (Ok m) = document_output issuer m (endpoint_fault m.endpoints)
metadata_output issuer (Err (status, body)) = failure_output OtherStatus (other_reply_text status)

-- the reply to a request for metadata: metadata, another status, or an error (RFC 6749, 5.2)
abbrev pub metadata_answer : ReplyRule → ReplyView
    → Answer (Found BasicMetadata) (ErrorParts ErrorCode)
metadata_answer rule =
    found_answer rule (metadata_reading any_object) (error_reading error_code_reading)

-- what is shown of the GET request for metadata that has to name `issuer`
abbrev pub IsDiscovered : ReplyRule → List ℕ → Parts → List Reply → Output → Type 0
IsDiscovered rule issuer url =
    IsRequestShown (metadata_output issuer) (error_members error_code_text) (metadata_answer rule)
    (IsGetOf (serialize url)) url

-- the issuer that the metadata has to name: `expected_issuer` if it is given, else `issuer`
abbrev pub expected_issuer : MetadataParams → List ℕ
expected_issuer p = unwrap_or p.expected_issuer p.issuer

-- the output for a URL: if it can be an issuer, that of a request for its metadata; else the reason
abbrev pub IsIssuerOutput : ReplyRule → MetadataParams → List Reply → Parts → Option IssuerError
    → Output → Type 0
IsIssuerOutput rule p replies url None o =
    IsDiscovered rule (expected_issuer p) (place p.well_known url) replies o
IsIssuerOutput rule p replies url (Some error) o =
    o ≡ failure_output BadIssuer (issuer_error_text error)

-- the output for a parsed issuer: a text that is not a URL is refused
abbrev pub IsUrlOutput : ReplyRule → MetadataParams → List Reply → Parsed Parts → Output → Type 0
IsUrlOutput rule p replies (Ok url) o = IsIssuerOutput rule p replies url (issuer_refusal url) o
IsUrlOutput rule p replies (Err cause) o = o ≡ failure_output BadIssuer (issuer_error_text NotUrl)

-- the output of `metadata`; of the client only the reply rule counts
abbrev pub IsMetadataOutput : Settings → MetadataParams → List Reply → Output → Type 0
IsMetadataOutput client p replies o =
    IsUrlOutput client.reply_rule p replies (parse_url None p.issuer) o
