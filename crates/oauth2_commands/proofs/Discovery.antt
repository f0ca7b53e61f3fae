-- The command `metadata`, from its request.
use Rattle.std.proofs.Common.{◌≡◌, ℕ, List, Bool, true, false, Option, Some, None, Result, Ok, Err, inl, inr, refl}
use Rattle.std.specs.Prelude.{bytes_eq, unwrap_or, IsOkAnd}
use Rattle.std.proofs.lemmas.Slice.Eq.{bytes_eq-Decides}
use Rattle.serde_json.specs.Data.{object, no_members}
use Rattle.serde_json.specs.Written.{has_float}
use Rattle.oauth2.specs.Settings.{Settings}
use Rattle.oauth2_json.specs.Writing.{Writing}
use Rattle.oauth2_metadata.specs.EndpointFault.{endpoint_fault}
use Rattle.oauth2_metadata.specs.Issuer.{issuer_error_text}
use Rattle.oauth2_metadata.specs.Metadata.{metadata_writing, metadata_names, metadata_rows}
use Rattle.oauth2_metadata.specs.Reply.{found_seen}
use Rattle.oauth2_metadata.specs.Request.{MetadataQuery, IsAsked, IsChecked, IsJudged}
use Rattle.oauth2_metadata.specs.declared.endpoint_fault.EndpointFault.{EndpointFault}
use Rattle.oauth2_metadata.specs.declared.metadata_error.MetadataError.{MetadataError}
use Rattle.oauth2_metadata.specs.declared.metadata_error.MetadataError.TheVariants as errors
use Rattle.oauth2_metadata.specs.declared.reply.OtherReply.{OtherReply}
use Rattle.oauth2_world.specs.declared.replay.NoReply.{NoReply}
use Rattle.oauth2_metadata.specs.declared.issuer.IssuerError.{IssuerError}
use Rattle.oauth2_metadata.specs.declared.issuer.IssuerError.TheVariants.{NotUrl}
use Rattle.oauth2_world.specs.Events.{Event}
use Rattle.oauth2_world.specs.declared.event.FaultKind.TheVariants.{BadIssuer}
use Rattle.oauth2_script.specs.MetadataParams.{MetadataParams}
use Rattle.oauth2_script.specs.Replies.{Reply}
use Rattle.oauth2_commands.specs.Metadata.{IsDiscovered, IsMetadataOutput, document_output, expected_issuer, metadata_data, metadata_output, place}
use Rattle.oauth2_commands.specs.private.Discovery.{HasRoom, MetadataSeen, discovery_output, metadata_meaning}
use Rattle.oauth2_commands.proofs.NoFloats.{metadata_data-no_float}
use Rattle.oauth2_request_commands.specs.Out.{Output, failure_output, Adds, AddsOutput}
use Rattle.oauth2_request_commands.specs.Faults.{end_output}
use Rattle.oauth2_request_commands.specs.private.Results.{ErrorResponse, ShownFault, error_seen}
use Rattle.oauth2_request_commands.specs.declared.status.RunStatus.{RunStatus}
use Rattle.oauth2_request_commands.proofs.Results.{free_of}

-- ---- metadata as JSON

abbrev metadata_written : MetadataSeen → Writing
metadata_written m = metadata_writing (λ _. Ok (object no_members)) m

pub metadata_written-data : (m : MetadataSeen) → metadata_written m ≡ Ok (metadata_data (metadata_meaning m))
unfolding metadata_data metadata_names metadata_rows
metadata_written-data m = refl

pub metadata_free : (m : MetadataSeen) → IsOkAnd (metadata_written m) (λ d. has_float d ≡ false)
metadata_free m = free_of (metadata_written m) (metadata_data (metadata_meaning m)) (metadata_written-data m) (metadata_data-no_float (metadata_meaning m))

-- ---- the end of the request

off : (b : Bool) → (b ≡ true → ⊥) → b ≡ false
off true h = absurd (h refl)
off false h = refl

-- a document is shown by its endpoints and by whether it names the issuer
document_shown : (issuer : List ℕ) (m : MetadataSeen) (fault : Option EndpointFault) (result : Result MetadataSeen (MetadataError NoReply ErrorResponse))
    → IsChecked issuer m fault result → discovery_output result ≡ document_output issuer (metadata_meaning m) fault
document_shown issuer m (Some fault) result h = rw h refl
document_shown issuer m None (Ok found) (is, names) =
    let same : bytes_eq m.issuer issuer ≡ true = (bytes_eq-Decides m.issuer issuer).1 names in
    rw (is, same) refl
document_shown issuer m None (Err (errors.OtherIssuer named)) (is, other) =
    let differs : bytes_eq m.issuer issuer ≡ false = off (bytes_eq m.issuer issuer) (λ same. other ((bytes_eq-Decides m.issuer issuer).0 same)) in
    rw (differs, is) refl
document_shown issuer m None (Err (errors.Reply fault)) h = absurd h
document_shown issuer m None (Err (errors.Status reply)) h = absurd h
document_shown issuer m None (Err (errors.Endpoint fault)) h = absurd h

-- the result is shown as what was found
pub judged_shown : (issuer : List ℕ) (outcome : Result (Result MetadataSeen OtherReply) ShownFault) (result : Result MetadataSeen (MetadataError NoReply ErrorResponse))
    → IsJudged issuer outcome result → discovery_output result ≡ end_output error_seen (λ found. metadata_output issuer (found_seen metadata_meaning found)) outcome
judged_shown issuer (Err fault) result h = rw h refl
judged_shown issuer (Ok (Err reply)) result h = rw h refl
judged_shown issuer (Ok (Ok m)) result h = document_shown issuer m (endpoint_fault m.endpoints) result h

module _ (client : Settings) (p : MetadataParams) (replies : List Reply) (old new : List Event) (s : RunStatus) where
  abbrev IsOutput : Output → Type 0
  IsOutput o = IsMetadataOutput client p replies o

  -- a text that is no issuer
  pub issuer_refused : (error : IssuerError) → IsAsked (place p.well_known) p.issuer (Err error) → HasRoom error
      → AddsOutput old new s (failure_output BadIssuer (issuer_error_text error)) → Adds old new s IsOutput
  issuer_refused error (inl (inl is)) room printed = absurd (room.0 is)
  issuer_refused error (inl (inr (is, cause, parsed, other))) room printed =
      let told : AddsOutput old new s (failure_output BadIssuer (issuer_error_text NotUrl)) = rw is at printed in
      (failure_output BadIssuer (issuer_error_text NotUrl), rw parsed refl, told.0, told.1)
  issuer_refused error (inr (url, parsed, inl refused)) room printed =
      (failure_output BadIssuer (issuer_error_text error), rw (parsed, refused) refl, printed.0, printed.1)
  issuer_refused error (inr (url, parsed, inr (accepted, inl (is, long)))) room printed = absurd (room.1 is)
  issuer_refused error (inr (url, parsed, inr (accepted, inr (is, short)))) room printed = absurd (room.0 is)

  -- a request with the rule of the client and the issuer that is expected
  pub issuer_asked : (query asked : MetadataQuery) → IsAsked (place p.well_known) p.issuer (Ok query) → asked ≡ record query { reply_rule = client.reply_rule; issuer = unwrap_or p.expected_issuer query.issuer }
      → Adds old new s (λ o. IsDiscovered asked.reply_rule asked.issuer asked.url replies o) → Adds old new s IsOutput
  issuer_asked query asked (url, parsed, accepted, made) is (o, discovered, grown, ended) =
      let there : IsDiscovered client.reply_rule (expected_issuer p) (place p.well_known url) replies o = rw (is, made) at discovered in
      (o, rw (parsed, accepted) there, grown, ended)
