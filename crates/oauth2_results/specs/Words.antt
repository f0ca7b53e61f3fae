-- The words for kinds and causes of faults.
use Rattle.std.specs.Prelude.{ℕ, List, [], ◌∷◌, ◌++◌, codes}
use Rattle.std.specs.List.{flat_map}
use Rattle.oauth2_json.specs.declared.read.ParseCause.{ParseCause}
use Rattle.oauth2_json.specs.declared.read.ParseCause.TheVariants as cause
use Rattle.oauth2_world.specs.declared.event.FaultKind.{FaultKind}
use Rattle.oauth2_world.specs.declared.event.FaultKind.TheVariants as kind

-- the word for a kind of fault in the JSON result
abbrev pub kind_word : FaultKind → List ℕ
kind_word kind.MissingEndpoint = codes "missing_endpoint"
kind_word kind.InsecureEndpoint = codes "insecure_endpoint"
kind_word kind.RequestFailed = codes "request_failed"
kind_word kind.ErrorResponse = codes "error_response"
kind_word kind.UnreadReply = codes "unread_reply"
kind_word kind.OtherTokenType = codes "other_token_type"
kind_word kind.OtherError = codes "other_error"
kind_word kind.OutOfMemory = codes "out_of_memory"
kind_word kind.RefusedRedirect = codes "refused_redirect"
kind_word kind.OtherClient = codes "other_client"
kind_word kind.OtherTokenEndpoint = codes "other_token_endpoint"
kind_word kind.OtherRedirectUri = codes "other_redirect_uri"
kind_word kind.OtherStatus = codes "other_status"
kind_word kind.BadMetadata = codes "bad_metadata"
kind_word kind.OtherIssuer = codes "other_issuer"
kind_word kind.BadIssuer = codes "bad_issuer"
kind_word kind.BadToken = codes "bad_token"
kind_word kind.BadClaims = codes "bad_claims"
kind_word kind.BadSignature = codes "bad_signature"
kind_word kind.UncheckedSignature = codes "unchecked_signature"
kind_word kind.BadKeys = codes "bad_keys"
kind_word kind.BadAccessToken = codes "bad_access_token"
kind_word kind.TakenParameter = codes "taken_parameter"
kind_word kind.BadPush = codes "bad_push"

-- all kinds of faults
abbrev pub kinds : List FaultKind
kinds =
    kind.MissingEndpoint
    ∷ kind.InsecureEndpoint
    ∷ kind.RequestFailed
    ∷ kind.ErrorResponse
    ∷ kind.UnreadReply ∷
    kind.OtherTokenType
    ∷ kind.OtherError
    ∷ kind.OutOfMemory
    ∷ kind.RefusedRedirect
    ∷ kind.OtherClient
    ∷ kind.OtherTokenEndpoint ∷
    kind.OtherRedirectUri
    ∷ kind.OtherStatus
    ∷ kind.BadMetadata ∷
    kind.OtherIssuer ∷ kind.BadIssuer ∷ kind.BadToken ∷ kind.BadClaims ∷ kind.BadSignature ∷
    kind.UncheckedSignature
    ∷ kind.BadKeys
    ∷ kind.BadAccessToken
    ∷ kind.TakenParameter
    ∷ kind.BadPush
    ∷ []

-- the words of all kinds, a line each
abbrev pub kinds_text : List ℕ
kinds_text = flat_map (λ k. kind_word k ++ codes "\n") kinds

-- the name of the cause why a body could not be read
abbrev pub cause_name : ParseCause → List ℕ
cause_name cause.NotJson = codes "NotJson"
cause_name cause.NotObject = codes "NotObject"
cause_name cause.Missing = codes "Missing"
cause_name cause.WrongType = codes "WrongType"
cause_name cause.NotWhole = codes "NotWhole"
cause_name cause.OutOfRange = codes "OutOfRange"
cause_name cause.BadUrl = codes "BadUrl"
cause_name cause.BothNames = codes "BothNames"
cause_name cause.Refused = codes "Refused"
