-- The fault that an error of a reader of tokens tells.
use Rattle.std.specs.Prelude.{Option, Some, None}
use Rattle.oauth2_json.specs.Reading.{fault_of}
use Rattle.oauth2_openid.specs.Token.{TokenFault, too_long, not_three_parts, not_base64, at_fault}
use Rattle.oauth2_openid.specs.declared.read_error.IdTokenReadError.{IdTokenReadError}
use Rattle.oauth2_openid.specs.declared.read_error.IdTokenReadError.TheVariants as errors

-- why a text is no token; `None` if memory ran out
abbrev pub token_fault_in : IdTokenReadError → Option TokenFault
token_fault_in errors.TooLong = Some too_long
token_fault_in errors.NotThreeParts = Some not_three_parts
token_fault_in (errors.NotBase64 part) = Some (not_base64 part)
token_fault_in (errors.Fault part fault) = Some (at_fault part (fault_of fault))
token_fault_in errors.Memory = None
