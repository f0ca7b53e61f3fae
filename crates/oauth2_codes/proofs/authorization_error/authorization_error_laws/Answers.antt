use Rattle.std.proofs.Common.{refl}
use Rattle.oauth2_codes.proofs.Codes.{authorization_error_code_text-of, authorization_error_canonical-canonical}
use Rattle.oauth2_codes.proofs.authorization_error.authorization_error_laws.Goals as goal

pub returns : goal.returns
returns c = record { text = authorization_error_code_text-of; back = λ k. refl; once = authorization_error_canonical-canonical }
