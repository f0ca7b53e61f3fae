use Rattle.std.proofs.Common.{refl}
use Rattle.oauth2_codes.proofs.Codes.{revocation_error_code_text-of, revocation_error_canonical-canonical}
use Rattle.oauth2_codes.proofs.revocation_error.revocation_error_laws.Goals as goal

pub returns : goal.returns
returns c = record { text = revocation_error_code_text-of; back = λ k. refl; once = revocation_error_canonical-canonical }
