use Rattle.std.proofs.Common.{refl}
use Rattle.oauth2_codes.proofs.Codes.{error_code_text-of, error_canonical-canonical}
use Rattle.oauth2_codes.proofs.basic_error.basic_error_laws.Goals as goal

pub returns : goal.returns
returns c = record { text = error_code_text-of; back = λ k. refl; once = error_canonical-canonical }
