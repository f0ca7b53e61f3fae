use Rattle.std.proofs.Common.{refl}
use Rattle.oauth2_codes.proofs.Codes.{device_error_code_text-of, device_error_canonical-canonical}
use Rattle.oauth2_codes.proofs.device_error.device_code_error_laws.Goals as goal

pub returns : goal.returns
returns c = record { text = device_error_code_text-of; back = λ k. refl; once = device_error_canonical-canonical }
