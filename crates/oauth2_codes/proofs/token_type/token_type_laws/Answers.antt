use Rattle.std.proofs.Common.{refl}
use Rattle.oauth2_codes.proofs.Codes.{token_code_text-of, canonical-canonical}
use Rattle.oauth2_codes.proofs.token_type.token_type_laws.Goals as goal

pub returns : goal.returns
returns c = record { text = token_code_text-of; back = λ k. refl; once = canonical-canonical }
