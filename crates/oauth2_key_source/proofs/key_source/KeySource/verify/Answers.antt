use Rattle.std.proofs.Common.{rules, sym, ap, ◌∙◌}
use Rattle.std.specs.Prelude.{option_map}
use Rattle.oauth2_openid.specs.Seen.{token_of}
use Rattle.oauth2_keys.specs.Verified.{IsRefusal}
use Rattle.oauth2_key_source.proofs.Calls.{of_kept}
use Rattle.oauth2_key_source.proofs.key_source.KeySource.verify.Goals as goal

pub returns-in-Err-verify-clause-call : goal.returns-in-Err-verify-clause-call
returns-in-Err-verify-clause-call g c = (
  search (rules, c.in-Ok.ensures.call),
  of_kept (λ keys. IsRefusal keys c.args.algorithm (token_of c.args.token.now) c.in-Err-verify.error)
      c.keep_keys.new.self.kept c.unwrap.result.now
      (sym c.kept_keys.ensures ∙ ap (option_map (λ keys. keys.now)) c.unwrap.ensures)
      c.in-Err-verify.ensures.refused,
)
