use Rattle.std.proofs.Common.{◌≡◌, refl, rules}
use Rattle.oauth2_key_source.proofs.Calls.{of_kept}
use Rattle.oauth2_key_source.proofs.key_source.KeySource.lend_keys.Goals as goal

pub returns-in-Ok : goal.returns-in-Ok
returns-in-Ok g c = (
  (
    refl,
    (λ kept. tt),
    (
      refl,
      (
        c.in-Ok.ensures.call,
        of_kept (λ keys. c.unwrap.result.now ≡ keys) c.keep_keys.new.self.kept c.unwrap.result.now (search rules) refl,
      ),
    ),
  ),
  record { rests = tt; ready = c.in-Ok.ensures.ready },
)
