use Rattle.std.proofs.Common.{List, ap, append-nil, sym}
use Rattle.oauth2_form.specs.Pairs.{Pair}
use Rattle.oauth2_request_commands.proofs.authorize.with_nonce.Goals as goal

pub returns-in-None : goal.returns-in-None
returns-in-None c =
    rw c.in-None.is (sym (ap (λ (pairs : List Pair). record c.args.request { extra_params = pairs }) (append-nil c.args.request.extra_params)))
