use Rattle.ecdsa_signatures.proofs.Forms.{held-same}
use Rattle.ecdsa_signatures.proofs.form.is_same.Goals as goal

pub returns : goal.returns
returns c =
    let h = held-same c.args.curve c.args.a.now c.args.b.now c.requires.a c.requires.b in
    let e = c.is_same.ensures in
    (λ t. h.0 (e.0 t), λ w. e.1 (h.1 w))
