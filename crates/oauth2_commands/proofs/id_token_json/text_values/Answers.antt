use Rattle.std.proofs.Common.{◌≡◌, ◌∙◌, ◌++◌, [], drop, length, map, string_bytes, ap, sym, append-nil, arith}
use Rattle.std.proofs.Math.Seq.{drop-length}
use Rattle.serde_json.specs.Data.{string}
use Rattle.serde_json.specs.View.{view, items_of}
use Rattle.oauth2_json.proofs.Lists.{text_items-map}
use Rattle.oauth2_commands.proofs.id_token_json.text_values.Goals as goal

pub returns : goal.returns
returns c =
    let l = c.loop-text in
    let end : l.text-index ≡ length c.args.texts.now = omega arith in
    let none : drop l.text-index c.args.texts.now ≡ [] = ap (λ i. drop i c.args.texts.now) end ∙ drop-length c.args.texts.now in
    let all = sym (append-nil (map view l.values.items)) ∙ ap (λ ts. map view l.values.items ++ map (λ t. string (string_bytes t)) ts) (sym none) ∙ l.invariant in
    ap items_of all ∙ text_items-map c.args.texts.now
