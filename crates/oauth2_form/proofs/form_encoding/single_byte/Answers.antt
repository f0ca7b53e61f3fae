use Rattle.std.proofs.Common.{◌≡◌, ℕ, ◌<◌, map, get_or, refl, ap, ◌∙◌, arith}
use Rattle.std.proofs.lemmas.List.FromFn.{get_or-map-range_with_len}
use Rattle.std.specs.List.{range_with_len}
use Rattle.oauth2_form.specs.private.EncodingTable.{single_byte}
use Rattle.oauth2_form.specs.declared.form_encoding.TheConstants.{SINGLE_BYTES}
use Rattle.oauth2_form.proofs.form_encoding.single_byte.Goals as goal

-- the table has the single byte of each byte
table_is : SINGLE_BYTES ≡ map single_byte (range_with_len 0 256)
table_is = refl

entry : (b : ℕ) → b < 256 → get_or SINGLE_BYTES b 0 ≡ single_byte b
entry b h = ap (λ t. get_or t b 0) table_is ∙ get_or-map-range_with_len single_byte 0 256 b b 0 h (omega arith)

pub returns : goal.returns
returns c = rw c.from.ensures (entry c.args.byte (omega arith))
