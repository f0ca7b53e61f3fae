use Rattle.std.proofs.Common.{◌≡◌, drop, length, map}
use Rattle.serde_json.specs.View.{items_view}
use Rattle.oauth2_script_values.specs.Part as spec
use Rattle.oauth2_script_values.proofs.Parts.{with_front}
use Rattle.oauth2_script_values.proofs.part.each.Given as goal

abbrev pub invariant-loop-value : goal.invariant-loop-value
invariant-loop-value g l = record {
  counted : length l.parts.items ≡ l.value-index;
  so_far : with_front (map g.T.Part.meaning l.parts.items) (spec.each_item g.T.Part.reading l.value-index (items_view (drop l.value-index l.values)))
      ≡ spec.each_item g.T.Part.reading 0 (items_view l.values);
}
