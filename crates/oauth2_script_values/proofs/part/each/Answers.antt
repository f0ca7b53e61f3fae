use Rattle.std.proofs.Common.{◌≡◌, ◌++◌, ◌∷◌, [], Ok, map, rules, arith}
use Rattle.std.proofs.lemmas.List.{map_push}
use Rattle.serde_json.specs.View.{view, items_view}
use Rattle.oauth2_script_values.specs.Reading.{inside, to_item}
use Rattle.oauth2_script_values.specs.Part as spec
use Rattle.oauth2_script_values.specs.Gives.{TellsPartError}
use Rattle.oauth2_script_values.proofs.Parts.{goes_on, stops, is_done}
use Rattle.oauth2_script_values.proofs.part.each.Goals as goal

pub loop-value-preserved : goal.loop-value-preserved
loop-value-preserved g c =
    let l = c.loop-value in
    let part = c.in_ok-read_inside.field-0 in
    let at : l.value-index ≡ c.len.result = omega (arith, l.invariant.counted, c.len.ensures) in
    let read : inside (to_item l.value-index) (g.T.Part.reading (view c.value-item.result)) ≡ Ok (g.T.Part.meaning part) = rw at c.in_ok-read_inside.ensures.read in
    let e : map g.T.Part.meaning c.push.new.self.items ≡ map g.T.Part.meaning l.parts.items ++ g.T.Part.meaning part ∷ []
    = rw c.in_ok-push.ensures.items (map_push _ l.parts.items part) in
    record {
      counted = rw (c.in_ok-push.ensures.items) (search rules);
      so_far = rw e (goes_on g.T.Part.reading (map g.T.Part.meaning l.parts.items) c.args.values.now l.value-index _
          c.value-item.result c.loop-value-test.true c.value-item.is l.invariant.so_far (g.T.Part.meaning part) read);
    }

pub returns-in_err-read_inside : goal.returns-in_err-read_inside
returns-in_err-read_inside g c =
    let l = c.loop-value in
    let at : l.value-index ≡ c.len.result = omega (arith, l.invariant.counted, c.len.ensures) in
    let told : TellsPartError c.in_err-read_inside.field-0.0 (inside (to_item l.value-index) (g.T.Part.reading (view c.value-item.result))) = rw at c.in_err-read_inside.ensures.read in
    let refused : TellsPartError c.in_err-read_inside.field-0.0 (spec.each_item g.T.Part.reading 0 (items_view c.args.values.now))
    = stops g.T.Part.reading (map g.T.Part.meaning l.parts.items) c.args.values.now l.value-index _
    c.value-item.result c.loop-value-test.true c.value-item.is l.invariant.so_far c.in_err-read_inside.field-0.0 told in
    search rules

pub returns : goal.returns
returns g c = is_done g.T.Part.reading (map g.T.Part.meaning c.loop-value.parts.items) c.args.values.now c.loop-value.value-index _ c.loop-value-test.false c.loop-value.invariant.so_far
