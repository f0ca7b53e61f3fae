use Rattle.std.proofs.Common.{◌≡◌, ◌++◌, string_bytes}
use Rattle.oauth2_wire.specs.ServerView.{pair_texts}
use Rattle.oauth2_results.specs.RequestLines.{pair_line}
use Rattle.oauth2_results.proofs.PairLines.{pair_lines-more}
use Rattle.oauth2_results.proofs.request_lines.print_pairs.Goals as goal

pub loop-name-preserved : goal.loop-name-preserved
loop-name-preserved c =
    let grown : string_bytes c.print_pair.new.lines ≡ string_bytes c.loop-name.lines ++ pair_line (pair_texts c.loop-name-item.result) =
    rw (c.as_str.ensures.value, c.as_str-in-loop-name.ensures.value) at c.in_ok-print_pair.ensures in
    pair_lines-more (string_bytes c.args.lines.now) (string_bytes c.loop-name.lines) (string_bytes c.print_pair.new.lines) c.args.pairs.now c.loop-name.name-index
    c.loop-name-item.result c.loop-name-test.true c.loop-name-item.is c.loop-name.invariant grown
