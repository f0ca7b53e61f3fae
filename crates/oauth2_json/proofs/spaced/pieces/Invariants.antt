use Rattle.std.proofs.Common.{◌≡◌, map, length}
use denote.Text.{Utf8}
use denote.Shadow.{shadow}
use Rattle.oauth2_json.specs.Values.{each_word}
use Rattle.oauth2_json.proofs.Words.{pieces, in_front}
use Rattle.oauth2_json.proofs.spaced.pieces.Given as goal

abbrev pub invariant-loop-first : goal.invariant-loop-first
invariant-loop-first g l =
    shadow (Utf8 l.rest)
    × (in_front (map g.T.FromJson.meaning l.read.items) (each_word g.T.FromJson.reading (pieces l.rest)) ≡ each_word g.T.FromJson.reading (pieces l.text))

abbrev pub decreases-loop-first : goal.decreases-loop-first
decreases-loop-first g l = length l.rest
