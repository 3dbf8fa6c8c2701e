use Rattle.std.proofs.Common.{◌≡◌, length}
use Rattle.central_rules.specs.WordRows.{known_word, FirstAre}
use Rattle.central_rules.proofs.plain.words_known.Given as goal

abbrev pub invariant-loop-i : goal.invariant-loop-i
invariant-loop-i l = record {
  count : length l.words ≡ length l.station.switches;
  each : FirstAre (known_word l.station l.bay.0 l.own l.heard) l.i l.words;
}
