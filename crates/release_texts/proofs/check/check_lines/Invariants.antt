use Rattle.std.proofs.Common.{◌≡◌, List, ℕ}
use Rattle.release_texts.specs.CheckText.{AreCheckLines}
use Rattle.release_texts.proofs.check.check_lines.Given as goal

abbrev pub invariant-loop-i : goal.invariant-loop-i
invariant-loop-i l = record {
  names : l.text.names ≡ l.station.switch_paths;
  lines : (lines : List (List ℕ)) × AreCheckLines l.i l.station l.readings lines l.text.text;
}
