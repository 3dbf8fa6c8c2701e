use Rattle.std.proofs.Common.{◌≡◌, List, ℕ}
use Rattle.release_texts.specs.DenialsText.{AreDenials}
use Rattle.path_names.specs.Tables.{paths_of_items}
use Rattle.release_texts.proofs.denials.denial_lines.Given as goal

abbrev pub invariant-loop-i : goal.invariant-loop-i
invariant-loop-i l = record {
  names : l.text.names ≡ paths_of_items l.station;
  texts : (texts : List (List ℕ)) × AreDenials l.i l.station l.readings texts l.text.text;
}
