use Rattle.std.proofs.Common.{◌≡◌, ◌++◌, codes}
use Rattle.central_rules.specs.Names.{texts_below}
use Rattle.denial_explain.specs.ExplanationText.{position_at}
use Rattle.path_names.specs.Tables.{paths_of_items}
use Rattle.release_texts.proofs.lines.push_positions.Given as goal

abbrev pub invariant-loop-i : goal.invariant-loop-i
invariant-loop-i l = record {
  text : l.text.text
      ≡ l.initial.text.text ++ texts_below (position_at (codes "with ") l.moved.0 l.readings l.reading l.station) l.i;
  names : l.text.names ≡ paths_of_items l.station;
  same : l.text.names ≡ l.initial.text.names;
}
