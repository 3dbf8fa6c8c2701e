use Rattle.std.proofs.Common.{◌≡◌, ◌++◌}
use Rattle.central_rules.specs.Names.{texts_below}
use Rattle.path_names.specs.Tables.{paths_of_both}
use Rattle.compare_text.specs.CompareText.{old_with_at}
use Rattle.compare_text.proofs.vector_lines.push_old_withs.Given as goal

abbrev pub invariant-loop-i : goal.invariant-loop-i
invariant-loop-i l = record {
  text : l.text.text ≡ l.initial.text.text ++ texts_below (old_with_at l.old l.gone l.closed) l.i;
  names : l.text.names ≡ paths_of_both l.old l.new;
  same : l.text.names ≡ l.initial.text.names;
}
