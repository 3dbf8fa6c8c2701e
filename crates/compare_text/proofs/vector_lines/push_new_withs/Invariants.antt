use Rattle.std.proofs.Common.{◌≡◌, ◌++◌}
use Rattle.central_rules.specs.Names.{texts_below}
use Rattle.path_names.specs.Tables.{paths_of_both}
use Rattle.compare_text.specs.CompareText.{new_with_at}
use Rattle.compare_text.proofs.vector_lines.push_new_withs.Given as goal

abbrev pub invariant-loop-k : goal.invariant-loop-k
invariant-loop-k l = record {
  text : l.text.text ≡ l.initial.text.text ++ texts_below (new_with_at l.new l.moved.0 l.here l.closed) l.k;
  names : l.text.names ≡ paths_of_both l.old l.new;
  same : l.text.names ≡ l.initial.text.names;
}
