use Rattle.std.proofs.Common.{◌≡◌, ◌++◌}
use Rattle.central_rules.specs.Names.{texts_below}
use Rattle.path_names.specs.Tables.{paths_of_both}
use Rattle.compare_text.specs.CompareText.{new_bay_at}
use Rattle.compare_text.proofs.bay_lines.push_new_bays.Given as goal

abbrev pub invariant-loop-p : goal.invariant-loop-p
invariant-loop-p l = record {
  text : l.text.text ≡ l.initial.text.text ++ texts_below (new_bay_at l.new l.words) l.p;
  names : l.text.names ≡ paths_of_both l.old l.new;
  same : l.text.names ≡ l.initial.text.names;
}
