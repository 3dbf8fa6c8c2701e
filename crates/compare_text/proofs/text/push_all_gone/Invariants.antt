use Rattle.std.proofs.Common.{◌≡◌, ◌++◌}
use Rattle.central_rules.specs.Names.{texts_below}
use Rattle.path_names.specs.Tables.{paths_of_both}
use Rattle.compare_text.specs.CompareText.{gone_at}
use Rattle.compare_text.proofs.text.push_all_gone.Given as goal

abbrev pub invariant-loop-i : goal.invariant-loop-i
invariant-loop-i l = record {
  text : l.text.text ≡ l.initial.text.text ++ texts_below (gone_at l.old l.gone) l.i;
  names : l.text.names ≡ paths_of_both l.old l.new;
  same : l.text.names ≡ l.initial.text.names;
}
