use Rattle.std.proofs.Common.{◌≡◌, ℕ, ◌<◌, length, get_or}
use Rattle.judge_graphs.specs.PartnerLabels.{IsLeastOf}
use Rattle.judge_graphs.specs.PartnerNames.{entries, IsIndexOf}
use Rattle.judge_graphs.proofs.label_names.names_of.Given as goal

abbrev pub invariant-loop-label : goal.invariant-loop-label
invariant-loop-label l = record {
  len : length l.names.items ≡ l.label;
  each : (x : ℕ) → x < l.label → IsLeastOf l.inners x (get_or l.names.items x 0);
  index : IsIndexOf (entries l.inners) l.label l.index;
}
