use Rattle.std.proofs.Common.{◌≡◌, take}
use Rattle.judge_graphs.specs.PartnerNames.{entries}
use Rattle.judge_graphs.proofs.label_names.entries_of.Given as goal

abbrev pub invariant-loop-inner : goal.invariant-loop-inner
invariant-loop-inner l = l.row.items ≡ entries (take l.inner-index l.inners) l.label
