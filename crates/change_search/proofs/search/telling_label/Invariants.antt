use Rattle.std.proofs.Common.{◌≡◌, ℕ, ◌<◌, slice_get, Some}
use Rattle.decision_graphs.specs.Reaching.{IsSet}
use Rattle.graph_walks.specs.declared.codes.Codes.{Codes}
use Rattle.change_search.specs.Telling.{Tells}
use Rattle.change_search.proofs.search.telling_label.Given as goal

abbrev pub invariant-loop-t : goal.invariant-loop-t
invariant-loop-t l =
    (t : ℕ) (c : Codes) → t < l.t → slice_get l.codes t ≡ Some c → IsSet l.marks.labels t →
    ¬ Tells l.direction l.change l.rule c
