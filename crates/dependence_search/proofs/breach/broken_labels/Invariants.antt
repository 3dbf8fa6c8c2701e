use Rattle.std.proofs.Common.{◌≡◌, Some}
use Rattle.graph_walks.specs.declared.codes.Codes.{Codes}
use Rattle.dependence_search.specs.RuleWalks.{rule_of}
use Rattle.dependence_search.proofs.WantedLemmas.{WantedUpto}
use Rattle.dependence_search.proofs.breach.broken_labels.Given as goal

abbrev pub invariant-loop-t : goal.invariant-loop-t
invariant-loop-t l = WantedUpto (λ (c : Codes). rule_of l.direction c ≡ Some l.rule) l.codes l.wanted.items l.t
