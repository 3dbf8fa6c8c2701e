use Rattle.std.proofs.Common.{suc, List, Bool, sym, ◌∙◌, subst, inl, inr, arith}
use Rattle.decision_graphs.specs.Reaching.{IsSet, set_at}
use Rattle.release_compile.proofs.VerdictLemmas.{sets_at}
use Rattle.release_compile.proofs.WithinLemmas.{length_sets}
use Rattle.release_compile.proofs.SetsLemmas.{empty_none}
use Rattle.release_compile.proofs.sets.side.Goals as goal

pub allow_labels-requires-clause-some : goal.allow_labels-requires-clause-some
allow_labels-requires-clause-some c = omega (
  arith,
  length_sets c.args.inner.now.layers c.in_ok-inner_sets.inner_sets c.in_ok-inner_sets.ensures.sets,
  c.requires.count,
)

pub allow_labels-requires-clause-first : goal.allow_labels-requires-clause-first
allow_labels-requires-clause-first c =
    sets_at c.args.inner.now.layers c.in_ok-inner_sets.inner_sets 0 c.in_ok-inner_sets.ensures.sets
    ∙ c.requires.row.labels

pub allow_own-requires-clause-count : goal.allow_own-requires-clause-count
allow_own-requires-clause-count c =
    c.allow_labels.ensures.count
    ∙ (length_sets c.args.inner.now.layers c.in_ok-inner_sets.inner_sets c.in_ok-inner_sets.ensures.sets
    ∙ c.requires.count)

pub allow_own-requires-clause-two : goal.allow_own-requires-clause-two
allow_own-requires-clause-two c i lt =
    c.allow_labels.ensures.lens (suc i)
    ∙ (sets_at c.args.inner.now.layers c.in_ok-inner_sets.inner_sets (suc i) c.in_ok-inner_sets.ensures.sets
    ∙ c.requires.two i lt)

pub allow_own-requires-clause-bare : goal.allow_own-requires-clause-bare
allow_own-requires-clause-bare c i k h =
    let same = c.allow_labels.ensures.others (suc i) (λ e. omega (arith, e)) in
    empty_none c.args.inner.now.layers (suc i) k (subst (λ (ss : List (List Bool)). IsSet (set_at ss (suc i)) k)
    c.in_ok-inner_sets.ensures.empty (subst (λ s. IsSet s k) same h))

pub returns-clause-ready : goal.returns-clause-ready
returns-clause-ready c = record {
  fits = c.requires.sets;
  inner_fits =
      c.allow_own.ensures.sets c.args.inner.now.layers
      (c.allow_labels.ensures.sets c.args.inner.now.layers c.in_ok-inner_sets.ensures.sets);
  reached = c.requires.reached;
  paths = c.requires.paths;
  first = λ label.
      let here = c.allow_labels.ensures.here label in
      let none : IsSet (set_at c.in_ok-inner_sets.inner_sets 0) label → ⊥ =
      λ h. empty_none c.args.inner.now.layers 0 label
      (subst (λ (ss : List (List Bool)). IsSet (set_at ss 0) label) c.in_ok-inner_sets.ensures.empty h) in (
        λ h. elim (here.0 (subst (λ s. IsSet s label) c.allow_own.ensures.first h)) [
          | inl old ↦ absurd (none old)
          | inr m ↦ m
        ],
        λ m. subst (λ s. IsSet s label) (sym c.allow_own.ensures.first) (here.1 (inr m)),
      );
  row = c.requires.row;
}
