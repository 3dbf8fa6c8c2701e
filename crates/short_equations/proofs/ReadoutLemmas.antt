-- The term of a way in one step.
use Rattle.std.proofs.Common.{◌≡◌, ◌<◌, ◌+◌, ℕ, List, slice_get, Some, None, sym, ap, inl, inr, arith}
use Rattle.std.specs.Prelude.{Option}
use Rattle.ilk_base.specs.declared.words.NodeId.{NodeId}
use Rattle.short_equations.specs.declared.edge.Edge.{Edge}
use Rattle.interlock_terms.specs.declared.term.Term.{Term}
use Rattle.interlock_terms.specs.Terms.{Grew}
use Rattle.short_equations.specs.Edges.{LeadsAlong, IsEdge, MeansWay, EitherTerm}
use Rattle.interlock_terms.proofs.TermLemmas.{grew_solves}
use Rattle.short_equations.proofs.SomeLemmas.{some_none, some_more, some_at, some_step}

pub way_none : (terms : List Term) (edges : List Edge) (a b : ℕ) → MeansWay terms edges 0 a b None
way_none terms edges a b v solves = (λ h. absurd h, λ h. some_none edges (λ e. LeadsAlong v e a b) h)

pub none_term : (terms : List Term) (term : ℕ) → EitherTerm terms None term term
none_term terms term v solves = (λ h. inr h, λ h. elim h [ inl k ↦ absurd k | inr k ↦ k ])

module _ (edges : List Edge) (i : ℕ) (e : Edge) (at : slice_get edges i ≡ Some e) (is : IsEdge e) (p q : NodeId)
    (rises : p.0 < q.0) (before after : List Term) (grew : Grew before after) (found : Option ℕ)
    (h : MeansWay before edges i p.0 q.0 found) where
  pub way_step : (n : ℕ) → e.first ≡ p → e.second ≡ q → EitherTerm after found e.term n →
      MeansWay after edges (i + 1) p.0 q.0 (Some n)
  way_step n from to means v solves =
      let was = h v (grew_solves before after v grew solves) in
      let m = means v solves in (
        λ t. elim (m.0 t) [
          | inl k ↦ some_more edges (λ x. LeadsAlong v x p.0 q.0) i (was.0 k)
          | inr k ↦ some_at edges (λ x. LeadsAlong v x p.0 q.0) i e at (record {
            there = k;
            ends = inl (ap (λ (x : NodeId). x.0) (sym from), ap (λ (x : NodeId). x.0) (sym to));
          })
        ],
        λ s. m.1 (elim (some_step edges (λ x. LeadsAlong v x p.0 q.0) i e at s) [
          | inl k ↦ inl (was.1 k)
          | inr k ↦ inr k.there
        ]),
      )

  pub way_pass : (((e.first ≡ p) × (e.second ≡ q)) → ⊥) → MeansWay after edges (i + 1) p.0 q.0 found
  way_pass none v solves =
      let was = h v (grew_solves before after v grew solves) in (
        λ t. some_more edges (λ x. LeadsAlong v x p.0 q.0) i (was.0 t),
        λ s. elim (some_step edges (λ x. LeadsAlong v x p.0 q.0) i e at s) [
          | inl k ↦ was.1 k
          | inr k ↦ absurd (elim k.ends [
            | inl w ↦ none (same_node e.first p (sym w.0), same_node e.second q (sym w.1))
            | inr w ↦ let up = is.rises in let a = w.1 in let b = w.2 in omega (arith, up, a, b, rises)
          ])
        ],
      )
    where
      same_node : (x y : NodeId) → x.0 ≡ y.0 → x ≡ y
      same_node x y z = ap (λ k. record { 0 = k }) z
