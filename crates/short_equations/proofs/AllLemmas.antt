-- Eliminations one after another, and edges of both lists.
use Rattle.std.proofs.Common.{◌≡◌, ◌⊎◌, ℕ, ◌+◌, List, slice_get, Some, subst, inl, inr, sym}
use Rattle.ilk_base.specs.declared.words.NodeId.{NodeId}
use Rattle.short_equations.specs.declared.edge.Edge.{Edge}
use Rattle.interlock_terms.specs.declared.term.Term.{Term}
use Rattle.interlock_terms.specs.Terms.{Grew}
use Rattle.short_equations.specs.Edges.{LeadsAlong, Along, IsOneBelow, StandsFor, EliminatesNode, AddsAll, Adds}
use Rattle.short_equations.specs.Standing.{Replaces}
use Rattle.short_equations.proofs.StandingLemmas.{replaces_itself, replaces_gone, replaces_then, eliminated}
use Rattle.interlock_terms.proofs.TermLemmas.{grew_solves}
use Rattle.short_equations.proofs.SomeLemmas.{some_none, some_more, some_at, some_step}

pub stands_none : (terms : List Term) (nodes : List NodeId) (old new : List Edge) → new ≡ old →
    StandsFor terms nodes 0 old new
stands_none terms nodes old new e v solves =
    subst (λ es. Replaces (IsOneBelow nodes 0) (Along v old) (Along v es)) (sym e)
    (replaces_gone (λ n. ⊥) (IsOneBelow nodes 0) (Along v old) (Along v old) (λ n x. absurd x)
    (λ n x. some_none nodes (λ (m : NodeId). n ≡ m.0) x) (replaces_itself (Along v old)))

pub stands_step : (before after : List Term) (nodes : List NodeId) (i : ℕ) (node : NodeId) (old mid new : List Edge) →
    Grew before after → slice_get nodes i ≡ Some node → StandsFor before nodes i old mid →
    EliminatesNode after node.0 mid new → StandsFor after nodes (i + 1) old new
stands_step before after nodes i node old mid new grew at h k v solves =
    replaces_gone (λ n. IsOneBelow nodes i n ⊎ (n ≡ node.0)) (IsOneBelow nodes (i + 1)) (Along v old) (Along v new)
    (λ n x. elim x [
      | inl b ↦ some_more nodes (λ (m : NodeId). n ≡ m.0) i b
      | inr e ↦ some_at nodes (λ (m : NodeId). n ≡ m.0) i node at e
    ])
    (λ n x. some_step nodes (λ (m : NodeId). n ≡ m.0) i node at x)
    (replaces_then (IsOneBelow nodes i) (λ n. n ≡ node.0) (Along v old) (Along v mid) (Along v new)
    (h v (grew_solves before after v grew solves)) (eliminated node.0 (Along v mid) (Along v new) (k v solves)))

pub all_none : (terms : List Term) (old more : List Edge) → AddsAll terms old more 0 old
all_none terms old more v a b solves = (
  λ s. inl s,
  λ s. elim s [ inl o ↦ o | inr k ↦ absurd (some_none more (λ x. LeadsAlong v x a b) k) ],
)

pub all_step : (before after : List Term) (old more : List Edge) (i : ℕ) (e : Edge) (mid new : List Edge) →
    Grew before after → slice_get more i ≡ Some e → AddsAll before old more i mid → Adds after mid e new →
    AddsAll after old more (i + 1) new
all_step before after old more i e mid new grew at h k v a b solves =
    let was = h v a b (grew_solves before after v grew solves) in
    let now = k v a b solves in (
      λ s. elim (now.0 s) [
        | inl m ↦ elim (was.0 m) [
          | inl o ↦ inl o
          | inr x ↦ inr (some_more more (λ y. LeadsAlong v y a b) i x)
        ]
        | inr x ↦ inr (some_at more (λ y. LeadsAlong v y a b) i e at x)
      ],
      λ s. elim s [
        | inl o ↦ now.1 (inl (was.1 (inl o)))
        | inr x ↦ elim (some_step more (λ y. LeadsAlong v y a b) i e at x) [
          | inl m ↦ now.1 (inl (was.1 (inr m)))
          | inr l ↦ now.1 (inr l)
        ]
      ],
    )
