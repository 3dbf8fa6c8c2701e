-- The edges that are added for an item lead as it does in the view.
use Rattle.std.proofs.Common.{◌≡◌, ◌↔◌, ℕ, true, List, slice_get, Some, sym, subst, inl, inr}
use Rattle.ilk_base.specs.declared.words.NodeId.{NodeId}
use Rattle.station_graph.specs.declared.items.Switch.{Switch}
use Rattle.station_graph.specs.declared.items.Link.{Link}
use Rattle.station_graph.specs.declared.items.Tap.{Tap}
use Rattle.station_graph.specs.Connection.{AreEnds}
use Rattle.short_equations.specs.declared.edge.Edge.{Edge}
use Rattle.short_equations.specs.declared.view.View.{View}
use Rattle.short_equations.specs.declared.view.View.TheVariants.{Load, Bond}
use Rattle.short_equations.specs.declared.view.Step.{Step}
use Rattle.short_equations.specs.declared.view.Step.TheVariants.{Nothing, Ends, ClosedEnds, FirstMark, SecondMark}
use Rattle.interlock_terms.specs.declared.term.Term.{Term}
use Rattle.interlock_terms.specs.Terms.{Values, Solves, IsTrueAt, Grew}
use Rattle.interlock_terms.proofs.TermLemmas.{grew_solves}
use Rattle.short_equations.specs.Edges.{Adds, LeadsAlong}
use Rattle.short_equations.specs.Sights.{StepSight, step_in, first_mark, second_mark}
use Rattle.short_equations.specs.ItemEdges.{AddsWays, AddsEnds, AddsMark, AddsSwitch, AddsLink, AddsTap}

-- one edge
pub ways_added : (terms : List Term) (old new : List Edge) (e : Edge) (Ways : Values → ℕ → ℕ → Type 0) →
    ((v : Values) (a b : ℕ) → Solves v terms → LeadsAlong v e a b ↔ Ways v a b) → Adds terms old e new →
    AddsWays terms old Ways new
ways_added terms old new e Ways leads adds v a b solves =
    let l = leads v a b solves in
    let h = adds v a b solves in (
      λ s. elim (h.0 s) [ inl o ↦ inl o | inr k ↦ inr (l.0 k) ],
      λ s. h.1 (elim s [ inl o ↦ inl o | inr k ↦ inr (l.1 k) ]),
    )

-- ways that are said in another way
pub ways_same : (terms : List Term) (old new : List Edge) (Ways Others : Values → ℕ → ℕ → Type 0) →
    ((v : Values) (a b : ℕ) → Solves v terms → Ways v a b ↔ Others v a b) → AddsWays terms old Ways new →
    AddsWays terms old Others new
ways_same terms old new Ways Others same adds v a b solves =
    let l = same v a b solves in
    let h = adds v a b solves in (
      λ s. elim (h.0 s) [ inl o ↦ inl o | inr k ↦ inr (l.0 k) ],
      λ s. h.1 (elim s [ inl o ↦ inl o | inr k ↦ inr (l.1 k) ]),
    )

-- no ways
pub ways_none : (terms : List Term) (old new : List Edge) (Ways : Values → ℕ → ℕ → Type 0) → new ≡ old →
    ((v : Values) (a b : ℕ) → Ways v a b → ⊥) → AddsWays terms old Ways new
ways_none terms old new Ways e none =
    subst (λ es. AddsWays terms old Ways es) (sym e) (λ v a b solves. (
      λ s. inl s,
      λ s. elim s [ inl o ↦ o | inr k ↦ absurd (none v a b k) ],
    ))

pub ends_added : (terms : List Term) (old new : List Edge) (x : Switch) (q : NodeId) (term : ℕ) (e : Edge) →
    x.second ≡ Some q →
    ((v : Values) (a b : ℕ) → LeadsAlong v e a b ↔ (IsTrueAt v term × AreEnds x.first.0 q.0 a b)) →
    Adds terms old e new → AddsEnds terms old x term new
ends_added terms old new x q term e has leads adds v a b solves = (
  λ s. elim ((adds v a b solves).0 s) [
    | inl o ↦ inl o
    | inr k ↦ let w = (leads v a b).0 k in inr (record { second = q; has = has; ends = w.1; there = w.0 })
  ],
  λ s. (adds v a b solves).1 (elim s [
    | inl o ↦ inl o
    | inr k ↦
        let same : k.second ≡ q = let h = k.has in cc in
        inr ((leads v a b).1 (k.there, subst (λ (n : NodeId). AreEnds x.first.0 n.0 a b) same k.ends))
  ]),
)

-- a switch
module _ (view : View) (terms : List Term) (old new : List Edge) (i : ℕ) (x : Switch) where
  turn : (s : Step) → s ≡ step_in view x.kind →
      AddsWays terms old (λ v. StepSight s x (slice_get v.closed i ≡ Some true)) new → AddsSwitch view terms old i x new
  turn s e h = subst (λ z. AddsWays terms old (λ v. StepSight z x (slice_get v.closed i ≡ Some true)) new) e h

  pub nothing_added : Nothing ≡ step_in view x.kind → new ≡ old → AddsSwitch view terms old i x new
  nothing_added e same = turn Nothing e
      (ways_none terms old new (λ v. StepSight Nothing x (slice_get v.closed i ≡ Some true)) same (λ v a b k. k))

  module _ (before : List Term) (term : ℕ) (grew : Grew before terms) where
    pub always_added : Ends ≡ step_in view x.kind → ((v : Values) → Solves v before → IsTrueAt v term) →
        AddsEnds terms old x term new → AddsSwitch view terms old i x new
    always_added e means adds = turn Ends e (λ v a b solves. (
      λ s. elim ((adds v a b solves).0 s) [ inl o ↦ inl o | inr k ↦ inr (k.second, k.has, k.ends) ],
      λ s. (adds v a b solves).1 (elim s [
        | inl o ↦ inl o
        | inr k ↦
            let (q, has, ends) = k in
            inr (record { second = q; has = has; ends = ends; there = means v (grew_solves before terms v grew solves) })
      ]),
    ))

    module _ (means : (v : Values) → Solves v before → IsTrueAt v term ↔ (slice_get v.closed i ≡ Some true)) where
      pub closed_added : ClosedEnds ≡ step_in view x.kind → AddsEnds terms old x term new →
          AddsSwitch view terms old i x new
      closed_added e adds = turn ClosedEnds e (λ v a b solves.
          let m = means v (grew_solves before terms v grew solves) in (
            λ s. elim ((adds v a b solves).0 s) [
              | inl o ↦ inl o
              | inr k ↦ inr (k.second, k.has, k.ends, m.0 k.there)
            ],
            λ s. (adds v a b solves).1 (elim s [
              | inl o ↦ inl o
              | inr k ↦
                  let (q, has, ends, closed) = k in
                  inr (record { second = q; has = has; ends = ends; there = m.1 closed })
            ]),
          ))

      pub first_added : FirstMark ≡ step_in view x.kind → AddsMark terms old x.first.0 first_mark term new →
          AddsSwitch view terms old i x new
      first_added e adds = turn FirstMark e (λ v a b solves.
          let m = means v (grew_solves before terms v grew solves) in (
            λ s. elim ((adds v a b solves).0 s) [ inl o ↦ inl o | inr k ↦ inr (k.1.0, k.1.1, m.0 k.0) ],
            λ s. (adds v a b solves).1 (elim s [ inl o ↦ inl o | inr k ↦ inr (m.1 k.2, (k.0, k.1)) ]),
          ))

      pub second_added : SecondMark ≡ step_in view x.kind → AddsMark terms old x.first.0 second_mark term new →
          AddsSwitch view terms old i x new
      second_added e adds = turn SecondMark e (λ v a b solves.
          let m = means v (grew_solves before terms v grew solves) in (
            λ s. elim ((adds v a b solves).0 s) [ inl o ↦ inl o | inr k ↦ inr (k.1.0, k.1.1, m.0 k.0) ],
            λ s. (adds v a b solves).1 (elim s [ inl o ↦ inl o | inr k ↦ inr (m.1 k.2, (k.0, k.1)) ]),
          ))

-- a link's edge, which is always there, and a tap's
module _ (view : View) (before after : List Term) (old new : List Edge) (term : ℕ) (grew : Grew before after)
    (means : (v : Values) → Solves v before → IsTrueAt v term) where
  pub link_added : (x : Link) (e : Edge) → (view ≡ Bond → x.bond ≡ true) →
      ((v : Values) (a b : ℕ) → LeadsAlong v e a b ↔ (IsTrueAt v term × AreEnds x.first.0 x.second.0 a b)) →
      Adds after old e new → AddsLink view after old x new
  link_added x e counts leads adds v a b solves = (
    λ s. elim ((adds v a b solves).0 s) [
      | inl o ↦ inl o
      | inr k ↦ let w = (leads v a b).0 k in inr (w.1, counts)
    ],
    λ s. (adds v a b solves).1 (elim s [
      | inl o ↦ inl o
      | inr k ↦ inr ((leads v a b).1 (means v (grew_solves before after v grew solves), k.0))
    ]),
  )

  pub tap_added : (x : Tap) → view ≡ Load → AddsMark after old x.node.0 second_mark term new →
      AddsTap view after old x new
  tap_added x is adds v a b solves = (
    λ s. elim ((adds v a b solves).0 s) [ inl o ↦ inl o | inr k ↦ inr (is, k.1.0, k.1.1) ],
    λ s. (adds v a b solves).1 (elim s [
      | inl o ↦ inl o
      | inr k ↦ inr (means v (grew_solves before after v grew solves), (k.1, k.2))
    ]),
  )
