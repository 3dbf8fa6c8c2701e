-- Edges away from a node, and the ways from it.
use Rattle.std.proofs.Common.{◌≡◌, ◌≢◌, ◌↔◌, ℕ, ◌+◌, ◌<◌, List, [], ◌∷◌, ◌++◌, length, slice_get, Some, None}
use Rattle.std.proofs.Common.{sym, ◌∙◌, ap, subst, inl, inr, arith}
use Rattle.ilk_base.specs.declared.words.NodeId.{NodeId}
use Rattle.station_graph.proofs.PathLemmas.{slice_get-push}
use Rattle.short_equations.specs.declared.edge.TheConstants.{FIRST_MARK}
use Rattle.short_equations.specs.declared.edge.Edge.{Edge}
use Rattle.short_equations.specs.declared.edge.Way.{Way}
use Rattle.interlock_terms.specs.Terms.{Values}
use Rattle.short_equations.specs.Edges.{LeadsAlong, Along, AlongBelow, AreEdges, IsEdge, IsWay, LeadsTo}
use Rattle.short_equations.specs.Edges.{IsOther}
use Rattle.short_equations.proofs.SomeLemmas.{some_more, some_at, some_step, some_pushed, some_pushed_old}
use Rattle.short_equations.proofs.SomeLemmas.{some_pushed_new}

-- the edges below i that do not end at m
abbrev pub Elsewhere : ℕ → List Edge → ℕ → List Edge → Type 0
Elsewhere m edges i kept =
    AreEdges kept × ((v : Values) (a b : ℕ) → Along v kept a b ↔ (AlongBelow v edges i a b × (a ≢ m) × (b ≢ m)))

module _ (m : ℕ) (edges : List Edge) (i : ℕ) (e : Edge) (at : slice_get edges i ≡ Some e) (kept : List Edge)
    (h : Elsewhere m edges i kept) where
  pub elsewhere_push : AreEdges edges → (e.first.0 ≢ m) × (e.second.0 ≢ m) →
      Elsewhere m edges (i + 1) (kept ++ e ∷ [])
  elsewhere_push all away = (
    λ j x listed. elim (slice_get-push kept e x j listed) [
      | inl old ↦ h.0 j x old
      | inr new ↦ subst IsEdge new.1 (all i e at)
    ],
    λ v a b. (
      λ s. elim (some_pushed kept (λ x. LeadsAlong v x a b) e s) [
        | inl old ↦
            let w = (h.1 v a b).0 old in (some_more edges (λ x. LeadsAlong v x a b) i w.0, w.1, w.2)
        | inr new ↦ (
          some_at edges (λ x. LeadsAlong v x a b) i e at new,
          elim new.ends [ inl q ↦ (λ z. away.0 (sym q.0 ∙ z)) | inr q ↦ (λ z. away.1 (sym q.1 ∙ z)) ],
          elim new.ends [ inl q ↦ (λ z. away.1 (sym q.1 ∙ z)) | inr q ↦ (λ z. away.0 (sym q.2 ∙ z)) ],
        )
      ],
      λ (s, na, nb). elim (some_step edges (λ x. LeadsAlong v x a b) i e at s) [
        | inl old ↦ some_pushed_old kept (λ x. LeadsAlong v x a b) e ((h.1 v a b).1 (old, na, nb))
        | inr new ↦ some_pushed_new kept (λ x. LeadsAlong v x a b) e new
      ],
    ),
  )

  pub elsewhere_pass : ¬ ((e.first.0 ≢ m) × (e.second.0 ≢ m)) → Elsewhere m edges (i + 1) kept
  elsewhere_pass there = (
    h.0,
    λ v a b. (
      λ s. let w = (h.1 v a b).0 s in (some_more edges (λ x. LeadsAlong v x a b) i w.0, w.1, w.2),
      λ (s, na, nb). elim (some_step edges (λ x. LeadsAlong v x a b) i e at s) [
        | inl old ↦ (h.1 v a b).1 (old, na, nb)
        | inr new ↦ absurd (there (elim new.ends [
          | inl q ↦ (λ z. na (q.0 ∙ z), λ z. nb (q.1 ∙ z))
          | inr q ↦ (λ z. nb (q.2 ∙ z), λ z. na (q.1 ∙ z))
        ]))
      ],
    ),
  )

pub elsewhere_all : (m : ℕ) (edges : List Edge) (i : ℕ) (kept : List Edge) → i ≡ length edges →
    Elsewhere m edges i kept → (v : Values) (a b : ℕ) →
    Along v kept a b ↔ (Along v edges a b × (a ≢ m) × (b ≢ m))
elsewhere_all m edges i kept e h v a b =
    subst (λ k. Along v kept a b ↔ (AlongBelow v edges k a b × (a ≢ m) × (b ≢ m))) e (h.1 v a b)

-- the ways from m along the edges below i
abbrev pub WaysSoFar : ℕ → List Edge → ℕ → List Way → Type 0
WaysSoFar m edges i ways = (v : Values) (n : ℕ) → LeadsTo v ways n ↔ AlongBelow v edges i m n

module _ (m : ℕ) (node : m < FIRST_MARK) (edges : List Edge) (i : ℕ) (e : Edge) (at : slice_get edges i ≡ Some e)
    (ways : List Way) (h : WaysSoFar m edges i ways) where
  pub way_push : IsEdge e → (to : NodeId) → IsOther e m (Some to) →
      WaysSoFar m edges (i + 1) (ways ++ record { to = to; term = e.term } ∷ [])
  way_push is to other v n =
      let way : Way = record { to = to; term = e.term } in (
        λ s. elim (some_pushed ways (IsWay v n) way s) [
          | inl old ↦ some_more edges (λ x. LeadsAlong v x m n) i ((h v n).0 old)
          | inr new ↦ some_at edges (λ x. LeadsAlong v x m n) i e at (record {
            there = new.0;
            ends = elim other [
              | inl q ↦ inl (sym q.0, sym new.1 ∙ ap (λ (k : NodeId). k.0) q.1)
              | inr q ↦ inr (
                subst (λ k. k < FIRST_MARK) (sym q.0) node,
                sym q.0,
                sym new.1 ∙ ap (λ (k : NodeId). k.0) q.1,
              )
            ];
          })
        ],
        λ s. elim (some_step edges (λ x. LeadsAlong v x m n) i e at s) [
          | inl old ↦ some_pushed_old ways (IsWay v n) way ((h v n).1 old)
          | inr new ↦ some_pushed_new ways (IsWay v n) way (
            new.there,
            elim other [
              | inl q ↦ elim new.ends [
                | inl r ↦ ap (λ (k : NodeId). k.0) q.1 ∙ sym r.1
                | inr r ↦ let b = is.rises in absurd (omega (arith, b, q.0, r.1))
              ]
              | inr q ↦ elim new.ends [
                | inl r ↦ let b = is.rises in absurd (omega (arith, b, q.0, r.0))
                | inr r ↦ ap (λ (k : NodeId). k.0) q.1 ∙ sym r.2
              ]
            ],
          )
        ],
      )

  pub way_pass : IsOther e m None → WaysSoFar m edges (i + 1) ways
  way_pass none v n = (
    λ s. some_more edges (λ x. LeadsAlong v x m n) i ((h v n).0 s),
    λ s. elim (some_step edges (λ x. LeadsAlong v x m n) i e at s) [
      | inl old ↦ (h v n).1 old
      | inr new ↦ absurd (elim new.ends [ inl q ↦ none.0 (sym q.0) | inr q ↦ none.1 (sym q.1) ])
    ],
  )
