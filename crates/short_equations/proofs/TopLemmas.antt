-- FROM EDGES TO SIGNALS: what is linked in a relation that two nodes are left of in another one, and which marks a node sees.
use Rattle.std.proofs.Common.{◌≢◌, ◌<◌, ◌⊎◌, ◌↔◌, ℕ, refl, inl, inr, arith}
use Rattle.station_graph.specs.Connection.{Linked}
use Rattle.station_graph.proofs.LinkedLemmas.{linked_trans, linked_flat}
use Rattle.short_equations.specs.declared.edge.TheConstants.{FIRST_MARK}
use Rattle.short_equations.specs.Edges.{IsMark}
use Rattle.short_equations.specs.Standing.{Replaces, Marked, MarksApart}
use Rattle.short_equations.specs.Sights.{HasTwo, first_mark, second_mark}
use Rattle.short_equations.proofs.StandingLemmas.{sees_mark}
use Rattle.short_equations.proofs.EndsLemmas.{FromTwo, seen_from, step_between}

-- a relation that stands in the place of another with nodes a and b left
module _ (Gone : ℕ → Type 0) (R S : ℕ → ℕ → Type 0) (h : Replaces Gone R S) (a b : ℕ) (na : ¬ Gone a) (nb : ¬ Gone b)
    (two : FromTwo S a b) where
  back : (c d : ℕ) → Linked S c d → Linked R c d
  back c d l = linked_flat S R h.back c d l

  module _ (z : ℕ) (nz : ¬ Gone z) (not_a : z ≢ a) (not_b : z ≢ b) where
    pub first_sees : Linked R a z ↔ (S a z ⊎ (S a b × S b z))
    first_sees = (
      λ l. seen_from S a b two z not_a not_b (h.there a z na nz l),
      λ s. elim s [
        | inl k ↦ h.back a z k
        | inr k ↦ linked_trans R a b z (h.back a b k.0) (h.back b z k.1)
      ],
    )

    turned : FromTwo S b a
    turned c d s = elim (two c d s) [ inl e ↦ inr e | inr e ↦ inl e ]

    pub either_sees : (Linked R a z ⊎ Linked R b z) ↔ (S a z ⊎ S b z)
    either_sees = (
      λ l. elim l [
        | inl k ↦ elim (first_sees.0 k) [ inl s ↦ inl s | inr s ↦ inr s.1 ]
        | inr k ↦ elim (seen_from S b a turned z not_b not_a (h.there b z nb nz k)) [ inl s ↦ inr s | inr s ↦ inl s.1 ]
      ],
      λ s. elim s [ inl k ↦ inl (h.back a z k) | inr k ↦ inr (h.back b z k) ],
    )

  pub both_linked : a ≢ b → Linked R a b ↔ S a b
  both_linked ne = (λ l. step_between S a b two ne (h.there a b na nb l), λ s. h.back a b s)

-- marks
module _ (P Q : ℕ → Type 0) (a : ℕ) where
  pub has_first : HasTwo P Q a first_mark ↔ P a
  has_first = (λ h. elim h [ inl k ↦ k.1 | inr k ↦ absurd (omega (arith, k.0)) ], λ p. inl (refl, p))

  pub has_second : HasTwo P Q a second_mark ↔ Q a
  has_second = (λ h. elim h [ inl k ↦ absurd (omega (arith, k.0)) | inr k ↦ k.1 ], λ q. inr (refl, q))

module _ (T : ℕ → ℕ → Type 0) (P Q : ℕ → Type 0) (apart : MarksApart IsMark T (HasTwo P Q)) (a : ℕ)
    (node : a < FIRST_MARK) where
  no_mark : ¬ IsMark a
  no_mark k = omega (arith, node, k)

  pub sees_first : Linked (Marked IsMark T (HasTwo P Q)) a first_mark ↔ ((n : ℕ) × Linked T a n × P n)
  sees_first =
      let s = sees_mark IsMark T (HasTwo P Q) apart a first_mark no_mark (omega arith) in (
        λ l. let (n, k, m) = s.0 l in (n, k, (has_first P Q n).0 m),
        λ (n, k, p). s.1 (n, k, (has_first P Q n).1 p),
      )

  pub sees_second : Linked (Marked IsMark T (HasTwo P Q)) a second_mark ↔ ((n : ℕ) × Linked T a n × Q n)
  sees_second =
      let s = sees_mark IsMark T (HasTwo P Q) apart a second_mark no_mark (omega arith) in (
        λ l. let (n, k, m) = s.0 l in (n, k, (has_second P Q n).0 m),
        λ (n, k, q). s.1 (n, k, (has_second P Q n).1 q),
      )
