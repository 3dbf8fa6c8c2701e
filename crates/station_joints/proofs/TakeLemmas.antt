-- One more step takes in one more item, or none.
use Rattle.std.proofs.Common.{◌≡◌, ◌⊎◌, ℕ, List, [], ◌∷◌, ◌++◌, length, sym, ◌∙◌, subst, inl, inr}
use Rattle.station_graph.specs.Diagram.{Diagram}
use Rattle.station_graph.specs.Connection.{Item}
use Rattle.station_graph.proofs.PathLemmas.{slice_get-push}
use Rattle.contraction.specs.Stands.{Among}
use Rattle.step_graphs.specs.declared.step.Step.{Step}
use Rattle.step_graphs.specs.declared.step.Step.TheVariants.{OfNothing}
use Rattle.step_graphs.specs.Steps.{items_in, StepFits, TakesIn}
use Rattle.station_joints.specs.Taking.{HaveTaken}
use Rattle.station_joints.proofs.ListLemmas.{get-before, get-end}

pub takes_cases : (steps : List Step) (s : Step) (p : ℕ) (item : Item) → TakesIn (steps ++ s ∷ []) p item →
    TakesIn steps p item ⊎ ((p ≡ length steps) × Among (items_in s) item)
takes_cases steps s p item t = elim (slice_get-push steps s t.step p t.at) [
  | inl before ↦ inl (record { step = t.step; at = before; among = t.among })
  | inr here ↦ inr (here.0, subst (λ (z : Step). Among (items_in z) item) (sym here.1) t.among)
]

among_one : (xs : List Item) (x item : Item) → xs ≡ x ∷ [] → Among xs item → item ≡ x
among_one xs x item one t = by (subst (λ (l : List Item). Among l item) one t)
  where
    by : Among (x ∷ []) item → item ≡ x
    by (inl e) = e
    by (inr never) = absurd never

among_none : (item : Item) → Among (items_in OfNothing) item → ⊥
among_none item t = t

module _ (d : Diagram) (These Those : Item → Type 0) (steps : List Step) (h : HaveTaken d These steps) where
  pub take_one : (s : Step) (x : Item) → items_in s ≡ x ∷ [] → StepFits d s → ¬ These x →
      ((item : Item) → These item → Those item) → Those x →
      ((item : Item) → Those item → These item ⊎ (item ≡ x)) → HaveTaken d Those (steps ++ s ∷ [])
  take_one s x one fits fresh more has back = record {
    each = λ item those. elim (back item those) [
      | inl these ↦
          let (p, t) = h.each item these in
          (p, record { step = t.step; at = get-before steps (s ∷ []) p t.step t.at; among = t.among })
      | inr is ↦ (
        length steps,
        record {
          step = s;
          at = get-end steps s;
          among = subst (λ (l : List Item). Among l item) (sym one) (inl is);
        },
      )
    ];
    only = λ p item t. elim (takes_cases steps s p item t) [
      | inl before ↦ more item (h.only p item before)
      | inr here ↦ subst Those (sym (among_one (items_in s) x item one here.1)) has
    ];
    once = λ p q item t u. elim (takes_cases steps s p item t) [
      | inl before ↦ elim (takes_cases steps s q item u) [
        | inl again ↦ h.once p q item before again
        | inr here ↦
            absurd (fresh (subst These (among_one (items_in s) x item one here.1) (h.only p item before)))
      ]
      | inr here ↦ elim (takes_cases steps s q item u) [
        | inl before ↦
            absurd (fresh (subst These (among_one (items_in s) x item one here.1) (h.only q item before)))
        | inr again ↦ here.0 ∙ sym again.0
      ]
    ];
    fit = λ p z at. elim (slice_get-push steps s z p at) [
      | inl before ↦ h.fit p z before
      | inr here ↦ subst (λ (y : Step). StepFits d y) here.1 fits
    ];
  }

  pub take_none : ((item : Item) → These item → Those item) → ((item : Item) → Those item → These item) →
      HaveTaken d Those (steps ++ OfNothing ∷ [])
  take_none more back = record {
    each = λ item those.
        let (p, t) = h.each item (back item those) in
        (p, record { step = t.step; at = get-before steps (OfNothing ∷ []) p t.step t.at; among = t.among });
    only = λ p item t. elim (takes_cases steps OfNothing p item t) [
      | inl before ↦ more item (h.only p item before)
      | inr here ↦ absurd (among_none item here.1)
    ];
    once = λ p q item t u. elim (takes_cases steps OfNothing p item t) [
      | inl before ↦ elim (takes_cases steps OfNothing q item u) [
        | inl again ↦ h.once p q item before again
        | inr here ↦ absurd (among_none item here.1)
      ]
      | inr here ↦ absurd (among_none item here.1)
    ];
    fit = λ p z at. elim (slice_get-push steps OfNothing z p at) [
      | inl before ↦ h.fit p z before
      | inr here ↦ subst (λ (y : Step). StepFits d y) here.1 tt
    ];
  }
