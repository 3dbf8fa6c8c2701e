-- Steps in another order.
use Rattle.std.proofs.Common.{◌≡◌, ◌≢◌, ℕ, ◌<◌, ◌≤◌, List, [], ◌∷◌, length, map, get_or, slice_get, slice_set, Some}
use Rattle.std.proofs.Common.{IsPermutation, refl, sym, ap, ◌∙◌, subst, inl, inr, arith, length-set}
use Rattle.std.specs.List.{swap}
use Rattle.std.specs.Prelude.{option_map}
use Rattle.std.proofs.lemmas.Bool.{cases_eq}
use Rattle.std.proofs.lemmas.Option.{slice_get-get_or, slice_get-map}
use Rattle.std.proofs.lemmas.List.{length-map}
use Rattle.std.proofs.lemmas.List.Sorted.{IsPermutation-keeps, length_permutation}
use Rattle.station_graph.specs.Diagram.{Diagram}
use Rattle.station_graph.specs.Connection.{Item}
use Rattle.station_graph.proofs.PositionLemmas.{slice_get-set_other}
use Rattle.step_graphs.specs.declared.step.Step.{Step}
use Rattle.step_graphs.specs.Steps.{AreSteps}
use Rattle.station_joints.specs.declared.pairs.StepPair.{StepPair}
use Rattle.station_joints.specs.Together.{AreTogether, AreJointSteps}
use Rattle.station_joints.specs.Taking.{SameUpto, NoMore, Olds, News, ArePairs, first_steps, second_steps}
use Rattle.station_joints.proofs.ListLemmas.{get-set, map-from, map-to}
use Rattle.station_joints.proofs.UptoLemmas.{all_taken}

-- what stands at a place of the second list stands at another of the first
record IsReordered {X : Type 0} (xs ys : List X) : Type 0 where
  there : ℕ → ℕ
  back : ℕ → ℕ
  at : (p : ℕ) → slice_get ys p ≡ slice_get xs (there p)
  there_back : (p : ℕ) → there (back p) ≡ p
  back_there : (p : ℕ) → back (there p) ≡ p

-- a place exchanged with another
exchanged : ℕ → ℕ → ℕ → ℕ
exchanged i j p = elim (cases_eq p i) [
  | inl at_first ↦ j
  | inr other ↦ elim (cases_eq p j) [ inl at_second ↦ i | inr neither ↦ p ]
]

exchanged_first : (i j p : ℕ) → p ≡ i → exchanged i j p ≡ j
unfolding exchanged
exchanged_first i j p e = elim (cases_eq p i) as (λ c. elim c [
  | inl at_first ↦ j
  | inr other ↦ elim (cases_eq p j) [ inl at_second ↦ i | inr neither ↦ p ]
] ≡ j) [ inl at_first ↦ refl | inr other ↦ absurd (other e) ]

exchanged_second : (i j p : ℕ) → p ≡ j → exchanged i j p ≡ i
unfolding exchanged
exchanged_second i j p e = elim (cases_eq p i) as (λ c. elim c [
  | inl at_first ↦ j
  | inr other ↦ elim (cases_eq p j) [ inl at_second ↦ i | inr neither ↦ p ]
] ≡ i) [
  | inl at_first ↦ sym e ∙ at_first
  | inr other ↦ elim (cases_eq p j) as (λ c. elim c [ inl at_second ↦ i | inr neither ↦ p ] ≡ i) [
    | inl at_second ↦ refl
    | inr neither ↦ absurd (neither e)
  ]
]

exchanged_other : (i j p : ℕ) → p ≢ i → p ≢ j → exchanged i j p ≡ p
unfolding exchanged
exchanged_other i j p a b = elim (cases_eq p i) as (λ c. elim c [
  | inl at_first ↦ j
  | inr other ↦ elim (cases_eq p j) [ inl at_second ↦ i | inr neither ↦ p ]
] ≡ p) [
  | inl at_first ↦ absurd (a at_first)
  | inr other ↦ elim (cases_eq p j) as (λ c. elim c [ inl at_second ↦ i | inr neither ↦ p ] ≡ p) [
    | inl at_second ↦ absurd (b at_second)
    | inr neither ↦ refl
  ]
]

exchanged_twice : (i j p : ℕ) → exchanged i j (exchanged i j p) ≡ p
exchanged_twice i j p = elim (cases_eq p i) [
  | inl first ↦ ap (exchanged i j) (exchanged_first i j p first) ∙ exchanged_second i j j refl ∙ sym first
  | inr other ↦ elim (cases_eq p j) [
    | inl second ↦ ap (exchanged i j) (exchanged_second i j p second) ∙ exchanged_first i j i refl ∙ sym second
    | inr neither ↦
        ap (exchanged i j) (exchanged_other i j p other neither) ∙ exchanged_other i j p other neither
  ]
]

module _ {X : Type 0} where
  swap_get : (xs : List X) (i j p : ℕ) → i < length xs → j < length xs →
      slice_get (swap xs i j) p ≡ slice_get xs (exchanged i j p)
  swap_get [] i j p in_i in_j = absurd (omega (arith, in_i))
  swap_get (d ∷ ys) i j p in_i in_j =
      let xs : List X = d ∷ ys in
      let once : List X = slice_set xs i (get_or xs j d) in
      let long : length once ≡ length xs = length-set xs i (get_or xs j d) in
      elim (cases_eq p j) [
        | inl second ↦
            ap (λ q. slice_get (slice_set once j (get_or xs i d)) q) second
            ∙ get-set once j (get_or xs i d) (omega (arith, long, in_j))
            ∙ sym (slice_get-get_or xs i d in_i)
            ∙ ap (λ q. slice_get xs q) (sym (exchanged_second i j p second))
        | inr not_second ↦ slice_get-set_other once j p (get_or xs i d) not_second ∙ elim (cases_eq p i) [
          | inl first ↦
              ap (λ q. slice_get once q) first
              ∙ get-set xs i (get_or xs j d) in_i
              ∙ sym (slice_get-get_or xs j d in_j)
              ∙ ap (λ q. slice_get xs q) (sym (exchanged_first i j p first))
          | inr not_first ↦
              slice_get-set_other xs i p (get_or xs j d) not_first
              ∙ ap (λ q. slice_get xs q) (sym (exchanged_other i j p not_first not_second))
        ]
      ]

  reordered : (xs ys : List X) → IsPermutation xs ys → IsReordered xs ys
  reordered xs ys = IsPermutation-keeps xs (λ (l : List X). IsReordered xs l)
      (record {
        there = λ p. p;
        back = λ p. p;
        at = λ p. refl;
        there_back = λ p. refl;
        back_there = λ p. refl;
      })
      (λ l i j in_i in_j r. record {
        there = λ p. r.there (exchanged i j p);
        back = λ p. exchanged i j (r.back p);
        at = λ p. swap_get l i j p in_i in_j ∙ r.at (exchanged i j p);
        there_back = λ p. ap r.there (exchanged_twice i j (r.back p)) ∙ r.there_back p;
        back_there = λ p. ap (exchanged i j) (r.back_there (exchanged i j p)) ∙ exchanged_twice i j p;
      }) ys

module _ {X : Type 0} (f : X → Step) (xs ys : List X) (r : IsReordered xs ys) where
  same_step : (p : ℕ) → slice_get (map f ys) p ≡ slice_get (map f xs) (r.there p)
  same_step p = slice_get-map f ys p ∙ ap (option_map f) (r.at p) ∙ sym (slice_get-map f xs (r.there p))

  steps_reordered : (d : Diagram) → AreSteps d (map f xs) → AreSteps d (map f ys)
  steps_reordered d h = record {
    each = λ item is.
        let (p, t) = h.each item is in (
          r.back p,
          record {
            step = t.step;
            at = same_step (r.back p) ∙ ap (λ q. slice_get (map f xs) q) (r.there_back p) ∙ t.at;
            among = t.among;
          },
        );
    once = λ p q item t u.
        sym (r.back_there p)
        ∙ ap r.back (h.once (r.there p) (r.there q) item
        (record { step = t.step; at = sym (same_step p) ∙ t.at; among = t.among })
        (record { step = u.step; at = sym (same_step q) ∙ u.at; among = u.among }))
        ∙ r.back_there q;
    fit = λ p s at. h.fit (r.there p) s (sym (same_step p) ∙ at);
  }

-- the pairs that are left in any order are joint steps
pub joint_from : (o n : Diagram) (most : ℕ) (xs ys : List StepPair) →
    ArePairs o n
    (Olds o n (length n.switches) (length o.switches) (length o.links) (length o.taps))
    (News (length n.switches) (length n.links) (length n.taps)) most xs →
    IsPermutation xs ys → AreJointSteps o n (first_steps ys) (second_steps ys)
joint_from o n most xs ys h moved =
    let r = reordered xs ys moved in
    record {
      old_all =
          steps_reordered (λ (x : StepPair). x.first) xs ys r o
          (all_taken o (SameUpto o n (length n.switches)) (first_steps xs) h.olds);
      new_all =
          steps_reordered (λ (x : StepPair). x.second) xs ys r n (all_taken n NoMore (second_steps xs) h.news);
      len =
          length-map ys (λ (x : StepPair). x.first) ∙ sym (length-map ys (λ (x : StepPair). x.second));
      together = λ p s t at_s at_t.
          let a = map-from (λ (x : StepPair). x.first) ys p s at_s in
          let b = map-to (λ (x : StepPair). x.second) ys p a.0 a.1.0 in
          let second : Some a.0.second ≡ Some t = sym b ∙ at_t in
          let is : a.0.second ≡ t = cc in
          subst (λ (z : Step). AreTogether o n z t) a.1.1
          (subst (λ (z : Step). AreTogether o n a.0.first z) is
          (h.together (r.there p) a.0 (sym (r.at p) ∙ a.1.0)));
    }

pub few_moved : (o n : Diagram) (These Those : Item → Type 0) (most : ℕ) (xs ys : List StepPair) →
    ArePairs o n These Those most xs → IsPermutation xs ys → length ys ≤ most
few_moved o n These Those most xs ys h moved = omega (arith, h.few, length_permutation xs ys moved)
