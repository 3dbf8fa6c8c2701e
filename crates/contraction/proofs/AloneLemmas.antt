-- A place that is alone in its class comes into another class by one write.
use Rattle.std.proofs.Common.{◌≡◌, ◌≢◌, ℕ, ◌+◌, ◌<◌, ◌≤◌, eqb, List, length, map, min, max, slice_index, slice_set, sym}
use Rattle.std.proofs.Common.{◌∙◌, ap, subst, inl, inr, arith, length-set}
use Rattle.std.proofs.lemmas.Bool.{cases_eq, cases_lt, eq-eqb, ne_eqb, cond-true, cond-false}
use Rattle.std.proofs.lemmas.Grind.{get_or-set_at}
use Rattle.std.proofs.lemmas.List.{length-map, get_or-map, get_or-set_other, ext_get_or}
use Rattle.station_graph.specs.Classes.{relabelled, merged}
use Rattle.station_graph.specs.Nodes.{Rises}
use Rattle.contraction.specs.Merging.{IsAlone}

-- The places of the entries from the i-th on are each in a class of their own.
abbrev pub AreAloneFrom : List ℕ → ℕ → List ℕ → Type 0
AreAloneFrom places i labels = (k : ℕ) → i ≤ k → k < length places → IsAlone labels (slice_index places k)

-- the merge of a lone place a with one of no greater label is one write
pub merged_write : (labels : List ℕ) (a b : ℕ) → a < length labels → IsAlone labels a → slice_index labels b ≤ a →
    merged labels a b ≡ slice_set labels a (slice_index labels b)
merged_write labels a b a_in alone lower =
    let x : ℕ = slice_index labels a in
    let y : ℕ = slice_index labels b in
    let f : ℕ → ℕ = relabelled x y in
    let top : max x y ≡ a = omega (arith, alone.own) in
    let low : min x y ≡ y = omega (arith, alone.own) in
    ext_get_or 0 (map f labels) (slice_set labels a y) (length-map labels f ∙ sym (length-set labels a y)) (λ k k_in.
    let inside : k < length labels = omega (arith, length-map labels f) in
    let at : slice_index (map f labels) k ≡ f (slice_index labels k) = get_or-map f labels k 0 0 inside in
    let is : f (slice_index labels k) ≡ slice_index (slice_set labels a y) k = elim (cases_eq k a) [
      | inl e ↦
          let own : slice_index labels k ≡ max x y = ap (slice_index labels) e ∙ alone.own ∙ sym top in
          cond-true (eqb (slice_index labels k) (max x y)) (min x y) (slice_index labels k)
          (eq-eqb (slice_index labels k) (max x y) own) ∙ low ∙ sym (get_or-set_at labels a k y 0 e a_in)
      | inr ne ↦
          let other : slice_index labels k ≢ max x y = λ e. ne (alone.only k inside (e ∙ top)) in
          cond-false (eqb (slice_index labels k) (max x y)) (min x y) (slice_index labels k)
          (ne_eqb (slice_index labels k) (max x y) other) ∙ sym (get_or-set_other labels a k y 0 ne)
    ] in
    at ∙ is)

-- a write of another label at another place leaves the place alone
alone_kept : (labels : List ℕ) (a y place : ℕ) → a < length labels → place ≢ a → y ≢ place → IsAlone labels place →
    IsAlone (slice_set labels a y) place
alone_kept labels a y place a_in other ne alone = record {
  own = get_or-set_other labels a place y 0 other ∙ alone.own;
  only = λ k k_in e. elim (cases_eq k a) [
    | inl at ↦ absurd (ne (sym (get_or-set_at labels a k y 0 at a_in) ∙ e))
    | inr apart ↦
        alone.only k (omega (arith, length-set labels a y)) (sym (get_or-set_other labels a k y 0 apart) ∙ e)
  ];
}

-- an earlier entry of a rising list is no greater
pub rises_to : (places : List ℕ) (j k : ℕ) → Rises places → j ≤ k → k < length places →
    slice_index places j ≤ slice_index places k
rises_to places j k rises le k_in = elim (cases_lt j k) [
  | inl less ↦ omega (arith, rises j k less k_in)
  | inr more ↦ let at : j ≡ k = omega arith in omega (arith, ap (slice_index places) at)
]

-- the later entries stay alone
pub alone_after : (places labels : List ℕ) (i b : ℕ) → Rises places → i < length places →
    slice_index places i < length labels → slice_index labels b ≤ slice_index places i →
    AreAloneFrom places i labels → AreAloneFrom places (i + 1) (merged labels (slice_index places i) b)
alone_after places labels i b rises i_in a_in lower h k from k_in =
    let a : ℕ = slice_index places i in
    let above : a < slice_index places k = rises i k (omega arith) k_in in
    subst (λ l. IsAlone l (slice_index places k)) (sym (merged_write labels a b a_in (h i (omega arith) i_in) lower))
    (alone_kept labels a (slice_index labels b) (slice_index places k) a_in (omega arith) (omega arith)
    (h k (omega arith) k_in))
