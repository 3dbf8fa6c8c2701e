-- The edges from entries to the entries of their labels, one by one.
use Rattle.std.proofs.Common.{◌≡◌, ℕ, ◌+◌, ◌<◌, ◌⊎◌, eqb, List, [], ◌∷◌, map, max, min, slice_index, subst, inl, inr, arith}
use Rattle.std.proofs.Common.{refl}
use Rattle.std.proofs.lemmas.Bool.{cases_lt, cases_eq, eq-eqb, ne_eqb, cond-true, cond-false}
use Rattle.station_graph.specs.Connection.{AreEnds}
use Rattle.station_graph.specs.Classes.{merged, relabelled}
use Rattle.station_graph.proofs.LinkedLemmas.{ends_back}
use Rattle.station_graph.proofs.ClassesLemmas.{KeepsLabels, KeepsLabels-merged, KeepsLabels-same}
use Rattle.contraction.specs.Merging.{EdgeBelow, EdgeOf}

edge_less : (p l : List ℕ) (i a b : ℕ) → EdgeBelow p l i a b → EdgeBelow p l (i + 1) a b
edge_less p l i a b e = record { entry = e.entry; below = omega arith; ends = e.ends }

edge_here : (p l : List ℕ) (i a b : ℕ) → AreEnds (slice_index p i) (slice_index p (slice_index l i)) a b →
    EdgeBelow p l (i + 1) a b
edge_here p l i a b e = record { entry = i; below = omega arith; ends = e }

edge_cases : (p l : List ℕ) (i a b : ℕ) → EdgeBelow p l (i + 1) a b →
    EdgeBelow p l i a b ⊎ AreEnds (slice_index p i) (slice_index p (slice_index l i)) a b
edge_cases p l i a b e = elim (cases_lt e.entry i) [
  | inl less ↦ inl (record { entry = e.entry; below = less; ends = e.ends })
  | inr more ↦
      let same : e.entry ≡ i = omega (arith, e.below) in
      inr (subst (λ k. AreEnds (slice_index p k) (slice_index p (slice_index l k)) a b) same e.ends)
]

edge_back : (p l : List ℕ) (i a b : ℕ) → EdgeBelow p l i a b → EdgeBelow p l i b a
edge_back p l i a b e = record {
  entry = e.entry;
  below = e.below;
  ends = ends_back (slice_index p e.entry) (slice_index p (slice_index l e.entry)) a b e.ends;
}

no_edge : (p l : List ℕ) (a b : ℕ) → EdgeBelow p l 0 a b → ⊥
no_edge p l a b e = omega (arith, e.below)

-- ---- a number is in one class with itself
relabelled_self : (x label : ℕ) → relabelled x x label ≡ label
relabelled_self x label = elim (cases_eq label (max x x)) [
  | inl e ↦
      let now : relabelled x x label ≡ min x x =
      cond-true (eqb label (max x x)) (min x x) label (eq-eqb label (max x x) e) in
      omega (arith, now)
  | inr e ↦ cond-false (eqb label (max x x)) (min x x) label (ne_eqb label (max x x) e)
]

map_none : (f : ℕ → ℕ) → ((x : ℕ) → f x ≡ x) → (xs : List ℕ) → xs ≡ map f xs
map_none f same [] = refl
map_none f same (x ∷ xs) = cc (same x, map_none f same xs)

pub merged_self : (labels : List ℕ) (a : ℕ) → labels ≡ merged labels a a
merged_self labels a =
    map_none (relabelled (slice_index labels a) (slice_index labels a)) (relabelled_self (slice_index labels a)) labels

swapped : (X Y : Type 0) → X ⊎ Y → Y ⊎ X
swapped X Y (inl x) = inr x
swapped X Y (inr y) = inl y

module _ (p l q m : List ℕ) where
  pub edges_back : (i j a b : ℕ) → EdgeOf p l i q m j a b → EdgeOf p l i q m j b a
  edges_back i j a b (inl e) = inl (edge_back p l i a b e)
  edges_back i j a b (inr e) = inr (edge_back q m j a b e)

  pub no_edges : (a b : ℕ) → EdgeOf p l 0 q m 0 a b → ⊥
  no_edges a b (inl e) = no_edge p l a b e
  no_edges a b (inr e) = no_edge q m a b e

  first_kept : (i j a b : ℕ) → EdgeOf p l i q m j a b → EdgeOf p l (i + 1) q m j a b
  first_kept i j a b (inl e) = inl (edge_less p l i a b e)
  first_kept i j a b (inr e) = inr e

  first_only : (i j a b : ℕ) → EdgeOf p l (i + 1) q m j a b →
      EdgeOf p l i q m j a b ⊎ AreEnds (slice_index p i) (slice_index p (slice_index l i)) a b
  first_only i j a b (inl e) = elim (edge_cases p l i a b e) [ inl old ↦ inl (inl old) | inr new ↦ inr new ]
  first_only i j a b (inr e) = inl (inr e)

  second_kept : (i j a b : ℕ) → EdgeOf p l i q m j a b → EdgeOf p l i q m (j + 1) a b
  second_kept i j a b (inl e) = inl e
  second_kept i j a b (inr e) = inr (edge_less q m j a b e)

  second_only : (i j a b : ℕ) → EdgeOf p l i q m (j + 1) a b →
      EdgeOf p l i q m j a b ⊎ AreEnds (slice_index q j) (slice_index q (slice_index m j)) a b
  second_only i j a b (inl e) = inl (inl e)
  second_only i j a b (inr e) = elim (edge_cases q m j a b e) [ inl old ↦ inl (inr old) | inr new ↦ inr new ]

  -- one more entry of the first list
  pub after_first : (i j n : ℕ) (labels : List ℕ) → slice_index p i < n → slice_index p (slice_index l i) < n →
      KeepsLabels (EdgeOf p l i q m j) n labels →
      KeepsLabels (EdgeOf p l (i + 1) q m j) n (merged labels (slice_index p i) (slice_index p (slice_index l i)))
  after_first i j n labels a_in b_in h =
      KeepsLabels-merged (EdgeOf p l i q m j) (EdgeOf p l (i + 1) q m j) n labels (slice_index p i)
      (slice_index p (slice_index l i))
      (record { kept = first_kept i j; added = λ a b e. inl (edge_here p l i a b e); only = first_only i j })
      (edges_back (i + 1) j) a_in b_in h

  pub after_second : (i j n : ℕ) (labels : List ℕ) → slice_index q j < n → slice_index q (slice_index m j) < n →
      KeepsLabels (EdgeOf p l i q m j) n labels →
      KeepsLabels (EdgeOf p l i q m (j + 1)) n (merged labels (slice_index q j) (slice_index q (slice_index m j)))
  after_second i j n labels a_in b_in h =
      KeepsLabels-merged (EdgeOf p l i q m j) (EdgeOf p l i q m (j + 1)) n labels (slice_index q j)
      (slice_index q (slice_index m j))
      (record { kept = second_kept i j; added = λ a b e. inr (edge_here q m j a b e); only = second_only i j })
      (edges_back i (j + 1)) a_in b_in h

  -- either list may come first
  pub edges_swapped : (i j n : ℕ) (labels : List ℕ) → KeepsLabels (EdgeOf p l i q m j) n labels →
      KeepsLabels (EdgeOf q m j p l i) n labels
  edges_swapped i j n labels h =
      KeepsLabels-same (EdgeOf p l i q m j) (EdgeOf q m j p l i) n labels (record {
        kept = λ a b e. swapped (EdgeBelow p l i a b) (EdgeBelow q m j a b) e;
        only = λ a b e. swapped (EdgeBelow q m j a b) (EdgeBelow p l i a b) e;
      }) h
