-- One node of two choices more folded.
use Rattle.std.proofs.Common.{◌≡◌, ℕ, ◌+◌, ◌<◌, List, [], ◌∷◌, ◌++◌, zero, suc, get_or, sym, subst}
use Rattle.std.proofs.Common.{arith}
use Rattle.decision_graphs.specs.declared.shape.Shape.{Shape}
use Rattle.decision_graphs.specs.declared.fold_pairs.Pair.{Pair}
use Rattle.decision_graphs.specs.Shapes.{place}
use Rattle.decision_graphs.specs.Folding.{IsRowAt, Folding, IsFolded, CanFold}
use Rattle.decision_graphs.specs.RowIndex.{pair_row}
use Rattle.decision_graphs.proofs.FoldLemmas.{IsFolded-old, IsFolded-new}

-- what holds of both choices holds of each
both : (P : ℕ → Type 0) → P 0 → P 1 → (c : ℕ) → c < 2 → P c
both P first second zero lt = first
both P first second (suc zero) lt = second
both P first second (suc (suc c)) lt = absurd (omega (arith, lt))

-- a layer of two choices, and the classes to which the edges of its node n lead
module _ (s : Shape) (es next : List ℕ) (bound n : ℕ) (f : Folding) (pair : Pair) (two : s.choices ≡ 2)
    (first : pair.first ≡ get_or next (get_or es (place s n 0) 0) 0)
    (second : pair.second ≡ get_or next (get_or es (place s n 1) 0) 0) (old : IsFolded s es next bound n f) where
  each : (c : ℕ) → c < s.choices → get_or (pair_row pair) c 0 ≡ get_or next (get_or es (place s n c) 0) 0
  each c lt =
      both (λ k. get_or (pair_row pair) k 0 ≡ get_or next (get_or es (place s n k) 0) 0) first second c
      (omega (arith, lt, two))

  -- its row is there already
  pub fold_known : (i : ℕ) → i < f.count → IsRowAt 2 f.rows i (pair_row pair) →
      IsFolded s es next bound (n + 1) (record f { classes = f.classes ++ i ∷ [] })
  fold_known i in_rows here =
      IsFolded-old s es next bound n f (pair_row pair) i old in_rows each
      (subst (λ w. IsRowAt w f.rows i (pair_row pair)) (sym two) here)

  -- its row is new
  pub fold_new : CanFold s es next bound → n < s.nodes →
      ((i : ℕ) → i < f.count → IsRowAt 2 f.rows i (pair_row pair) → ⊥) →
      IsFolded s es next bound (n + 1)
      (record { count = f.count + 1; rows = f.rows ++ pair_row pair; classes = f.classes ++ f.count ∷ [] })
  fold_new can node other =
      IsFolded-new s es next bound n f (pair_row pair) old can.choices (sym two) each
      (λ c lt. rw (each c lt) (can.next _ (can.leads n c node lt)))
      (λ i lt here. other i lt (subst (λ w. IsRowAt w f.rows i (pair_row pair)) two here))
