-- A layer is folded as it is by itself.
use Rattle.std.proofs.Common.{◌≡◌, ℕ, zero, suc, ◌+◌, ◌*◌, ◌<◌, List, [], ◌∷◌, ◌++◌, slice_index, slice_get, Some}
use Rattle.std.proofs.Common.{ap, ◌∙◌, subst, arith}
use Rattle.decision_graphs.specs.Alone.{alone, IsFoldedAlone, IsKnown, IsMadeOf}
use Rattle.decision_graphs.specs.Folding.{Folding, IsFolded}
use Rattle.decision_graphs.specs.FoldedView.{folding_of}
use Rattle.decision_graphs.specs.Shapes.{place}
use Rattle.decision_graphs.specs.declared.known.Known.{Known}
use Rattle.decision_graphs.specs.declared.known.Lone.{Lone}
use Rattle.decision_graphs.specs.declared.shape.Shape.{Shape}
use Rattle.decision_graphs.proofs.RowLemmas.{row_end}

-- the edge of a node and a choice, where the edges of the layer stand alone
pub edge_alone : (s : Shape) (own es : List ℕ) → ((p : ℕ) → p < s.nodes * s.choices → slice_index own p
    ≡ slice_index es (s.base + p)) → (k c : ℕ) → k < s.nodes → c < s.choices →
    slice_index own (place (alone s.choices s.nodes) k c) ≡ slice_index es (place s k c)
edge_alone s own es each k c node choice =
    let e : place (alone s.choices s.nodes) k c ≡ k * s.choices + c = omega arith in
    ap (slice_index own) e ∙ each (k * s.choices + c) (row_end s.choices s.nodes k c node choice)

-- a layer whose edges stand among others is folded as it is alone
pub folded_among : (s : Shape) (own es next : List ℕ) (bound : ℕ) (f : Folding) →
    ((p : ℕ) → p < s.nodes * s.choices → slice_index own p ≡ slice_index es (s.base + p)) →
    IsFolded (alone s.choices s.nodes) own next bound s.nodes f → IsFolded s es next bound s.nodes f
folded_among s own es next bound f each h = record {
  rows_len = h.rows_len;
  classes_len = h.classes_len;
  count_in = h.count_in;
  class_in = h.class_in;
  row_is = λ k c node choice. h.row_is k c node choice
      ∙ ap (slice_index next) (edge_alone s own es each k c node choice);
  distinct = h.distinct;
  rows_in = h.rows_in;
  start = h.start;
}

-- a layer is folded as a known one that is the same
pub folded_as : (k : Known) (l : Lone) → IsMadeOf k l → IsKnown k → IsFoldedAlone l (folding_of k.folded)
folded_as k l made known = rw (← made.choices, ← made.nodes, ← made.edges, ← made.next, ← made.bound) known

-- what holds of each element and of one more
pub all_more : {X : Type 0} (P : X → Type 0) (xs : List X) (y : X) →
    ((p : ℕ) (x : X) → slice_get xs p ≡ Some x → P x) → P y →
    (p : ℕ) (x : X) → slice_get (xs ++ y ∷ []) p ≡ Some x → P x
all_more P [] y all new zero x e = subst P (let same : y ≡ x = cc in same) new
all_more P [] y all new (suc p) x e = cc
all_more P (z ∷ zs) y all new zero x e = all 0 x e
all_more P (z ∷ zs) y all new (suc p) x e = all_more P zs y (λ q. all (suc q)) new p x e
