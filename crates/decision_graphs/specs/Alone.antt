-- A layer by itself, and layers that are known with their foldings.
use Rattle.std.specs.Prelude.{◌≡◌, ℕ, List, slice_get, Some}
use Rattle.decision_graphs.specs.Folding.{Folding, IsFolded, CanFold}
use Rattle.decision_graphs.specs.FoldedView.{folding_of}
use Rattle.decision_graphs.specs.declared.known.Known.{Known}
use Rattle.decision_graphs.specs.declared.known.Lone.{Lone}
use Rattle.decision_graphs.specs.declared.shape.Shape.{Shape}

-- Where a layer stands whose edges are all there are.
abbrev pub alone : ℕ → ℕ → Shape
alone choices nodes = record { choices = choices; nodes = nodes; first = 0; base = 0 }

-- The layer has been folded.
abbrev pub IsFoldedAlone : Lone → Folding → Type 0
IsFoldedAlone l f = IsFolded (alone l.choices l.nodes) l.edges.now l.next.now l.bound l.nodes f

-- The layer can be folded.
abbrev pub CanFoldAlone : Lone → Type 0
CanFoldAlone l = CanFold (alone l.choices l.nodes) l.edges.now l.next.now l.bound

-- The known layer is the same, and what came after it was folded the same.
pub record IsMadeOf (k : Known) (l : Lone) : Type 0 where
  pub choices : k.choices ≡ l.choices
  pub nodes : k.nodes ≡ l.nodes
  pub edges : k.edges ≡ l.edges.now
  pub next : k.next ≡ l.next.now
  pub bound : k.bound ≡ l.bound

-- The known layer has been folded.
abbrev pub IsKnown : Known → Type 0
IsKnown k = IsFolded (alone k.choices k.nodes) k.edges k.next k.bound k.nodes (folding_of k.folded)

-- Each of these layers has been folded.
abbrev pub AreKnown : List Known → Type 0
AreKnown ks = (p : ℕ) (k : Known) → slice_get ks p ≡ Some k → IsKnown k
