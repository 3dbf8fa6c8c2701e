-- When two positions of a part are the same to the rest of the station, and which bays tell a bay
-- nothing.
use Rattle.std.specs.Prelude.{◌≡◌, ◌≢◌, ℕ, ◌↔◌, Bool, List, length, slice_get, Option}
use Rattle.ilk_base.specs.declared.words.Rule.{Rule}
use Rattle.ilk_base.specs.declared.words.Op.{Op}
use Rattle.station_graph.specs.Diagram.{Diagram}
use Rattle.station_graph.specs.Connection.{Item, a_switch}
use Rattle.station_graph.specs.Sharing.{OfPart, IsShared}
use Rattle.station_graph.specs.CentralRules.{Breaks}
use Rattle.station_graph.specs.Views.{SameGapView, SameLoadView}

-- The part stands alike in v and in w: its items have one contraction on the nodes that it shares, that
-- is one gap view and one load view.
pub record Alike (d : Diagram) (part : ℕ) (v w : List Bool) : Type 0 where
  pub gap : SameGapView (IsShared d part) (OfPart d part) d v w
  pub load : SameLoadView (IsShared d part) (OfPart d part) d v w

-- A vector has one entry for each switch of the station.
abbrev pub IsVector : Diagram → List Bool → Type 0
IsVector d v = length v ≡ length d.switches

-- The switches of these items have the same positions in v and in w.
abbrev pub SamePositions : (Item → Type 0) → List Bool → List Bool → Type 0
SamePositions These v w = (i : ℕ) → These (a_switch i) → slice_get v i ≡ slice_get w i

-- v and w differ in switches of the part alone.
abbrev pub DifferInPart : Diagram → ℕ → List Bool → List Bool → Type 0
DifferInPart d part v w = SamePositions (λ item. ¬ OfPart d part item) v w

-- Each operation of a switch of the part has the same answer in v and in w.
abbrev pub SameAnswers : Diagram → ℕ → List Bool → List Bool → Type 0
SameAnswers d part v w = (op : Op) → OfPart d part (a_switch op.switch.0) → (answer : Option Rule) →
    Breaks d v op answer ↔ Breaks d w op answer

-- Bay b is irrelevant to bay c: two vectors that differ in switches of b alone always give the same
-- answers for the operations of c.
abbrev pub Irrelevant : Diagram → ℕ → ℕ → Type 0
Irrelevant d b c = (v w : List Bool) → IsVector d v → IsVector d w → DifferInPart d b v w → SameAnswers d c v w

-- Bay b is a partner of bay c: it is not irrelevant to it.
abbrev pub Partner : Diagram → ℕ → ℕ → Type 0
Partner d b c = ¬ Irrelevant d b c

-- To bay c the vectors are the same: its own switches have the same positions in both, and each other
-- part stands alike.
pub record SameFor (d : Diagram) (c : ℕ) (v w : List Bool) : Type 0 where
  pub own : SamePositions (OfPart d c) v w
  pub others : (part : ℕ) → part ≢ c → Alike d part v w
