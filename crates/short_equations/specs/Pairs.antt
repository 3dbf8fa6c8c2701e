-- The terms of a switch in a view.
use Rattle.std.specs.Prelude.{◌≡◌, ◌≢◌, ◌↔◌, ◌⊎◌, ◌<◌, ◌≤◌, ℕ, List, length, slice_get, Option, Some, MatchOption}
use Rattle.ilk_base.specs.declared.words.NodeId.{NodeId}
use Rattle.ilk_base.specs.declared.words.Direction.{Direction}
use Rattle.ilk_base.specs.declared.words.Op.{Op}
use Rattle.ilk_base.specs.declared.words.Kind.TheVariants.{Earthing, Infeed}
use Rattle.station_graph.specs.declared.items.Switch.{Switch}
use Rattle.station_graph.specs.Diagram.{Diagram}
use Rattle.station_graph.specs.Connection.{Bonded}
use Rattle.station_graph.specs.Supply.{Energisable, Earthable}
use Rattle.station_graph.specs.Alike.{IsVector}
use Rattle.station_graph.specs.CentralRules.{before}
use Rattle.interlock_terms.specs.declared.term.Term.{Term}
use Rattle.interlock_terms.specs.Terms.{Values, Solves}
use Rattle.short_equations.specs.declared.edge.Edge.{Edge}
use Rattle.short_equations.specs.declared.view.View.{View}
use Rattle.short_equations.specs.declared.view.View.TheVariants.{Gap, Load, Bond}
use Rattle.short_equations.specs.declared.pair.TermPair.{TermPair}
use Rattle.short_equations.specs.Edges.{Along, IsOneBelow, IsTermTrue}
use Rattle.short_equations.specs.Sights.{first_mark, second_mark}
use Rattle.short_equations.specs.Signals.{gap_vector, LiveEnd, Tapped}

-- The nodes are all of so many but two.
abbrev pub AreOtherNodes : ℕ → ℕ → ℕ → List NodeId → Type 0
AreOtherNodes count a b nodes = (n : ℕ) → IsOneBelow nodes (length nodes) n ↔ ((n < count) × (n ≢ a) × (n ≢ b))

-- The node is the second end of the switch, or the one at which it stands.
abbrev pub IsFarEnd : Switch → NodeId → Type 0
IsFarEnd x n = MatchOption x.second (n ≡ x.first) (λ q. n ≡ q)

-- The term is true exactly where the edges lead from one of two nodes to the mark in one step.
abbrev pub MeansSeen : List Term → List Edge → ℕ → ℕ → ℕ → Option ℕ → Type 0
MeansSeen terms edges a b mark t =
    (v : Values) → Solves v terms → IsTermTrue v t ↔ (Along v edges a mark ⊎ Along v edges b mark)

-- The term is true exactly where the edges lead between two nodes in one step, either way.
abbrev pub MeansBetween : List Term → List Edge → ℕ → ℕ → Option ℕ → Type 0
MeansBetween terms edges a b t = (v : Values) → Solves v terms → IsTermTrue v t ↔ Along v edges a b

-- The term is true exactly where the edges lead between two nodes, or from each to the second mark.
abbrev pub MeansLoaded : List Term → List Edge → ℕ → ℕ → Option ℕ → Type 0
MeansLoaded terms edges a b t =
    (v : Values) → Solves v terms →
    IsTermTrue v t ↔ (Along v edges a b ⊎ (Along v edges a second_mark × Along v edges b second_mark))

-- What is read off the edges that are left at two nodes.
abbrev pub IsReadout : View → List Term → List Edge → ℕ → ℕ → TermPair → Type 0
IsReadout Gap terms edges a b p =
    MeansSeen terms edges a b first_mark p.first × MeansSeen terms edges a b second_mark p.second
IsReadout Load terms edges a b p = MeansSeen terms edges a b first_mark p.first × MeansLoaded terms edges a b p.second
IsReadout Bond terms edges a b p = MeansBetween terms edges a b p.first

-- The operation of this switch.
abbrev pub op_of : ℕ → Direction → Op
op_of i direction = record { switch = record { 0 = i }; direction = direction }

-- With the values of the terms in a vector of the station, the terms of the switch are exact in the view. In the gap
-- view the first is true exactly where what the switch would join is energisable, the second where it is earthable. In
-- the load view the first where an end is live; and there the second where both ends are tapped. In the bond view the
-- first where the ends are bonded without the switch.
abbrev pub IsExactPair : View → Diagram → List Term → ℕ → Switch → TermPair → Type 0
IsExactPair Gap d terms i x p =
    (v : Values) (direction : Direction) → IsVector d v.closed → Solves v terms →
    (x.kind ≢ Infeed →
    IsTermTrue v p.first ↔ Energisable d (gap_vector x.kind v.closed (op_of i direction)) x.first.0)
    × (x.kind ≢ Earthing →
    IsTermTrue v p.second ↔ Earthable d (gap_vector x.kind v.closed (op_of i direction)) x.first.0)
IsExactPair Load d terms i x p =
    (v : Values) (direction : Direction) → IsVector d v.closed → Solves v terms →
    (q : NodeId) → x.second ≡ Some q →
    (IsTermTrue v p.first ↔ LiveEnd d (before v.closed (op_of i direction)) x.first.0 q.0)
    × (LiveEnd d (before v.closed (op_of i direction)) x.first.0 q.0 →
    IsTermTrue v p.second ↔ (Tapped d (before v.closed (op_of i direction)) x.first.0
    × Tapped d (before v.closed (op_of i direction)) q.0))
IsExactPair Bond d terms i x p =
    (v : Values) (direction : Direction) → IsVector d v.closed → Solves v terms →
    (q : NodeId) → x.second ≡ Some q →
    IsTermTrue v p.first ↔ Bonded d (before v.closed (op_of i direction)) x.first.0 q.0

-- So they are for each switch of a part from this one on.
abbrev pub AreExactFrom : View → Diagram → List Term → ℕ → List TermPair → Type 0
AreExactFrom view d terms part pairs =
    (i : ℕ) (x : Switch) (p : TermPair) → slice_get d.switches i ≡ Some x → slice_get pairs i ≡ Some p →
    part ≤ x.bay.0 → IsExactPair view d terms i x p

-- So they are for each switch of the part; those of other parts are as they were.
pub record SetsBay (view : View) (d : Diagram) (terms : List Term) (part : ℕ) (old new : List TermPair) : Type 0 where
  pub len : length new ≡ length old
  pub exact : (i : ℕ) (x : Switch) (p : TermPair) → slice_get d.switches i ≡ Some x → slice_get new i ≡ Some p →
      x.bay.0 ≡ part → IsExactPair view d terms i x p
  pub others : (i : ℕ) (x : Switch) → slice_get d.switches i ≡ Some x → x.bay.0 ≢ part →
      slice_get new i ≡ slice_get old i

-- So they are for each switch.
abbrev pub AreExactPairs : View → Diagram → List Term → List TermPair → Type 0
AreExactPairs view d terms pairs =
    (i : ℕ) (x : Switch) (p : TermPair) → slice_get d.switches i ≡ Some x → slice_get pairs i ≡ Some p →
    IsExactPair view d terms i x p
