-- Which positions are covered by others.
use Rattle.std.specs.Prelude.{◌≡◌, ◌≢◌, ℕ, Bool, true, List, length, slice_get, Some}
use Rattle.ilk_base.specs.declared.words.Kind.{Kind}
use Rattle.ilk_base.specs.declared.words.Kind.TheVariants.{Earthing}
use Rattle.ilk_base.specs.declared.words.Op.{Op}
use Rattle.ilk_base.specs.declared.words.Rule.TheVariants.{R3}
use Rattle.station_graph.specs.declared.items.Switch.{Switch}
use Rattle.station_graph.specs.Diagram.{Diagram}
use Rattle.station_graph.specs.Connection.{SameButBreakers}
use Rattle.station_graph.specs.CentralRules.{LoadBreaks}
use Rattle.station_changes.specs.Compare.{IsJoint, IsIsolated, IsChange}
use Rattle.station_changes.specs.declared.change.Change.{Change}
use Rattle.station_changes.specs.declared.change.Change.TheVariants.{Stricter, Looser}

-- Each switch but the earthing switches is closed in w where it is closed in v.
abbrev pub Covers : Diagram → List Bool → List Bool → Type 0
Covers d v w = (i : ℕ) (x : Switch) → slice_get d.switches i ≡ Some x → x.kind ≢ Earthing →
    slice_get v i ≡ Some true → slice_get w i ≡ Some true

-- No earthing switch is closed.
abbrev pub NoEarth : Diagram → List Bool → Type 0
NoEarth d v = (i : ℕ) (x : Switch) → slice_get d.switches i ≡ Some x → x.kind ≡ Earthing →
    slice_get v i ≢ Some true

-- The operation moves a switch of this kind.
pub record Moves (kind : Kind) (d : Diagram) (op : Op) : Type 0 where
  pub switch : Switch
  pub listed : slice_get d.switches op.switch.0 ≡ Some switch
  pub is_kind : switch.kind ≡ kind

-- A position shows this change by the third rule; it is isolated where the other one is.
pub record ShownFrom (o n : Diagram) (a b : Op) (change : Change) (u v : List Bool) : Type 0 where
  pub old : List Bool
  pub new : List Bool
  pub joint : IsJoint o n old new
  pub isolated : IsIsolated o n u v → IsIsolated o n old new
  pub shows : IsChange o n a b change R3 old new

-- Where load alone differs, some position shows the change.
pub record LoadChange (o n : Diagram) (a b : Op) (u v : List Bool) : Type 0 where
  pub stricter : ¬ LoadBreaks o u a → LoadBreaks n v b → ShownFrom o n a b Stricter u v
  pub looser : LoadBreaks o u a → ¬ LoadBreaks n v b → ShownFrom o n a b Looser u v

-- Three positions that differ in breakers alone, each with more of them closed than the one before.
pub record IsBetween (d : Diagram) (few v many : List Bool) : Type 0 where
  pub few_len : length v ≡ length few
  pub many_len : length v ≡ length many
  pub few_same : SameButBreakers d v few
  pub many_same : SameButBreakers d v many
  pub few_covered : Covers d few v
  pub many_covers : Covers d v many
