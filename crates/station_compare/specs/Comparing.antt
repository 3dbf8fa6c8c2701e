-- What is found of the operations of two stations.
use Rattle.std.specs.Prelude.{ℕ, Bool, true, false, List, length, option_map, None, ⊤}
use Rattle.ilk_base.specs.declared.words.Op.{Op}
use Rattle.ilk_base.specs.declared.words.Rule.TheVariants.{R1, R2, R3}
use Rattle.station_graph.specs.Diagram.{Diagram}
use Rattle.station_changes.specs.declared.change.Change.{Change}
use Rattle.station_changes.specs.declared.change.Change.TheVariants.{Stricter, Looser}
use Rattle.station_changes.specs.Compare.{SameSwitch, IsPart}
use Rattle.release_dependence.specs.Operations.{opening, closing}
use Rattle.change_search.specs.Showing.{witness_of}
use Rattle.station_compare.specs.Each.{AreEach}
use Rattle.station_compare.specs.Orders.{Orders, IsFirstWide}
use Rattle.station_compare.specs.declared.refusal.CompareRefusal.{CompareRefusal}
use Rattle.station_compare.specs.declared.refusal.CompareRefusal.TheVariants.{Memory, Wide}
use Rattle.station_compare.specs.declared.found.RuleChanges.{RuleChanges}
use Rattle.station_compare.specs.declared.found.OperationChanges.{OperationChanges}
use Rattle.station_compare.specs.declared.found.SwitchChanges.{SwitchChanges}
use Rattle.station_compare.specs.declared.found.Found.{Found}
use Rattle.station_compare.specs.declared.found.Found.TheVariants.{OnlyNew, InBoth}
use Rattle.station_compare.specs.declared.found.Comparison.{Comparison}

-- For each rule a position that shows this change of the operation by it, exactly where there is one.
pub record AreRuleChanges (o n : Diagram) (a b : Op) (change : Change) (c : RuleChanges) : Type 0 where
  pub first : IsPart o n a b change R1 (option_map witness_of c.by_r1)
  pub second : IsPart o n a b change R2 (option_map witness_of c.by_r2)
  pub third : IsPart o n a b change R3 (option_map witness_of c.by_r3)

-- So for both changes.
pub record AreChanges (o n : Diagram) (a b : Op) (c : OperationChanges) : Type 0 where
  pub stricter : AreRuleChanges o n a b Stricter c.stricter
  pub looser : AreRuleChanges o n a b Looser c.looser

-- What changes for switch k of the new station, which is one of the old one.
pub record AreSwitchChanges (o n : Diagram) (k : ℕ) (c : SwitchChanges) : Type 0 where
  pub same : SameSwitch o n c.old.0 k
  pub opened : AreChanges o n (opening c.old.0) (opening k) c.opening
  pub closed : AreChanges o n (closing c.old.0) (closing k) c.closing

-- What is found of switch k of the new station.
abbrev pub IsFound : Diagram → Diagram → ℕ → Found → Type 0
IsFound o n k OnlyNew = (i : ℕ) → ¬ SameSwitch o n i k
IsFound o n k (InBoth c) = AreSwitchChanges o n k c

-- Whether the new station has switch i of the old one not.
abbrev pub IsGone : Diagram → Diagram → ℕ → Bool → Type 0
IsGone o n i true = (k : ℕ) → ¬ SameSwitch o n i k
IsGone o n i false = (k : ℕ) × SameSwitch o n i k

-- For each switch of the new station what is found of it.
abbrev pub AreHere : Diagram → Diagram → List Found → Type 0
AreHere o n here = AreEach (IsFound o n) (length n.switches) here

-- For each switch of the old station whether it is gone.
abbrev pub AreGone : Diagram → Diagram → List Bool → Type 0
AreGone o n gone = AreEach (IsGone o n) (length o.switches) gone

-- What is found of each switch of the new station, and which switches of the old one are gone.
pub record IsComparison (o n : Diagram) (c : Comparison) : Type 0 where
  pub here : AreHere o n c.here.items
  pub gone : AreGone o n c.gone.items

-- Along some orders of the walks this is the first bay of the new station that is too wide.
abbrev pub IsWideBay : Diagram → Diagram → ℕ → Type 0
IsWideBay o n bay = (orders : Orders o n) × IsFirstWide o n orders bay

-- Why two stations are not compared: this bay is the first that is too wide.
abbrev pub IsRefusal : Diagram → Diagram → CompareRefusal → Type 0
IsRefusal o n Memory = ⊤
IsRefusal o n (Wide bay) = IsWideBay o n bay.0

-- No position shows a change of the operation.
abbrev pub no_rule_changes : RuleChanges
no_rule_changes = record { by_r1 = None; by_r2 = None; by_r3 = None }

abbrev pub no_changes : OperationChanges
no_changes = record { stricter = no_rule_changes; looser = no_rule_changes }
