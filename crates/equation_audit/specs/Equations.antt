-- What a block says: an operation, and the alternatives under which it is released.
use Rattle.std.specs.Prelude.{◌≡◌, ◌<◌, ◌≤◌, ◌==◌, ⊤, ℕ, Bool, true, false, List, [], ◌∷◌, length, slice_index_or, All}
use Rattle.std.specs.Bool.{beq}
use Rattle.std.specs.List.{list_any, list_all}
use Rattle.ilk_base.specs.declared.words.Op.{Op}
use Rattle.ilk_base.specs.declared.words.SwitchId.{SwitchId}
use Rattle.station_graph.specs.Diagram.{Diagram}
use Rattle.station_graph.specs.CentralRules.{IsOperation}
use Rattle.equation_audit.specs.declared.condition.Condition.{Condition}
use Rattle.equation_audit.specs.declared.block.TheConstants.{MOST_OWN}

-- An equation: an operation, and the alternatives under which it is released, each a list of conditions.
-- `never` is the equation without alternatives.
pub record Equation : Type 0 where
  pub op : Op
  pub alternatives : List (List Condition)

-- The condition holds in the vector: its switch has its position.
abbrev pub holds : List Bool → Condition → Bool
holds v c = beq (slice_index_or v c.switch.0 false) c.closed

-- All conditions of one of the alternatives hold in the vector.
abbrev pub is_released : List (List Condition) → List Bool → Bool
is_released alternatives v = list_any (λ conditions. list_all (holds v) conditions) alternatives

-- A condition of the list is on switch i.
abbrev pub is_named : List Condition → ℕ → Bool
is_named conditions i = list_any (λ c. c.switch.0 == i) conditions

-- Switch i is one of the own switches: an alternative has a condition on it.
abbrev pub is_own : List (List Condition) → ℕ → Bool
is_own alternatives i = list_any (λ conditions. is_named conditions i) alternatives

-- Switch i is in the list.
abbrev pub is_among : List SwitchId → ℕ → Bool
is_among ids i = list_any (λ id. id.0 == i) ids

-- No switch is in the list twice.
abbrev pub AllDiffer : List SwitchId → Type 0
AllDiffer [] = ⊤
AllDiffer (id ∷ ids) = (is_among ids id.0 ≡ false) × AllDiffer ids

-- The list is that of the own switches, each once.
pub record AreOwn (alternatives : List (List Condition)) (own : List SwitchId) : Type 0 where
  pub differ : AllDiffer own
  pub each : (i : ℕ) → is_among own i ≡ is_own alternatives i

-- The same, and they are few enough to try each of their positions.
pub record AreFewOwn (alternatives : List (List Condition)) (own : List SwitchId) : Type 0 where
  pub are : AreOwn alternatives own
  pub few : length own ≤ MOST_OWN

-- There are few enough own switches.
abbrev pub HasFewOwn : List (List Condition) → Type 0
HasFewOwn alternatives = (own : List SwitchId) × AreFewOwn alternatives own

-- One more than the few would be own: the switch is none of them, and they are as many as may be.
abbrev pub IsBroad : List (List Condition) → ℕ → Type 0
IsBroad alternatives i = (is_own alternatives i ≡ false) × (own : List SwitchId) × AreOwn alternatives own
    × (length own ≡ MOST_OWN)

-- The own switches are among the first so many switches of the station.
abbrev pub OwnBelow : ℕ → List (List Condition) → Type 0
OwnBelow count alternatives = (i : ℕ) → is_own alternatives i ≡ true → i < count

-- The equation is one of the station.
pub record IsOfStation (d : Diagram) (e : Equation) : Type 0 where
  pub op : IsOperation d e.op
  pub own : OwnBelow (length d.switches) e.alternatives

-- All of them are.
abbrev pub AreOfStation : Diagram → List Equation → Type 0
AreOfStation d es = All (IsOfStation d) es
