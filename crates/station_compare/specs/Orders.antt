-- Along which steps the walks of each bay are made, and which switches are narrow along them.
use Rattle.std.specs.Prelude.{◌≡◌, ◌<◌, ℕ, ⊤, List, Option, Some, None, MatchOption, slice_get}
use Rattle.station_graph.specs.Diagram.{Diagram}
use Rattle.station_graph.specs.declared.items.Switch.{Switch}
use Rattle.like_bays.specs.Like.{led_by}
use Rattle.step_graphs.specs.declared.step.Step.{Step}
use Rattle.station_joints.specs.Together.{AreJointSteps}
use Rattle.station_compare.specs.declared.likeness.LikeBays.{LikeBays}
use Rattle.station_compare.specs.Likeness.{AreExchanged}
use Rattle.station_compare.specs.Sharing.{limit_by}
use Rattle.station_compare.specs.Width.{IsNarrowAlong, IsWideAlong}

-- For each bay of the new station joint steps of both stations, and of some bays an exchange of like bays in both. Which
-- they are is not said.
pub record Orders (o n : Diagram) : Type 0 where
  pub old_steps : ℕ → List Step
  pub new_steps : ℕ → List Step
  pub like : ℕ → Option LikeBays
  pub joint : (bay : ℕ) → AreJointSteps o n (old_steps bay) (new_steps bay)
  pub exchanged : (bay : ℕ) → MatchOption (like bay) ⊤ (AreExchanged o n)

-- The exchange carries a switch before it into switch k of the new station, so that k takes over what is found of that one.
abbrev pub IsCarried : Option LikeBays → ℕ → Type 0
IsCarried None k = ⊥
IsCarried (Some x) k = led_by x.new.items k < k

-- Switch k of the new station is narrow: the exchange of its bay carries an earlier one into it, or its walk along the steps
-- of its bay keeps the limit of the walks of all bays without an exchange, if it has one.
abbrev pub IsNarrow : (o n : Diagram) → Orders o n → ℕ → Type 0
IsNarrow o n orders k = (x : Switch) → slice_get n.switches k ≡ Some x → ¬ IsCarried (orders.like x.bay.0) k →
    IsNarrowAlong o n (orders.old_steps x.bay.0) (orders.new_steps x.bay.0) k (limit_by n orders.like)

-- Switch k of the new station, which is of this bay, is too wide: no exchange carries an earlier one into it, and its walk
-- along the steps of its bay passes that limit.
pub record IsTooWide (o n : Diagram) (orders : Orders o n) (bay k : ℕ) : Type 0 where
  pub switch : Switch
  pub at : slice_get n.switches k ≡ Some switch
  pub of_bay : switch.bay.0 ≡ bay
  pub not_carried : ¬ IsCarried (orders.like bay) k
  pub wide : IsWideAlong o n (orders.old_steps bay) (orders.new_steps bay) k (limit_by n orders.like)

-- Along these orders this is the first bay with a switch that is too wide: each switch before it is narrow.
pub record IsFirstWide (o n : Diagram) (orders : Orders o n) (bay : ℕ) : Type 0 where
  pub switch : ℕ
  pub too_wide : IsTooWide o n orders bay switch
  pub before : (k : ℕ) → k < switch → IsNarrow o n orders k

-- Along some orders each switch of the new station is narrow.
abbrev pub AreNarrow : Diagram → Diagram → Type 0
AreNarrow o n = (orders : Orders o n) × ((k : ℕ) → IsNarrow o n orders k)
