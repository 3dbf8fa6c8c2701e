-- How far the switches of the new station are walked, bay by bay.
use Rattle.std.specs.Prelude.{◌≡◌, ◌<◌, ℕ, suc, Option, slice_get, Some}
use Rattle.station_graph.specs.Diagram.{Diagram}
use Rattle.station_graph.specs.declared.items.Switch.{Switch}
use Rattle.station_joints.specs.Joined.{HaveJointSteps}
use Rattle.station_compare.specs.declared.likeness.LikeBays.{LikeBays}
use Rattle.station_compare.specs.declared.walks.BayWalks.{BayWalks}
use Rattle.station_compare.specs.Sharing.{IsSharing, like_in}
use Rattle.station_compare.specs.Walking.{AreStocks}
use Rattle.station_compare.specs.Orders.{Orders, IsNarrow}

-- Switch k of the station, if it has one, is of this bay.
abbrev pub IsOfBay : Diagram → ℕ → ℕ → Type 0
IsOfBay d bay k = (x : Switch) → slice_get d.switches k ≡ Some x → x.bay.0 ≡ bay

-- The switch before switch k, if there is one, is of this bay.
abbrev pub IsBayBefore : Diagram → ℕ → ℕ → Type 0
IsBayBefore d bay k = (j : ℕ) → suc j ≡ k → IsOfBay d bay j

-- The stocks are those of joint steps of both stations, and the sharing is theirs.
pub record AreBayWalks (o n : Diagram) (w : BayWalks) : Type 0 where
  pub steps : HaveJointSteps o n w.steps
  pub stocks : AreStocks o n w.steps w.stocks
  pub sharing : IsSharing o n w.sharing

-- The exchange of each bay with an earlier one, if there is one.
abbrev pub likes_of : BayWalks → ℕ → Option LikeBays
likes_of w = like_in w.sharing.likes.items

-- For some orders, which at the bay at work are those of its walks, each switch of the new station before switch k is narrow.
pub record AreNarrowBefore (o n : Diagram) (w : BayWalks) (k : ℕ) : Type 0 where
  pub orders : Orders o n
  pub old_steps : orders.old_steps w.bay.0 ≡ w.steps.old_steps.items
  pub new_steps : orders.new_steps w.bay.0 ≡ w.steps.new_steps.items
  pub like : orders.like ≡ likes_of w
  pub before : (j : ℕ) → j < k → IsNarrow o n orders j
