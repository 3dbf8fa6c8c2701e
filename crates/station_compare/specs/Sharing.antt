-- Which bays take over what is found of others, and what the walks of the rest may cost.
use Rattle.std.specs.Prelude.{◌≡◌, ◌≤◌, ℕ, ⊤, List, Option, None, MatchOption, slice_index_or, is_none, count_by}
use Rattle.station_graph.specs.Diagram.{Diagram}
use Rattle.station_graph.specs.declared.items.Switch.{Switch}
use Rattle.change_search.specs.Limits.{walk_limit}
use Rattle.change_search.specs.declared.limits.TheConstants.{WALK_EDGES}
use Rattle.station_compare.specs.declared.likeness.LikeBays.{LikeBays}
use Rattle.station_compare.specs.declared.sharing.Sharing.{Sharing}
use Rattle.station_compare.specs.Likeness.{AreExchanged}

-- The exchange of a bay with an earlier one, if the list has one.
abbrev pub like_in : List (Option LikeBays) → ℕ → Option LikeBays
like_in likes bay = slice_index_or likes bay None

-- Each of them exchanges like bays of both stations.
abbrev pub AreLikes : Diagram → Diagram → List (Option LikeBays) → Type 0
AreLikes o n likes = (bay : ℕ) → MatchOption (like_in likes bay) ⊤ (AreExchanged o n)

-- How many switches of the new station are walked: those of bays that are exchanged with no earlier one.
abbrev pub walked_switches : Diagram → (ℕ → Option LikeBays) → ℕ
walked_switches n like = count_by (λ (x : Switch). is_none (like x.bay.0)) n.switches

-- How many edges the walk of each of them may have, so that all of them have a limit together.
abbrev pub limit_by : Diagram → (ℕ → Option LikeBays) → ℕ
limit_by n like = walk_limit (walked_switches n like)

-- So the likes are, and so is the limit.
pub record IsSharing (o n : Diagram) (s : Sharing) : Type 0 where
  pub likes : AreLikes o n s.likes.items
  pub limit : s.limit ≡ limit_by n (like_in s.likes.items)
  pub few : s.limit ≤ WALK_EDGES
