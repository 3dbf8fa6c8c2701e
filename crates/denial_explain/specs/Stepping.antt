-- The steps from each node to the nearest end.
use Rattle.std.specs.Prelude.{◌≡◌, ℕ, ◌+◌, ◌≤◌, ◌⊎◌, List, [], ◌∷◌, ◌++◌, length, slice_get, slice_set, Contains}
use Rattle.std.specs.Prelude.{count_by, is_none, Option, Some, None}
use Rattle.denial_explain.specs.Listing.{list_at}

-- The node has steps, so many.
abbrev pub HasSteps : List (Option ℕ) → ℕ → ℕ → Type 0
HasSteps steps n k = slice_get steps n ≡ Some (Some k)

-- The ends have no step, and no other node; a node with steps is related to one with one step less; and
-- what is related to a node with steps has steps, at most one more.
pub record AreSteps (R : ℕ → ℕ → Type 0) (Target : ℕ → Type 0) (count : ℕ) (steps : List (Option ℕ)) : Type 0 where
  pub len : length steps ≡ count
  pub ends : (n : ℕ) → Target n → HasSteps steps n 0
  pub only_ends : (n : ℕ) → HasSteps steps n 0 → Target n
  pub nearer : (n k : ℕ) → HasSteps steps n (k + 1) → (m : ℕ) × R n m × HasSteps steps m k
  pub near : (a b k : ℕ) → R a b → HasSteps steps b k → (l : ℕ) × HasSteps steps a l × (l ≤ k + 1)

-- The node had no steps, and got these and joined the queue; or it had steps, and nothing changed.
abbrev pub Visits : ℕ → ℕ → List (Option ℕ) → List (Option ℕ) → List ℕ → List ℕ → Type 0
Visits node next steps new_steps queue new_queue =
    ((slice_get steps node ≡ Some None) × (new_steps ≡ slice_set steps node (Some next))
    × (new_queue ≡ queue ++ node ∷ []))
    ⊎ ((k : ℕ) × HasSteps steps node k × (new_steps ≡ steps) × (new_queue ≡ queue))

-- Exactly those nodes with P that had no steps got these, and joined the queue.
pub record ReachesAll (P : ℕ → Type 0) (next : ℕ) (steps new_steps : List (Option ℕ))
    (queue new_queue : List ℕ) : Type 0 where
  pub len : length new_steps ≡ length steps
  pub room : length new_queue + count_by is_none new_steps ≡ length queue + count_by is_none steps
  pub kept : (n k : ℕ) → HasSteps steps n k → HasSteps new_steps n k
  pub all : (n : ℕ) → P n → (k : ℕ) × HasSteps new_steps n k
  pub only : (n k : ℕ) → HasSteps new_steps n k → HasSteps steps n k ⊎ ((k ≡ next) × P n × Contains new_queue n)
  pub longer : length queue ≤ length new_queue
  pub queue_kept : (j n : ℕ) → slice_get queue j ≡ Some n → slice_get new_queue j ≡ Some n
  pub queue_only : (j n : ℕ) → slice_get new_queue j ≡ Some n → (slice_get queue j ≡ Some n)
      ⊎ ((length queue ≤ j) × HasSteps new_steps n next)

-- The neighbours of the node were reached, one step after it.
pub record Spreads (lists : List (List ℕ)) (node : ℕ) (steps new_steps : List (Option ℕ))
    (queue new_queue : List ℕ) : Type 0 where
  pub at : ℕ
  pub reached : HasSteps steps node at
  pub all : ReachesAll (Contains (list_at lists node)) (at + 1) steps new_steps queue new_queue
