-- What stands on the device between two lines, and what a crash may leave.
use Rattle.std.specs.Prelude.{ℕ, List}
use Rattle.bay_protocol.specs.declared.values.Kept.{Kept}
use Rattle.node_store.specs.declared.store.Store.{Store}
use Rattle.node_store.specs.Device.{IsSettled}
use Rattle.node_store.specs.Image.{IsImageOf}
use Rattle.node_store.specs.Store.{MatchesStore}

-- Nothing is pending on the device, the store says rightly what its image is, and the image stands for the record.
pub record IsKept {D : Type 0} (moment : D → ℕ) (since : D → ℕ → List ℕ → Type 0)
    (device : D) (store : Store) (image : List ℕ) (kept : Kept) : Type 0 where
  pub settled : IsSettled moment since device image
  pub matches : MatchesStore image store
  pub stands : IsImageOf image kept

-- A crash now leaves the record.
abbrev pub LeavesNow : {D : Type 0} → (D → ℕ) → (D → ℕ → List ℕ → Type 0) → D → Kept → Type 0
LeavesNow moment since d kept = (c : List ℕ) → since d (moment d) c → IsImageOf c kept
