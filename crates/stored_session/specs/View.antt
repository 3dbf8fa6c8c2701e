-- How a device is seen, as one value.
use Rattle.std.specs.Prelude.{ℕ, List, Option}
use Rattle.node_store.specs.Device.{IsSettled, LeavesOnly}

-- What `Device` says of a device: its content, where that is told; its clock; what a crash may have left between two
-- moments, and since one; and its counts of faults and of calls.
pub record View (D : Type 0) : Type 1 where
  pub content : D → Option (List ℕ)
  pub moment : D → ℕ
  pub between : D → ℕ → ℕ → List ℕ → Type 0
  pub since : D → ℕ → List ℕ → Type 0
  pub reads : D → ℕ
  pub writes : D → ℕ
  pub calls : D → ℕ

-- The view of a device by these parts.
abbrev pub view : {D : Type 0} → (D → Option (List ℕ)) → (D → ℕ) → (D → ℕ → ℕ → List ℕ → Type 0)
    → (D → ℕ → List ℕ → Type 0) → (D → ℕ) → (D → ℕ) → (D → ℕ) → View D
view content moment between since reads writes calls = record {
  content = content;
  moment = moment;
  between = between;
  since = since;
  reads = reads;
  writes = writes;
  calls = calls;
}

-- A crash at any moment from old to new leaves an image that has P.
abbrev pub Leaves : {D : Type 0} → View D → D → D → (List ℕ → Type 0) → Type 0
Leaves v old new P = LeavesOnly v.moment v.between v.since old new P

-- A crash now leaves the image and nothing else.
abbrev pub Settled : {D : Type 0} → View D → D → List ℕ → Type 0
Settled v device image = IsSettled v.moment v.since device image
