-- What the calls of a device do to its content, and what a crash may leave.
use Rattle.std.specs.Prelude.{◌≡◌, ◌≤◌, ◌<◌, ◌⊎◌, ◌+◌, ℕ, List, Option, Some, length, take, drop, slice_index}

-- Of the content, where it is told.
abbrev pub Told : Option (List ℕ) → (List ℕ → Type 0) → Type 0
Told content P = (image : List ℕ) → content ≡ Some image → P image

-- A content that is told stays told, and changes so; one that isn't stays untold.
pub record Becomes (old new : Option (List ℕ)) (R : List ℕ → List ℕ → Type 0) : Type 0 where
  pub told : (image : List ℕ) → old ≡ Some image → (after : List ℕ) × (new ≡ Some after) × R image after
  pub untold : (after : List ℕ) → new ≡ Some after → (image : List ℕ) × (old ≡ Some image)

-- The same but for any bytes in the range.
pub record IsChangedWithin (at len : ℕ) (old new : List ℕ) : Type 0 where
  pub size : length new ≡ length old
  pub outside : (k : ℕ) → (k < at) ⊎ (at + len ≤ k) → slice_index new k ≡ slice_index old k

-- The same but for these bytes from that place on.
pub record IsWritten (at : ℕ) (piece old new : List ℕ) : Type 0 where
  pub changed : IsChangedWithin at (length piece) old new
  pub inside : take (length piece) (drop at new) ≡ piece

-- Whatever a crash may have left since the call began is so changed from what it could leave then.
abbrev pub LeavesFrom : {D : Type 0} → (D → ℕ → List ℕ → Type 0) → ℕ → D → D → (List ℕ → List ℕ → Type 0) → Type 0
LeavesFrom since t old new R = (c : List ℕ) → since new t c → (d : List ℕ) × since old t d × R d c

-- Time goes on, and what a crash may have left before stays what it was.
pub record KeepsPast {D : Type 0} (moment : D → ℕ) (between : D → ℕ → ℕ → List ℕ → Type 0) (old new : D) : Type 0 where
  pub later : moment old ≤ moment new
  pub same : (t u : ℕ) (c : List ℕ) → u ≤ moment old → between new t u c → between old t u c

-- A count that rises by at most so much.
pub record RisesBy (n old new : ℕ) : Type 0 where
  pub grows : old ≤ new
  pub most : new ≤ old + n

-- A crash now leaves the image and nothing else.
abbrev pub IsSettled : {D : Type 0} → (D → ℕ) → (D → ℕ → List ℕ → Type 0) → D → List ℕ → Type 0
IsSettled moment since d image = (c : List ℕ) → since d (moment d) c → c ≡ image

-- A crash at any moment from old to new leaves an image that has P.
pub record LeavesOnly {D : Type 0} (moment : D → ℕ) (between : D → ℕ → ℕ → List ℕ → Type 0)
    (since : D → ℕ → List ℕ → Type 0) (old new : D) (P : List ℕ → Type 0) : Type 0 where
  pub past : KeepsPast moment between old new
  pub each : (c : List ℕ) → since new (moment old) c → P c
