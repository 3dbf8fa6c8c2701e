-- What a crash of a device in memory may leave.
use Rattle.std.specs.Prelude.{◌≡◌, ◌≤◌, ◌<◌, ◌⊎◌, ◌↔◌, ◌+◌, ℕ, List, Bool, true, false, length, slice_index}
use Rattle.std.proofs.Common.{inl, inr, ⊎_elim}
use Rattle.std.proofs.Math.Nat.{le_trans}
use Rattle.std.proofs.lemmas.Bool.{cases_lt}
use Rattle.std.proofs.Math.ListN.{get_or}
use Rattle.node_store.specs.declared.mem_device.Snapshot.{Snapshot}
use Rattle.node_store.specs.declared.mem_device.MemDevice.{MemDevice}

-- As many bytes, and each byte that is not marked.
pub record MayLeave (s : Snapshot) (c : List ℕ) : Type 0 where
  pub size : length c ≡ length s.bytes
  pub kept : (k : ℕ) → get_or s.marks k false ≡ false → slice_index c k ≡ slice_index s.bytes k

-- The state at a moment: one of those that are kept, or the one of now.
abbrev pub state_at : MemDevice → ℕ → Snapshot
state_at d k = get_or d.past.items k d.state

-- Marked in the range, and else as before.
pub record IsMarked (at len : ℕ) (old new : List Bool) : Type 0 where
  pub inside : (k : ℕ) → at ≤ k → k < at + len → get_or new k false ≡ true
  pub outside : (k : ℕ) → (k < at) ⊎ (at + len ≤ k) → get_or new k false ≡ get_or old k false

-- A crash at this moment or later may leave this content.
abbrev pub LeftSince : MemDevice → ℕ → List ℕ → Type 0
LeftSince d t c = (k : ℕ) × (t ≤ k) × MayLeave (state_at d k) c

-- A crash at or after the first moment and before the second may leave this content.
abbrev pub LeftBetween : MemDevice → ℕ → ℕ → List ℕ → Type 0
LeftBetween d t u c = (k : ℕ) × (t ≤ k) × (k < u) × MayLeave (state_at d k) c

-- What it may leave from a moment on it leaves before a later moment, or from that on.
before_or_after : (d : MemDevice) (t u : ℕ) (c : List ℕ) → LeftSince d t c → LeftBetween d t u c ⊎ LeftSince d u c
before_or_after d t u c left =
    ⊎_elim (λ lt. inl (left.0, left.1, lt, left.2)) (λ ge. inr (left.0, ge, left.2)) (cases_lt left.0 u)

-- What it leaves between two moments it leaves from the first on.
before : (d : MemDevice) (t u : ℕ) (c : List ℕ) → LeftBetween d t u c → LeftSince d t c
before d t u c left = (left.0, left.1, left.3)

-- What it leaves from the later moment on it leaves from the earlier one on.
after : (d : MemDevice) (t u : ℕ) (c : List ℕ) → t ≤ u → LeftSince d u c → LeftSince d t c
after d t u c le left = (left.0, le_trans le left.1, left.2)

-- What a crash may leave from a moment on is what it may leave before a later moment or from that on.
pub since_splits : (d : MemDevice) (t u : ℕ) (c : List ℕ) → t ≤ u →
    (LeftSince d t c ↔ (LeftBetween d t u c ⊎ LeftSince d u c))
since_splits d t u c le = (before_or_after d t u c, ⊎_elim (before d t u c) (after d t u c le))
