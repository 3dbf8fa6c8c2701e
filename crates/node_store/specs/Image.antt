-- What an image, the bytes of a device, stands for.
use Rattle.std.specs.Prelude.{◌≡◌, ◌≢◌, ◌<◌, ◌⊎◌, ◌+◌, ◌*◌, ◌-◌, ℕ, List, take, drop, slice_index}
use Rattle.std.specs.Int.{w64, from_be_bytes}
use Rattle.bay_protocol.specs.declared.values.Kept.{Kept}
use Rattle.bay_protocol.specs.KeptRow.{kept_row, InRow}
use Rattle.bay_protocol.specs.State.{nothing_kept}
use Rattle.node_store.specs.declared.sizes.TheConstants.{SEQUENCE_BYTES, RECORD_BYTES, SLOT_BYTES}
use Rattle.node_store.specs.declared.store.TheConstants.{LAST_SEQUENCE}

-- Slot 0 begins at the first byte, slot 1 behind it.
abbrev pub slot : List ℕ → ℕ → List ℕ
slot image n = take SLOT_BYTES (drop (SLOT_BYTES * n) image)

-- A slot is a gate byte, a sequence number, high byte first, and a kept record.
abbrev pub gate : List ℕ → ℕ
gate s = slice_index s 0

-- The sequence number of a slot, behind its gate.
abbrev pub sequence : List ℕ → ℕ
sequence s = from_be_bytes w64 (take SEQUENCE_BYTES (drop 1 s))

-- The record of a slot, behind its sequence number.
abbrev pub record_bytes : List ℕ → List ℕ
record_bytes s = take RECORD_BYTES (drop (1 + SEQUENCE_BYTES) s)

-- A slot is open where its gate is 1.
abbrev pub IsOpen : List ℕ → ℕ → Type 0
IsOpen image n = gate (slot image n) ≡ 1

-- The bytes are the row of this record.
pub record IsRecordRow (bytes : List ℕ) (kept : Kept) : Type 0 where
  pub in_row : InRow kept
  pub row : bytes ≡ kept_row kept

-- The slot holds this record.
abbrev pub HasRecord : List ℕ → ℕ → Kept → Type 0
HasRecord image n kept = IsRecordRow (record_bytes (slot image n)) kept

-- The open slot with the greater sequence, slot 0 in a tie.
pub record IsNewest (image : List ℕ) (n : ℕ) : Type 0 where
  pub is_slot : n < 2
  pub is_open : IsOpen image n
  pub newest : IsOpen image (1 - n) →
      (sequence (slot image (1 - n)) < sequence (slot image n))
      ⊎ ((sequence (slot image (1 - n)) ≡ sequence (slot image n)) × (n ≡ 0))

-- No slot is open.
abbrev pub NoneOpen : List ℕ → Type 0
NoneOpen image = (gate (slot image 0) ≢ 1) × (gate (slot image 1) ≢ 1)

-- The image stands for the record: that of its newest slot, or the empty one where no slot is open.
abbrev pub IsImageOf : List ℕ → Kept → Type 0
IsImageOf image kept = ((n : ℕ) × IsNewest image n × HasRecord image n kept) ⊎ (NoneOpen image × (kept ≡ nothing_kept))

-- The newest slot is this one, and it is refused: it holds no record, or its sequence is too great to go on.
abbrev pub IsRefusedSlot : List ℕ → ℕ → Type 0
IsRefusedSlot image n =
    IsNewest image n × (((kept : Kept) → ¬ (HasRecord image n kept)) ⊎ (LAST_SEQUENCE < sequence (slot image n)))
