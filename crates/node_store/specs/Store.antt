-- What a store knows of its device, and what its calls may leave.
use Rattle.std.specs.Prelude.{◌≡◌, ◌<◌, ◌⊎◌, ◌↔◌, ◌-◌, ⊤, ℕ, List, Option, Some, None, drop, IsTrue}
use Rattle.bay_protocol.specs.declared.values.Kept.{Kept}
use Rattle.bay_protocol.specs.State.{nothing_kept}
use Rattle.node_store.specs.declared.store.Newest.{Newest}
use Rattle.node_store.specs.declared.store.Store.{Store}
use Rattle.node_store.specs.declared.store.NextSlot.{NextSlot}
use Rattle.node_store.specs.declared.store.OpenTrouble.{OpenTrouble}
use Rattle.node_store.specs.declared.store.OpenTrouble.TheVariants.{SyncFailed, ReadFailed, Record}
use Rattle.node_store.specs.Image.{slot, sequence, IsOpen, IsNewest, NoneOpen, HasRecord, IsImageOf, IsRefusedSlot}
use Rattle.node_store.specs.Slots.{number}

-- The image has these two slots.
abbrev pub HasSlots : List ℕ → List ℕ → List ℕ → Type 0
HasSlots image first second = (slot image 0 ≡ first) × (slot image 1 ≡ second)

-- This is the newest slot of the image, with its sequence, and whether the other one is open.
pub record MatchesNewest (image : List ℕ) (n : Newest) : Type 0 where
  pub newest : IsNewest image (number n.slot)
  pub sequence_is : sequence (slot image (number n.slot)) ≡ n.sequence
  pub other : IsTrue n.other_open ↔ IsOpen image (1 - number n.slot)

-- The slot is the newest one of the image, or there is none and no slot is open.
abbrev pub Matches : List ℕ → Option Newest → Type 0
Matches image None = NoneOpen image
Matches image (Some n) = MatchesNewest image n

-- What the store says of the slots is so in the image.
abbrev pub MatchesStore : List ℕ → Store → Type 0
MatchesStore image s = Matches image s.newest

-- The sequence of the newest slot, 0 where there is none.
abbrev pub sequence_of : Option Newest → ℕ
sequence_of None = 0
sequence_of (Some n) = n.sequence

-- The store's sequence.
abbrev pub store_sequence : Store → ℕ
store_sequence s = sequence_of s.newest

-- No slot is refused.
abbrev pub NoneRefused : List ℕ → Type 0
NoneRefused image = (n : ℕ) → ¬ (IsRefusedSlot image n)

-- Where the trouble names a slot, it is refused.
abbrev pub IsCause : List ℕ → OpenTrouble → Type 0
IsCause image SyncFailed = ⊤
IsCause image ReadFailed = ⊤
IsCause image (Record n) = IsRefusedSlot image n

-- The slot may have been closed, and nothing else.
pub record MayClose (n : ℕ) (image c : List ℕ) : Type 0 where
  pub other : slot c (1 - n) ≡ slot image (1 - n)
  pub if_open : IsOpen c n → IsOpen image n × (drop 1 (slot c n) ≡ drop 1 (slot image n))

-- Where the slot is open it holds this, and the other slot is as it was.
pub record HoldsIfOpen (n number : ℕ) (kept : Kept) (image c : List ℕ) : Type 0 where
  pub other : slot c (1 - n) ≡ slot image (1 - n)
  pub if_open : IsOpen c n → (sequence (slot c n) ≡ number) × HasRecord c n kept

-- The record for which the image stands where the slot is closed: that of the other slot.
abbrev pub HoldsBeside : List ℕ → ℕ → Kept → Type 0
HoldsBeside image n kept =
    (IsOpen image (1 - n) × HasRecord image (1 - n) kept) ⊎ (¬ (IsOpen image (1 - n)) × (kept ≡ nothing_kept))

-- The image stands for no record of this slot, so that it may take the next one, with a greater sequence.
pub record MayTake (image : List ℕ) (next : NextSlot) : Type 0 where
  pub is_open : IsTrue next.is_open ↔ IsOpen image (number next.slot)
  pub other : IsTrue next.other_open ↔ IsOpen image (1 - number next.slot)
  pub beside : (kept : Kept) → IsImageOf image kept → HoldsBeside image (number next.slot) kept
  pub loses : IsOpen image (number next.slot) → IsNewest image (1 - number next.slot)
  pub below : IsOpen image (1 - number next.slot) → sequence (slot image (1 - number next.slot)) < next.sequence
