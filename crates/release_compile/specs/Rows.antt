-- The row of an index set.
use Rattle.std.specs.Prelude.{◌≡◌, ℕ, ◌+◌, ◌-◌, ◌*◌, ◌/◌, ◌%◌, ◌^◌, ◌<◌, ◌⊎◌, ◌↔◌, true, List, Option, length}
use Rattle.part_alphabets.specs.Alphabets.{InSet}
use Rattle.release_compile.specs.Summaries.{has_bit, byte_count}

-- The number is the weight where the index is in the set, else 0.
abbrev pub IsBitOf : List (Option ℕ) → ℕ → ℕ → ℕ → Type 0
IsBitOf set index weight n = (InSet set index × (n ≡ weight)) ⊎ ((¬ InSet set index) × (n ≡ 0))

-- The byte has a bit for each of eight indices from the first on, the first highest: 1 where the index is in the set.
abbrev pub IsByteOf : List (Option ℕ) → ℕ → ℕ → Type 0
IsByteOf set first byte = (k : ℕ) → k < 8 → ((byte / 2 ^ (7 - k)) % 2 ≡ 1) ↔ InSet set (first + k)

-- The row of an index set: as few bytes as hold a bit for each index of the part, index 0 in the highest bit of the
-- first byte, each bit 1 exactly where its index is in the set. So spare bits are 0.
pub record IsSetRow (set : List (Option ℕ)) (row : List ℕ) : Type 0 where
  pub count : length row ≡ byte_count (length set)
  pub bits : (i : ℕ) → i < 8 * length row → (has_bit row i ≡ true) ↔ InSet set i
