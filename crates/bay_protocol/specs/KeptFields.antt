-- The fields of a kept record, each at its place.
use Rattle.std.specs.Prelude.{◌==◌, ◌+◌, ℕ, List, [], ◌∷◌, if◌then◌else◌, slice_index, Option, Some, None}
use Rattle.std.specs.Int.{w16, w32, from_be_bytes}
use Rattle.ilk_base.specs.declared.words.Op.{Op}
use Rattle.ilk_base.specs.declared.words.Direction.{Direction}
use Rattle.ilk_base.specs.declared.words.Direction.TheVariants.{ToOff, ToOn}
use Rattle.bay_protocol.specs.declared.values.Lock.{Lock}
use Rattle.bay_protocol.specs.declared.values.Grant.{Grant}

-- The number in the four bytes from a place on.
abbrev pub number_at : List ℕ → ℕ → ℕ
number_at bytes place =
    from_be_bytes w32 (slice_index bytes place ∷ slice_index bytes (place + 1) ∷ slice_index bytes (place + 2)
    ∷ slice_index bytes (place + 3) ∷ [])

-- A lock, unless its first byte is 0.
abbrev pub lock_at : List ℕ → Option Lock
lock_at bytes =
    if slice_index bytes 4 == 0 then None
    else Some (record { holder = record { 0 = slice_index bytes 5 }; round = number_at bytes 6 })

-- The direction of the granted operation.
abbrev pub direction_at : List ℕ → Direction
direction_at bytes = if slice_index bytes 17 == 0 then ToOff else ToOn

-- The granted operation.
abbrev pub operation_at : List ℕ → Op
operation_at bytes = record {
  switch = record { 0 = from_be_bytes w16 (slice_index bytes 15 ∷ slice_index bytes 16 ∷ []) };
  direction = direction_at bytes;
}

-- A granted operation, unless its first byte is 0.
abbrev pub grant_at : List ℕ → Option Grant
grant_at bytes =
    if slice_index bytes 10 == 0 then None
    else Some (record { round = number_at bytes 11; op = operation_at bytes })
