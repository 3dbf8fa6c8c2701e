-- The one row of bytes of each kept record. Numbers have their high byte first.
use Rattle.std.specs.Prelude.{◌<◌, ◌^◌, ⊤, ℕ, List, [], ◌∷◌, ◌++◌, Option, Some, None, replicate}
use Rattle.std.specs.Int.{w16, w32, to_be_bytes}
use Rattle.ilk_base.specs.declared.words.Direction.{Direction}
use Rattle.ilk_base.specs.declared.words.Direction.TheVariants.{ToOff, ToOn}
use Rattle.bay_protocol.specs.declared.values.Lock.{Lock}
use Rattle.bay_protocol.specs.declared.values.Grant.{Grant}
use Rattle.bay_protocol.specs.declared.values.Kept.{Kept}

-- A lock: 1, the holder in one byte, its round in four; six zeros where there is none.
abbrev pub lock_row : Option Lock → List ℕ
lock_row None = replicate 6 0
lock_row (Some l) = (1 ∷ l.holder.0 ∷ []) ++ to_be_bytes w32 l.round

-- Where an operation moves its switch: 0 to off, 1 to on.
abbrev pub direction_byte : Direction → ℕ
direction_byte ToOff = 0
direction_byte ToOn = 1

-- A granted operation: 1, its round in four bytes, its switch in two, its direction in one; eight zeros where
-- there is none.
abbrev pub grant_row : Option Grant → List ℕ
grant_row None = replicate 8 0
grant_row (Some g) =
    (1 ∷ []) ++ to_be_bytes w32 g.round ++ to_be_bytes w16 g.op.switch.0 ++ (direction_byte g.op.direction ∷ [])

-- The highest round in four bytes, the lock, the granted operation.
abbrev pub kept_row : Kept → List ℕ
kept_row k = to_be_bytes w32 k.highest ++ lock_row k.lock ++ grant_row k.granted

-- The lock has a row.
abbrev pub LockInRow : Option Lock → Type 0
LockInRow None = ⊤
LockInRow (Some l) = l.round < 2 ^ 32

-- The granted operation has a row.
abbrev pub GrantInRow : Option Grant → Type 0
GrantInRow None = ⊤
GrantInRow (Some g) = (g.round < 2 ^ 32) × (g.op.switch.0 < 2 ^ 16)

-- The numbers fit the places that the row has for them. By its types so does every record that a program
-- holds; where a definition speaks of all records, it has to be said.
pub record InRow (k : Kept) : Type 0 where
  pub highest : k.highest < 2 ^ 32
  pub lock : LockInRow k.lock
  pub granted : GrantInRow k.granted
