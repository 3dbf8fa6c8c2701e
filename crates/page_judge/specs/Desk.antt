-- What a desk holds, and the memory that it owns.
use Rattle.std.specs.Prelude.{◌≡◌, Option, Some, None}
use base.Fml.{Fml, ftrue}
use denote.RawPtr.{Ptr}
use Rattle.std.specs.Box.Ownership.{box_owns}
use Rattle.std.specs.Global.{Global}
use Rattle.std_heap.specs.contracts.GlobalAllocator.TheImpl.{ghosts}
use Rattle.station_graph.specs.Diagram.{Diagram}
use Rattle.page_judge.specs.declared.kept.Kept.{Kept}
use Rattle.page_judge.specs.contracts.kept.Kept.{the_row}

-- Nothing; or the box of what is kept, at this place.
abbrev pub desk_owns : Global → Ptr → Option the_row.Denot → Fml
desk_owns alloc place None = ftrue
desk_owns alloc place (Some kept) = box_owns (ghosts.dealloc_token alloc) the_row place kept

-- A station is kept.
abbrev pub IsOpen : Option Kept → Type 0
IsOpen held = (kept : Kept) × (held ≡ Some kept)

-- A station is kept, and this holds of it.
abbrev pub Keeps : Option Kept → (Diagram → Type 0) → Type 0
Keeps held P = (kept : Kept) × (held ≡ Some kept) × P kept.judge.diagram
