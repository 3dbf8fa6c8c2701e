-- When the record on a device is none from which a bay goes on.
use Rattle.std.specs.Prelude.{◌⊎◌, ℕ, List}
use Rattle.station_graph.specs.Diagram.{Diagram}
use Rattle.bay_protocol.specs.declared.values.Kept.{Kept}
use Rattle.bay_protocol.specs.Fits.{KeptFits}
use Rattle.node_store.specs.Image.{IsImageOf, IsRefusedSlot}

-- The newest slot of the image is refused, or its record is none that a node of bay b may keep.
abbrev pub IsUnfit : Diagram → ℕ → List ℕ → Type 0
IsUnfit d b image = ((n : ℕ) × IsRefusedSlot image n) ⊎ ((kept : Kept) × IsImageOf image kept × ¬ (KeptFits d b kept))
