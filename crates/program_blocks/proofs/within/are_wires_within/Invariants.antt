use Rattle.std.proofs.Common.{◌≡◌, ◌<◌, ℕ, length, slice_get, Some}
use Rattle.structured_text.specs.declared.name.Name.{Name}
use Rattle.structured_text.specs.Within.{NameWithin}
use Rattle.program_blocks.specs.Renaming.{outer}
use Rattle.program_blocks.proofs.within.are_wires_within.Given as goal

abbrev pub invariant-loop-name : goal.invariant-loop-name
invariant-loop-name l =
    (k : ℕ) (n : Name) → k < l.name-index → slice_get l.names k ≡ Some n →
    NameWithin (length l.station.switches) (outer l.call n)
