use Rattle.std.proofs.Common.{◌≡◌, take, Ok, length}
use Rattle.std.specs.List.{flat_map, range_with_len}
use Rattle.ssd_read.specs.Steps.{built, item_steps_at}
use Rattle.ssd_read.proofs.equipment.add_items.Given as goal

abbrev pub invariant-loop-i : goal.invariant-loop-i
invariant-loop-i l = built l.initial.builder (flat_map (item_steps_at l.drawing)
    (take l.i (range_with_len 0 (length l.drawing)))) ≡ Ok l.builder
