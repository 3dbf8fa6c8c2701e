use Rattle.std.proofs.Common.{◌≡◌, take}
use Rattle.std.specs.List.{list_any}
use Rattle.drawing_remarks.specs.Station.{is_equipment_in}
use Rattle.drawing_remarks.proofs.remarks.has_equipment.Given as goal

abbrev pub invariant-loop-i : goal.invariant-loop-i
invariant-loop-i l = l.found ≡ list_any (is_equipment_in l.parent) (take l.i l.drawing)
