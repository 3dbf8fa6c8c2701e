use Rattle.std.proofs.Common.{◌≡◌, take}
use Rattle.std.specs.List.{list_any}
use Rattle.ilk_base.specs.declared.words.Kind.TheVariants.{Infeed}
use Rattle.drawing_remarks.specs.Station.{is_of_kind}
use Rattle.drawing_remarks.proofs.nodes.has_no_infeed.Given as goal

abbrev pub invariant-loop-i : goal.invariant-loop-i
invariant-loop-i l = l.found ≡ list_any (is_of_kind Infeed) (take l.i l.station.switches)
