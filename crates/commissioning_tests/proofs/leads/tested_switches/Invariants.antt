use Rattle.std.proofs.Common.{◌≡◌, ◌==◌, take, slice_index}
use Rattle.std.specs.List.{count_by}
use Rattle.commissioning_tests.proofs.leads.tested_switches.Given as goal

abbrev pub invariant-loop-s : goal.invariant-loop-s
invariant-loop-s l =
    l.count ≡ count_by (λ x. slice_index l.leads x.bay.0 == x.bay.0) (take l.s l.station.switches)
