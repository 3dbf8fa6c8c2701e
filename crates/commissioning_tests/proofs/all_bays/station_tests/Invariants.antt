use Rattle.commissioning_tests.specs.Shared.{AreTestsUpto}
use Rattle.commissioning_tests.specs.Refusing.{AreNarrowUpto}
use Rattle.commissioning_tests.proofs.all_bays.station_tests.Given as goal

abbrev pub invariant-loop-part : goal.invariant-loop-part
invariant-loop-part l =
    AreTestsUpto l.station l.leads.items l.part l.all.items × AreNarrowUpto l.station l.leads.items l.part
