use Rattle.std.proofs.Common.{List, subst, sym}
use Rattle.commissioning_tests.specs.declared.switch_paths.SwitchPaths.{SwitchPaths}
use Rattle.commissioning_tests.specs.Held.{AreHeld}
use Rattle.commissioning_tests.proofs.cover_bay.cover_switches.Goals as goal

pub cover_all-requires-clause-held : goal.cover_all-requires-clause-held
cover_all-requires-clause-held c =
    subst (λ (l : List SwitchPaths). AreHeld c.args.station.now c.args.steps.now.old_steps.items c.args.first.0 l)
    (sym c.deref-2.ensures.value) c.in_ok-bay.ensures.held
