use Rattle.short_equations.proofs.PartStepLemmas.{part_added}
use Rattle.short_equations.proofs.part.add_part.Goals as goal

pub returns-clause-adds : goal.returns-clause-adds
returns-clause-adds c =
    part_added c.args.station.now c.args.part.0 c.args.skip.0 c.args.view _ _ _ c.in_ok-add_links.ensures.grew
    c.in_ok-add_taps.ensures.grew _ _ _ _ c.in_ok-add_switches.ensures.adds c.in_ok-add_links.ensures.adds
    c.in_ok-add_taps.ensures.adds
