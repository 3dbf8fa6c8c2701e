use Rattle.std.proofs.Common.{length}
use Rattle.commissioning_tests.proofs.HeldLemmas.{narrow_wider}
use Rattle.commissioning_tests.proofs.bay_paths.bay_paths.Goals as goal

pub returns-in-Ok-clause-narrow : goal.returns-in-Ok-clause-narrow
returns-in-Ok-clause-narrow c =
    narrow_wider c.args.station.now c.args.steps.now.old_steps.items c.args.first.0 (length c.in-Ok.all.items)
    c.few_edges-most.result c.args.limit c.few_edges-most.ensures c.in-Ok.ensures.narrow
