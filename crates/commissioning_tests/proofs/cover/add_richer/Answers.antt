use Rattle.std.proofs.Common.{◌∙◌}
use Rattle.commissioning_tests.proofs.CoverLemmas.{more_from}
use Rattle.commissioning_tests.proofs.cover.add_richer.Goals as goal

pub returns : goal.returns
returns c =
    more_from c.args.walked.now.station.now c.args.walked.now.operations.now c.deref-2.result.now
    c.args.found.now.positions.items c.asked_of.new.found.positions.items c.add_position.new.found.positions.items
    c.in_ok-rich.rich.items (c.in_ok-asked.ensures.same ∙ c.in_ok-rich.ensures.same) c.in_ok-add_position.ensures
    c.requires.positions
