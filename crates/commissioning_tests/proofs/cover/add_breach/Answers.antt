use Rattle.commissioning_tests.proofs.CoverLemmas.{more_from, added_rule}
use Rattle.commissioning_tests.proofs.cover.add_breach.Goals as goal

pub returns-clause-more : goal.returns-clause-more
returns-clause-more c =
    more_from c.args.walked.now.station.now c.args.walked.now.operations.now c.deref-2.result.now
    c.args.found.now.positions.items c.asked_of.new.found.positions.items c.add_position.new.found.positions.items
    c.args.closed.items c.in_ok-asked.ensures.same c.in_ok-add_position.ensures c.requires.positions

pub returns-clause-shown : goal.returns-clause-shown
returns-clause-shown c rule op at breaks =
    added_rule c.args.walked.now.station.now c.args.walked.now.operations.now c.deref-2.result.now
    c.asked_of.new.found.positions.items c.add_position.new.found.positions.items c.args.closed.items
    c.in_ok-add_position.ensures c.args.walked.now.number rule op at breaks
