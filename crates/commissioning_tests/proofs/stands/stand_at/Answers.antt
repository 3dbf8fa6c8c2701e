use Rattle.std.proofs.Common.{get_or}
use Rattle.std.proofs.lemmas.Option.{slice_get-get_or}
use Rattle.commissioning_tests.proofs.StandLemmas.{standing_set}
use Rattle.commissioning_tests.proofs.stands.stand_at.Goals as goal

pub returns-then-from-s-clause-standing : goal.returns-then-from-s-clause-standing
returns-then-from-s-clause-standing c =
    standing_set c.args.station.now c.args.first.0 c.args.count c.args.table.now c.args.stands.now.items c.args.s
    (get_or c.args.table.now c.args.s 0) c.requires.standing c.requires.exchange c.requires.leaves
    (slice_get-get_or c.args.table.now c.args.s 0 c.if-s-table.true)
