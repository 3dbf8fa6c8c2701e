use Rattle.interlock_cli.proofs.Comparing.{compare_gives, compare_stops}
use Rattle.interlock_cli.proofs.compare_command.CompareAnswer.answer.Goals as goal

pub returns-clause-ok : goal.returns-clause-ok
returns-clause-ok g c =
    compare_gives (g.F.Shelf.held c.args.shelf.now) c.args.self.now.new.now c.args.station.now c.in_ok-new.new
    c.in_ok-new.ensures.ok c.compare_judged.result c.compare_judged.ensures.keeps c.compare_judged.ensures.ok

pub returns-clause-err : goal.returns-clause-err
returns-clause-err g c =
    compare_stops (g.F.Shelf.held c.args.shelf.now) c.args.self.now.new.now c.args.station.now c.in_ok-new.new
    c.in_ok-new.ensures.ok (g.F.Shelf.faults c.args.shelf.now) (g.F.Shelf.faults c.load_drawing.new.shelf)
    c.compare_judged.result c.compare_judged.ensures.err
