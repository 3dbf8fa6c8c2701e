use Rattle.reservation_core.proofs.Unlocking.{unlocks_it, can_unlock}
use Rattle.reservation_core.proofs.laws.left_locks_are_freed.Goals as goal

pub returns-clause-frees : goal.returns-clause-frees
returns-clause-frees g c = λ w new b facts left turns. unlocks_it (g.J.Judge.meaning c.args.judge.now)
    c.diagram_is_station.ensures w b facts left new turns

pub returns-clause-can : goal.returns-clause-can
returns-clause-can g c = λ w b facts left. can_unlock (g.J.Judge.meaning c.args.judge.now)
    c.diagram_is_station.ensures w b facts left
