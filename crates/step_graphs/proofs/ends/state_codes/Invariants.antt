use Rattle.judge_pool.specs.Layering.{values_at}
use Rattle.step_graphs.proofs.EndLemmas.{EndCodesBelow}
use Rattle.step_graphs.proofs.ends.state_codes.Given as goal

abbrev pub invariant-loop-t : goal.invariant-loop-t
invariant-loop-t l =
    EndCodesBelow l.pool.view l.station l.id.0 (values_at l.pool.values.items l.states) l.codes.items l.t
