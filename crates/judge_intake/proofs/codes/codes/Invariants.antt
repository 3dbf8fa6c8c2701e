use Rattle.std.proofs.Common.{map}
use Rattle.contraction.specs.Renaming.{mapped}
use Rattle.judge_pool.specs.Places.{node_listed}
use Rattle.judge_pool.specs.Layering.{values_at}
use Rattle.judge_intake.proofs.CodeLemmas.{CodesBelow}
use Rattle.judge_intake.proofs.codes.codes.Given as goal

abbrev pub invariant-loop-t : goal.invariant-loop-t
invariant-loop-t l =
    CodesBelow l.pool.view l.station l.id.0 (values_at (map (mapped (node_listed l.list)) l.pool.values.items) l.states)
    l.codes.items l.t
