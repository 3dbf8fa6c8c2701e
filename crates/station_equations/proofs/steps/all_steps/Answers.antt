use Rattle.std.proofs.Common.{refl}
use Rattle.station_equations.proofs.CompileLemmas.{parts_more}
use Rattle.station_equations.proofs.steps.all_steps.Goals as goal

pub loop-part-preserved : goal.loop-part-preserved
loop-part-preserved c =
    parts_more c.args.parts.now c.loop-part.part _ c.loop-part.lines.items c.keep.new.lines.items c.in_ok-steps.steps
    refl c.in_ok-keep.ensures c.in_ok-steps.ensures c.loop-part.invariant
