use Rattle.station_equations.specs.Compiling.{ArePartsOf}
use Rattle.station_equations.proofs.steps.all_steps.Given as goal

abbrev pub invariant-loop-part : goal.invariant-loop-part
invariant-loop-part l = ArePartsOf l.parts l.part l.lines.items
