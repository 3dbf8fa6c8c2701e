use Rattle.std.proofs.Common.{List}
use Rattle.station_equations.specs.EquationLines.{PartLines}
use Rattle.station_equations.specs.Compiling.{AreExactParts, AreGoalsOf}
use Rattle.station_equations.specs.Apart.{StandApart}
use Rattle.station_equations.proofs.compile.all_goals.Given as goal

abbrev pub invariant-loop-i : goal.invariant-loop-i
invariant-loop-i l =
    record {
      goals : (parts : List PartLines) → AreExactParts l.judge.diagram l.judge.alphabets parts →
          AreGoalsOf l.judge.diagram parts l.nodes.items l.i l.ops.items;
      apart : (parts : List PartLines) → AreExactParts l.judge.diagram l.judge.alphabets parts →
          StandApart l.judge l.i l.ops.items l.nodes.items;
    }
