use Rattle.std.proofs.Common.{◌≡◌, ◌++◌, List, length}
use Rattle.station_equations.specs.declared.goal.Goal.{Goal}
use Rattle.station_equations.specs.declared.goal.TheConstants.{NUMBERS}
use Rattle.station_equations.specs.EquationForm.{AreLaterGoals}
use Rattle.equation_text.specs.Beginnings.{goals_text}
use Rattle.equation_text.proofs.node_lines.read_goals.Given as goal

abbrev pub invariant-loop-left : goal.invariant-loop-left
invariant-loop-left l =
    record {
      later : AreLaterGoals NUMBERS l.n l.goals.items;
      sound : l.words ≡ goals_text l.goals.items ++ l.left;
      complete : (gs : List Goal) → AreLaterGoals NUMBERS l.n gs → l.words ≡ goals_text gs
          → (hs : List Goal) × AreLaterGoals NUMBERS l.n hs × (l.left ≡ goals_text hs);
    }

abbrev pub decreases-loop-left : goal.decreases-loop-left
decreases-loop-left l = length l.left
