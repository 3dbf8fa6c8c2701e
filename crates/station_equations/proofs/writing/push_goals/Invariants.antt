use Rattle.std.proofs.Common.{◌≡◌, ◌++◌, take}
use Rattle.std.specs.List.{flat_map}
use Rattle.station_equations.specs.declared.goal.Goal.{Goal}
use Rattle.station_equations.specs.EquationText.{then_word, goal_text}
use Rattle.station_equations.proofs.writing.push_goals.Given as goal

abbrev pub invariant-loop-goal : goal.invariant-loop-goal
invariant-loop-goal l =
    l.text ≡ l.fn.text ++ flat_map (λ (g : Goal). then_word (goal_text g)) (take l.goal-index l.goals)
