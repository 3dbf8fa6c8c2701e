-- What the lines of an equation text say.
use Rattle.std.specs.Prelude.{ℕ, List, [], ◌∷◌, ◌++◌, max, suc}
use Rattle.std.specs.List.{flat_map}
use Rattle.ilk_base.specs.declared.words.Direction.{Direction}
use Rattle.ilk_base.specs.declared.words.Direction.TheVariants.{ToOff, ToOn}
use Rattle.part_alphabets.specs.declared.fork.Target.{Target}
use Rattle.part_alphabets.specs.declared.fork.Target.TheVariants.{Step, Index}
use Rattle.part_alphabets.specs.declared.fork.PartStep.{PartStep}
use Rattle.station_equations.specs.declared.goal.Goal.{Goal}
use Rattle.station_equations.specs.declared.goal.SwitchGoals.{SwitchGoals}

-- The lines of a part: where its steps begin, and its steps.
pub record PartLines : Type 0 where
  pub start : Target
  pub steps : List PartStep

-- A line of a node: it leads on by the index of a part, with a goal for each index, or by the position of
-- a switch, with the goals where it is open and where it is closed.
pub data NodeLine : Type 0 where
  part_node : ℕ → List Goal → NodeLine
  switch_node : ℕ → Goal → Goal → NodeLine

-- The lines of a text but for those that name the switches: of each part, of each switch the goals of its
-- two operations, and of each node.
pub record EquationLines : Type 0 where
  pub parts : List PartLines
  pub ops : List SwitchGoals
  pub nodes : List NodeLine

-- The goal of one of the two operations.
abbrev pub goal_towards : SwitchGoals → Direction → Goal
goal_towards x ToOff = x.opening
goal_towards x ToOn = x.closing

-- The index that a target writes, if it writes one.
abbrev pub index_in : Target → List ℕ
index_in (Step n) = []
index_in (Index i) = i ∷ []

-- The indices that the lines of a part write.
abbrev pub indices_in : PartLines → List ℕ
indices_in x = index_in x.start ++ flat_map (λ (s : PartStep). index_in s.off ++ index_in s.on) x.steps

-- One more than the greatest of these, 0 where there is none.
abbrev pub past_greatest : List ℕ → ℕ
past_greatest [] = 0
past_greatest (i ∷ is) = max (suc i) (past_greatest is)

-- How many goals a node of the part has.
abbrev pub goal_count : PartLines → ℕ
goal_count x = past_greatest (indices_in x)
