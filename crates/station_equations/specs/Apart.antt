-- The nodes of each switch stand apart: they lead to one another and to answers alone.
use Rattle.std.specs.Prelude.{◌≡◌, ◌<◌, ◌≤◌, ◌+◌, ℕ, suc, List, length, slice_get, Some}
use Rattle.central_rules.specs.Meaning.{bay_of}
use Rattle.judge_graphs.specs.Built.{AreBayGraphs}
use Rattle.release_compile.specs.Judging.{Judging, ground, bay_at}
use Rattle.station_equations.specs.declared.goal.Goal.{Goal}
use Rattle.station_equations.specs.declared.goal.Goal.TheVariants.{Node, Answer}
use Rattle.station_equations.specs.declared.goal.SwitchGoals.{SwitchGoals}
use Rattle.station_equations.specs.EquationLines.{NodeLine}
use Rattle.station_equations.specs.EquationForm.{SwitchGoalsFit, goals_of}
use Rattle.station_equations.specs.Compiling.{switch_nodes}

-- The goal is an answer, or node lo or one built after it.
abbrev pub IsFrom : ℕ → Goal → Type 0
IsFrom lo (Node n) = lo ≤ n
IsFrom lo (Answer a) = Unit {0}

-- All of these goals are.
abbrev pub AreFrom : ℕ → List Goal → Type 0
AreFrom lo goals = (i : ℕ) (g : Goal) → slice_get goals i ≡ Some g → IsFrom lo g

-- Node lo and those built after it lead to one another and to answers alone.
abbrev pub AllFrom : ℕ → List NodeLine → Type 0
AllFrom lo nodes = (n : ℕ) (x : NodeLine) → lo ≤ n → slice_get nodes n ≡ Some x → AreFrom lo (goals_of x)

-- Both goals of a switch are.
pub record BothFrom (lo : ℕ) (x : SwitchGoals) : Type 0 where
  pub opening : IsFrom lo x.opening
  pub closing : IsFrom lo x.closing

-- The nodes were built switch by switch, those of the first at the front: those of switch m begin at a place, end where
-- those of the next switch begin, and are no more than those of its bay's graphs; its goals, and theirs, are among them or answers.
pub record StandApart (j : Judging) (n : ℕ) (ops : List SwitchGoals) (nodes : List NodeLine) : Type 0 where
  pub starts : ℕ → ℕ
  pub begins : starts 0 ≡ 0
  pub end : starts n ≡ length nodes
  pub climbs : (m : ℕ) → m < n → starts m ≤ starts (suc m)
  pub few : (m : ℕ) → m < n → starts (suc m) ≤ starts m + switch_nodes j m
  pub graphs : (m : ℕ) → m < n → AreBayGraphs (ground j) (bay_of j.diagram m) (bay_at j (bay_of j.diagram m))
  pub goals : (m : ℕ) (x : SwitchGoals) → slice_get ops m ≡ Some x →
      BothFrom (starts m) x × SwitchGoalsFit (starts (suc m)) x
  pub closed : (m k : ℕ) (x : NodeLine) → m < n → starts m ≤ k → k < starts (suc m) → slice_get nodes k ≡ Some x →
      AreFrom (starts m) (goals_of x)
