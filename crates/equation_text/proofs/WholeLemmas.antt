-- Lines are whole where each number that they name is defined.
use Rattle.std.proofs.Common.{◌≡◌, ℕ, zero, suc, List, [], ◌∷◌, length, map, refl, sym, subst}
use Rattle.std.proofs.Common.{arith, Some}
use Rattle.std.specs.Prelude.{slice_get}
use Rattle.station_graph.specs.Diagram.{Diagram}
use Rattle.part_alphabets.specs.declared.fork.Target.{Target}
use Rattle.part_alphabets.specs.declared.fork.Target.TheVariants.{Step, Index}
use Rattle.station_equations.specs.declared.goal.Goal.{Goal}
use Rattle.station_equations.specs.declared.goal.Goal.TheVariants.{Node, Answer}
use Rattle.station_equations.specs.declared.goal.SwitchGoals.{SwitchGoals}
use Rattle.station_equations.specs.declared.goal.TheConstants.{NUMBERS}
use Rattle.station_equations.specs.EquationLines.{PartLines, NodeLine, part_node, switch_node, EquationLines}
use Rattle.station_equations.specs.EquationLines.{goal_count}
use Rattle.station_equations.specs.EquationForm.{IsTarget, IsLaterTarget, IsGoal, IsLaterGoal, NodeLineFits, goals_of}
use Rattle.station_equations.specs.EquationForm.{AreWhole, AreEquations}
use Rattle.equation_text.specs.Beginnings.{MayBeNode}
use Rattle.equation_text.specs.Defined.{PartsMay, AreThere, GoalsThere}
use Rattle.equation_text.specs.ReadText.{MayBeParts, AreLines}
use Rattle.station_equations.proofs.TurnLemmas.{unmapped}
use Rattle.equation_text.proofs.OnceLemmas.{any_target}

target_there : (n m : ℕ) (t : Target) → IsLaterTarget n m t → IsTarget n t
target_there n m (Step k) later = later.1
target_there n m (Index i) later = later

goal_there : (n m : ℕ) (g : Goal) → IsLaterGoal n m g → IsGoal n g
goal_there n m (Node k) later = later.1
goal_there n m (Answer a) later = tt

target_later : (n m : ℕ) (t : Target) → IsLaterTarget NUMBERS m t → IsTarget n t → IsLaterTarget n m t
target_later n m (Step k) may there = (may.0, there)
target_later n m (Index i) may there = may

goal_later : (n m : ℕ) (g : Goal) → IsLaterGoal NUMBERS m g → IsGoal n g → IsLaterGoal n m g
goal_later n m (Node k) may there = (may.0, there)
goal_later n m (Answer a) may there = tt

pub there_of : (e : EquationLines) → AreWhole e → AreThere e.parts e.ops e.nodes
there_of e whole = record {
  parts_there = λ p x at. let fits = whole.parts p x at in (
    fits.start,
    λ m s at_step. let f =
        fits.steps m s at_step in (
          target_there (length x.steps) m s.off f.off,
          target_there
              (length x.steps) m s.on f.on,
        ),
  );
  ops_there = whole.ops;
  nodes_there = λ n x at i g at_goal. goal_there (length e.nodes) n g ((whole.nodes n x at).goals i g at_goal);
}

node_fits : (switches n m : ℕ) (parts : List PartLines) (x : NodeLine) → MayBeNode switches
    (map goal_count parts) m x → GoalsThere n (goals_of x) → NodeLineFits switches parts n m x
node_fits switches n m parts (part_node part goals) may there =
    let x = unmapped goal_count parts part (length goals) may.0 in
    record {
      by = record { lines = x.0; listed = x.1; count = sym x.2 };
      goals = λ i g at. goal_later n m g
          (may.1 i g at) (there i g at);
    }
node_fits switches n m parts (switch_node switch off on) may there = record { by = may.0; goals = each }
  where
    each : (i : ℕ) (g : Goal) → slice_get (off ∷ on ∷ []) i ≡ Some g → IsLaterGoal n m g
    each zero g at = let same : off ≡ g = cc at in subst (λ (h : Goal). IsLaterGoal n m h) same
        (goal_later n m off may.1 (there 0 off refl))
    each (suc zero) g at = let same : on ≡ g = cc at in subst (λ (h : Goal). IsLaterGoal n m h) same
        (goal_later n m on may.2 (there 1 on refl))
    each (suc (suc i)) g at = absurd (cc at)

pub parts_writable : (d : Diagram) (parts : List PartLines) → MayBeParts d parts → PartsMay parts
parts_writable d parts may = λ p x at. (
  may.starts p x at,
  λ m s at_step. let fits =
      ((may.steps p x at).each m s at_step).fits in (any_target m s.off fits.off, any_target m s.on fits.on),
)

pub equations_of : (d : Diagram) (text : List ℕ) (parts : List PartLines) (ops : List SwitchGoals)
    (nodes : List NodeLine) → AreLines d text parts ops nodes → AreThere parts ops nodes
    → AreEquations d (record { parts = parts; ops = ops; nodes = nodes })
equations_of d text parts ops nodes are there = record {
  whole = record {
    parts = λ p x at.
        let here = there.parts_there p x at in
        record {
          start = here.0;
          steps = λ m s at_step.
              let may = ((are.parts_may.steps p x at).each m s at_step).fits in
              let named = here.1 m s at_step in
              record {
                switch = omega (arith, may.switch, are.ops_may.count);
                off = target_later
                    (length x.steps) m s.off may.off named.0;
                on = target_later (length x.steps) m s.on may.on named.1;
              };
        };
    ops = there.ops_there;
    nodes = λ n x at. subst (λ k. NodeLineFits k parts (length nodes) n x) (sym are.ops_may.count) (node_fits
        (length d.switches) (length nodes) n parts x (are.nodes_may.each n x at) (there.nodes_there n x at));
  };
  parts = are.parts_may.count;
  ops = are.ops_may.count;
  own = λ p m x s at at_step. ((are.parts_may.steps p x at).each m s at_step).own;
}
