-- A text of the form is read as its lines.
use Rattle.std.proofs.Common.{◌≡◌, ◌∙◌, ℕ, ◌+◌, ◌≤◌, zero, suc, List, [], ◌∷◌, ◌++◌, length, map, refl}
use Rattle.std.proofs.Common.{sym, ap, subst, arith, Some}
use Rattle.std.specs.Prelude.{codes, slice_get}
use Rattle.std.proofs.lemmas.List.{length-map, length-append}
use Rattle.station_graph.specs.Diagram.{Diagram, IsStation, part_count}
use Rattle.part_alphabets.specs.declared.fork.Target.{Target}
use Rattle.part_alphabets.specs.declared.fork.Target.TheVariants.{Step, Index}
use Rattle.station_equations.specs.declared.goal.Goal.{Goal}
use Rattle.station_equations.specs.declared.goal.Goal.TheVariants.{Node, Answer}
use Rattle.station_equations.specs.declared.goal.SwitchGoals.{SwitchGoals}
use Rattle.text_lines.specs.declared.lines.TheConstants.{MOST_BYTES}
use Rattle.station_equations.specs.declared.goal.TheConstants.{NUMBERS}
use Rattle.station_equations.specs.EquationLines.{PartLines, NodeLine, part_node, switch_node, EquationLines}
use Rattle.station_equations.specs.EquationLines.{goal_count}
use Rattle.station_equations.specs.EquationForm.{IsTarget, IsLaterTarget, IsGoal, IsLaterGoal}
use Rattle.station_equations.specs.EquationForm.{NodeLineFits, AreEquations}
use Rattle.station_equations.specs.EquationText.{step_line, node_line, lines_of, text_of}
use Rattle.equation_text.specs.Beginnings.{MayBeNode}
use Rattle.equation_text.specs.Reading.{front_text, start_lines, step_lines, all_step_lines, op_lines, node_lines}
use Rattle.equation_text.specs.Reading.{MayBeStarts, MayBeOps, MayBeNodes, AreAllSteps}
use Rattle.equation_text.specs.ReadText.{MayBeParts}
use Rattle.station_equations.proofs.TurnLemmas.{mapped}
use Rattle.equation_text.proofs.GroupLemmas.{lines_from}
use Rattle.equation_text.proofs.ReadLemmas.{whole_groups}
use Rattle.equation_text.proofs.StepsLemmas.{part_steps}
use Rattle.equation_text.specs.Faults.{AreFormed}

-- a text has no fewer bytes than lines
length_text : (ls : List (List ℕ)) → length ls ≤ length (text_of ls)
length_text [] = omega arith
length_text (l ∷ ls) =
    let rest = length_text ls in
    let all = length-append (l ++ codes "\n") (text_of ls) in
    let here = length-append l (codes "\n") in
    omega (arith, rest, all, here)

length_single : {X : Type 0} (line : ℕ → X → List ℕ) (n : ℕ) (xs : List X) → length (lines_from
    (λ k x. line k x ∷ []) n xs) ≡ length xs
length_single line n [] = refl
length_single line n (x ∷ xs) = ap suc (length_single line (n + 1) xs)

steps_among : (p : ℕ) (parts : List PartLines) (i : ℕ) (x : PartLines) → slice_get parts i ≡ Some x
    → length x.steps ≤ length (lines_from part_steps p parts)
steps_among p [] i x at = absurd (cc at)
steps_among p (y ∷ parts) zero x at =
    let same : y ≡ x = cc at in
    let all = length-append (step_lines p y.steps) (lines_from part_steps (p + 1) parts) in
    omega (arith, all, length_single (step_line p) 0 y.steps, ap (λ (z : PartLines). length z.steps) same)
steps_among p (y ∷ parts) (suc i) x at =
    let rest = steps_among (p + 1) parts i x at in
    let all = length-append (step_lines p y.steps) (lines_from part_steps (p + 1) parts) in
    omega (arith, all, rest)

few_target : (n : ℕ) (t : Target) → n ≤ NUMBERS → IsTarget n t → IsTarget NUMBERS t
few_target n (Step k) few is = omega (arith, few, is)
few_target n (Index i) few is = is

few_later : (n m : ℕ) (t : Target) → n ≤ NUMBERS → IsLaterTarget n m t → IsLaterTarget NUMBERS m t
few_later n m (Step k) few is = (is.0, omega (arith, few, is.1))
few_later n m (Index i) few is = is

few_goal : (n : ℕ) (g : Goal) → n ≤ NUMBERS → IsGoal n g → IsGoal NUMBERS g
few_goal n (Node k) few is = omega (arith, few, is)
few_goal n (Answer a) few is = tt

few_later_goal : (n m : ℕ) (g : Goal) → n ≤ NUMBERS → IsLaterGoal n m g → IsLaterGoal NUMBERS m g
few_later_goal n m (Node k) few is = (is.0, omega (arith, few, is.1))
few_later_goal n m (Answer a) few is = tt

node_may : (switches n m : ℕ) (parts : List PartLines) (x : NodeLine) → n ≤ NUMBERS
    → NodeLineFits switches parts n m x → MayBeNode switches (map goal_count parts) m x
node_may switches n m parts (part_node part goals) few fits = (
  mapped goal_count parts part fits.by.lines fits.by.listed ∙ ap Some
      (sym fits.by.count),
  λ i g at. few_later_goal n m g few (fits.goals i g at),
)
node_may switches n m parts (switch_node switch off on) few fits = (
  fits.by,
  few_later_goal n m off few
      (fits.goals 0 off refl),
  few_later_goal n m on few (fits.goals 1 on refl),
)

-- the text of what was read, group by group
pub sound : (d : Diagram) (ts : List Target) (parts : List PartLines) (ops : List SwitchGoals) (nodes : List NodeLine)
    (text l1 l2 l3 l4 l5 : List ℕ) → text ≡ front_text d ++ l1 → l1 ≡ text_of (start_lines ts) ++ l2
    → map (λ (x : PartLines). x.start) parts ≡ ts
    → l2 ≡ text_of (all_step_lines parts) ++ l3 → l3 ≡ text_of (op_lines ops) ++ l4
    → l4 ≡ text_of (node_lines nodes) ++ (codes "end\n" ++ l5) → l5 ≡ [] → text ≡ text_of (lines_of d
    (record { parts = parts; ops = ops; nodes = nodes }))
sound d ts parts ops nodes text l1 l2 l3 l4 l5 e1 e2 starts e3 e4 e5 e6 =
    e1
    ∙ ap (λ (z : List ℕ). front_text d ++ z)
    (e2
    ∙ ap (λ (us : List Target). text_of (start_lines us) ++ l2) (sym starts)
    ∙ ap (λ (z : List ℕ). text_of (start_lines (map (λ (x : PartLines). x.start) parts)) ++ z)
    (e3
    ∙ ap (λ (z : List ℕ). text_of (all_step_lines parts) ++ z)
    (e4 ∙ ap (λ (z : List ℕ). text_of (op_lines ops) ++ z) (e5 ∙ ap (λ (z : List ℕ). text_of
    (node_lines nodes) ++ (codes "end\n" ++ z)) e6))))
    ∙ sym (whole_groups d (record { parts = parts; ops = ops; nodes = nodes }))

pub parts_may : (d : Diagram) (ts : List Target) (old new : List ℕ) (parts : List PartLines)
    → MayBeStarts (part_count d) ts → AreAllSteps d ts old new parts → MayBeParts d parts
parts_may d ts old new parts may read = record {
  count = sym (length-map parts (λ (x : PartLines). x.start)) ∙ ap length read.starts_are ∙ may.count;
  starts = λ p x at. may.each p x.start (ap (λ (us : List Target). slice_get us p) (sym read.starts_are) ∙ mapped (λ
      (y : PartLines). y.start) parts p x at);
  steps = read.steps;
}

module _ (d : Diagram) (station : IsStation d) (e : EquationLines) (are : AreEquations d e) (text : List ℕ)
    (is : text ≡ text_of (lines_of d e)) (short : length text ≤ MOST_BYTES) where
  abbrev starts : List Target
  starts = map (λ (x : PartLines). x.start) e.parts

  abbrev at_end : List ℕ
  at_end = text_of (node_lines e.nodes) ++ codes "end\n"

  abbrev at_ops : List ℕ
  at_ops = text_of (op_lines e.ops) ++ at_end

  abbrev at_steps : List ℕ
  at_steps = text_of (all_step_lines e.parts) ++ at_ops

  abbrev at_starts : List ℕ
  at_starts = text_of (start_lines starts) ++ at_steps

  groups : text ≡ front_text d ++ at_starts
  groups = is ∙ whole_groups d e

  few_parts : part_count d ≤ NUMBERS
  few_parts = omega (arith, station.items.parts_few)

  few_switches : length d.switches ≤ 65536
  few_switches = omega (arith, station.items.switches_few)

  lengths : length (text_of (all_step_lines e.parts)) + length (text_of (node_lines e.nodes)) ≤ length text
  lengths =
      let l1 = length-append (front_text d) at_starts in
      let l2 = length-append (text_of (start_lines starts)) at_steps in
      let l3 = length-append (text_of (all_step_lines e.parts)) at_ops in
      let l4 = length-append (text_of (op_lines e.ops)) at_end in
      let l5 = length-append (text_of (node_lines e.nodes)) (codes "end\n") in
      omega (arith, l1, l2, l3, l4, l5, ap length groups)

  few_steps : (p : ℕ) (x : PartLines) → slice_get e.parts p ≡ Some x → length x.steps ≤ NUMBERS
  few_steps p x at = omega (arith, steps_among 0 e.parts p x at, length_text (all_step_lines e.parts), lengths, short)

  few_nodes : length e.nodes ≤ NUMBERS
  few_nodes = omega (arith, length_single node_line 0 e.nodes, length_text (node_lines e.nodes), lengths, short)

  ops_may : MayBeOps (length d.switches) e.ops
  ops_may = record {
    count = are.ops;
    fit = λ s x at. let fits = are.whole.ops s x at in record {
      opening = few_goal
          (length e.nodes) x.opening few_nodes fits.opening;
      closing = few_goal
          (length e.nodes) x.closing few_nodes fits.closing;
    };
  }

  nodes_may : MayBeNodes (length d.switches) (map goal_count e.parts) e.nodes
  nodes_may = record {
    few = few_nodes;
    each = λ n x at. subst (λ k. MayBeNode k (map goal_count e.parts) n x) are.ops (node_may (length e.ops)
        (length e.nodes) n e.parts x few_nodes (are.whole.nodes n x at));
  }

  -- the lines are of the form
  pub formed : AreFormed d e
  formed = record {
    parts = record {
      count = are.parts;
      starts = λ p x at. few_target (length x.steps) x.start (few_steps p x at) (are.whole.parts p x at).start;
      steps = λ p x at. record {
        few = few_steps p x at;
        each = λ m s at_step.
            let fits = (are.whole.parts p x at).steps m s at_step in
            let few = few_steps p x at in
            record {
              fits = record {
                switch = omega (arith, fits.switch, are.ops);
                off = few_later (length x.steps) m s.off few fits.off;
                on = few_later (length x.steps) m s.on few fits.on;
              };
              own = are.own p m x s at at_step;
            };
      };
    };
    ops = ops_may;
    nodes = nodes_may;
  }
