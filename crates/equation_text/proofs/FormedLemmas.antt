-- A text of the form is read as its lines, group by group.
use Rattle.std.proofs.Common.{◌≡◌, ◌≢◌, ◌∙◌, ℕ, ◌+◌, ◌<◌, ◌≤◌, List, [], ◌∷◌, ◌++◌, length, map}
use Rattle.std.proofs.Common.{sym, ap, subst, inl, inr, arith, Some}
use Rattle.std.specs.Prelude.{codes, slice_get}
use Rattle.std.proofs.lemmas.Bool.{cases_lt}
use Rattle.std.proofs.lemmas.List.{append_cancel_left, length-map}
use Rattle.std.proofs.lemmas.Option.{slice_get_within}
use Rattle.station_graph.specs.Diagram.{Diagram, IsStation, part_count}
use Rattle.part_alphabets.specs.declared.fork.PartStep.{PartStep}
use Rattle.part_alphabets.specs.declared.fork.Target.{Target}
use Rattle.station_equations.specs.declared.goal.SwitchGoals.{SwitchGoals}
use Rattle.station_equations.specs.declared.goal.TheConstants.{NUMBERS}
use Rattle.station_equations.specs.EquationLines.{PartLines, NodeLine, EquationLines, goal_count}
use Rattle.station_equations.specs.EquationForm.{IsTarget}
use Rattle.station_equations.specs.EquationText.{node_line, lines_of, text_of}
use Rattle.equation_text.specs.Reading.{front_text, start_lines, all_step_lines, op_lines, node_lines}
use Rattle.equation_text.specs.Reading.{MayBeStarts, MayBeSteps, MayBeOps, MayBeNodes, NoStep, AreAllSteps}
use Rattle.station_equations.proofs.TurnLemmas.{unmapped}
use Rattle.equation_text.proofs.GroupLemmas.{text_one, once, next}
use Rattle.equation_text.proofs.OnceLemmas.{any_target}
use Rattle.equation_text.proofs.ReadLemmas.{start_of, StartFits, start_one, ops_of, OpFits, op_one}
use Rattle.equation_text.proofs.ReadLemmas.{node_of, whole_groups}
use Rattle.equation_text.proofs.StepsLemmas.{StepIs, parts_once}
use Rattle.equation_text.proofs.ReadLoops.{starts_fit, ops_fit, NodeIs, nodes_one, nodes_fit}
use Rattle.equation_text.specs.Faults.{AreFormed}

abbrev first_byte : List ℕ → ℕ
first_byte [] = 0
first_byte (b ∷ bs) = b

-- a text that does not begin as a step has none
no_step_first : (d : Diagram) (part m : ℕ) (text : List ℕ) → first_byte text ≢ 115 → NoStep d part m text
no_step_first d part m text differs = λ s rest may is. differs (ap first_byte is)

same_lines : (e : EquationLines) (parts : List PartLines) (ops : List SwitchGoals) (nodes : List NodeLine)
    → parts ≡ e.parts → ops ≡ e.ops → nodes ≡ e.nodes → e ≡ record { parts = parts; ops = ops; nodes = nodes }
same_lines e parts ops nodes p q r = sym (λ i. record { parts = p i; ops = q i; nodes = r i })

module _ (d : Diagram) (station : IsStation d) (e : EquationLines) (formed : AreFormed d e) (text : List ℕ)
    (is : text ≡ text_of (lines_of d e)) where
  abbrev pub starts : List Target
  starts = map (λ (x : PartLines). x.start) e.parts

  abbrev pub at_end : List ℕ
  at_end = text_of (node_lines e.nodes) ++ codes "end\n"

  abbrev pub at_ops : List ℕ
  at_ops = text_of (op_lines e.ops) ++ at_end

  abbrev pub at_steps : List ℕ
  at_steps = text_of (all_step_lines e.parts) ++ at_ops

  abbrev pub at_starts : List ℕ
  at_starts = text_of (start_lines starts) ++ at_steps

  pub groups : text ≡ front_text d ++ at_starts
  groups = is ∙ whole_groups d e

  pub few_parts : part_count d ≤ NUMBERS
  few_parts = omega (arith, station.items.parts_few)

  pub few_switches : length d.switches ≤ 65536
  few_switches = omega (arith, station.items.switches_few)

  pub starts_may : MayBeStarts (part_count d) starts
  starts_may = record {
    count = length-map e.parts (λ (x : PartLines). x.start) ∙ formed.parts.count;
    each = λ p t at.
        let x = unmapped (λ (y : PartLines). y.start) e.parts p t at in
        subst (λ (u : Target). IsTarget NUMBERS u) x.2 (formed.parts.starts p x.0 x.1);
  }

  -- steps that may be are written in one way
  step_is : (parts : List PartLines) → length parts ≡ part_count d → ((p : ℕ) (x : PartLines)
      → slice_get parts p ≡ Some x → MayBeSteps d p x.steps) → (i m : ℕ) (x : PartLines) (s : PartStep)
      → slice_get parts i ≡ Some x → slice_get x.steps m ≡ Some s → StepIs d (0 + i) m s
  step_is parts count steps i m x s at at_step =
      let may = (steps i x at).each m s at_step in
      let number : i ≡ 0 + i = omega arith in
      subst (λ k. StepIs d k m s) number (record {
        may = may;
        fits = record {
          part_number = omega (arith, slice_get_within parts i x at, count, few_parts);
          number = omega (arith, slice_get_within x.steps m s at_step, (steps i x at).few);
          switch = omega (arith, may.fits.switch, few_switches);
          off = any_target m s.off may.fits.off;
          on = any_target m s.on may.fits.on;
        };
      })

  -- what is left behind each group
  pub left_starts : (left : List ℕ) → text ≡ front_text d ++ left → left ≡ at_starts
  left_starts left at = append_cancel_left (front_text d) left at_starts (sym at ∙ groups)

  pub left_steps : (ts : List Target) (left rest : List ℕ) → left ≡ at_starts → MayBeStarts (part_count d) ts
      → left ≡ text_of (start_lines ts) ++ rest → (ts ≡ starts) × (rest ≡ at_steps)
  left_steps ts left rest here may at = once start_of StartFits start_one 0 ts starts rest at_steps (starts_fit
      (part_count d) ts few_parts may) (starts_fit (part_count d) starts few_parts starts_may) (may.count
      ∙ sym starts_may.count) (sym at ∙ here)

  no_step : (part m : ℕ) → NoStep d part m at_ops
  no_step part m = no_step_first d part m at_ops (by e.ops e.nodes)
    where
      by : (ops : List SwitchGoals) (nodes : List NodeLine) → first_byte (text_of (op_lines ops) ++ (text_of
          (node_lines nodes) ++ codes "end\n")) ≢ 115
      by [] [] same = omega (arith, same)
      by [] (x ∷ nodes) same = omega (arith, same)
      by (x ∷ ops) nodes same = omega (arith, same)

  pub left_ops : (ts : List Target) (parts : List PartLines) (left rest : List ℕ) → ts ≡ starts → left ≡ at_steps
      → AreAllSteps d ts left rest parts → (parts ≡ e.parts) × (rest ≡ at_ops)
  left_ops ts parts left rest same here read =
      let count : length parts ≡ part_count d = sym (length-map parts (λ (x : PartLines). x.start)) ∙ ap length
      (read.starts_are ∙ same) ∙ starts_may.count in
      parts_once d 0 parts e.parts rest at_ops (omega (arith, count, few_parts)) (step_is parts count read.steps)
      (step_is e.parts formed.parts.count formed.parts.steps) (read.starts_are ∙ same)
      (λ i x at none. let number : i ≡ 0 + i = omega arith in subst (λ k. NoStep d k (length x.steps) rest) number
      (read.last i x at none))
      (λ i x at none. no_step (0 + i) (length x.steps))
      (sym read.text ∙ here)

  pub left_nodes : (ops : List SwitchGoals) (left rest : List ℕ) → left ≡ at_ops → MayBeOps (length d.switches) ops
      → left ≡ text_of (op_lines ops) ++ rest → (ops ≡ e.ops) × (rest ≡ at_end)
  left_nodes ops left rest here may at =
      let few : length d.switches ≤ NUMBERS = omega (arith, few_switches) in
      once ops_of OpFits op_one 0 ops e.ops rest at_end (ops_fit (length d.switches) ops few may) (ops_fit
      (length d.switches) e.ops few formed.ops) (may.count ∙ sym formed.ops.count) (sym at ∙ here)

  pub left_none : (nodes : List NodeLine) (left rest : List ℕ) → left ≡ at_end → MayBeNodes (length d.switches)
      (map goal_count e.parts) nodes → left ≡ text_of (node_lines nodes) ++ (codes "end\n" ++ rest)
      → (nodes ≡ e.nodes) × (rest ≡ [])
  left_none nodes left rest here may at =
      elim (cases_lt (length nodes) (length e.nodes)) [
        | inl less ↦ absurd (shorter nodes e.nodes rest [] fit_nodes fit_more less (sym at ∙ here))
        | inr past ↦ elim (cases_lt (length e.nodes) (length nodes)) [
          | inl less ↦ absurd (shorter e.nodes nodes [] rest fit_more fit_nodes less (sym here ∙ at))
          | inr equal ↦
              let same = once node_of (NodeIs (length d.switches) (map goal_count e.parts)) (nodes_one
              (length d.switches) (map goal_count e.parts)) 0 nodes e.nodes (codes "end\n" ++ rest)
              (codes "end\n" ++ []) fit_nodes fit_more (omega (arith, past, equal)) (sym at ∙ here) in
              (same.0, append_cancel_left (codes "end\n") rest [] same.1)
        ]
      ]
    where
      few_counts : length (map goal_count e.parts) ≤ 256
      few_counts = omega (arith, length-map e.parts goal_count, formed.parts.count, station.items.parts_few)

      fit_nodes : (i : ℕ) (x : NodeLine) → slice_get nodes i ≡ Some x → NodeIs (length d.switches)
          (map goal_count e.parts) (0 + i) x
      fit_nodes = nodes_fit (length d.switches) (map goal_count e.parts) nodes few_switches few_counts may.few may.each

      fit_more : (i : ℕ) (x : NodeLine) → slice_get e.nodes i ≡ Some x → NodeIs (length d.switches)
          (map goal_count e.parts) (0 + i) x
      fit_more = nodes_fit (length d.switches)
          (map goal_count e.parts) e.nodes few_switches few_counts formed.nodes.few formed.nodes.each

      shorter : (xs ys : List NodeLine) (r s : List ℕ) → ((i : ℕ) (x : NodeLine) → slice_get xs i ≡ Some x
          → NodeIs (length d.switches) (map goal_count e.parts) (0 + i) x) → ((i : ℕ) (x : NodeLine)
          → slice_get ys i ≡ Some x → NodeIs (length d.switches) (map goal_count e.parts) (0 + i) x)
          → length xs < length ys → text_of (node_lines xs) ++ (codes "end\n" ++ r) ≡ text_of (node_lines ys) ++
          (codes "end\n" ++ s) → ⊥
      shorter xs ys r s fit_x fit_y less same =
          let f = next node_of (NodeIs (length d.switches) (map goal_count e.parts)) (nodes_one (length d.switches)
          (map goal_count e.parts)) 0 xs ys (codes "end\n" ++ r) (codes "end\n" ++ s) fit_x fit_y less same in
          let byte : 101 ≡ 110 = ap first_byte (f.is ∙ text_one (node_line (0 + length xs) f.entry) f.rest) in
          omega (arith, byte)

  pub all_same : (parts : List PartLines) (ops : List SwitchGoals) (nodes : List NodeLine) → parts ≡ e.parts
      → ops ≡ e.ops → nodes ≡ e.nodes → e ≡ record { parts = parts; ops = ops; nodes = nodes }
  all_same parts ops nodes p q r = same_lines e parts ops nodes p q r
