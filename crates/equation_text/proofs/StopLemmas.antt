-- Where the reading stops behind the lines of the parts, the next line cannot stand.
use Rattle.std.proofs.Common.{◌≡◌, ◌≢◌, ◌∙◌, ℕ, ◌+◌, ◌<◌, ◌≤◌, List, [], ◌∷◌, ◌++◌, length, map, refl, sym, ap, subst}
use Rattle.std.proofs.Common.{inl, inr, arith, append_assoc, append-nil, None}
use Rattle.std.specs.Prelude.{codes}
use Rattle.std.proofs.lemmas.List.{append_cancel_left, length-map, length_push}
use Rattle.ilk_base.specs.declared.words.Direction.TheVariants.{ToOff, ToOn}
use Rattle.station_graph.specs.Diagram.{Diagram, IsStation, part_count}
use Rattle.part_alphabets.specs.declared.fork.Target.{Target}
use Rattle.station_equations.specs.declared.goal.Goal.TheVariants.{Answer}
use Rattle.station_equations.specs.declared.goal.SwitchGoals.{SwitchGoals}
use Rattle.station_equations.specs.declared.goal.TheConstants.{NUMBERS}
use Rattle.station_equations.specs.EquationLines.{PartLines, NodeLine, EquationLines, goal_count}
use Rattle.station_equations.specs.EquationText.{step_line, op_line, node_line, lines_of, text_of}
use Rattle.equation_text.specs.Reading.{front_text, start_lines, all_step_lines, op_lines, node_lines}
use Rattle.equation_text.specs.Reading.{MayBeStarts, MayBeOps, MayBeNodes, AreAllSteps}
use Rattle.equation_text.specs.ReadText.{MayBeParts}
use Rattle.equation_text.specs.Faults.{EndsInLf, AreFormed, BeginsText}
use Rattle.equation_text.specs.Stops.{StopsBetween, NoOp, StopsAtOps, StopsAtNode, StopsWrong}
use Rattle.equation_text.proofs.WordLemmas.{cut_once, lacks_by}
use Rattle.equation_text.proofs.OnceLemmas.{op_lacks, node_lacks}
use Rattle.equation_text.proofs.StepFits.{may_lacks}
use Rattle.equation_text.proofs.ReadLoops.{NextOps, next_ops, ops_next, ops_push, after_nodes, writable}
use Rattle.equation_text.proofs.TopLemmas.{parts_may}
use Rattle.equation_text.proofs.FormedLemmas.{groups, left_steps, left_ops, left_nodes, left_none}
use Rattle.equation_text.proofs.FormedLemmas.{at_starts, at_ops, at_end, few_switches}
use Rattle.equation_text.proofs.WholeText.{whole_line, whole_more, whole_text, front_whole, whole_four, whole_five}
use Rattle.equation_text.proofs.WholeText.{Alike, alike_more, NothingFits, wrong_at}
use Rattle.equation_text.proofs.FilledLemmas.{nest_three, nest_four, begins_prefix}
use Rattle.equation_text.proofs.FilledLemmas.{begins_ops, begins_nodes, begins_all}

module _ (d : Diagram) (station : IsStation d) where
  few_all : length d.switches ≤ NUMBERS
  few_all = omega (arith, station.items.switches_few)

  -- ---- behind the steps of all parts

  module _ (ts : List Target) (parts : List PartLines) (text l1 l2 l3 : List ℕ) (e1 : text ≡ front_text d ++ l1)
      (may1 : MayBeStarts (part_count d) ts) (e2 : l1 ≡ text_of (start_lines ts) ++ l2)
      (steps : AreAllSteps d ts l2 l3 parts) where
    abbrev first : List ℕ
    first = text_of (start_lines ts)

    abbrev second : List ℕ
    second = text_of (all_step_lines parts)

    whole_first : EndsInLf first
    whole_first = whole_text (start_lines ts)

    whole_second : EndsInLf second
    whole_second = whole_text (all_step_lines parts)

    all_steps : (new : List ℕ) → Alike new l3 → AreAllSteps d ts (second ++ new) new parts
    all_steps new alike = record {
      starts_are = steps.starts_are;
      steps = steps.steps;
      text = refl;
      last = λ p x at none s rest may same.
          let found = alike.line (step_line p (length x.steps) s) rest (may_lacks d p (length x.steps) s
          (steps.steps p x at).few station may) same in
          steps.last p x at none s found.0 may found.1;
    }

    -- a text that goes on as this one has the same parts
    pub record Goes (e : EquationLines) (formed : AreFormed d e) (new : List ℕ) : Type 0 where
      pub parts_are : parts ≡ e.parts
      pub is : new ≡ at_ops d station e formed (text_of (lines_of d e)) refl

    goes : (e : EquationLines) (formed : AreFormed d e) (new : List ℕ)
        → text_of (lines_of d e) ≡ front_text d ++ (first ++ (second ++ new)) → Alike new l3 → Goes e formed new
    goes e formed new same alike =
        let whole = text_of (lines_of d e) in
        let here = append_cancel_left (front_text d) (at_starts d station e formed whole refl)
        (first ++ (second ++ new)) (sym (groups d station e formed whole refl) ∙ same) in
        let starts = left_steps d station e formed whole refl ts (at_starts d station e formed whole refl)
        (second ++ new) refl may1 here in
        let ops = left_ops d station e formed whole refl ts parts (second ++ new) new starts.0 starts.1
        (all_steps new alike) in
        record { parts_are = ops.0; is = ops.1 }

    text_is : (new : List ℕ) → l3 ≡ new → text ≡ front_text d ++ (first ++ (second ++ new))
    text_is new e3 = e1 ∙ ap (λ (z : List ℕ). front_text d ++ z) (e2 ∙ ap (λ (z : List ℕ). first ++ z)
        (steps.text ∙ ap (λ (z : List ℕ). second ++ z) e3))

    -- the texts of the lemmas on beginnings are written by the starts of the parts
    at_first : (behind : List ℕ) → BeginsText d (front_text d ++ (text_of (start_lines (map (λ (x : PartLines). x.start)
        parts)) ++ behind)) → BeginsText d (front_text d ++ (first ++ behind))
    at_first behind b = subst
        (λ (us : List Target). BeginsText d (front_text d ++ (text_of (start_lines us) ++ behind)))
        steps.starts_are b

    may_parts : MayBeParts d parts
    may_parts = parts_may d ts l2 l3 parts may1 steps

    module _ (left : List ℕ) (stop : StopsAtOps (length d.switches) l3 left) where
      abbrev third : List ℕ
      third = text_of (op_lines stop.ops)

      abbrev number : ℕ
      number = length stop.ops

      small : number < NUMBERS
      small = omega (arith, stop.few, few_all)

      -- the goals of the next switch follow in each text that goes on so
      next_of : (e : EquationLines) (formed : AreFormed d e) (new : List ℕ) → Goes e formed (third ++ new)
          → NextOps number new
      next_of e formed new same = next_ops (length d.switches) number stop.ops e.ops (at_ops d station e formed
          (text_of (lines_of d e)) refl) new (at_end d station e formed (text_of (lines_of d e)) refl) few_all stop.few
          stop.may formed.ops (sym same.is) refl

      alike_third : (new old : List ℕ) → Alike new old → stop.middle ≡ old → Alike (third ++ new) l3
      alike_third new old alike same = subst (λ (z : List ℕ). Alike (third ++ new) z) (sym (stop.passed ∙ ap
          (λ (z : List ℕ). third ++ z) same)) (alike_more third new old alike)

      module _ (same_text : stop.middle ≡ left) (none : NoOp ToOff number left) where
        abbrev before_one : List ℕ
        before_one = front_text d ++ (first ++ (second ++ third))

        no_opening : NothingFits d before_one left
        no_opening e formed more same alike =
            let next = next_of e formed more (goes e formed (third ++ more) (same ∙ nest_three (front_text d) first
            second third more) (alike_third more left alike same_text)) in
            let found = alike.line (op_line ToOff number next.goals) (op_line ToOn number next.goals ++ 10 ∷ next.rest)
            (op_lacks ToOff number next.goals small next.fit.opening) next.is in
            none next.goals found.0 next.fit.opening found.1

        wrong_opening : StopsWrong d text left
        wrong_opening = record {
          before = before_one;
          is = text_is (third ++ left) (stop.passed ∙ ap (λ (z : List ℕ). third ++ z) same_text)
              ∙ sym (nest_three (front_text d) first second third left);
          wrong = wrong_at d before_one left (whole_four (front_text d) first second third (front_whole d)
              whole_first whole_second (whole_text (op_lines stop.ops))) (at_first (second ++ third)
              (begins_ops d parts stop.ops may_parts (omega (arith, stop.few)) stop.may)) no_opening;
        }

      module _ (between : StopsBetween number stop.middle left) where
        abbrev line : List ℕ
        line = op_line ToOff number between.goals ++ 10 ∷ []

        abbrev before_two : List ℕ
        before_two = front_text d ++ (first ++ (second ++ (third ++ line)))

        middle_is : stop.middle ≡ line ++ left
        middle_is = between.passed ∙ sym (append_assoc (op_line ToOff number between.goals) (10 ∷ []) left)

        no_closing : NothingFits d before_two left
        no_closing e formed more same alike =
            let next = next_of e formed (line ++ more) (goes e formed (third ++ (line ++ more)) (same ∙ nest_four
            (front_text d) first second third line more) (alike_third (line ++ more) (line ++ left) (alike_more line
            more left alike) middle_is)) in
            let rest = cut_once 10 (op_line ToOff number between.goals) (op_line ToOff number next.goals) more
            (op_line ToOn number next.goals ++ 10 ∷ next.rest) (op_lacks ToOff number between.goals small between.fits)
            (op_lacks ToOff number next.goals small next.fit.opening)
            (sym (append_assoc (op_line ToOff number between.goals) (10 ∷ []) more) ∙ next.is) in
            let found = alike.line (op_line ToOn number next.goals) next.rest (op_lacks ToOn number next.goals small
            next.fit.closing) rest.1 in
            between.none next.goals found.0 next.fit.closing found.1

        abbrev filled : SwitchGoals
        filled = record { opening = between.goals.opening; closing = Answer None }

        abbrev more_ops : List SwitchGoals
        more_ops = stop.ops ++ filled ∷ []

        count_more : length more_ops ≡ number + 1
        count_more = length_push stop.ops filled

        ops_are : text_of (op_lines more_ops) ≡ third ++ (line ++ (op_line ToOn number filled ++ 10 ∷ []))
        ops_are =
            let last : List ℕ = op_line ToOn number filled ++ 10 ∷ [] in
            let grown = ops_next stop.ops more_ops filled number (third ++ (line ++ last)) (line ++ last) [] refl refl
            refl (append_assoc (op_line ToOff number between.goals) (10 ∷ []) last) in
            sym (grown ∙ append-nil (text_of (op_lines more_ops)))

        begins_two : BeginsText d before_two
        begins_two =
            let last : List ℕ = op_line ToOn number filled ++ 10 ∷ [] in
            let may = ops_push number (length more_ops) stop.ops more_ops filled count_more refl (record {
              opening = between.fits;
              closing = tt;
            }) stop.may in
            let b = at_first (second ++ text_of (op_lines more_ops)) (begins_ops d parts more_ops may_parts
            (omega (arith, stop.few, count_more)) may) in
            begins_prefix d before_two last (subst (λ (z : List ℕ). BeginsText d z) (sym (nest_four (front_text d) first
            second third line last))
            (subst (λ (z : List ℕ). BeginsText d (front_text d ++ (first ++ (second ++ z)))) ops_are
            b))

        wrong_closing : StopsWrong d text left
        wrong_closing = record {
          before = before_two;
          is = text_is (third ++ (line ++ left)) (stop.passed ∙ ap (λ (z : List ℕ). third ++ z) middle_is)
              ∙ sym (nest_four (front_text d) first second third line left);
          wrong = wrong_at d before_two left (whole_five (front_text d) first second third line
              (front_whole d) whole_first whole_second (whole_text (op_lines stop.ops)) (whole_line
              (op_line ToOff number between.goals))) begins_two no_closing;
        }

      pub wrong_op : StopsWrong d text left
      wrong_op = elim stop.stop [
        | inl s ↦ wrong_opening s.0 s.1
        | inr s ↦ wrong_closing s
      ]

    -- ---- behind the operations

    module _ (ops : List SwitchGoals) (may3 : MayBeOps (length d.switches) ops) (l4 : List ℕ)
        (e3 : l3 ≡ text_of (op_lines ops) ++ l4) where
      abbrev fourth : List ℕ
      fourth = text_of (op_lines ops)

      abbrev lines_with : List NodeLine → EquationLines
      lines_with nodes = record { parts = parts; ops = ops; nodes = nodes }

      formed_with : (nodes : List NodeLine) → MayBeNodes (length d.switches) (map goal_count parts) nodes
          → AreFormed d (lines_with nodes)
      formed_with nodes may = record { parts = may_parts; ops = may3; nodes = may }

      alike_fourth : (new old : List ℕ) → Alike new old → l4 ≡ old → Alike (fourth ++ new) l3
      alike_fourth new old alike same = subst (λ (z : List ℕ). Alike (fourth ++ new) z) (sym (e3 ∙ ap
          (λ (z : List ℕ). fourth ++ z) same)) (alike_more fourth new old alike)

      -- the nodes follow in each text that goes on so
      pub record Ends (e : EquationLines) (formed : AreFormed d e) (new : List ℕ) : Type 0 where
        pub parts_are : parts ≡ e.parts
        pub is : new ≡ at_end d station e formed (text_of (lines_of d e)) refl

      ends : (e : EquationLines) (formed : AreFormed d e) (new old : List ℕ)
          → text_of (lines_of d e) ≡ front_text d ++ (first ++ (second ++ (fourth ++ new))) → Alike new old → l4 ≡ old
          → Ends e formed new
      ends e formed new old same alike is =
          let whole = text_of (lines_of d e) in
          let g = goes e formed (fourth ++ new) same (alike_fourth new old alike is) in
          let nodes = left_nodes d station e formed whole refl ops (at_ops d station e formed whole refl) new refl may3
          (sym g.is) in
          record { parts_are = g.parts_are; is = nodes.1 }

      counts_small : length (map goal_count parts) ≤ 256
      counts_small = omega (arith, length-map parts goal_count, may_parts.count, station.items.parts_few)

      module _ (left : List ℕ) (stop : StopsAtNode (length d.switches) (map goal_count parts) l4 left) where
        abbrev fifth : List ℕ
        fifth = text_of (node_lines stop.nodes)

        abbrev before_three : List ℕ
        before_three = front_text d ++ (first ++ (second ++ (fourth ++ fifth)))

        no_node : NothingFits d before_three left
        no_node e formed more same alike =
            let whole = text_of (lines_of d e) in
            let g = ends e formed (fifth ++ more) (fifth ++ left) (same ∙ nest_four (front_text d) first second fourth
            fifth more) (alike_more fifth more left alike) stop.passed in
            let may = subst (λ (ps : List PartLines). MayBeNodes (length d.switches) (map goal_count ps) e.nodes)
            (sym g.parts_are) formed.nodes in
            elim (after_nodes (length d.switches) (map goal_count parts) stop.nodes e.nodes
            (at_end d station e formed whole refl) more [] (few_switches d station e formed whole refl) counts_small
            stop.may.few stop.may.each may (sym g.is) refl) [
              | inl next ↦
                  let found = alike.line (node_line (length stop.nodes) next.node) next.rest (node_lacks
                  (length stop.nodes) next.node next.number (writable (length d.switches) (length stop.nodes)
                  (map goal_count parts) next.node (few_switches d station e formed whole refl) counts_small next.may))
                  next.is in
                  stop.none next.node found.0 next.may found.1
              | inr end ↦
                  let found = alike.line (codes "end") [] (lacks_by 10 (codes "end") refl) end in
                  stop.no_end found.0 found.1
            ]

        pub wrong_node : StopsWrong d text left
        wrong_node = record {
          before = before_three;
          is = text_is (fourth ++ (fifth ++ left)) (e3 ∙ ap (λ (z : List ℕ). fourth ++ z) stop.passed)
              ∙ sym (nest_four (front_text d) first second fourth fifth left);
          wrong = wrong_at d before_three left (whole_five (front_text d) first second fourth fifth
              (front_whole d) whole_first whole_second (whole_text (op_lines ops)) (whole_text (node_lines stop.nodes)))
              (at_first (second ++ (fourth ++ fifth)) (begins_nodes d (lines_with stop.nodes)
              (formed_with stop.nodes stop.may))) no_node;
        }

      module _ (nodes : List NodeLine) (may4 : MayBeNodes (length d.switches) (map goal_count parts) nodes)
          (left : List ℕ) (e4 : l4 ≡ text_of (node_lines nodes) ++ (codes "end\n" ++ left)) (some : left ≢ []) where
        abbrev sixth : List ℕ
        sixth = text_of (node_lines nodes) ++ codes "end\n"

        abbrev before_four : List ℕ
        before_four = front_text d ++ (first ++ (second ++ (fourth ++ sixth)))

        no_more : NothingFits d before_four left
        no_more e formed more same alike =
            let whole = text_of (lines_of d e) in
            let g = ends e formed (sixth ++ more) (sixth ++ left) (same ∙ nest_four (front_text d) first second fourth
            sixth more) (alike_more sixth more left alike) (e4 ∙ sym (append_assoc (text_of (node_lines nodes))
            (codes "end\n") left)) in
            let may = subst (λ (ps : List PartLines). MayBeNodes (length d.switches) (map goal_count ps) nodes)
            g.parts_are may4 in
            let none = left_none d station e formed whole refl nodes (at_end d station e formed whole refl) more
            refl may
            (sym g.is ∙ append_assoc (text_of (node_lines nodes)) (codes "end\n") more) in
            some (alike.none none.1)

        pub wrong_end : StopsWrong d text left
        wrong_end = record {
          before = before_four;
          is = text_is (fourth ++ (sixth ++ left)) (e3 ∙ ap (λ (z : List ℕ). fourth ++ z) (e4 ∙ sym (append_assoc
              (text_of (node_lines nodes)) (codes "end\n") left)))
              ∙ sym (nest_four (front_text d) first second fourth sixth left);
          wrong = wrong_at d before_four left (whole_five (front_text d) first second fourth sixth
              (front_whole d) whole_first whole_second (whole_text (op_lines ops)) (whole_more (text_of
              (node_lines nodes)) (codes "end\n") (whole_text (node_lines nodes)) (whole_line (codes "end")))) (at_first
              (second ++ (fourth ++ sixth)) (begins_all d (lines_with nodes) (formed_with nodes may4))) no_more;
        }
