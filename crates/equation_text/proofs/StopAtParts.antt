-- Where the reading stops before or among the lines of the parts, the next line cannot stand.
use Rattle.std.proofs.Common.{◌≡◌, ◌∙◌, ℕ, ◌≤◌, List, ◌∷◌, ◌++◌, length, map, refl, sym, ap, arith, append_assoc}
use Rattle.std.proofs.lemmas.List.{append_cancel_left}
use Rattle.station_graph.specs.Diagram.{Diagram, IsStation, part_count}
use Rattle.station_equations.specs.declared.goal.TheConstants.{NUMBERS}
use Rattle.station_equations.specs.EquationLines.{PartLines}
use Rattle.station_equations.specs.EquationText.{part_line, lines_of, text_of}
use Rattle.equation_text.specs.Reading.{front_text, start_lines}
use Rattle.equation_text.specs.Stops.{StopsIn, StopsAtStart, StopsWrong}
use Rattle.equation_text.proofs.OnceLemmas.{part_lacks}
use Rattle.equation_text.proofs.ReadLoops.{part_of, next_start}
use Rattle.equation_text.proofs.FormedLemmas.{groups, starts_may, at_starts, at_steps}
use Rattle.equation_text.proofs.WholeText.{whole_more, whole_text, front_whole, NothingFits, wrong_at}
use Rattle.equation_text.proofs.FilledLemmas.{begins_front, begins_starts}

module _ (d : Diagram) (station : IsStation d) where
  few_parts : part_count d ≤ NUMBERS
  few_parts = omega (arith, station.items.parts_few)

  -- ---- before the lines of the parts

  module _ (text left : List ℕ) (stop : StopsIn (front_text d) text left) where
    no_front : NothingFits d stop.before left
    no_front e formed more same alike =
        let behind = at_starts d station e formed (text_of (lines_of d e)) refl in
        let here = append_cancel_left stop.before more (stop.line ++ 10 ∷ (stop.more ++ behind))
        (sym same ∙ groups d station e formed (text_of (lines_of d e)) refl
        ∙ ap (λ (z : List ℕ). z ++ behind) stop.is ∙ append_assoc stop.before (stop.line ++ 10 ∷ stop.more) behind
        ∙ ap (λ (z : List ℕ). stop.before ++ z) (append_assoc stop.line (10 ∷ stop.more) behind)) in
        let found = alike.line stop.line (stop.more ++ behind) stop.lacks here in
        stop.other found.0 found.1

    pub wrong_front : StopsWrong d text left
    wrong_front = record {
      before = stop.before;
      is = stop.passed;
      wrong = wrong_at d stop.before left stop.whole (begins_front d stop.before (stop.line ++ 10 ∷ stop.more) stop.is)
          no_front;
    }

  -- ---- among the lines of the parts

  module _ (text l1 left : List ℕ) (e1 : text ≡ front_text d ++ l1) (stop : StopsAtStart (part_count d) l1 left) where
    abbrev passed : List ℕ
    passed = text_of (start_lines stop.starts)

    no_start : NothingFits d (front_text d ++ passed) left
    no_start e formed more same alike =
        let whole = text_of (lines_of d e) in
        let here = append_cancel_left (front_text d) (at_starts d station e formed whole refl) (passed ++ more)
        (sym (groups d station e formed whole refl) ∙ same ∙ append_assoc (front_text d) passed more) in
        let next = next_start (part_count d) (length stop.starts) stop.starts (map (λ (x : PartLines). x.start) e.parts)
        (at_starts d station e formed whole refl) more (at_steps d station e formed whole refl) few_parts stop.few
        stop.may (starts_may d station e formed whole refl) here refl in
        let found = alike.line (part_line (length stop.starts) (part_of next.start)) next.rest
        (part_lacks (length stop.starts) (part_of next.start) (omega (arith, stop.few, few_parts)) next.target)
        next.is in
        stop.none (part_of next.start) found.0 next.target found.1

    pub wrong_start : StopsWrong d text left
    wrong_start = record {
      before = front_text d ++ passed;
      is = e1 ∙ ap (λ (z : List ℕ). front_text d ++ z) stop.passed ∙ sym (append_assoc (front_text d) passed left);
      wrong = wrong_at d (front_text d ++ passed) left (whole_more (front_text d) passed (front_whole d)
          (whole_text (start_lines stop.starts)))
          (begins_starts d stop.starts (omega (arith, stop.few)) stop.may) no_start;
    }
