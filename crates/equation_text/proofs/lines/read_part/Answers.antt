use Rattle.std.proofs.Common.{◌∙◌, ◌++◌, List, ℕ, sym, ap}
use Rattle.std.specs.Prelude.{codes}
use Rattle.std.proofs.lemmas.List.{append_cancel_left}
use Rattle.part_alphabets.specs.declared.fork.Target.{Target}
use Rattle.station_equations.specs.EquationText.{target_text}
use Rattle.equation_text.specs.Words.{numbered_head}
use Rattle.equation_text.proofs.SaidLemmas.{part_said}
use Rattle.equation_text.proofs.lines.read_part.Goals as goal

pub returns-in_default-clause-none : goal.returns-in_default-clause-none
returns-in_default-clause-none c = λ x small is. c.in_default.ensures.none (target_text x.start) (is
    ∙ part_said c.args.part x)

pub returns-in_default-target-clause-none : goal.returns-in_default-target-clause-none
returns-in_default-target-clause-none c = λ x small is.
    c.in_default-target.ensures.none x.start small (append_cancel_left (numbered_head
    (codes "part ") c.args.part) c.in-Some.word.now (target_text x.start) (sym c.in-Some.ensures.some ∙ is
    ∙ part_said c.args.part x))

pub returns-clause-some : goal.returns-clause-some
returns-clause-some c =
    let h = c.in-Some-target.ensures.some in (
      h.0,
      λ x same.
          c.in-Some.ensures.some
          ∙ ap (λ (z : List ℕ). numbered_head (codes "part ") c.args.part ++ z) (h.1 ∙ ap (λ
          (t : Target). target_text t) (sym same))
          ∙ sym (part_said c.args.part x),
    )
