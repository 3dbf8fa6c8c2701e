use Rattle.std.proofs.Common.{refl, None}
use Rattle.ilk_base.specs.declared.words.Direction.TheVariants.{ToOn}
use Rattle.ilk_base.specs.declared.words.Op.{Op}
use Rattle.contraction.specs.Answers.{Answers}
use Rattle.judge_intake.proofs.CodeLemmas.{gap_says}
use Rattle.step_graphs.proofs.ends.gap_code.Goals as goal

pub returns-in-None-clause-says : goal.returns-in-None-clause-says
returns-in-None-clause-says c =
    let op : Op = record { switch = c.args.id; direction = ToOn } in
    let x : Answers = c.args.value.now in
    gap_says c.args.station.now op x None 0 refl (λ v whole s. c.in-None.ensures v whole s) (λ v o h. h)
