use Rattle.std.proofs.Common.{refl}
use Rattle.std.specs.Prelude.{codes}
use Rattle.equation_text.specs.Entries.{has_entry}
use Rattle.equation_text.proofs.NumberLemmas.{no_part, steps_kept_by, step_lost_by}
use Rattle.equation_text.proofs.undefined.start_kept.Goals as goal

pub returns-in_default-clause-yes : goal.returns-in_default-clause-yes
returns-in_default-clause-yes c = λ _. no_part (has_entry c.args.entries.now) (codes "part") c.args.line.now 0
    c.in_default.ensures.none

pub returns-clause-yes : goal.returns-clause-yes
returns-clause-yes c = λ yes. steps_kept_by (has_entry c.args.entries.now) (codes "part") c.args.line.now
    c.in-Some.part 0 c.in-Some.words.now c.in-Some.words.now c.in-Some.ensures.some refl (λ other same. same)
    (c.are_kept.ensures.yes yes)

pub returns-clause-no : goal.returns-clause-no
returns-clause-no c = λ no. step_lost_by (has_entry c.args.entries.now) (codes "part") c.args.line.now
    c.in-Some.part 0 c.in-Some.words.now c.in-Some.words.now c.in-Some.ensures.some refl (λ other same. same)
    (c.are_kept.ensures.no no)
