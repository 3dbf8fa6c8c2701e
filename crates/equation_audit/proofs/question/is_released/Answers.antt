use Rattle.std.proofs.Common.{◌≡◌, ◌∙◌, subst, true, List}
use Rattle.equation_audit.specs.declared.condition.Condition.{Condition}
use Rattle.equation_audit.specs.Equations.{is_named}
use Rattle.equation_audit.proofs.OwnLemmas.{own_at_place}
use Rattle.equation_audit.proofs.question.is_released.Goals as goal

pub all_hold-requires : goal.all_hold-requires
all_hold-requires c = λ i named.
    let same = c.deref.ensures.value ∙ c.alternative.view_is ∙ c.alternative-item.is in
    c.requires i (own_at_place c.args.alternatives.now c.loop-alternative.alternative-index _ i
    c.loop-alternative-test.true (subst (λ (cs : List Condition). is_named cs i ≡ true) same named))
