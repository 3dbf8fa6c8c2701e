use Rattle.std.proofs.Common.{◌≡◌, ◌∙◌, sym, ap, subst, false}
use Rattle.equation_audit.specs.Equations.{is_among, AllDiffer}
use Rattle.equation_audit.proofs.OwnLemmas.{AllDiffer-push}
use Rattle.equation_audit.proofs.draft.with_own.Goals as goal

pub returns-clause-differ : goal.returns-clause-differ
returns-clause-differ c =
    let none : is_among c.args.own.items c.args.id.0 ≡ false =
    sym (c.is_among.ensures ∙ ap (λ ids. is_among ids c.args.id.0) c.deref.ensures.value) ∙ c.if-is_among.false in
    subst AllDiffer (sym c.in_ok-push.ensures.items) (AllDiffer-push c.args.own.items c.args.id c.requires.differ none)
