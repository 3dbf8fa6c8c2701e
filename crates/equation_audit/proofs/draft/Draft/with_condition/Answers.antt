use Rattle.std.proofs.Common.{◌∙◌, ap, [], ◌∷◌, ◌++◌, List}
use Rattle.equation_audit.specs.declared.condition.Condition.{Condition}
use Rattle.equation_audit.specs.BlockLines.{Statement, body}
use Rattle.equation_audit.proofs.BodyLemmas.{body-when}
use Rattle.equation_audit.proofs.draft.Draft.with_condition.Goals as goal

pub returns-clause-more : goal.returns-clause-more
returns-clause-more c =
    (λ i. body (c.self.inside.earlier.items ++ c.in_ok-push.ensures.items i ∷ []))
    ∙ body-when c.self.inside.earlier.items c.self.inside.last.items c.args.condition
    ∙ ap (λ (alts : List (List Condition)). body alts ++ Statement.When c.args.condition ∷ []) c.self.view_is
