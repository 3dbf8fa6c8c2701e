use Rattle.std.proofs.Common.{◌∙◌, ap, [], ◌∷◌, ◌++◌, List}
use Rattle.equation_audit.specs.declared.condition.Condition.{Condition}
use Rattle.equation_audit.specs.BlockLines.{Statement, body}
use Rattle.equation_audit.proofs.BodyLemmas.{body-or}
use Rattle.equation_audit.proofs.draft.Draft.with_alternative.Goals as goal

pub returns-clause-more : goal.returns-clause-more
returns-clause-more c =
    (λ i. body (c.in_ok-push.ensures.items i ++ c.new.ensures.items i ∷ []))
    ∙ body-or c.self.inside.earlier.items c.self.inside.last.items
    ∙ ap (λ (alts : List (List Condition)). body alts ++ Statement.Or ∷ []) c.self.view_is
