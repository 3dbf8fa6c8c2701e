use Rattle.std.proofs.Common.{ap, ◌∙◌, ◌++◌, ◌∷◌, []}
use Rattle.std.specs.List.{concat}
use Rattle.std.proofs.lemmas.List.{append-nil}
use Rattle.std.proofs.lemmas.List.Folds.{concat-append}
use Rattle.decision_graphs.proofs.shared_numbers.put_behind.Goals as goal

pub returns-clause-joined : goal.returns-clause-joined
returns-clause-joined c =
    let old = c.args.lists.now.items in
    ap concat c.in_ok-push.ensures.items ∙ (concat-append old (c.in_ok-held.held ∷ [])
    ∙ (ap (λ xs. concat old ++ xs) (append-nil c.in_ok-held.held)
    ∙ ap (λ xs. concat old ++ xs) c.in_ok-held.ensures))
