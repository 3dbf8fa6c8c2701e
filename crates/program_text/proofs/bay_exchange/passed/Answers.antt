use Rattle.std.proofs.Common.{◌∙◌, List, subst}
use Rattle.std.specs.List.{Contains}
use Rattle.structured_text.specs.declared.name.Name.{Name}
use Rattle.program_text.specs.BayExchange.{IsCount, all_gives}
use Rattle.program_text.proofs.bay_exchange.passed.Goals as goal

pub returns-clause-is : goal.returns-clause-is
returns-clause-is c =
    let gives = all_gives c.args.blocks.now c.args.bay.0 c.args.own c.args.steps.now in
    subst (λ (names : List Name). IsCount (λ (n : Name). Contains names n) gives c.count_among.result)
    (c.deref-2.ensures.value ∙ c.in_ok-reads.ensures)
    (subst (λ (names : List Name). IsCount (λ (n : Name). Contains c.deref-2.result.now n) names c.count_among.result)
    (c.deref.ensures.value ∙ c.in_ok-gives.ensures) c.count_among.ensures)
