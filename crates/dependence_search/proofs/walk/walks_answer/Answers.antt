use Rattle.dependence_search.specs.RuleWalks.{rule_of}
use Rattle.dependence_search.proofs.ToldLemmas.{told, choices_for}
use Rattle.dependence_search.proofs.walk.walks_answer.Goals as goal

pub returns : goal.returns
returns c d ss ts b op walk codes v is j within w vector =
    let (cs, given) = choices_for d ss ts b op walk codes w is j within v vector in
    let (x, at, breaks) = told d ss ts b op walk codes w v cs vector given in
    (rule_of op.direction x, breaks)
