use Rattle.std.proofs.Common.{◌∙◌, arith}
use Rattle.judge_graphs.proofs.PartnerChoices.{some_label, choices_same}
use Rattle.judge_graphs.proofs.merged.renamed.Goals as goal

pub rename-requires-clause-some : goal.rename-requires-clause-some
rename-requires-clause-some c =
    let some = some_label c.args.outer.now.labels c.args.outer.now.layers c.labels-labels.ensures.layered in
    omega (arith, some, c.labels-labels.ensures.count)

pub returns-clause-renamed : goal.returns-clause-renamed
returns-clause-renamed c = record {
  choices = c.in_ok-reduced.ensures.choices ∙ c.in_ok-copy.ensures.choices;
  label = λ some cs fit.
      c.in_ok-reduced.ensures.label cs
      (choices_same c.args.outer.now.layers c.in_ok-copy.copy.layers cs c.in_ok-copy.ensures.choices fit)
      ∙ c.in_ok-copy.ensures.label some cs fit;
}
