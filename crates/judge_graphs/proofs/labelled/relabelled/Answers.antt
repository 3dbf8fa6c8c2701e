use Rattle.std.proofs.Common.{◌∙◌, arith}
use Rattle.decision_graphs.specs.Label.{Layered}
use Rattle.judge_pool.proofs.ChoiceLemmas.{choices_on}
use Rattle.judge_graphs.proofs.labelled.relabelled.Goals as goal

pub rename-requires-clause-within : goal.rename-requires-clause-within
rename-requires-clause-within c x lt = c.requires.within x (omega (arith, lt, c.requires.len))

pub returns : goal.returns
returns c =
    let g : Layered = c.args.graph.now in
    let n : Layered = c.in_ok-named.named in
    record {
      so_many = c.in_ok-reduced.ensures.labels ∙ c.in_ok-named.ensures.labels;
      fits = c.labels-labels.ensures.layered;
      reduced = c.in_ok-reduced.ensures.reduced;
      same_choices = c.in_ok-reduced.ensures.choices ∙ c.in_ok-named.ensures.choices;
      label = λ some cs ok.
          c.in_ok-reduced.ensures.label cs (choices_on g.layers n.layers cs c.in_ok-named.ensures.choices ok)
          ∙ c.in_ok-named.ensures.label some cs ok;
      sizes = λ j. omega (arith, c.in_ok-reduced.ensures.sizes j, c.in_ok-named.ensures.sizes j);
    }
