use Rattle.std.proofs.Common.{◌≡◌, ℕ, List, ap, ◌∙◌, slice_index, replicate}
use Rattle.decision_graphs.specs.Label.{label_of}
use Rattle.judge_pool.proofs.ChoiceLemmas.{choices_on}
use Rattle.station_compare.proofs.IdleLemmas.{zero_at}
use Rattle.station_compare.proofs.loads.idle_graph.Goals as goal

pub returns : goal.returns
returns c =
    let gap = c.args.gap.now in
    let named = c.in_ok-named.named in
    let names : List ℕ = c.deref.result.now in
    let zeros : names ≡ replicate c.labels.result 0 = c.deref.ensures.value ∙ c.in_ok-names.ensures in
    record {
      fits = c.labels-labels.ensures.layered;
      choices = c.in_ok-reduced.ensures.choices ∙ c.in_ok-named.ensures.choices;
      labels = c.in_ok-reduced.ensures.labels ∙ c.in_ok-named.ensures.labels;
      reduced = c.in_ok-reduced.ensures.reduced;
      first = λ cs are.
          c.in_ok-reduced.ensures.label cs (choices_on gap.layers named.layers cs c.in_ok-named.ensures.choices are)
          ∙ (c.in_ok-named.ensures.label c.requires cs are
          ∙ (ap (λ (xs : List ℕ). slice_index xs (label_of gap cs)) zeros
          ∙ zero_at c.labels.result (label_of gap cs)));
    }
