use Rattle.std.proofs.Common.{◌≡◌, ℕ, ◌<◌, List, length, map, slice_index, sym, ap, ◌∙◌, subst}
use Rattle.decision_graphs.specs.Finished.{finished}
use Rattle.decision_graphs.specs.Label.{Layer, Layered, label_of, AreChoices}
use Rattle.judge_pool.proofs.ChoiceLemmas.{choices_on}
use Rattle.step_graphs.proofs.graph.labelled.Goals as goal

pub returns : goal.returns
returns c =
    let ls : List Layer = map finished c.args.layers.now in
    let whole : Layered = c.in_ok-whole.whole in
    let named : Layered = c.in_ok-named.named in
    let g : Layered = c.in_ok-reduced.reduced in
    let layers : whole.layers ≡ ls = ap (λ (h : Layered). h.layers) c.in_ok-whole.ensures in
    let choices : map (λ (l : Layer). l.choices) named.layers ≡ map (λ (l : Layer). l.choices) ls =
    c.in_ok-named.ensures.choices ∙ ap (map (λ (l : Layer). l.choices)) layers in
    record {
      so_many = c.in_ok-reduced.ensures.labels ∙ c.in_ok-named.ensures.labels;
      fits = c.labels-labels.ensures.layered;
      reduced = c.in_ok-reduced.ensures.reduced;
      same_choices = c.in_ok-reduced.ensures.choices ∙ choices;
      label = λ some cs allowed.
          c.in_ok-reduced.ensures.label cs (choices_on ls named.layers cs choices allowed)
          ∙ (c.in_ok-named.ensures.label (subst (λ xs. 0 < length xs) (sym layers) some) cs
          (subst (λ xs. AreChoices xs cs) (sym layers) allowed)
          ∙ ap (λ (h : Layered). slice_index c.args.labels.now (label_of h cs)) c.in_ok-whole.ensures);
    }
