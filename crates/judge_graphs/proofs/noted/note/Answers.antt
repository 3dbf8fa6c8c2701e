use Rattle.std.proofs.Common.{◌≡◌, ◌≤◌, ◌∙◌, ℕ, List, Vec, Global, map, length, sym, ap, subst}
use Rattle.std.proofs.lemmas.List.{length-map}
use Rattle.decision_graphs.specs.declared.finished.FinishedLayer.{FinishedLayer}
use Rattle.decision_graphs.specs.Finished.{AreFinished}
use Rattle.decision_graphs.specs.Label.{Layer, Layered, layer_at, label_of, AreChoices, AreReduced}
use Rattle.judge_pool.specs.declared.pool.Pool.{Pool}
use Rattle.judge_pool.specs.Plans.{layers_of}
use Rattle.judge_graphs.specs.Noting.{letter_rows}
use Rattle.judge_pool.proofs.LayeringLemmas.{grows}
use Rattle.judge_graphs.proofs.NotingLemmas.{linked_stays, folded_laid}
use Rattle.judge_pool.proofs.ErrorLemmas.{passed_on}
use Rattle.judge_graphs.proofs.noted.note.Goals as goal

pub fold_layers-requires-clause-linked : goal.fold_layers-requires-clause-linked
fold_layers-requires-clause-linked c = rw (c.deref.ensures.value, c.deref-2.ensures.value) c.requires.linked

pub from_layers-requires-clause-finished : goal.from_layers-requires-clause-finished
from_layers-requires-clause-finished c =
    rw c.deref-3.ensures.value (subst (λ (xs : List ℕ). AreFinished (length xs) c.in_ok-drafts.drafts.layers.items)
    (sym c.as_slice-states.ensures.value) c.in_ok-drafts.ensures.finished)

pub returns-clause-noted : goal.returns-clause-noted
returns-clause-noted c =
    let p : Pool = c.args.pool.now in
    let q : Pool = c.fold_layers.new.pool in
    let g = c.in_ok-drafts.ensures.grew in
    let i = c.args.intake in
    let rows : List (List ℕ) = letter_rows i in
    let names : List ℕ = c.in_ok-drafts.drafts.states.items in
    let ds : List FinishedLayer = c.in_ok-drafts.drafts.layers.items in
    let spent = rw (c.deref.ensures.value, c.deref-2.ensures.value) at c.in_ok-drafts.ensures.spent in
    let exact = rw (c.deref.ensures.value, c.deref-2.ensures.value) at c.in_ok-drafts.ensures.exact in
    let choices = rw c.deref.ensures.value at c.in_ok-drafts.ensures.choices in
    let build : ℕ → List FinishedLayer → Layered = λ n xs. record { labels = n; layers = layers_of xs } in
    let is : c.in_ok-whole.whole ≡ build (length names) ds =
    c.in_ok-whole.ensures
    ∙ (ap (build (length c.as_slice-states.result.now)) c.deref-3.ensures.value
    ∙ ap (λ n. build n ds) (ap length c.as_slice-states.ensures.value)) in
    let made = c.in_ok-reduced.ensures in
    let held : c.in_ok-graph.graph.value ≡ c.in_ok-reduced.reduced = c.in_ok-graph.ensures in
    record {
      layers = layers_of ds;
      linked = linked_stays p q (grows p q g) i.start rows i.keeps.items c.requires.linked;
      laid =
          folded_laid p q (grows p q g) i.start rows i.keeps.items c.requires.linked (length i.letters.items)
          c.args.budget c.in_ok-drafts.drafts.left names ds
          (sym (length-map i.letters.items (λ (v : Vec ℕ Global). v.items))) spent exact choices;
      within = c.in_ok-drafts.ensures.states_in;
      labels = ap (λ (h : Layered). h.labels) held ∙ made.labels ∙ ap (λ (h : Layered). h.labels) is;
      same_choices = ap (λ (h : Layered). map (λ (l : Layer). l.choices) h.layers) held ∙ made.choices
          ∙ ap (λ (h : Layered). map (λ (l : Layer). l.choices) h.layers) is;
      label =
          λ cs h. ap (λ (k : Layered). label_of k cs) held
          ∙ made.label cs (subst (λ (k : Layered). AreChoices k.layers cs) (sym is) h)
          ∙ ap (λ (k : Layered). label_of k cs) is;
      reduced = subst (λ (h : Layered). AreReduced h.layers) (sym held) made.reduced;
      sizes =
          λ j. subst (λ (h : Layered). length (layer_at h.layers j).rows ≤ length (layer_at (layers_of ds) j).rows)
          (sym held) (subst (λ (k : Layered). length (layer_at c.in_ok-reduced.reduced.layers j).rows
          ≤ length (layer_at k.layers j).rows) is (made.sizes j));
    }

pub returns-in_err-drafts-clause-wide : goal.returns-in_err-drafts-clause-wide
returns-in_err-drafts-clause-wide c = passed_on _ _ c.from_residual.result c.from_residual.ensures.1 (λ trouble same is.
    (rw (c.deref.ensures.value, c.deref-2.ensures.value) at c.in_err-drafts.ensures.wide) (sym same ∙ is))
