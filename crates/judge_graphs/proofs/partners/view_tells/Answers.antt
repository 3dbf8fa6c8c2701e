use Rattle.std.proofs.Common.{◌≡◌, ◌<◌, ◌↔◌, length, get_or, true, false, sym, ap, ◌∙◌, subst, arith}
use Rattle.decision_graphs.specs.Label.{Layered, AreLayers, AreReduced, DependsOn}
use Rattle.judge_graphs.proofs.PartnerMerging.{depends_exactly}
use Rattle.judge_graphs.proofs.MergedLemmas.{merged_count}
use Rattle.judge_graphs.proofs.partners.view_tells.Goals as goal

pub reduced_dependencies-requires : goal.reduced_dependencies-requires
reduced_dependencies-requires c =
    subst (λ (g : Layered). AreReduced g.layers) (sym c.as_ref-2.ensures) c.requires.merged.reduced

pub returns-clause-count : goal.returns-clause-count
returns-clause-count c =
    let g = c.args.graphs.now in
    let fits = subst (λ (x : Layered). AreLayers x.labels x.layers) c.as_ref.ensures c.labels-labels.ensures.layered in
    c.in_ok-told.ensures.count
    ∙ (ap (λ (x : Layered). length x.layers) c.as_ref-2.ensures
    ∙ merged_count g.outer.value g.inner.items g.merged.value c.requires.merged fits)

pub returns-clause-told : goal.returns-clause-told
returns-clause-told c =
    let g = c.args.graphs.now in
    let m = c.requires.merged in
    let fits = subst (λ (x : Layered). AreLayers x.labels x.layers) c.as_ref.ensures c.labels-labels.ensures.layered in
    λ j lt.
    let same = depends_exactly g.outer.value g.inner.items fits c.requires.inners m.names m.least g.merged.value m.renamed j
    lt in
    let len = merged_count g.outer.value g.inner.items g.merged.value m fits in
    let is = subst (λ (x : Layered). (j < length x.layers) → (get_or c.in_ok-told.told.items j false ≡ true) ↔ DependsOn x j)
    c.as_ref-2.ensures (c.in_ok-told.ensures.exact j) (omega (arith, lt, len)) in
    (λ t. same.0 (is.0 t), λ d. is.1 (same.1 d))
