use Rattle.std.proofs.Common.{ℕ, ◌∙◌, List, subst, sym, ap, arith}
use Rattle.decision_graphs.specs.Label.{Layered, AreLayers}
use Rattle.judge_graphs.specs.PartnerLabels.{AreInnersOf, AreLeastLabels, IsMerged, IsRenamed}
use Rattle.judge_graphs.proofs.MergedLemmas.{merged_self}
use Rattle.judge_graphs.proofs.merged.merged.Goals as goal

pub names_of-requires : goal.names_of-requires
names_of-requires c =
    subst (λ n. AreInnersOf n c.args.inners.now)
    (sym (c.labels.ensures.count ∙ ap (λ (g : Layered). g.labels) c.as_ref-graph.ensures)) c.requires.inners

pub returns-then-keep_all : goal.returns-then-keep_all
returns-then-keep_all c =
    let outer : Layered = c.args.outer.now.value in
    let inners : List Layered = c.args.inners.now in
    let count = c.labels.ensures.count ∙ ap (λ (g : Layered). g.labels) c.as_ref-graph.ensures in
    let names : List ℕ = c.in_ok-names.names.items in
    let least : AreLeastLabels inners outer.labels names =
    subst (λ n. AreLeastLabels inners n names) count c.in_ok-names.ensures in
    let fits : AreLayers outer.labels outer.layers =
    subst (λ (g : Layered). AreLayers g.labels g.layers) c.as_ref-graph.ensures c.labels.ensures.layered in
    let all = rw c.deref.ensures.value at (c.keep_all.ensures c.if-keep_all.true) in
    subst (λ (g : Layered). IsMerged outer inners g) (sym c.in_ok-same.ensures.cases)
    (merged_self outer inners names least fits c.requires.reduced (λ x lt. all x (omega (arith, lt, least.count))))

pub returns : goal.returns
returns c =
    let outer : Layered = c.args.outer.now.value in
    let inners : List Layered = c.args.inners.now in
    let count = c.labels.ensures.count ∙ ap (λ (g : Layered). g.labels) c.as_ref-graph.ensures in
    let names : List ℕ = c.in_ok-names.names.items in
    let least : AreLeastLabels inners outer.labels names =
    subst (λ n. AreLeastLabels inners n names) count c.in_ok-names.ensures in
    let copy : Layered = c.in_ok-copy.copy in
    let e = c.in_ok-copy.ensures in
    let renamed : IsRenamed outer names copy =
    subst (λ (g : Layered). IsRenamed g names copy) c.as_ref-graph.ensures
    (subst (λ xs. IsRenamed c.as_ref-graph.result.now xs copy) c.deref-2.ensures.value e.renamed) in
    let merged : IsMerged outer inners copy = record {
      names = names;
      least = least;
      renamed = renamed;
      labels = e.labels ∙ ap (λ (g : Layered). g.labels) c.as_ref-graph.ensures;
      reduced = e.reduced;
      fits = e.fits;
    } in
    subst (λ (g : Layered). IsMerged outer inners g) (sym c.in_ok-held.ensures.ok) merged
