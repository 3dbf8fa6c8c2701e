use Rattle.std.proofs.Common.{◌++◌, ◌∷◌, [], length, refl, ap, ◌∙◌}
use Rattle.std.proofs.lemmas.Option.{slice_get_read}
use Rattle.judge_graphs.proofs.PartnerNaming.{start_node, start_edge, entries_more}
use Rattle.judge_graphs.proofs.label_names.entries_of.Goals as goal

pub edge-requires : goal.edge-requires
edge-requires c =
    let at = slice_get_read c.args.inners.now (length c.args.inners.now) c.loop-inner.inner-index c.inner-item.result
    refl c.loop-inner-test.true c.inner-item.is in
    start_edge c.args.labels c.inner-item.result c.args.label
    (c.requires.inners c.loop-inner.inner-index c.inner-item.result at) c.requires.label

pub loop-inner-preserved : goal.loop-inner-preserved
loop-inner-preserved c =
    let at = slice_get_read c.args.inners.now (length c.args.inners.now) c.loop-inner.inner-index c.inner-item.result
    refl c.loop-inner-test.true c.inner-item.is in
    let node = start_node c.args.labels c.inner-item.result
    (c.requires.inners c.loop-inner.inner-index c.inner-item.result at) in
    c.in_ok-push.ensures.items
    ∙ (ap (λ xs. xs ++ c.edge.result ∷ []) c.loop-inner.invariant
    ∙ entries_more c.args.inners.now c.loop-inner.inner-index c.args.label c.edge.result c.inner-item.result
    c.loop-inner-test.true c.inner-item.is (c.edge.ensures 0 0 node))
