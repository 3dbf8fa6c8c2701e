use Rattle.std.proofs.Common.{sym, subst, arith, replicate, true, false}
use Rattle.std.proofs.lemmas.List.{get_or-replicate}
use Rattle.decision_graphs.specs.LaidOut.{lists_in}
use Rattle.decision_graphs.specs.Reaching.{LeadsInto}
use Rattle.decision_graphs.specs.Shapes.{shape_at}
use Rattle.decision_graphs.proofs.FrontierLemmas.{LeadsInto-whole}
use Rattle.decision_graphs.proofs.WayLemmas.{Spread-ways, ways_fit}
use Rattle.decision_graphs.proofs.reach.spread_layer.Goals as goal

pub mark_all-requires : goal.mark_all-requires
mark_all-requires c = omega (
  arith,
  ways_fit (lists_in c.args.graph.now) c.args.layer c.requires.whole c.requires.layer,
  c.in-Some.ensures.count,
  c.requires.places,
)

pub spread_rows-requires-clause-leads : goal.spread_rows-requires-clause-leads
spread_rows-requires-clause-leads c =
    let g = lists_in c.args.graph.now in
    subst (λ n. LeadsInto (shape_at g c.args.layer) g.edges n) (sym c.requires.places)
    (LeadsInto-whole g c.args.layer c.requires.whole c.requires.layer)

pub returns-in-Some : goal.returns-in-Some
returns-in-Some c =
    let g = lists_in c.args.graph.now in
    let s = shape_at g c.args.layer in
    Spread-ways s g.edges c.in-Some.ways.now (replicate s.choices true) c.args.seen.now c.mark_all.new.seen
    (c.requires.whole.laid.stands c.args.layer c.requires.layer).choices c.in-Some.ensures.ways c.in-Some.ensures.marked
    (λ b lt. get_or-replicate s.choices b true false lt) c.mark_all.ensures
