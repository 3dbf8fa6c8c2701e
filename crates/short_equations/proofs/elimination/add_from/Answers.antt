use Rattle.std.proofs.Common.{◌≡◌, length, slice_get, get_or, Some, subst, arith}
use Rattle.std.proofs.lemmas.Option.{slice_get-get_or}
use Rattle.short_equations.specs.declared.edge.Way.{Way}
use Rattle.short_equations.specs.Edges.{AddsFrom}
use Rattle.interlock_terms.proofs.TermLemmas.{grew_not, grew_on, both_grew}
use Rattle.short_equations.proofs.EliminateLemmas.{from_step, from_pass}
use Rattle.short_equations.proofs.elimination.add_from.Goals as goal
use Rattle.short_equations.proofs.elimination.add_from.Goals.{then-from-way+in_ok-term+in_ok-add_edge, else-from-way}

abbrev none : Way
none = record { to = record { 0 = 0 }; term = 0 }

pub loop-i-preserved : goal.loop-i-preserved
loop-i-preserved c =
    let ways = c.args.ways.now in
    let i = c.loop-i.i in
    let way = get_or ways i none in
    let at : slice_get ways i ≡ Some way = slice_get-get_or ways i none c.loop-i-test.true in
    let terms = c.loop-i.terms in
    let old = c.args.edges.now.items in
    let mid = c.loop-i.edges.items in
    elim c.if-from-way.branch [
      | then-from-way+in_ok-term+in_ok-add_edge w ↦
          let grew = grew_on _ _ _ w.in_ok-term.ensures.grew w.in_ok-add_edge.ensures.grew in
          rw (w.terms-is, w.edges-is) (
            grew_on _ _ _ c.loop-i.invariant.0 grew,
            w.in_ok-add_edge.ensures.edges,
            from_step terms _ grew old mid c.args.from ways i way at c.loop-i.invariant.2 w.in_ok-term.term _
                w.if-from-way.true
                (both_grew _ _ _ _ _ w.in_ok-add_edge.ensures.grew w.in_ok-term.ensures.means) w.in_ok-add_edge.ensures.adds,
          )
      | else-from-way w ↦
          rw (w.terms-is, w.edges-is) (
            c.loop-i.invariant.0,
            c.loop-i.invariant.1,
            from_pass terms terms (grew_not terms) old mid c.args.from ways i way at c.loop-i.invariant.2
                w.if-from-way.false,
          )
    ]

pub returns-clause-adds : goal.returns-clause-adds
returns-clause-adds c =
    let ways = c.args.ways.now in
    let e : c.loop-i.i ≡ length ways = omega arith in
    subst
    (λ k. AddsFrom c.loop-i.terms c.args.edges.now.items c.args.from ways k c.loop-i.edges.items) e
    c.loop-i.invariant.2
