use Rattle.std.proofs.Common.{◌≡◌, length, slice_get, get_or, Some, subst, arith}
use Rattle.short_equations.specs.Edges.{AddsThrough}
use Rattle.std.proofs.lemmas.Option.{slice_get-get_or}
use Rattle.short_equations.specs.declared.edge.Way.{Way}
use Rattle.interlock_terms.proofs.TermLemmas.{grew_not, grew_on}
use Rattle.short_equations.proofs.EliminateLemmas.{through_step, through_pass}
use Rattle.short_equations.proofs.elimination.add_through.Goals as goal
use Rattle.short_equations.proofs.elimination.add_through.Goals.{then-from-lt-FIRST_MARK+in_ok-add_from}
use Rattle.short_equations.proofs.elimination.add_through.Goals.{else-from-lt-FIRST_MARK}

abbrev none : Way
none = record { to = record { 0 = 0 }; term = 0 }

pub loop-i-preserved : goal.loop-i-preserved
loop-i-preserved c =
    let ways = c.args.ways.now in
    let i = c.loop-i.i in
    let way = get_or ways i none in
    let at : slice_get ways i ≡ Some way = slice_get-get_or ways i none c.loop-i-test.true in
    let terms = c.loop-i.terms in
    let old = c.args.edges.now.items in
    let mid = c.loop-i.edges.items in
    elim c.if-from-lt-FIRST_MARK.branch [
      | then-from-lt-FIRST_MARK+in_ok-add_from w ↦
          rw (w.terms-is, w.edges-is) (
            grew_on _ _ _ c.loop-i.invariant.0 w.in_ok-add_from.ensures.grew,
            w.in_ok-add_from.ensures.edges,
            through_step terms _ w.in_ok-add_from.ensures.grew old mid ways i way at c.loop-i.invariant.2 _
                w.if-from-lt-FIRST_MARK.true w.in_ok-add_from.ensures.adds,
          )
      | else-from-lt-FIRST_MARK w ↦
          rw (w.terms-is, w.edges-is) (
            c.loop-i.invariant.0,
            c.loop-i.invariant.1,
            through_pass terms terms (grew_not terms) old mid ways i way at c.loop-i.invariant.2
                w.if-from-lt-FIRST_MARK.false,
          )
    ]

pub returns-clause-adds : goal.returns-clause-adds
returns-clause-adds c =
    let ways = c.args.ways.now in
    let e : c.loop-i.i ≡ length ways = omega arith in
    subst (λ k. AddsThrough c.loop-i.terms c.args.edges.now.items ways k c.loop-i.edges.items) e
    c.loop-i.invariant.2
