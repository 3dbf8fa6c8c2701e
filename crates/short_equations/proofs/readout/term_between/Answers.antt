use Rattle.std.proofs.Common.{◌≡◌, length, slice_get, get_or, Some, subst, arith}
use Rattle.std.proofs.lemmas.Option.{slice_get-get_or}
use Rattle.short_equations.specs.declared.edge.Edge.{Edge}
use Rattle.short_equations.specs.Edges.{MeansWay}
use Rattle.interlock_terms.proofs.TermLemmas.{grew_not, grew_on}
use Rattle.short_equations.proofs.ReadoutLemmas.{way_none, way_step, way_pass}
use Rattle.short_equations.proofs.readout.term_between.Goals as goal
use Rattle.short_equations.proofs.readout.term_between.Goals.{then-is_between+in_ok-term, else-is_between}

abbrev none : Edge
none = record { first = record { 0 = 0 }; second = record { 0 = 0 }; term = 0 }

pub loop-i-init : goal.loop-i-init
loop-i-init c = (
  grew_not c.args.terms.now,
  way_none c.args.terms.now c.args.edges.now c.args.first.0 c.args.second.0,
)

pub loop-i-preserved : goal.loop-i-preserved
loop-i-preserved c =
    let edges = c.args.edges.now in
    let i = c.loop-i.i in
    let e = get_or edges i none in
    let at : slice_get edges i ≡ Some e = slice_get-get_or edges i none c.loop-i-test.true in
    let before = c.loop-i.terms in
    elim c.if-is_between.branch [
      | then-is_between+in_ok-term w ↦
          let is = c.is_between.ensures.0 w.if-is_between.true in
          let grew = w.in_ok-term.ensures.grew in
          rw (w.terms-is, w.found-is) (
            grew_on _ _ _ c.loop-i.invariant.0 grew,
            way_step edges i e at (c.requires.edges i e at) c.args.first c.args.second c.requires.rises before _ grew
                c.loop-i.found c.loop-i.invariant.1 w.in_ok-term.term is.0 is.1 w.in_ok-term.ensures.means,
          )
      | else-is_between w ↦
          rw (w.terms-is, w.found-is) (
            c.loop-i.invariant.0,
            way_pass edges i e at (c.requires.edges i e at) c.args.first c.args.second c.requires.rises before before
                (grew_not before) c.loop-i.found c.loop-i.invariant.1
                (λ h. let yes = c.is_between.ensures.1 h in let no_one = w.if-is_between.false in cc),
          )
    ]

pub returns-clause-means : goal.returns-clause-means
returns-clause-means c =
    let edges = c.args.edges.now in
    let e : c.loop-i.i ≡ length edges = omega arith in
    subst (λ k. MeansWay c.loop-i.terms edges k c.args.first.0 c.args.second.0 c.loop-i.found) e
    c.loop-i.invariant.1
