use Rattle.std.proofs.Common.{◌≡◌, length, slice_get, get_or, Some, subst, arith}
use Rattle.std.proofs.lemmas.Option.{slice_get-get_or}
use Rattle.short_equations.specs.declared.edge.Edge.{Edge}
use Rattle.short_equations.specs.Edges.{AddsAll}
use Rattle.interlock_terms.proofs.TermLemmas.{grew_not, grew_on}
use Rattle.short_equations.proofs.AllLemmas.{all_none, all_step}
use Rattle.short_equations.proofs.elimination.add_all.Goals as goal

abbrev none : Edge
none = record { first = record { 0 = 0 }; second = record { 0 = 0 }; term = 0 }

pub loop-i-init : goal.loop-i-init
loop-i-init c = (
  grew_not c.args.terms.now,
  c.requires.edges,
  all_none c.args.terms.now c.args.edges.now.items c.args.more.now,
)

pub loop-i-preserved : goal.loop-i-preserved
loop-i-preserved c =
    let more = c.args.more.now in
    let i = c.loop-i.i in
    let e = get_or more i none in
    let at : slice_get more i ≡ Some e = slice_get-get_or more i none c.loop-i-test.true in
    let grew = c.in_ok-add_edge.ensures.grew in (
      grew_on _ _ _ c.loop-i.invariant.0 grew,
      c.in_ok-add_edge.ensures.edges,
      all_step c.loop-i.terms _ c.args.edges.now.items more i e c.loop-i.edges.items _ grew at
          c.loop-i.invariant.2 c.in_ok-add_edge.ensures.adds,
    )

pub returns-clause-adds : goal.returns-clause-adds
returns-clause-adds c =
    let more = c.args.more.now in
    let e : c.loop-i.i ≡ length more = omega arith in
    subst (λ k. AddsAll c.loop-i.terms c.args.edges.now.items more k c.loop-i.edges.items) e
    c.loop-i.invariant.2

pub add_edge-requires-clause-edges : goal.add_edge-requires-clause-edges
add_edge-requires-clause-edges c = c.loop-i.invariant.1

pub add_edge-requires-clause-edge : goal.add_edge-requires-clause-edge
add_edge-requires-clause-edge c =
    let more = c.args.more.now in
    let i = c.loop-i.i in
    c.requires.more i (get_or more i none) (slice_get-get_or more i none c.loop-i-test.true)

pub returns-clause-grew : goal.returns-clause-grew
returns-clause-grew c = c.loop-i.invariant.0

pub returns-clause-edges : goal.returns-clause-edges
returns-clause-edges c = c.loop-i.invariant.1
