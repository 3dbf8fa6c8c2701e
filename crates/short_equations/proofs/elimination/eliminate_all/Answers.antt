use Rattle.std.proofs.Common.{◌≡◌, length, slice_get, get_or, Some, sym, subst, arith}
use Rattle.std.proofs.lemmas.Option.{slice_get-get_or}
use Rattle.ilk_base.specs.declared.words.NodeId.{NodeId}
use Rattle.short_equations.specs.Edges.{StandsFor, AreEdges, EliminatesNode}
use Rattle.interlock_terms.proofs.TermLemmas.{grew_not, grew_on}
use Rattle.short_equations.proofs.AllLemmas.{stands_none, stands_step}
use Rattle.short_equations.proofs.elimination.eliminate_all.Goals as goal

abbrev none : NodeId
none = record { 0 = 0 }

pub loop-i-init : goal.loop-i-init
loop-i-init c = (
  grew_not c.args.terms.now,
  subst AreEdges (sym c.in_ok-left.ensures.items) c.requires.edges,
  stands_none c.args.terms.now c.args.nodes.now c.args.edges.now c.in_ok-left.left.items
      c.in_ok-left.ensures.items,
)

pub loop-i-preserved : goal.loop-i-preserved
loop-i-preserved c =
    let nodes = c.args.nodes.now in
    let i = c.loop-i.i in
    let node = get_or nodes i none in
    let at : slice_get nodes i ≡ Some node = slice_get-get_or nodes i none c.loop-i-test.true in
    let before = c.loop-i.terms in
    let after = c.eliminate.new.terms in
    let mid = c.loop-i.left.items in
    let new = c.in_ok-fewer.fewer.items in
    let grew = c.in_ok-fewer.ensures.grew in (
      grew_on _ _ _ c.loop-i.invariant.0 grew,
      c.in_ok-fewer.ensures.edges,
      stands_step before after nodes i node c.args.edges.now mid new grew at c.loop-i.invariant.2
          (subst (λ es. EliminatesNode after node.0 es new) c.deref.ensures.value c.in_ok-fewer.ensures.eliminates),
    )

pub returns-clause-stands : goal.returns-clause-stands
returns-clause-stands c =
    let nodes = c.args.nodes.now in
    let e : c.loop-i.i ≡ length nodes = omega arith in
    subst (λ k. StandsFor c.loop-i.terms nodes k c.args.edges.now c.loop-i.left.items) e
    c.loop-i.invariant.2

pub eliminate-requires-clause-edges : goal.eliminate-requires-clause-edges
eliminate-requires-clause-edges c = subst AreEdges (sym c.deref.ensures.value) c.loop-i.invariant.1

pub eliminate-requires-clause-node : goal.eliminate-requires-clause-node
eliminate-requires-clause-node c =
    let nodes = c.args.nodes.now in
    let i = c.loop-i.i in
    c.requires.nodes i (get_or nodes i none) (slice_get-get_or nodes i none c.loop-i-test.true)

pub returns-clause-grew : goal.returns-clause-grew
returns-clause-grew c = c.loop-i.invariant.0

pub returns-clause-edges : goal.returns-clause-edges
returns-clause-edges c = c.loop-i.invariant.1
