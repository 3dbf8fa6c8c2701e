use Rattle.std.proofs.Common.{◌≡◌, ◌+◌, length, subst, arith}
use Rattle.station_graph.specs.Connection.{a_tap}
use Rattle.contraction.specs.Single.{Only}
use Rattle.interlock_terms.proofs.TermLemmas.{grew_not, grew_on}
use Rattle.short_equations.specs.ItemEdges.{AddsSight}
use Rattle.short_equations.specs.PartItems.{TapsBelow}
use Rattle.short_equations.proofs.PartStepLemmas.{begins, then_more, same_items, tap_adds, no_taps, wide_taps}
use Rattle.short_equations.proofs.PartStepLemmas.{more_taps, fewer_taps, same_taps}
use Rattle.short_equations.proofs.part.add_taps.Goals as goal
use Rattle.short_equations.proofs.part.add_taps.Goals.{then-is_of+in_ok-add_tap, else-is_of}

pub loop-i-init : goal.loop-i-init
loop-i-init c = (
  grew_not c.args.terms.now,
  c.requires.edges,
  begins c.args.view c.args.station.now (TapsBelow c.args.station.now c.args.part.0 0)
      (no_taps c.args.station.now c.args.part.0 0) c.args.terms.now c.args.edges.now.items,
)

pub loop-i-preserved : goal.loop-i-preserved
loop-i-preserved c =
    let d = c.args.station.now in
    let view = c.args.view in
    let part = c.args.part.0 in
    let k = c.loop-i.i in
    let x = c.tap-tap.result in
    let listed = c.tap-tap.ensures.value in
    let before = c.loop-i.terms in
    let old = c.args.edges.now.items in
    let mid = c.loop-i.edges.items in
    elim c.if-is_of.branch [
      | then-is_of+in_ok-add_tap w ↦
          let grew = w.in_ok-add_tap.ensures.grew in
          let own = c.is_of.ensures.0 w.if-is_of.true in
          rw (w.terms-is, w.edges-is) (
            grew_on _ _ _ c.loop-i.invariant.0 grew,
            w.in_ok-add_tap.ensures.edges,
            then_more view d (TapsBelow d part k) (Only (a_tap k)) (TapsBelow d part (k + 1))
                (fewer_taps d part 0 k x listed) (more_taps d part 0 k x listed own) before _
                grew old mid _ c.loop-i.invariant.2
                (tap_adds view d k x listed _ mid _ w.in_ok-add_tap.ensures.adds),
          )
      | else-is_of w ↦
          rw (w.terms-is, w.edges-is) (
            c.loop-i.invariant.0,
            c.loop-i.invariant.1,
            same_items view d (TapsBelow d part k) (TapsBelow d part (k + 1))
                (same_taps d part 0 k x listed
                (λ h. let yes = c.is_of.ensures.1 h in let no_one = w.if-is_of.false in cc))
                (wide_taps d part 0 k) before old mid c.loop-i.invariant.2,
          )
    ]

pub returns-clause-adds : goal.returns-clause-adds
returns-clause-adds c =
    let d = c.args.station.now in
    let count = c.tap_count-i-end.ensures.count in
    let e : c.loop-i.i ≡ length d.taps = omega (arith, count) in
    subst (λ k. AddsSight c.args.view c.loop-i.terms c.args.edges.now.items
    (TapsBelow d c.args.part.0 k) d c.loop-i.edges.items) e c.loop-i.invariant.2
