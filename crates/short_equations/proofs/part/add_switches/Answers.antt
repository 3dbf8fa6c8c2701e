use Rattle.std.proofs.Common.{◌≡◌, ◌+◌, length, subst, arith}
use Rattle.station_graph.specs.Connection.{a_switch}
use Rattle.contraction.specs.Single.{Only}
use Rattle.interlock_terms.proofs.TermLemmas.{grew_not, grew_on}
use Rattle.short_equations.specs.ItemEdges.{AddsSight}
use Rattle.short_equations.specs.PartItems.{SwitchesBelow}
use Rattle.short_equations.proofs.PartStepLemmas.{begins, then_more, same_items, switch_adds, no_switches, wide_switches}
use Rattle.short_equations.proofs.PartStepLemmas.{more_switches, fewer_switches, same_switches, ends_fit}
use Rattle.short_equations.proofs.part.add_switches.Goals as goal
use Rattle.short_equations.proofs.part.add_switches.Goals.{then-is_chosen+in_ok-add_switch, else-is_chosen}

pub add_switch-requires-clause-fits : goal.add_switch-requires-clause-fits
add_switch-requires-clause-fits c =
    ends_fit c.args.station.now c.switch-switch.result c.switch-switch.ensures.station c.switch-switch.ensures.fits

pub loop-i-init : goal.loop-i-init
loop-i-init c = (
  grew_not c.args.terms.now,
  c.requires.edges,
  begins c.args.view c.args.station.now (SwitchesBelow c.args.station.now c.args.part.0 c.args.skip.0 0)
      (no_switches c.args.station.now c.args.part.0 c.args.skip.0) c.args.terms.now c.args.edges.now.items,
)

pub loop-i-preserved : goal.loop-i-preserved
loop-i-preserved c =
    let d = c.args.station.now in
    let view = c.args.view in
    let part = c.args.part.0 in
    let skip = c.args.skip.0 in
    let k = c.loop-i.i in
    let x = c.switch-switch.result in
    let listed = c.switch-switch.ensures.value in
    let before = c.loop-i.terms in
    let old = c.args.edges.now.items in
    let mid = c.loop-i.edges.items in
    elim c.if-is_chosen.branch [
      | then-is_chosen+in_ok-add_switch w ↦
          let grew = w.in_ok-add_switch.ensures.grew in
          let chosen = c.is_chosen.ensures.0 w.if-is_chosen.true in
          rw (w.terms-is, w.edges-is) (
            grew_on _ _ _ c.loop-i.invariant.0 grew,
            w.in_ok-add_switch.ensures.edges,
            then_more view d (SwitchesBelow d part skip k) (Only (a_switch k)) (SwitchesBelow d part skip (k + 1))
                (fewer_switches d part skip k x listed) (more_switches d part skip k x listed chosen.0 chosen.1) before _
                grew old mid _ c.loop-i.invariant.2
                (switch_adds view d k x listed _ mid _ w.in_ok-add_switch.ensures.adds),
          )
      | else-is_chosen w ↦
          rw (w.terms-is, w.edges-is) (
            c.loop-i.invariant.0,
            c.loop-i.invariant.1,
            same_items view d (SwitchesBelow d part skip k) (SwitchesBelow d part skip (k + 1))
                (same_switches d part skip k x listed
                (λ h. let yes = c.is_chosen.ensures.1 h in let no_one = w.if-is_chosen.false in cc))
                (wide_switches d part skip k) before old mid c.loop-i.invariant.2,
          )
    ]

pub returns-clause-adds : goal.returns-clause-adds
returns-clause-adds c =
    let d = c.args.station.now in
    let count = c.switch_count-i-end.ensures.count in
    let e : c.loop-i.i ≡ length d.switches = omega (arith, count) in
    subst (λ k. AddsSight c.args.view c.loop-i.terms c.args.edges.now.items
    (SwitchesBelow d c.args.part.0 c.args.skip.0 k) d c.loop-i.edges.items) e c.loop-i.invariant.2
