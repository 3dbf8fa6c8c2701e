use Rattle.std.proofs.Common.{◌≡◌, refl, sym, subst}
use Rattle.std.specs.Prelude.{IsTrue, ◌↔◌}
use Rattle.station_graph.specs.declared.items.Switch.{Switch}
use Rattle.station_graph.specs.declared.items.Link.{Link}
use Rattle.station_graph.specs.declared.items.Tap.{Tap}
use Rattle.station_graph.specs.Connection.{a_switch, a_link, a_tap}
use Rattle.station_graph.specs.Sharing.{AtSwitch, AtLink, AtTap}
use Rattle.step_graphs.specs.declared.step.Step.{Step}
use Rattle.step_graphs.specs.declared.step.Step.TheVariants.{OfSwitch, OfLink, OfTap}
use Rattle.step_graphs.specs.Steps.{StepTouches}
use Rattle.step_graphs.proofs.StepLemmas.{touch_told, step_told}
use Rattle.step_graphs.proofs.spans.step_touches.Goals as goal

pub returns-in-OfSwitch : goal.returns-in-OfSwitch
returns-in-OfSwitch c =
    let d = c.args.station.now in
    let n = c.args.node in
    let r = c.switch_touches.result in
    subst (λ (s : Step). IsTrue r ↔ StepTouches d s n) (sym c.in-OfSwitch.is)
    (step_told d (OfSwitch c.in-OfSwitch.id) (a_switch c.in-OfSwitch.id.0) n r refl
    (touch_told (λ (x : Switch). AtSwitch x n) d.switches c.in-OfSwitch.id.0 c.switch.result r c.switch.ensures.value
    c.switch_touches.ensures))

pub returns-in-OfLink : goal.returns-in-OfLink
returns-in-OfLink c =
    let d = c.args.station.now in
    let n = c.args.node in
    let r = c.link_touches.result in
    subst (λ (s : Step). IsTrue r ↔ StepTouches d s n) (sym c.in-OfLink.is)
    (step_told d (OfLink c.in-OfLink.i) (a_link c.in-OfLink.i) n r refl
    (touch_told (λ (x : Link). AtLink x n) d.links c.in-OfLink.i c.link.result r c.link.ensures.value
    c.link_touches.ensures))

pub returns-in-OfTap : goal.returns-in-OfTap
returns-in-OfTap c =
    let d = c.args.station.now in
    let n = c.args.node in
    let r = c.tap_touches.result in
    subst (λ (s : Step). IsTrue r ↔ StepTouches d s n) (sym c.in-OfTap.is)
    (step_told d (OfTap c.in-OfTap.i) (a_tap c.in-OfTap.i) n r refl
    (touch_told (λ (x : Tap). AtTap x n) d.taps c.in-OfTap.i c.tap.result r c.tap.ensures.value
    c.tap_touches.ensures))
