use Rattle.std.proofs.Common.{refl, sym, subst}
use Rattle.station_graph.specs.declared.items.Switch.{Switch}
use Rattle.station_graph.specs.declared.items.Link.{Link}
use Rattle.station_graph.specs.declared.items.Tap.{Tap}
use Rattle.station_graph.specs.Connection.{a_switch, a_link, a_tap}
use Rattle.station_graph.specs.Sharing.{AtSwitch, AtLink, AtTap}
use Rattle.step_graphs.specs.declared.step.Step.{Step}
use Rattle.step_graphs.specs.declared.step.Step.TheVariants.{OfSwitch, OfLink, OfTap, OfNothing}
use Rattle.step_graphs.specs.Steps.{StepTouches}
use Rattle.step_graphs.specs.Touching.{AreTouched}
use Rattle.step_graphs.proofs.TouchLemmas.{touched_as, touched_nothing, item_touches, nothing_touches, at_its_place}
use Rattle.step_graphs.proofs.spans.touch_step.Goals as goal

pub returns-in-OfSwitch : goal.returns-in-OfSwitch
returns-in-OfSwitch c =
    let d = c.args.station.now in
    let id = c.in-OfSwitch.id in
    let x = c.switch.result in
    let olds = c.args.spans.now.items in
    let news = c.touch_switch.new.spans.items in
    subst (λ (s : Step). AreTouched (StepTouches d s) c.args.i olds news) (sym c.in-OfSwitch.is)
    (touched_as (AtSwitch x) (StepTouches d (OfSwitch id)) c.args.i olds news
    (item_touches d (OfSwitch id) (a_switch id.0) (AtSwitch x) refl
    (λ n. at_its_place (λ (y : Switch). AtSwitch y n) d.switches id.0 x c.switch.ensures.value))
    c.touch_switch.ensures)

pub returns-in-OfLink : goal.returns-in-OfLink
returns-in-OfLink c =
    let d = c.args.station.now in
    let k = c.in-OfLink.k in
    let x = c.link.result in
    let olds = c.args.spans.now.items in
    let news = c.touch_link.new.spans.items in
    subst (λ (s : Step). AreTouched (StepTouches d s) c.args.i olds news) (sym c.in-OfLink.is)
    (touched_as (AtLink x) (StepTouches d (OfLink k)) c.args.i olds news
    (item_touches d (OfLink k) (a_link k) (AtLink x) refl
    (λ n. at_its_place (λ (y : Link). AtLink y n) d.links k x c.link.ensures.value))
    c.touch_link.ensures)

pub returns-in-OfTap : goal.returns-in-OfTap
returns-in-OfTap c =
    let d = c.args.station.now in
    let k = c.in-OfTap.k in
    let x = c.tap.result in
    let olds = c.args.spans.now.items in
    let news = c.touch.new.spans.items in
    subst (λ (s : Step). AreTouched (StepTouches d s) c.args.i olds news) (sym c.in-OfTap.is)
    (touched_as (AtTap x) (StepTouches d (OfTap k)) c.args.i olds news
    (item_touches d (OfTap k) (a_tap k) (AtTap x) refl
    (λ n. at_its_place (λ (y : Tap). AtTap y n) d.taps k x c.tap.ensures.value))
    c.touch.ensures)

pub returns-in-OfNothing : goal.returns-in-OfNothing
returns-in-OfNothing c =
    let d = c.args.station.now in
    let olds = c.args.spans.now.items in
    subst (λ (s : Step). AreTouched (StepTouches d s) c.args.i olds olds) (sym c.in-OfNothing.is)
    (touched_nothing (StepTouches d OfNothing) c.args.i olds (nothing_touches d))
