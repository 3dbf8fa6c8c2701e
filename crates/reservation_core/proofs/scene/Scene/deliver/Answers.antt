use Rattle.std.proofs.Common.{subst}
use Rattle.station_graph.specs.Diagram.{Diagram}
use Rattle.central_rules.specs.Meaning.{IsBay}
use Rattle.bay_node.proofs.Ways.{if_ok}
use Rattle.reservation_core.specs.Happens.{DeliverHappens}
use Rattle.reservation_core.proofs.ForCode.{message_fits, delivered}
use Rattle.reservation_core.proofs.scene.Scene.deliver.Goals as goal

pub encode-len-requires : goal.encode-len-requires
encode-len-requires g c =
    (message_fits (g.J.Judge.meaning c.args.judge.now) c.args.self.now c.args.message c.in-Some.frame c.requires.facts
    c.in-Some.ensures).lawful

pub hand-requires-clause-bay : goal.hand-requires-clause-bay
hand-requires-clause-bay g c =
    subst (λ (d : Diagram). IsBay d c.in-Some.frame.to.0) c.requires.same (message_fits
    (g.J.Judge.meaning c.args.judge.now) c.args.self.now c.args.message c.in-Some.frame c.requires.facts
    c.in-Some.ensures).receiver.0

pub returns-clause-step : goal.returns-clause-step
returns-clause-step g c =
    let fits =
    message_fits (g.J.Judge.meaning c.args.judge.now) c.args.self.now c.args.message c.in-Some.frame c.requires.facts
    c.in-Some.ensures in
    if_ok _ _ c.hand.result c.hand.ensures.step (λ out step. DeliverHappens.comes c.in-Some.frame c.in-Some.ensures
    (delivered (g.J.Judge.meaning c.args.judge.now) c.args.self.now c.hand.new.self c.in-Some.frame.to.0 c.in-Some.frame
    _ out c.one_frame_for_a_row.ensures c.encode-len.ensures.fits fits.lawful c.encode-len.ensures.row step))
