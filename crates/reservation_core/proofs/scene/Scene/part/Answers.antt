use Rattle.std.proofs.Common.{◌≡◌, ◌<◌, length, take, sym, subst, ap, ◌∙◌, arith}
use Rattle.station_graph.specs.Diagram.{Diagram}
use Rattle.central_rules.specs.Meaning.{IsBay}
use Rattle.bay_frames.specs.Row.{frame_row}
use Rattle.bay_node.proofs.Ways.{if_ok}
use Rattle.reservation_core.specs.Happens.{PartHappens}
use Rattle.reservation_core.proofs.ForCode.{message_fits, parted, row_positive, take_front}
use Rattle.reservation_core.proofs.scene.Scene.part.Goals as goal

pub encode-len-requires : goal.encode-len-requires
encode-len-requires g c =
    (message_fits (g.J.Judge.meaning c.args.judge.now) c.args.self.now c.args.message c.in-Some.frame c.requires.facts
    c.in-Some.ensures).lawful

pub hand-requires-clause-bay : goal.hand-requires-clause-bay
hand-requires-clause-bay g c =
    subst (λ (d : Diagram). IsBay d c.in-Some.frame.to.0) c.requires.same (message_fits
    (g.J.Judge.meaning c.args.judge.now) c.args.self.now c.args.message c.in-Some.frame c.requires.facts
    c.in-Some.ensures).receiver.0

pub returns-clause-step : goal.returns-clause-step
returns-clause-step g c =
    let fits =
    message_fits (g.J.Judge.meaning c.args.judge.now) c.args.self.now c.args.message c.in-Some.frame c.requires.facts
    c.in-Some.ensures in
    let positive = row_positive c.in-Some.frame in
    let low : c.min-arrive.result < length (frame_row c.in-Some.frame) =
    omega (arith, positive, c.min-arrive.ensures, c.encode-len.ensures.len) in
    let front : take c.min-arrive.result c.encode-len.new.into ≡ take c.min-arrive.result (frame_row c.in-Some.frame) =
    sym (take_front c.min-arrive.result c.encode-len.result c.encode-len.new.into
    (omega (arith, low, c.encode-len.ensures.len))) ∙ ap (λ xs. take c.min-arrive.result xs) c.encode-len.ensures.row in
    if_ok _ _ c.hand.result c.hand.ensures.step (λ out step.
    let it =
    parted (g.J.Judge.meaning c.args.judge.now) c.args.self.now c.hand.new.self c.in-Some.frame.to.0 c.in-Some.frame _
    c.min-arrive.result out c.requires.facts fits.receiver.0 c.no_front_is_a_row.ensures c.encode-len.ensures.fits
    low front step in
    subst (λ (d : Diagram). PartHappens d c.args.self.now c.args.message c.hand.new.self out) c.requires.same
    (PartHappens.nothing c.in-Some.frame c.in-Some.ensures it.same it.says))
