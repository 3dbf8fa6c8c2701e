use Rattle.std.proofs.Common.{◌≡◌, ◌+◌, [], replicate, None, sym, ap, ◌∙◌}
use Rattle.station_graph.specs.Diagram.{part_count}
use Rattle.bay_frames.specs.declared.frame.Body.TheVariants.{Reserve}
use Rattle.bay_protocol.specs.State.{others}
use Rattle.bay_protocol.specs.Step.{OpenStep}
use Rattle.bay_node.proofs.Ways.{if_ok, each_none, none_long}
use Rattle.bay_node.proofs.node.Node.open.Goals as goal

pub returns-then-len-eq0-clause-step : goal.returns-then-len-eq0-clause-step
returns-then-len-eq0-clause-step g c =
    let h : c.in_ok-none.field-0 ≡ replicate (part_count c.args.station.now) None =
    c.in_ok-none.ensures ∙ ap (λ n. replicate n None) c.part_count.ensures.count in
    let top : c.self.inside.highest ≡ c.args.self.now.highest = ap (λ s. s.highest) c.self.view_is in
    let empty : c.in_ok-frames.frames ≡ [] = none_long c.in_ok-frames.frames (sym c.len.ensures ∙ c.if-len-eq0.true) in
    let nobody : others c.args.station.now c.self.inside.bay.0 ≡ [] =
    each_none c.self.inside.bay.0 (c.self.inside.highest + 1) Reserve (others c.args.station.now c.self.inside.bay.0)
    (sym c.in_ok-frames.ensures ∙ empty) in
    if_ok _ _ c.decide.result c.decide.ensures.step
    (λ out step. OpenStep.alone (rw (← c.self.view_is) nobody) (rw (← h, ← top) step))
