use Rattle.std.proofs.Common.{◌≡◌, ◌+◌, ◌++◌, ℕ, List, length, set, Option, Some, refl, sym, subst, ap, ◌∙◌, arith}
use Rattle.station_graph.specs.Diagram.{Diagram}
use Rattle.station_graph.specs.declared.limits.TheConstants.{BAYS}
use Rattle.bay_protocol.specs.Step.{Step}
use Rattle.bay_protocol.specs.Fits.{EventFits}
use Rattle.bay_protocol.specs.Output.{turn}
use Rattle.bay_protocol.specs.State.{State}
use Rattle.reservation_core.specs.Scene.{node}
use Rattle.reservation_core.proofs.ForCode.{placed, nobody, later, told}
use Rattle.reservation_core.proofs.scene.Scene.turn.Goals as goal

pub step-requires-clause-node : goal.step-requires-clause-node
step-requires-clause-node g c =
    rw (← c.requires.same) ((placed (g.J.Judge.meaning c.args.judge.now) c.args.self.now c.args.bay.0 c.from.result
    c.self.inside.nodes.items c.index_mut.result.now c.in-Some.node c.requires.facts (rw c.requires.same c.requires.bay)
    (ap (λ s. s.nodes) c.self.view_is) c.from.ensures c.index_mut.ensures.value c.in-Some.is).good)

pub step-requires-clause-fits : goal.step-requires-clause-fits
step-requires-clause-fits g c =
    (placed (g.J.Judge.meaning c.args.judge.now) c.args.self.now c.args.bay.0 c.from.result c.self.inside.nodes.items
    c.index_mut.result.now c.in-Some.node c.requires.facts (rw c.requires.same c.requires.bay)
    (ap (λ s. s.nodes) c.self.view_is) c.from.ensures c.index_mut.ensures.value c.in-Some.is).fits

pub unreachable-requires : goal.unreachable-requires
unreachable-requires g c =
    nobody (g.J.Judge.meaning c.args.judge.now) c.args.self.now c.args.bay.0 c.from.result c.self.inside.nodes.items
    c.index_mut.result.now c.requires.facts (rw c.requires.same c.requires.bay) (ap (λ s. s.nodes) c.self.view_is)
    c.from.ensures c.index_mut.ensures.value c.in-None.is

pub post-requires : goal.post-requires
post-requires g c =
    let p =
    placed (g.J.Judge.meaning c.args.judge.now) c.args.self.now c.args.bay.0 c.from.result c.self.inside.nodes.items
    c.index_mut.result.now c.in-Some.node c.requires.facts (rw c.requires.same c.requires.bay)
    (ap (λ s. s.nodes) c.self.view_is) c.from.ensures c.index_mut.ensures.value c.in-Some.is in
    let few =
    c.step_gives.ensures.few c.in-Some.node c.args.event (turn c.step.new.self c.in_ok-output-in-Some.output) p.good
    (subst (λ (d : Diagram). EventFits d c.in-Some.node.bay c.args.event) (sym c.requires.same)
    (subst (λ (b : ℕ). EventFits c.args.station.now b c.args.event) (sym p.name) c.requires.event)) (subst
    (λ (d : Diagram). Step (g.J.Judge.meaning c.args.judge.now) d c.in-Some.node c.args.event
    (turn c.step.new.self c.in_ok-output-in-Some.output)) (sym c.requires.same) c.in_ok-output-in-Some.ensures.step) in
    let bays : BAYS ≡ 64 = refl in
    omega (arith, few, bays, c.in_ok-reserve.ensures.ok, ap length c.frames.ensures)

pub returns-clause-step : goal.returns-clause-step
returns-clause-step g c =
    let p =
    placed (g.J.Judge.meaning c.args.judge.now) c.args.self.now c.args.bay.0 c.from.result c.self.inside.nodes.items
    c.index_mut.result.now c.in-Some.node c.requires.facts (rw c.requires.same c.requires.bay)
    (ap (λ s. s.nodes) c.self.view_is) c.from.ensures c.index_mut.ensures.value c.in-Some.is in
    record {
      turn = turn c.step.new.self c.in_ok-output-in-Some.output;
      step =
          subst (λ (x : State). Step (g.J.Judge.meaning c.args.judge.now) (g.J.Judge.meaning c.args.judge.now).diagram x
          c.args.event (turn c.step.new.self c.in_ok-output-in-Some.output)) (sym p.here) (subst
          (λ (d : Diagram). Step (g.J.Judge.meaning c.args.judge.now) d c.in-Some.node c.args.event
          (turn c.step.new.self c.in_ok-output-in-Some.output)) (sym c.requires.same)
          c.in_ok-output-in-Some.ensures.step);
      world = later c.args.self.now c.args.bay.0 c.step.new.self c.in_ok-output-in-Some.output.frames _ _ _ _
          (ap (λ (k : ℕ). set c.self.inside.nodes.items k (Some c.step.new.self)) c.from.ensures
          ∙ ap (λ (n : List (Option State)). set n c.args.bay.0 (Some c.step.new.self))
          (ap (λ s. s.nodes) c.self.view_is))
          (ap (λ s. s.truth) c.self.view_is) (ap (λ s. s.drives) c.self.view_is)
          (c.post.ensures
          ∙ (ap (λ xs. xs ++ c.frames.result.now) (c.in_ok-reserve.ensures.items ∙ ap (λ s. s.sent) c.self.view_is)
          ∙ ap (λ xs. c.args.self.now.sent ++ xs) c.frames.ensures));
      says =
          told (length c.args.self.now.sent) c.args.bay.0 (c.len.result + 1)
          (node (g.J.Judge.meaning c.args.judge.now).diagram c.args.self.now c.args.bay.0) c.step.new.self c.args.bay
          c.in_ok-output-in-Some.output refl
          (omega (arith, c.len.ensures, ap (λ s. length s.sent) c.self.view_is, c.self.inside.sent.ok))
          (rw p.here c.in_ok-output-in-Some.ensures.keep);
    }
