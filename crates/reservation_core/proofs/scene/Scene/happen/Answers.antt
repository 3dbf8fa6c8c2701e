use Rattle.std.proofs.Common.{◌<◌, length, sym, subst}
use Rattle.station_graph.specs.Diagram.{Diagram}
use Rattle.central_rules.specs.Meaning.{bay_of}
use Rattle.reservation_core.specs.Happens.{BeginHappens, EndHappens}
use Rattle.reservation_core.proofs.ForCode.{bay_there}
use Rattle.reservation_core.proofs.scene.Scene.happen.Goals as goal

pub begin-requires-clause-there : goal.begin-requires-clause-there
begin-requires-clause-there g c =
    let lt : c.in-Begin.switch.0 < length c.args.station.now.switches = rw c.in-Begin.is at c.requires.range in
    subst (λ (d : Diagram). bay_of d c.in-Begin.switch.0 < length c.args.self.now.nodes) c.requires.same
    (bay_there (g.J.Judge.meaning c.args.judge.now) c.args.self.now c.in-Begin.switch.0 c.diagram_is_station.ensures
    c.requires.facts (subst (λ (d : Diagram). c.in-Begin.switch.0 < length d.switches) (sym c.requires.same) lt))

pub end-requires-clause-there : goal.end-requires-clause-there
end-requires-clause-there g c =
    let lt : c.in-End.switch.0 < length c.args.station.now.switches = rw c.in-End.is at c.requires.range in
    subst (λ (d : Diagram). bay_of d c.in-End.switch.0 < length c.args.self.now.nodes) c.requires.same
    (bay_there (g.J.Judge.meaning c.args.judge.now) c.args.self.now c.in-End.switch.0 c.diagram_is_station.ensures
    c.requires.facts (subst (λ (d : Diagram). c.in-End.switch.0 < length d.switches) (sym c.requires.same) lt))

pub returns-in-Begin-clause-step : goal.returns-in-Begin-clause-step
returns-in-Begin-clause-step g c =
    rw c.in-Begin.is
    (subst (λ (d : Diagram). BeginHappens d c.args.self.now c.in-Begin.switch.0 c.begin.new.self c.begin.result)
    (sym c.requires.same) c.begin.ensures)

pub returns-in-End-clause-step : goal.returns-in-End-clause-step
returns-in-End-clause-step g c =
    rw c.in-End.is (subst (λ (d : Diagram). EndHappens d c.args.self.now c.in-End.switch.0 c.end.new.self c.end.result)
    (sym c.requires.same) c.end.ensures)
