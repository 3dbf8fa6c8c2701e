use Rattle.std.proofs.Common.{◌≡◌, ◌<◌, ℕ, length, subst}
use Rattle.station_graph.specs.Diagram.{Diagram}
use Rattle.central_rules.specs.Meaning.{bay_of}
use Rattle.reservation_core.specs.Scene.{node}
use Rattle.reservation_core.proofs.ForCode.{bay_there}
use Rattle.reservation_core.proofs.Steps.{bay_of_is}
use Rattle.trip_core.proofs.world.TripWorld.turn.Goals as goal

pub own_notes-requires-clause-there : goal.own_notes-requires-clause-there
own_notes-requires-clause-there g c =
    subst (λ (d : Diagram). (i : ℕ) → i < length d.switches
    → bay_of d i < length c.args.self.now.world.scene.nodes) c.requires.same
    (λ i lt. bay_there
    (g.J.Judge.meaning c.args.judge.now) c.args.self.now.world.scene i c.diagram_is_station.ensures
    c.requires.facts.rounds lt)

pub own_notes-requires-clause-words : goal.own_notes-requires-clause-words
own_notes-requires-clause-words g c =
    subst (λ (d : Diagram). (i : ℕ) → i < length d.switches → length (node d c.args.self.now.world.scene
    (bay_of d i)).words ≡ length d.switches) c.requires.same
    (λ i lt. (c.requires.facts.rounds.rounds (bay_of (g.J.Judge.meaning c.args.judge.now).diagram i) (bay_of_is
    (g.J.Judge.meaning c.args.judge.now).diagram i c.diagram_is_station.ensures lt)).words)
