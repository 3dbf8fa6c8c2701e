use Rattle.std.proofs.Common.{◌≡◌, ◌<◌, ◌++◌, List, [], length, get_or, refl, sym, subst, ap, ◌∙◌}
use Rattle.std.proofs.Common.{arith}
use Rattle.station_graph.specs.Diagram.{Diagram, part_count}
use Rattle.reservation_core.specs.Scene.{node}
use Rattle.reservation_core.specs.Concern.{concern}
use Rattle.reservation_core.specs.RoundFacts.{FrameFits}
use Rattle.reservation_core.specs.Happens.{InRange}
use Rattle.reservation_core.specs.World.{World}
use Rattle.trip_core.specs.declared.values.Note.{Note}
use Rattle.trip_core.specs.Learning.{CountsOf, number_of, concern_of}
use Rattle.trip_core.proofs.ForCode.{task_fits, refused, turn_done}
use Rattle.trip_core.proofs.world.TripWorld.turn_noted.Goals as goal

pub learning-learning-requires-clause-there : goal.learning-learning-requires-clause-there
learning-learning-requires-clause-there g c =
    let fit = (task_fits (g.J.Judge.meaning c.args.judge.now) c.args.self.now.world.scene c.args.event
    (concern_of c.args.task.now) c.diagram_is_station.ensures c.requires.facts.rounds (subst (λ
    (d : Diagram). InRange d c.args.event) (sym c.requires.same) c.requires.range) (ap (λ
    (d : Diagram). concern d c.args.self.now.world.scene c.args.event) c.requires.same ∙ c.requires.task)) in
    omega (arith, fit.bay.0, c.requires.facts.rounds.shape.nodes, ap (λ s. length s.world.scene.nodes) c.self.view_is)

pub learning-learning-requires-clause-frame : goal.learning-learning-requires-clause-frame
learning-learning-requires-clause-frame g c =
    let fit = (task_fits (g.J.Judge.meaning c.args.judge.now) c.args.self.now.world.scene c.args.event
    (concern_of c.args.task.now) c.diagram_is_station.ensures c.requires.facts.rounds (subst (λ
    (d : Diagram). InRange d c.args.event) (sym c.requires.same) c.requires.range) (ap (λ
    (d : Diagram). concern d c.args.self.now.world.scene c.args.event) c.requires.same ∙ c.requires.task)) in
    λ f comes. subst (λ (d : Diagram). FrameFits d f × (f.to.0 ≡ c.args.task.now.bay.0)) c.requires.same (fit.frame f comes)

pub returns-then-is_premise-clause-step : goal.returns-then-is_premise-clause-step
returns-then-is_premise-clause-step g c =
    refused (g.J.Judge.meaning c.args.judge.now) c.args.station.now c.requires.same c.args.self.now (record {
      world =
          c.act.new.self;
      sensed = c.self.inside.sensed.items;
      tripped = c.self.inside.tripped.items;
      beside = c.reserve.new.self.items;
      known = c.self.inside.known.items;
      events =
          c.self.inside.events;
    }) c.args.event c.in_ok-outcome.outcome
    (rw (← c.self.view_is) c.in_ok-outcome.ensures.step) (rw (← c.self.view_is) c.in_ok-outcome.ensures.words)
    (c.is_premise.ensures.broken c.if-is_premise.true) (rw (← c.self.view_is) c.in_ok-outcome.ensures.unchanged)
    (rw (← c.self.view_is, c.in_ok-reserve.ensures.items) refl)

pub note-requires-clause-each : goal.note-requires-clause-each
note-requires-clause-each g c =
    let fit = (task_fits (g.J.Judge.meaning c.args.judge.now) c.args.self.now.world.scene c.args.event
    (concern_of c.args.task.now) c.diagram_is_station.ensures c.requires.facts.rounds (subst (λ
    (d : Diagram). InRange d c.args.event) (sym c.requires.same) c.requires.range) (ap (λ
    (d : Diagram). concern d c.args.self.now.world.scene c.args.event) c.requires.same ∙ c.requires.task)) in
    let part : c.args.task.now.bay.0 < part_count c.args.station.now = omega (
      arith,
      fit.bay.0,
      ap (λ
          (d : Diagram). part_count d) c.requires.same,
    ) in
    let known : length (get_or c.self.inside.known.items c.args.task.now.bay.0 []) ≡ length
    (get_or c.args.self.now.known c.args.task.now.bay.0 []) = rw (← c.self.view_is) refl in
    known ∙ c.requires.clocked.each_note c.args.task.now.bay.0 part

pub returns-clause-step : goal.returns-clause-step
returns-clause-step g c =
    let old : c.reserve.new.self.items ≡ c.args.self.now.beside = rw (← c.self.view_is) c.in_ok-reserve.ensures.items in
    let sent : c.sent.result ≡ length c.note.new.self.world.scene.sent = c.sent.ensures ∙ ap (λ
    (w : World). length w.scene.sent) (sym c.note.ensures.world) in
    let long : c.len-before.result ≡ length c.reserve.new.self.items = omega (arith, c.len-before.ensures) in
    let before : c.len-before.result ≡ length c.args.self.now.beside = long ∙ ap (λ (x : List
    (List Note)). length x) old in
    turn_done (g.J.Judge.meaning c.args.judge.now) c.args.station.now c.requires.same c.args.self.now c.note.new.self
    c.args.event c.in_ok-outcome.outcome
    (rw (← c.self.view_is, c.note.ensures.world) c.in_ok-outcome.ensures.step) (rw
    (← c.self.view_is, c.note.ensures.world) c.in_ok-outcome.ensures.words)
    (concern_of c.args.task.now) c.args.own.now c.args.said.now c.args.spare.now.items c.learning-learning.result
    c.diagram_is_station.ensures c.requires.facts.rounds c.requires.clocked c.requires.range c.requires.task
    (c.is_premise.ensures.none c.if-is_premise.false) (record {
      own_is = rw c.requires.same c.requires.own;
      said_is = c.requires.said;
      from = rw (← c.self.view_is) (subst (λ (d : Diagram). CountsOf (g.J.Judge.meaning c.args.judge.now)
          (node d c.self.inside.world.scene c.args.task.now.bay.0) c.args.task.now.event
          (number_of c.learning-learning.result.from)) (sym c.requires.same) c.learning-learning.ensures.from);
      collected = rw (← c.self.view_is, c.requires.same) c.learning-learning.ensures.collected;
      granted = rw (← c.self.view_is, c.requires.same) c.learning-learning.ensures.granted;
      first = c.requires.first;
      enough = c.requires.enough;
      few = rw (← c.self.view_is, c.note.ensures.world) c.act.ensures.few;
      beside =
          c.note.ensures.beside ∙ (c.in-Ok.ensures.items ∙ (ap (λ (x : List
          (List Note)). x ++ c.truncate.new.self.items) old
          ∙ ap (λ (x : List (List Note)). c.args.self.now.beside ++ x) (c.truncate.ensures.items ∙ rw
          (sent, before) refl)));
      tripped = rw (← c.self.view_is) c.note.ensures.tripped;
      events = rw (← c.self.view_is) c.note.ensures.events;
      sensed = rw (← c.self.view_is) c.note.ensures.sensed;
      each_known = rw (← c.self.view_is) c.note.ensures.each_known;
      others = rw (← c.self.view_is) c.note.ensures.others;
      each_note = rw c.requires.same c.note.ensures.each_note;
      learned = rw (← c.self.view_is, c.requires.same, c.note.ensures.world) c.note.ensures.learned;
    })
