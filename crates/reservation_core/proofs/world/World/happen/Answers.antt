use Rattle.std.proofs.Common.{◌≡◌, ◌≤◌, ◌∙◌, length, refl, sym, subst, ap, arith}
use Rattle.station_graph.specs.Diagram.{Diagram}
use Rattle.station_graph.specs.declared.limits.TheConstants.{BAYS}
use Rattle.reservation_core.specs.World.{World}
use Rattle.reservation_core.specs.RoundFacts.{RoundFacts}
use Rattle.reservation_core.specs.Happens.{InRange}
use Rattle.reservation_core.specs.Beside.{IsCopied}
use Rattle.reservation_core.proofs.Added.{added}
use Rattle.reservation_core.proofs.Gives.{gives}
use Rattle.reservation_core.proofs.ForWorld.{grows, answers_alone, sent_few, words_kept}
use Rattle.reservation_core.proofs.world.World.happen.Goals as goal

pub sent_after-requires : goal.sent_after-requires
sent_after-requires g c =
    let low : length c.self.inside.scene.sent ≤ length c.happen.new.self.sent =
    grows (g.J.Judge.meaning c.args.judge.now) c.diagram_is_station.ensures c.self.inside.scene c.happen.new.self
    c.args.event c.in_ok-outcome.outcome (subst (RoundFacts (g.J.Judge.meaning c.args.judge.now))
    (sym (ap (λ (w : World). w.scene) c.self.view_is)) c.requires.facts.rounds)
    (subst (λ (d : Diagram). InRange d c.args.event) (sym c.requires.same) c.requires.range)
    c.in_ok-outcome.ensures.step in
    omega (arith, low, c.count-count.ensures)

pub keep-requires-clause-room : goal.keep-requires-clause-room
keep-requires-clause-room g c =
    let few =
    (gives (g.J.Judge.meaning c.args.judge.now) c.diagram_is_station.ensures c.self.inside.scene c.happen.new.self
    c.args.event c.in_ok-outcome.outcome (subst (RoundFacts (g.J.Judge.meaning c.args.judge.now))
    (sym (ap (λ (w : World). w.scene) c.self.view_is)) c.requires.facts.rounds)
    (subst (λ (d : Diagram). InRange d c.args.event) (sym c.requires.same) c.requires.range)
    c.in_ok-outcome.ensures.step).few in
    let short =
    sent_few (g.J.Judge.meaning c.args.judge.now) c.args.station.now c.requires.same c.self.inside.scene
    c.args.self.now.scene c.happen.new.self (ap (λ (w : World). w.scene) c.self.view_is) c.in_ok-copy.copy (added
    (g.J.Judge.meaning c.args.judge.now) c.diagram_is_station.ensures c.happen.new.self c.in_ok-outcome.outcome
    c.in_ok-copy.copy c.self.inside.scene (subst (RoundFacts (g.J.Judge.meaning c.args.judge.now))
    (sym (ap (λ (w : World). w.scene) c.self.view_is)) c.requires.facts.rounds) c.args.event
    (subst (λ (d : Diagram). InRange d c.args.event) (sym c.requires.same) c.requires.range) (subst
    (λ (d : Diagram). IsCopied d c.self.inside.scene c.args.event c.in_ok-copy.copy) (sym c.requires.same)
    c.in_ok-copy.ensures) c.in_ok-outcome.ensures.step) c.count-count.result c.count-count.ensures
    c.sent_after.result.now c.sent_after.ensures few in
    let bays : BAYS ≡ 64 = refl in
    omega (arith, short, bays, c.in_ok-reserve.ensures.ok)

pub keep-requires-clause-alone : goal.keep-requires-clause-alone
keep-requires-clause-alone g c =
    answers_alone (g.J.Judge.meaning c.args.judge.now) c.args.station.now c.requires.same c.self.inside.scene
    c.args.self.now.scene c.happen.new.self (ap (λ (w : World). w.scene) c.self.view_is) c.in_ok-copy.copy (added
    (g.J.Judge.meaning c.args.judge.now) c.diagram_is_station.ensures c.happen.new.self c.in_ok-outcome.outcome
    c.in_ok-copy.copy c.self.inside.scene (subst (RoundFacts (g.J.Judge.meaning c.args.judge.now))
    (sym (ap (λ (w : World). w.scene) c.self.view_is)) c.requires.facts.rounds) c.args.event
    (subst (λ (d : Diagram). InRange d c.args.event) (sym c.requires.same) c.requires.range) (subst
    (λ (d : Diagram). IsCopied d c.self.inside.scene c.args.event c.in_ok-copy.copy) (sym c.requires.same)
    c.in_ok-copy.ensures) c.in_ok-outcome.ensures.step) c.count-count.result c.count-count.ensures
    c.sent_after.result.now c.sent_after.ensures

pub returns-clause-words : goal.returns-clause-words
returns-clause-words g c =
    words_kept (g.J.Judge.meaning c.args.judge.now) c.args.station.now c.requires.same c.self.inside.scene
    c.args.self.now.scene c.happen.new.self (ap (λ (w : World). w.scene) c.self.view_is) c.in_ok-copy.copy (added
    (g.J.Judge.meaning c.args.judge.now) c.diagram_is_station.ensures c.happen.new.self c.in_ok-outcome.outcome
    c.in_ok-copy.copy c.self.inside.scene (subst (RoundFacts (g.J.Judge.meaning c.args.judge.now))
    (sym (ap (λ (w : World). w.scene) c.self.view_is)) c.requires.facts.rounds) c.args.event
    (subst (λ (d : Diagram). InRange d c.args.event) (sym c.requires.same) c.requires.range) (subst
    (λ (d : Diagram). IsCopied d c.self.inside.scene c.args.event c.in_ok-copy.copy) (sym c.requires.same)
    c.in_ok-copy.ensures) c.in_ok-outcome.ensures.step) c.count-count.result c.count-count.ensures
    c.sent_after.result.now c.sent_after.ensures c.args.self.now.beside c.reserve.new.self.items c.keep.new.beside.items
    (c.in_ok-reserve.ensures.items ∙ ap (λ (w : World). w.beside) c.self.view_is) c.keep.ensures
