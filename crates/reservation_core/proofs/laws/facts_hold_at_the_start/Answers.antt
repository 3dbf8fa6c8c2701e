use Rattle.std.proofs.Common.{List, length, slice_get, sym, ap, ◌∙◌}
use Rattle.bay_frames.specs.declared.frame.Frame.{Frame}
use Rattle.reservation_core.proofs.Starting.{starts}
use Rattle.reservation_core.proofs.laws.facts_hold_at_the_start.Goals as goal

pub returns-clause-scene : goal.returns-clause-scene
returns-clause-scene g c = λ start w is. starts (g.J.Judge.meaning c.args.judge.now) start w is

pub returns-clause-world : goal.returns-clause-world
returns-clause-world g c = λ start w is. record {
  facts = starts (g.J.Judge.meaning c.args.judge.now) start w.scene is.scene;
  count = ap length is.beside ∙ sym (ap length is.scene.sent);
  words = λ k f s got. absurd (cc (ap (λ (xs : List Frame). slice_get xs k) (sym is.scene.sent) ∙ got));
}

pub returns-clause-rounds : goal.returns-clause-rounds
returns-clause-rounds g c = λ w facts. record { rounds = facts.facts.rounds; count = facts.count }
