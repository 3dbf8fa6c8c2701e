use Rattle.std.proofs.Common.{◌≡◌, Bool, List, Option, subst, ◌∙◌}
use Rattle.std.specs.Prelude.{◌↔◌, IsTrue}
use Rattle.ilk_base.specs.declared.words.Rule.{Rule}
use Rattle.station_graph.specs.Supply.{Apart}
use Rattle.commissioning_tests.specs.Answering.{AreAnswers}
use Rattle.commissioning_tests.specs.Growing.{AreMovesOf}
use Rattle.commissioning_tests.proofs.moves.position_of.Goals as goal

pub returns-clause-moves : goal.returns-clause-moves
returns-clause-moves c =
    let vector : c.in_ok-vector.vector ≡ c.args.closed.items = c.in_ok-vector.ensures ∙ c.deref.ensures.value in
    subst (λ (v : List Bool). AreMovesOf c.args.station.now c.args.operations.now c.args.asked.now c.args.found.now.positions.items v
    c.in_ok-answers.answers.items c.in_ok-moves.moves.items) vector
    (subst (λ (l : List (Option Rule)). AreMovesOf c.args.station.now c.args.operations.now c.args.asked.now c.args.found.now.positions.items
    c.in_ok-vector.vector l c.in_ok-moves.moves.items) c.deref-2.ensures.value c.in_ok-moves.ensures)

pub returns-clause-position : goal.returns-clause-position
returns-clause-position c =
    let vector : c.in_ok-vector.vector ≡ c.args.closed.items = c.in_ok-vector.ensures ∙ c.deref.ensures.value in
    let moves = returns-clause-moves c in
    record {
      vector = c.requires.vector;
      answers =
          subst (λ (v : List Bool). AreAnswers c.args.station.now c.args.operations.now v
          c.in_ok-answers.answers.items) vector c.in_ok-answers.ensures;
      sound =
          subst (λ (v : List Bool). IsTrue c.in_ok-sound.sound ↔ Apart c.args.station.now v) vector
          c.in_ok-sound.ensures;
      moves = moves.each;
      rising = moves.rising;
    }
