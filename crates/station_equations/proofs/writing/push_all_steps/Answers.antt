use Rattle.std.proofs.Common.{◌∙◌, ◌++◌, ◌∷◌, [], List, ℕ, length, refl, ap}
use Rattle.std.proofs.lemmas.Option.{slice_get_read}
use Rattle.part_alphabets.specs.declared.fork.PartStep.{PartStep}
use Rattle.station_equations.specs.EquationLines.{PartLines}
use Rattle.station_equations.specs.EquationText.{step_line, numbered, text_of}
use Rattle.station_equations.proofs.TextLemmas.{written_more}
use Rattle.station_equations.proofs.writing.push_all_steps.Goals as goal

pub loop-i-preserved : goal.loop-i-preserved
loop-i-preserved c =
    let parts = c.args.parts.now in
    let x = c.index-parts-i.result in
    let lines : ℕ → PartLines → List (List ℕ) = λ p y. numbered (λ m (s : PartStep). step_line p m s ∷ []) y.steps in
    written_more lines parts c.loop-i.i x _ _ _
    (slice_get_read parts (length parts) c.loop-i.i x refl c.loop-i-test.true c.index-parts-i.is) c.loop-i.invariant
    (c.in_ok-push_steps.ensures
    ∙ ap (λ (steps : List PartStep). c.loop-i.text
    ++ text_of (numbered (λ m (s : PartStep). step_line c.loop-i.i m s ∷ []) steps)) c.steps.ensures)
