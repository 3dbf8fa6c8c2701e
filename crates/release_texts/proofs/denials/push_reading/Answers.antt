use Rattle.std.proofs.Common.{refl}
use Rattle.denial_explain.specs.ExplanationText.{explanation_text}
use Rattle.release_texts.specs.ExplainText.{TellsReading}
use Rattle.release_texts.proofs.AddLemmas.{added}
use Rattle.release_texts.proofs.denials.push_reading.Goals as goal

pub returns-clause-ok : goal.returns-clause-ok
returns-clause-ok c =
    let d = c.args.station.now in
    let words = c.args.readings.now in
    let v = c.args.reading.now in
    let e = c.in_ok-explanation.explanation in
    added c.push_explanation.result (TellsReading d words c.args.op v) c.args.text.now.text
    c.push_explanation.new.text.text (explanation_text d words v e) c.push_explanation.ensures.ok
    (e, c.in_ok-explanation.ensures.explains, refl)
