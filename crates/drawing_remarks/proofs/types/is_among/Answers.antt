use Rattle.std.proofs.Common.{◌∙◌, ap, sym}
use Rattle.std.specs.List.{list_any}
use Rattle.std.proofs.lemmas.List.{take_all}
use Rattle.std.specs.Str.{bytes_eq}
use Rattle.drawing_remarks.proofs.Words.{any_texts}
use Rattle.drawing_remarks.proofs.types.is_among.Goals as goal

pub returns : goal.returns
returns c =
    let word = c.args.word.now in
    c.loop-other.invariant
    ∙ (ap (list_any (λ w. bytes_eq word w.now)) (take_all c.loop-other.other-index c.args.words.now c.loop-other-test.false)
    ∙ sym (any_texts (bytes_eq word) c.args.words.now))
