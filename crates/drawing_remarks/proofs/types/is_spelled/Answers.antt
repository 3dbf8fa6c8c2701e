use Rattle.std.proofs.Common.{◌∙◌, ap, sym}
use Rattle.std.specs.List.{list_any}
use Rattle.std.proofs.lemmas.List.{take_all}
use Rattle.drawing_remarks.specs.Types.{same_letters}
use Rattle.drawing_remarks.proofs.Words.{any_texts}
use Rattle.drawing_remarks.proofs.types.is_spelled.Goals as goal

pub returns : goal.returns
returns c =
    let word = c.args.word.now in
    c.loop-other.invariant
    ∙ (ap (list_any (λ w. same_letters word w.now)) (take_all c.loop-other.other-index c.args.words.now c.loop-other-test.false)
    ∙ sym (any_texts (same_letters word) c.args.words.now))
