use Rattle.std.proofs.Common.{subst}
use Rattle.contraction.specs.Restricting.{WordsAt}
use Rattle.contraction.proofs.layout.Layout.write_labels.Goals as goal

pub returns : goal.returns
returns c =
    subst (λ p. WordsAt c.args.wide.now p c.label_words.new.row) c.as_slice.ensures.value c.label_words.ensures
