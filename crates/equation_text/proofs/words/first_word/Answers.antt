use Rattle.std.proofs.Common.{◌∙◌, sym}
use Rattle.equation_text.proofs.WordLemmas.{word_at, word_all}
use Rattle.equation_text.proofs.words.first_word.Goals as goal

pub returns-in_default : goal.returns-in_default
returns-in_default c = word_all c.args.text.now (sym c.first.ensures ∙ c.in_default.is)

pub returns : goal.returns
returns c = word_at c.args.text.now c.in-Some.end (sym c.first.ensures ∙ c.in-Some.is)
