use Rattle.std.proofs.Common.{◌∙◌, sym}
use Rattle.equation_text.proofs.WordLemmas.{lacks_position, cut_same}
use Rattle.equation_text.proofs.words.cut.Goals as goal

pub returns-in_default-clause-none : goal.returns-in_default-clause-none
returns-in_default-clause-none c = lacks_position c.args.byte c.args.text.now (sym c.first.ensures ∙ c.in_default.is)

pub returns-clause-some : goal.returns-clause-some
returns-clause-some c = cut_same c.args.byte c.args.text.now c.in-Some.end (sym c.first.ensures ∙ c.in-Some.is)
