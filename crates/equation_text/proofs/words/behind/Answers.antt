use Rattle.std.proofs.Common.{None, Some}
use Rattle.std.proofs.lemmas.Slice.Eq.{strip_prefix_is}
use Rattle.std.proofs.lemmas.Bool.Decides.{Decides-eqb}
use Rattle.equation_text.proofs.words.behind.Goals as goal

pub returns-in_default-clause-none : goal.returns-in_default-clause-none
returns-in_default-clause-none c =
    strip_prefix_is Decides-eqb c.args.line.now c.args.head.now None c.in_default.ensures.cases

pub returns-clause-some : goal.returns-clause-some
returns-clause-some c = strip_prefix_is Decides-eqb c.args.line.now c.args.head.now
    (Some c.in-Some.rest) c.in-Some.ensures.cases
