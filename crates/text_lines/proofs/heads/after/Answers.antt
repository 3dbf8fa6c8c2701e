use Rattle.std.proofs.Common.{◌≢◌, ◌∙◌, sym, subst, true, false, None, Some}
use Rattle.std.proofs.lemmas.List.{append_cancel_left}
use Rattle.std.proofs.lemmas.Slice.Eq.{strip_prefix_is}
use Rattle.std.proofs.lemmas.Bool.Decides.{Decides-eqb}
use Rattle.text_lines.specs.Lines.{EndsPlainly}
use Rattle.text_lines.proofs.heads.after.Goals as goal

true_is_not_false : true ≢ false
true_is_not_false e = cc

pub returns-in_default-clause-none : goal.returns-in_default-clause-none
returns-in_default-clause-none c = λ rest continues. strip_prefix_is Decides-eqb c.args.line.now c.args.head.now None
    c.in_default.ensures.cases rest continues.is

pub returns-then-not-ends_plainly-clause-none : goal.returns-then-not-ends_plainly-clause-none
returns-then-not-ends_plainly-clause-none c = λ rest continues.
    let found = strip_prefix_is Decides-eqb c.args.line.now c.args.head.now (Some c.in-Some.rest)
    c.in-Some.ensures.cases in
    let same = append_cancel_left c.args.head.now rest c.in-Some.rest.now (sym continues.is ∙ found) in
    true_is_not_false (sym (c.ends_plainly.ensures.1 (subst EndsPlainly same continues.ends))
    ∙ c.if-not-ends_plainly.true)

pub returns-clause-some : goal.returns-clause-some
returns-clause-some c = record {
  is = strip_prefix_is Decides-eqb c.args.line.now c.args.head.now (Some c.in-Some.rest) c.in-Some.ensures.cases;
  ends = c.ends_plainly.ensures.0 c.if-not-ends_plainly.false;
}
