use Rattle.equation_text.specs.Entries.{has_entry}
use Rattle.equation_text.proofs.LinesBefore.{passed_first, passed_next, passed_found, passed_all}
use Rattle.equation_text.proofs.LinesBefore.{names_it, names_none}
use Rattle.equation_text.proofs.undefined.lines_before.Goals as goal

pub loop-line-init : goal.loop-line-init
loop-line-init c = passed_first c.args.text.now

pub loop-line-preserved : goal.loop-line-preserved
loop-line-preserved c = passed_next c.args.text.now c.loop-line.left.now c.loop-line.count c.loop-line.invariant
    c.in-Some.line.now c.in-Some.rest.now c.in-Some.ensures.some.first c.in-Some.ensures.some.is (names_none
    c.args.text.now (has_entry c.args.entries.now) c.requires.defined c.in-Some.line.now (c.all_kept.ensures.yes
    c.if-not-all_kept.false))

pub returns-then-not-all_kept : goal.returns-then-not-all_kept
returns-then-not-all_kept c = passed_found c.args.text.now c.loop-line.left.now c.loop-line.count c.loop-line.invariant
    c.in-Some.line.now c.in-Some.rest.now c.in-Some.ensures.some.first c.in-Some.ensures.some.is (names_it
    c.args.text.now (has_entry c.args.entries.now) c.requires.defined c.in-Some.line.now (c.all_kept.ensures.no
    c.if-not-all_kept.true))

pub returns : goal.returns
returns c = passed_all c.args.text.now c.loop-line.left.now c.loop-line.count c.loop-line.invariant
    c.in_default.ensures.none
