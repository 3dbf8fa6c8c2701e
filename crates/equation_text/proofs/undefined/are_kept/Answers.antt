use Rattle.equation_text.specs.Entries.{has_entry}
use Rattle.equation_text.proofs.NumberLemmas.{words_first, words_next, words_lost, words_kept}
use Rattle.equation_text.proofs.undefined.are_kept.Goals as goal

pub loop-word-init : goal.loop-word-init
loop-word-init c = words_first (has_entry c.args.entries.now) c.args.kind c.args.words.now c.requires

pub loop-word-preserved : goal.loop-word-preserved
loop-word-preserved c = words_next (has_entry c.args.entries.now) c.args.kind c.args.words.now
    c.loop-word.left.now c.loop-word.invariant c.in-Some.word.now c.in-Some.rest.now c.in-Some.ensures.some
    (c.is_kept.ensures.yes c.if-not-is_kept.false)

pub returns-then-not-is_kept-clause-no : goal.returns-then-not-is_kept-clause-no
returns-then-not-is_kept-clause-no c = λ _. words_lost (has_entry c.args.entries.now) c.args.kind
    c.args.words.now c.loop-word.left.now c.loop-word.invariant c.in-Some.word.now c.in-Some.rest.now
    c.in-Some.ensures.some (c.is_kept.ensures.no c.if-not-is_kept.true)

pub returns-clause-yes : goal.returns-clause-yes
returns-clause-yes c = λ _. words_kept (has_entry c.args.entries.now) c.args.kind c.args.words.now
    c.loop-word.left.now c.loop-word.invariant c.in_default.ensures.none
