use Rattle.equation_text.specs.Entries.{has_entry}
use Rattle.equation_text.proofs.KeptLemmas.{kept_at_first, kept_next, kept_at_last}
use Rattle.equation_text.proofs.entries.entries_of.Goals as goal

pub loop-line-init : goal.loop-line-init
loop-line-init c = kept_at_first c.args.text.now (record { steps = c.new.result; nodes = c.new-2.result })
    c.new.ensures.empty c.new-2.ensures.empty

pub loop-line-preserved : goal.loop-line-preserved
loop-line-preserved c = kept_next c.args.text.now c.loop-line.left.now (has_entry c.loop-line.entries) (has_entry
    c.keep.new.entries) c.loop-line.invariant c.in-Some.line.now c.in-Some.rest.now c.in-Some.ensures.some.first
    c.in-Some.ensures.some.is c.in_ok-keep.ensures

pub returns : goal.returns
returns c = kept_at_last c.args.text.now c.loop-line.left.now (has_entry c.loop-line.entries) (has_entry
    c.keep-2.new.entries) c.loop-line.invariant c.in_default.ensures.none c.in_ok-keep-2.ensures
