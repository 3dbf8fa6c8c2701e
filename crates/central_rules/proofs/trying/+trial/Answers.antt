use Rattle.std.proofs.Common.{arith, ◌∙◌, sym, refl}
use Rattle.central_rules.proofs.TryingLemmas.{at_end, both, below, found_with, none_with}
use Rattle.central_rules.proofs.trying.+trial.Goals as goal

pub find_from-returns-then-at-switch_count-clause-none : goal.find_from-returns-then-at-switch_count-clause-none
find_from-returns-then-at-switch_count-clause-none t c =
    at_end c.breaks.result c.args.station.now c.args.readings.now c.args.vector.now c.args.at c.args.op c.breaks.ensures
    c.requires.whole (c.if-at-switch_count.true ∙ c.switch_count.ensures.count ∙ sym c.requires.all
    ∙ sym c.requires.whole)

pub find_from-returns-clause-none : goal.find_from-returns-clause-none
find_from-returns-clause-none t c =
    let off = rw c.in_default.is at c.in_ok-rule.ensures.none in
    both c.find_with-2.result c.args.station.now c.args.readings.now c.args.vector.now c.find_with.new.vector c.args.at
    c.args.op (omega arith) off c.in_ok-rule.ensures.below c.find_with-2.ensures.none

pub find_with-returns-clause-below : goal.find_with-returns-clause-below
find_with-returns-clause-below t c =
    let same = rw c.set.ensures at c.find_from.ensures.below in
    below c.args.vector.now c.find_from.new.vector c.args.at c.args.closed same

pub find_with-returns-clause-found : goal.find_with-returns-clause-found
find_with-returns-clause-found t c =
    let same = rw c.set.ensures at c.find_from.ensures.below in
    found_with c.find_from.result c.args.station.now c.args.readings.now c.args.vector.now c.find_from.new.vector
    c.args.at c.word.result c.args.closed c.args.op (omega arith) c.word.ensures (c.if-not-agrees.ensures.0 refl) same
    c.find_from.ensures.found

pub find_with-returns-clause-none : goal.find_with-returns-clause-none
find_with-returns-clause-none t c =
    let none = rw c.set.ensures at c.find_from.ensures.none in
    none_with c.find_from.result c.args.station.now c.args.readings.now c.args.vector.now c.args.at c.args.closed
    c.args.op (omega arith) none
