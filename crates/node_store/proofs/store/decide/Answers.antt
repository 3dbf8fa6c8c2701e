use Rattle.std.proofs.Common.{inr, refl}
use Rattle.node_store.specs.Slots.{number}
use Rattle.node_store.proofs.Records.{none_refused, some_stands, some_not_refused, row_in}
use Rattle.node_store.proofs.store.decide.Goals as goal

pub returns-in_default-clause-stands : goal.returns-in_default-clause-stands
returns-in_default-clause-stands c image has = inr (c.in_default.ensures image has, refl)

pub returns-in_default-clause-none_refused : goal.returns-in_default-clause-none_refused
returns-in_default-clause-none_refused c image has = none_refused image (c.in_default.ensures image has)

pub returns-in-Some-kept_in-clause-stands : goal.returns-in-Some-kept_in-clause-stands
returns-in-Some-kept_in-clause-stands c image has =
    some_stands image c.in-Some.newest c.in-Some-kept_in.kept (c.in-Some.ensures image has) (row_in image
    c.bytes_of.result.now (number c.in-Some.newest.slot) c.in-Some-kept_in.kept (c.bytes_of.ensures image has)
    c.in-Some-kept_in.ensures.some)

pub returns-in-Some-kept_in-clause-none_refused : goal.returns-in-Some-kept_in-clause-none_refused
returns-in-Some-kept_in-clause-none_refused c image has =
    some_not_refused image c.in-Some.newest c.in-Some-kept_in.kept (c.in-Some.ensures image has) (row_in image
    c.bytes_of.result.now (number c.in-Some.newest.slot) c.in-Some-kept_in.kept (c.bytes_of.ensures image has)
    c.in-Some-kept_in.ensures.some) c.if-newest-gt-LAST_SEQUENCE.false
