use Rattle.std.proofs.Common.{Bool, List, subst, sym}
use Rattle.ilk_base.specs.declared.words.Direction.TheVariants.{ToOff, ToOn}
use Rattle.release_dependence.specs.Operations.{opening, closing}
use Rattle.commissioning_tests.specs.Growing.{AreTurnedLayers}
use Rattle.commissioning_tests.proofs.CoverLemmas.{covered_grows, more_then}
use Rattle.commissioning_tests.proofs.cover_bay.cover_both.Goals as goal

pub cover_operation-requires-clause-walked : goal.cover_operation-requires-clause-walked
cover_operation-requires-clause-walked c = record {
  steps = c.requires.steps;
  all = c.requires.all;
  op = opening c.args.switch.0;
  at = c.requires.opening;
  moved = c.requires.held.moved;
  walk = c.requires.held.walk;
  released = c.requires.held.opened;
  turned =
      subst (λ (l : List Bool). AreTurnedLayers c.args.own.now.walk.graph c.args.own.now.walk.codes.items ToOff l)
      (sym c.deref.ensures.value) c.requires.held.opening_layers;
}

pub cover_operation-requires-2-clause-walked : goal.cover_operation-requires-2-clause-walked
cover_operation-requires-2-clause-walked c = record {
  steps = c.requires.steps;
  all = c.requires.all;
  op = closing c.args.switch.0;
  at = c.requires.closing;
  moved = c.requires.held.moved;
  walk = c.requires.held.walk;
  released = c.requires.held.closed;
  turned =
      subst (λ (l : List Bool). AreTurnedLayers c.args.own.now.walk.graph c.args.own.now.walk.codes.items ToOn l)
      (sym c.deref-2.ensures.value) c.requires.held.closing_layers;
}

pub returns-clause-opening : goal.returns-clause-opening
returns-clause-opening c =
    covered_grows c.args.station.now c.args.operations.now c.args.stands.now c.cover_operation.new.found.positions.items
    c.cover_operation-2.new.found.positions.items c.args.number c.in_ok-cover_operation-2.ensures.more.grows
    c.in_ok-cover_operation.ensures.covered

pub returns-clause-more : goal.returns-clause-more
returns-clause-more c =
    more_then c.args.station.now c.args.operations.now c.args.found.now.positions.items
    c.cover_operation.new.found.positions.items c.cover_operation-2.new.found.positions.items
    c.in_ok-cover_operation.ensures.more c.in_ok-cover_operation-2.ensures.more
