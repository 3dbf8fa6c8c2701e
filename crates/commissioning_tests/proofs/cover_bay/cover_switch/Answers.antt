use Rattle.std.proofs.Common.{List, subst, sym, ◌∙◌}
use Rattle.judge_pool.proofs.ErrorLemmas.{passed_on}
use Rattle.commissioning_tests.specs.declared.values.TestPosition.{TestPosition}
use Rattle.commissioning_tests.specs.Answering.{ArePositions}
use Rattle.commissioning_tests.specs.Growing.{AreMore}
use Rattle.commissioning_tests.proofs.HeldLemmas.{wants_memory}
use Rattle.commissioning_tests.proofs.cover_bay.cover_switch.Goals as goal

pub cover_both-requires-clause-positions : goal.cover_both-requires-clause-positions
cover_both-requires-clause-positions c =
    subst (λ (l : List TestPosition). ArePositions c.args.station.now c.args.operations.now l)
    (sym c.in_ok-open_own.ensures) c.requires.positions

pub returns-clause-more : goal.returns-clause-more
returns-clause-more c =
    subst (λ (l : List TestPosition). AreMore c.args.station.now c.args.operations.now l
    c.cover_both.new.found.positions.items) c.in_ok-open_own.ensures c.in_ok-cover_both.ensures.more

pub returns-in_err-own-clause-wide : goal.returns-in_err-own-clause-wide
returns-in_err-own-clause-wide c =
    passed_on _ _ c.from_residual.result c.from_residual.ensures.1
    (λ trouble same is. c.in_err-own.ensures.wide (sym same ∙ is))

pub returns-in_err-open_own-clause-wide : goal.returns-in_err-open_own-clause-wide
returns-in_err-open_own-clause-wide c =
    wants_memory _ c.from_residual-in_err-open_own.result c.from_residual-in_err-open_own.ensures.1

pub returns-in_err-cover_both-clause-wide : goal.returns-in_err-cover_both-clause-wide
returns-in_err-cover_both-clause-wide c =
    wants_memory _ c.from_residual-in_err-cover_both.result c.from_residual-in_err-cover_both.ensures.1
