use Rattle.commissioning_tests.proofs.lists.is_needed.Goals as goal

pub returns-then-first-count-clause-none : goal.returns-then-first-count-clause-none
returns-then-first-count-clause-none c left other k lt t = c.turns_some.ensures.none left k lt t
