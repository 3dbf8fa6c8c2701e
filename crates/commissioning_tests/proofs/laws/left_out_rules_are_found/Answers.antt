use Rattle.commissioning_tests.proofs.LeftOutLemmas.{left_out_differs}
use Rattle.commissioning_tests.proofs.laws.left_out_rules_are_found.Goals as goal

pub returns : goal.returns
returns c d bay t station are k op at releases rule leaves matters =
    left_out_differs d bay t station are k op at releases rule leaves matters
