use Rattle.commissioning_tests.proofs.DependedLemmas.{turned_marked}
use Rattle.commissioning_tests.proofs.switch_paths.turned_layers.Goals as goal

pub returns : goal.returns
returns c walk codes direction r =
    turned_marked walk c.args.released.now codes direction r c.in_ok-layers.layers.items c.in_ok-layers.ensures.exact
