use Rattle.bay_contract.proofs.BaseLemmas.{base_tap_added}
use Rattle.bay_contract.proofs.bases.tapped.Goals as goal

pub returns : goal.returns
returns c = λ part kept links own h.
    base_tap_added c.args.station.now part links c.args.i own kept c.args.value.now c.in_ok-tap.tap
    c.in_ok-more.more c.in_ok-tap.ensures.kept c.in_ok-tap.ensures.stands c.in_ok-more.ensures.composes h
