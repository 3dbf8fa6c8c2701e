use Rattle.bay_contract.proofs.BaseLemmas.{base_link_added}
use Rattle.bay_contract.proofs.bases.linked.Goals as goal

pub returns : goal.returns
returns c = λ part kept taps own h.
    base_link_added c.args.station.now part c.args.i taps own kept c.args.value.now c.in_ok-link.link
    c.in_ok-more.more c.in_ok-link.ensures.kept c.in_ok-link.ensures.stands c.in_ok-more.ensures.composes h
