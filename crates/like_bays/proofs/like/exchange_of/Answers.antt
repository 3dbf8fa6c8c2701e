use Rattle.std.proofs.Common.{ℕ, List, refl, subst, sym, ◌∙◌}
use Rattle.like_bays.specs.Like.{IsExchangeBy}
use Rattle.like_bays.proofs.LikeLemmas.{exchange_by}
use Rattle.like_bays.proofs.like.exchange_of.Goals as goal

pub returns : goal.returns
returns c =
    subst (λ (l : List ℕ). IsExchangeBy c.args.station.now l)
    (sym (c.in_ok-table.ensures.items ∙ c.deref.ensures.value))
    (exchange_by c.args.station.now c.in_ok-tables.tables.switches.items c.in_ok-tables.tables.nodes.items
    c.switches_of-count.result.0.0 c.switches_of-others.result.0.0 c.switches_of-count.result.1
    (c.if-not-is_exchange.ensures refl))
