use Rattle.std.proofs.Common.{ap}
use Rattle.ilk_base.specs.declared.words.BayId.{BayId}
use Rattle.station_compare.proofs.OrderLemmas.{narrow_turned, of_its_bay}
use Rattle.station_compare.proofs.walks.turn_to.Goals as goal

pub returns-then-is_at_work-clause-bay : goal.returns-then-is_at_work-clause-bay
returns-then-is_at_work-clause-bay c =
    of_its_bay c.args.new.now c.args.id.0 c.switch.result c.switch.ensures.value c.args.walks.now.bay.0
    (c.is_at_work.ensures.0 c.if-is_at_work.true)

pub returns-clause-bay : goal.returns-clause-bay
returns-clause-bay c =
    of_its_bay c.args.new.now c.args.id.0 c.switch.result c.switch.ensures.value _
    (ap (λ (b : BayId). b.0) c.in_ok-turn.ensures.bay)

pub returns-clause-before : goal.returns-clause-before
returns-clause-before c =
    narrow_turned c.args.old.now c.args.new.now c.args.walks.now _ c.args.id.0 c.is_station.ensures c.requires.before
    c.requires.last c.switch.result c.switch.ensures.value (ap (λ (b : BayId). b.0) c.in_ok-turn.ensures.bay)
    (λ e. let t = c.is_at_work.ensures.1 e in cc (t, c.if-is_at_work.false)) c.in_ok-turn.ensures.walks
    c.in_ok-turn.ensures.sharing
