use Rattle.std.proofs.Common.{refl}
use Rattle.ilk_base.specs.declared.words.BayId.{BayId}
use Rattle.commissioning_tests.proofs.LeadLemmas.{later_step}
use Rattle.commissioning_tests.proofs.leads.like_of.Goals as goal

pub loop-part-preserved : goal.loop-part-preserved
loop-part-preserved c =
    let bay : BayId = record { 0 = c.loop-part.part } in
    rw c.in_ok-push_bay.ensures (later_step c.args.station.now c.args.leads.now c.args.one.0 c.loop-part.part
    c.loop-part.like.items bay c.is_later.result refl c.is_later.ensures c.loop-part.invariant)
