use Rattle.std.proofs.Common.{sym, ◌∙◌}
use Rattle.judge_pool.proofs.ErrorLemmas.{passed_on}
use Rattle.station_changes.proofs.MirrorLemmas.{same_back}
use Rattle.station_compare.proofs.switch.found_of.Goals as goal

pub returns-in-None-clause-found : goal.returns-in-None-clause-found
returns-in-None-clause-found c i same =
    c.in-None.ensures.none i (same_back c.args.old.now c.args.new.now i c.args.new_id.0 same)

pub returns-in-None-clause-narrow : goal.returns-in-None-clause-narrow
returns-in-None-clause-narrow c b i walk =
    absurd (c.in-None.ensures.none i (same_back c.args.old.now c.args.new.now i c.args.new_id.0 walk.same))

pub returns-in_err-changes-in-Some-clause-wide : goal.returns-in_err-changes-in-Some-clause-wide
returns-in_err-changes-in-Some-clause-wide c =
    passed_on _ _ c.from_residual.result c.from_residual.ensures.1
    (λ trouble same is. c.in_err-changes-in-Some.ensures.wide (sym same ∙ is))
