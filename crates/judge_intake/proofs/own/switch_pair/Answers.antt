use Rattle.std.proofs.Common.{◌++◌, ◌∷◌, [], ap, ◌∙◌, false}
use Rattle.judge_pool.proofs.LayeringLemmas.{grew_more, grows}
use Rattle.judge_pool.specs.Places.{node_listed, pool_on}
use Rattle.judge_pool.proofs.MappedPools.{grows_on}
use Rattle.judge_intake.proofs.InputsLemmas.{switch_stays}
use Rattle.judge_intake.proofs.own.switch_pair.Goals as goal

pub returns-clause-grew : goal.returns-clause-grew
returns-clause-grew c =
    grew_more c.args.pool.now c.switch_id.new.pool c.switch_id-2.new.pool c.in_ok-off.ensures.grew
    c.in_ok-on.ensures.grew

pub returns-clause-pair : goal.returns-clause-pair
returns-clause-pair c = record {
  off = c.in_ok-off.off;
  on = c.in_ok-on.on;
  two =
      c.in_ok-push-2.ensures.items
      ∙ (ap (λ xs. xs ++ c.in_ok-on.on ∷ [])
      (c.in_ok-push.ensures.items ∙ ap (λ xs. xs ++ c.in_ok-off.off ∷ []) c.new-ids.ensures.items));
  off_has =
      switch_stays (pool_on (node_listed c.args.list.now) c.switch_id.new.pool)
      (pool_on (node_listed c.args.list.now) c.switch_id-2.new.pool) (grows_on (node_listed c.args.list.now)
      c.switch_id.new.pool c.switch_id-2.new.pool
      (grows c.switch_id.new.pool c.switch_id-2.new.pool c.in_ok-on.ensures.grew)) c.args.station.now c.args.id.0 false
      c.in_ok-off.off c.in_ok-off.ensures.has;
  on_has = c.in_ok-on.ensures.has;
}
