use Rattle.std.proofs.Common.{refl}
use Rattle.judge_pool.specs.declared.pool.Pool.{Pool}
use Rattle.judge_pool.proofs.LayeringLemmas.{grew_more}
use Rattle.judge_pool.proofs.BatchLemmas.{stands_other}
use Rattle.judge_pool.proofs.StandLemmas.{on_stays}
use Rattle.judge_pool.proofs.pool.Pool.new_stand.Goals as goal

pub returns-clause-on : goal.returns-clause-on
returns-clause-on c =
    let q = c.find_or_place.new.self in
    let stand = c.args.stand in
    let r : Pool = record q { stands = c.note_stand.new.notes } in
    on_stays q r (record {
      view = refl;
      keeps = λ k ns at. at;
      values = λ i x at. at;
      letters = λ l ids at. at;
    }) stand.keep stand.id c.in_ok-id.id c.in_ok-id.ensures.on

pub returns-clause-grew : goal.returns-clause-grew
returns-clause-grew c =
    let p = c.args.self.now in
    let q = c.find_or_place.new.self in
    let g = c.in_ok-id.ensures.grew in
    let r : Pool = record q { stands = c.note_stand.new.notes } in
    grew_more p q r g
    (stands_other q r g.is_pool (c.in_ok-note_stand.ensures q g.is_pool.stands c.in_ok-id.ensures.on))
