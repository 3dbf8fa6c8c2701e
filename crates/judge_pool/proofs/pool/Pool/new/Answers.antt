use Rattle.judge_pool.proofs.PoolLemmas.{index_none, apart_none, well_none}
use Rattle.judge_pool.proofs.BatchLemmas.{notes_none}
use Rattle.judge_pool.proofs.PastLemmas.{layers_none}
use Rattle.judge_pool.proofs.StandLemmas.{stands_none, list_stands_none}
use Rattle.judge_pool.proofs.KeepLemmas.{none_noted}
use Rattle.judge_pool.proofs.pool.Pool.new.Goals as goal

pub returns-clause-pool : goal.returns-clause-pool
returns-clause-pool c = record {
  index = index_none c.args.view c.new.result.items c.with_hasher.result c.new.ensures.items c.with_hasher.ensures.empty;
  apart = apart_none c.args.view c.new.result.items c.new.ensures.items;
  well = well_none c.new.result.items c.new.ensures.items;
  notes = notes_none _ c.new-10.result.list.items c.new-10.ensures.empty;
  layers = layers_none _ c.new-7.result.items c.new-7.ensures.items;
  stands = stands_none _ c.with_hasher-5.result c.with_hasher-5.ensures.empty;
  list_stands = list_stands_none _ c.with_hasher-6.result c.with_hasher-6.ensures.empty;
  numbers = λ nodes k e. absurd (none_noted c.with_hasher-2.result c.with_hasher-2.ensures.empty nodes k e);
}
