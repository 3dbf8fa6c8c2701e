use Rattle.std.proofs.Common.{refl}
use Rattle.judge_pool.specs.declared.pool.Pool.{Pool}
use Rattle.judge_pool.proofs.LayeringLemmas.{Grows, grew_of}
use Rattle.judge_pool.proofs.BatchLemmas.{notes_none}
use Rattle.judge_pool.proofs.PastLemmas.{layers_stay}
use Rattle.judge_pool.proofs.StandLemmas.{stands_stay, list_stands_stay}
use Rattle.judge_pool.proofs.KeepLemmas.{numbers_stay}
use Rattle.judge_pool.proofs.pool.Pool.forget_batches.Goals as goal

pub returns : goal.returns
returns c =
    let p = c.args.self.now in
    let q : Pool = record p { notes = c.clear.new.self; made = c.clear-2.new.self } in
    let g : Grows p q = record {
      view = refl;
      keeps = λ k ns at. at;
      values = λ i x at. at;
      letters = λ l ls at. at;
    } in
    grew_of p q (record {
      index = c.requires.index;
      apart = c.requires.apart;
      well = c.requires.well;
      notes = notes_none q c.clear.new.self.list.items c.clear.ensures.empty;
      layers = layers_stay p q g p.layers.items c.requires.layers;
      stands = stands_stay p q g p.stands c.requires.stands;
      list_stands = list_stands_stay p q g p.list_stands c.requires.list_stands;
      numbers = numbers_stay p q g p.keep_numbers c.requires.numbers;
    }) g
