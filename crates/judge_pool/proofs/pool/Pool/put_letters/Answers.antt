use Rattle.std.proofs.Common.{ℕ, Vec, Global, length, map, slice_get, refl, ap, ◌∙◌}
use Rattle.judge_pool.specs.declared.pool.Pool.{Pool}
use Rattle.judge_pool.proofs.ListLemmas.{lists_more, list_last}
use Rattle.judge_pool.proofs.LayeringLemmas.{Grows, grew_of}
use Rattle.judge_pool.proofs.BatchLemmas.{notes_stay}
use Rattle.judge_pool.proofs.PastLemmas.{layers_stay}
use Rattle.judge_pool.proofs.StandLemmas.{stands_stay, list_stands_stay}
use Rattle.judge_pool.proofs.KeepLemmas.{numbers_stay}
use Rattle.judge_pool.proofs.pool.Pool.put_letters.Goals as goal

pub returns-clause-grew : goal.returns-clause-grew
returns-clause-grew c =
    let p = c.args.self.now in
    let q : Pool = record p { letters = c.push.new.self } in
    let g : Grows p q = record {
      view = refl;
      keeps = λ k ns at. at;
      values = λ i x at. at;
      letters = lists_more p.letters.items c.push.new.self.items c.args.list c.in_ok-push.ensures.items;
    } in
    grew_of p q (record {
      index = c.requires.index;
      apart = c.requires.apart;
      well = c.requires.well;
      notes = notes_stay p q g (λ i t at. at) p.notes.list.items c.requires.notes;
      layers = layers_stay p q g p.layers.items c.requires.layers;
      stands = stands_stay p q g p.stands c.requires.stands;
      list_stands = list_stands_stay p q g p.list_stands c.requires.list_stands;
      numbers = numbers_stay p q g p.keep_numbers c.requires.numbers;
    }) g

pub returns-clause-noted : goal.returns-clause-noted
returns-clause-noted c =
    ap (λ n. slice_get (map (λ (v : Vec ℕ Global). v.items) c.push.new.self.items) n)
    (ap length c.as_slice-held.ensures.value)
    ∙ list_last c.args.self.now.letters.items c.push.new.self.items c.args.list c.in_ok-push.ensures.items
