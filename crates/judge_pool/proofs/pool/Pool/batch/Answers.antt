use Rattle.std.proofs.Common.{refl}
use Rattle.std.proofs.lemmas.Option.{IfSome_then}
use Rattle.judge_pool.specs.declared.pool.Pool.{Pool}
use Rattle.judge_pool.proofs.LayeringLemmas.{Grows, grew_of, grew_more}
use Rattle.judge_pool.proofs.BatchLemmas.{notes_stay, batch_stays, batch_ends, can_more}
use Rattle.judge_pool.proofs.AlikeLemmas.{selects_more}
use Rattle.judge_pool.proofs.PastLemmas.{layers_stay}
use Rattle.judge_pool.proofs.StandLemmas.{stands_stay, list_stands_stay}
use Rattle.judge_pool.proofs.KeepLemmas.{numbers_stay}
use Rattle.judge_pool.proofs.pool.Pool.batch.Goals as goal

pub make_batch-requires-clause-pool : goal.make_batch-requires-clause-pool
make_batch-requires-clause-pool c = c.forget_batches.ensures.is_pool

pub make_batch-requires-clause-letters : goal.make_batch-requires-clause-letters
make_batch-requires-clause-letters c = c.forget_batches.ensures.letters c.args.number c.args.letters.now c.requires.letters

pub make_batch-requires-clause-fit : goal.make_batch-requires-clause-fit
make_batch-requires-clause-fit c k j at =
    can_more c.args.self.now c.forget_batches.new.self
    (record { first = c.args.first; second = j; keep = c.args.keep }) c.forget_batches.ensures (c.requires.fit k j at)

pub make_batch-requires-clause-shared : goal.make_batch-requires-clause-shared
make_batch-requires-clause-shared c =
    let p = c.args.self.now in
    let q = c.forget_batches.new.self in
    let g = c.forget_batches.ensures in
    IfSome_then c.args.shared.now c.requires.shared
    (λ s selects k j at. selects_more p q (record { first = c.args.first; second = j; keep = c.args.keep }) s.value
    g.values g.keeps (c.requires.fit k j at) (selects k j at))

pub returns-clause-grew : goal.returns-clause-grew
returns-clause-grew c =
    let p = c.args.self.now in
    let held = c.forget_batches.new.self in
    let q = c.make_batch.new.self in
    let h = c.in_ok-start.ensures.grew in
    let r : Pool = record q { notes = c.note.new.self } in
    let g : Grows q r = record {
      view = refl;
      keeps = λ k ns at. at;
      values = λ i x at. at;
      letters = λ l ls at. at;
    } in
    grew_more p q r (grew_more p held q c.forget_batches.ensures h) (grew_of q r (record {
      index = h.is_pool.index;
      apart = h.is_pool.apart;
      well = h.is_pool.well;
      notes =
          notes_stay q r g (λ i t at. at) c.note.new.self.list.items
          (c.in_ok-note.ensures q h.is_pool.notes c.in_ok-start.ensures.batch);
      layers = layers_stay q r g q.layers.items h.is_pool.layers;
      stands = stands_stay q r g q.stands h.is_pool.stands;
      list_stands = list_stands_stay q r g q.list_stands h.is_pool.list_stands;
      numbers = numbers_stay q r g q.keep_numbers h.is_pool.numbers;
    }) g)

pub returns-clause-batch : goal.returns-clause-batch
returns-clause-batch c =
    let q = c.make_batch.new.self in
    let r : Pool = record q { notes = c.note.new.self } in
    batch_stays q r (record {
      view = refl;
      keeps = λ k ns at. at;
      values = λ i x at. at;
      letters = λ l ls at. at;
    }) (λ i t at. at) _ c.in_ok-start.start c.in_ok-start.ensures.batch

pub returns-in-Some-clause-ends : goal.returns-in-Some-clause-ends
returns-in-Some-clause-ends c =
    batch_ends c.args.self.now _ c.in-Some.start c.args.letters.now
    (c.in-Some.ensures c.args.self.now c.requires.pool.notes) c.requires.letters c.requires.some

pub returns-clause-ends : goal.returns-clause-ends
returns-clause-ends c =
    let q = c.make_batch.new.self in
    batch_ends q _ c.in_ok-start.start c.args.letters.now c.in_ok-start.ensures.batch
    (c.in_ok-start.ensures.grew.letters c.args.number c.args.letters.now
    (c.forget_batches.ensures.letters c.args.number c.args.letters.now c.requires.letters)) c.requires.some
