use Rattle.std.proofs.Common.{◌≡◌, ◌++◌, length, slice_get, ◌+◌, refl, sym, ap, ◌∙◌, subst}
use Rattle.judge_pool.specs.declared.pool.Pool.{Pool}
use Rattle.judge_pool.specs.Pooling.{Extends}
use Rattle.judge_pool.proofs.LayerLemmas.{get_front}
use Rattle.judge_pool.proofs.LayeringLemmas.{Grows, grew_of, grew_more}
use Rattle.judge_pool.proofs.BatchLemmas.{notes_stay, are_made_more, get_behind}
use Rattle.judge_pool.proofs.PastLemmas.{layers_stay}
use Rattle.judge_pool.proofs.StandLemmas.{stands_stay, list_stands_stay}
use Rattle.judge_pool.proofs.KeepLemmas.{numbers_stay}
use Rattle.judge_pool.proofs.pool.Pool.make_batch.Goals as goal

pub returns-clause-grew : goal.returns-clause-grew
returns-clause-grew c =
    let p = c.args.self.now in
    let q = c.compose_all.new.self in
    let h = c.in_ok-compose_all.ensures.grew in
    let ids = c.compose_all.new.ids.items in
    let r : Pool = record q { made = c.extend_from_slice.new.self } in
    let items : c.extend_from_slice.new.self.items ≡ q.made.items ++ ids =
    c.in_ok-extend_from_slice.ensures.items ∙ ap (λ xs. q.made.items ++ xs) c.deref.ensures.value in
    let g : Grows q r = record {
      view = refl;
      keeps = λ k ns at. at;
      values = λ i x at. at;
      letters = λ l ls at. at;
    } in
    grew_more p q r h (grew_of q r (record {
      index = h.is_pool.index;
      apart = h.is_pool.apart;
      well = h.is_pool.well;
      notes =
          notes_stay q r g
          (subst (λ xs. Extends q.made.items xs) (sym items) (λ i t at. get_front q.made.items ids i t at)) q.notes.list.items
          h.is_pool.notes;
      layers = layers_stay q r g q.layers.items h.is_pool.layers;
      stands = stands_stay q r g q.stands h.is_pool.stands;
      list_stands = list_stands_stay q r g q.list_stands h.is_pool.list_stands;
      numbers = numbers_stay q r g q.keep_numbers h.is_pool.numbers;
    }) g)

pub returns-clause-batch : goal.returns-clause-batch
returns-clause-batch c =
    let q = c.compose_all.new.self in
    let h = c.in_ok-compose_all.ensures.grew in
    let letters = c.args.letters.now in
    let b = c.args.batch in
    let ids = c.compose_all.new.ids.items in
    let start = length c.as_slice-held.result.now in
    let r : Pool = record q { made = c.extend_from_slice.new.self } in
    let items : c.extend_from_slice.new.self.items ≡ q.made.items ++ ids =
    c.in_ok-extend_from_slice.ensures.items ∙ ap (λ xs. q.made.items ++ xs) c.deref.ensures.value in
    let g : Grows q r = record {
      view = refl;
      keeps = λ k ns at. at;
      values = λ i x at. at;
      letters = λ l ls at. at;
    } in
    record {
      letters = letters;
      ids = ids;
      listed = h.letters b.letters letters c.requires.letters;
      made = are_made_more q r g b letters ids c.in_ok-compose_all.ensures.made;
      at = λ k t at.
          ap (λ xs. slice_get xs (start + k)) items
          ∙ (ap (λ n. slice_get (q.made.items ++ ids) (n + k)) (ap length c.as_slice-held.ensures.value)
          ∙ get_behind q.made.items ids k t at);
    }
