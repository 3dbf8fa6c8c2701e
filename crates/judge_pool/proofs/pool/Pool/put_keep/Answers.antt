use Rattle.std.proofs.Common.{◌≡◌, ◌++◌, ◌∷◌, [], length, slice_get, refl, sym, ap, ◌∙◌, subst}
use Rattle.judge_pool.specs.declared.pool.Pool.{Pool}
use Rattle.judge_pool.specs.Pooling.{Extends}
use Rattle.judge_pool.proofs.LayerLemmas.{get_front, get_last}
use Rattle.judge_pool.proofs.LayeringLemmas.{Grows, grew_of}
use Rattle.judge_pool.proofs.BatchLemmas.{notes_stay}
use Rattle.judge_pool.proofs.PastLemmas.{layers_stay}
use Rattle.judge_pool.proofs.StandLemmas.{stands_stay, list_stands_stay}
use Rattle.judge_pool.proofs.KeepLemmas.{numbers_stay}
use Rattle.judge_pool.proofs.pool.Pool.put_keep.Goals as goal

pub returns-clause-grew : goal.returns-clause-grew
returns-clause-grew c =
    let p = c.args.self.now in
    let items : c.push.new.self.items ≡ p.keeps.items ++ c.args.nodes ∷ [] = c.in_ok-push.ensures.items in
    let more : Extends p.keeps.items (p.keeps.items ++ c.args.nodes ∷ []) =
    λ k ns at. get_front p.keeps.items (c.args.nodes ∷ []) k ns at in
    let q : Pool = record p { keeps = c.push.new.self } in
    let g : Grows p q = record {
      view = refl;
      keeps = subst (λ ks. Extends p.keeps.items ks) (sym items) more;
      values = λ i x at. at;
      letters = λ l ids at. at;
    } in
    grew_of p q (record {
      index = c.requires.index;
      apart = c.requires.apart;
      well = c.requires.well;
      notes = notes_stay p q g (λ i t at. at) p.notes.list.items c.requires.notes;
      layers = layers_stay p q g p.layers.items c.requires.layers;
      stands = stands_stay p q g p.stands c.requires.stands;
      list_stands = list_stands_stay p q g p.list_stands c.requires.list_stands;
      numbers = numbers_stay p q g p.keep_numbers c.requires.numbers;
    }) g

pub returns-clause-kept : goal.returns-clause-kept
returns-clause-kept c =
    let p = c.args.self.now in
    ap (λ ks. slice_get ks (length c.as_slice-held.result.now)) c.in_ok-push.ensures.items
    ∙ (ap (slice_get (p.keeps.items ++ c.args.nodes ∷ [])) (ap length c.as_slice-held.ensures.value)
    ∙ get_last p.keeps.items c.args.nodes)
