use Rattle.std.proofs.Common.{◌≡◌, List, ℕ, Some, slice_get, refl, sym, subst}
use Rattle.judge_pool.specs.declared.known.KnownLayer.{KnownLayer}
use Rattle.judge_pool.specs.declared.pool.Pool.{Pool}
use Rattle.judge_pool.specs.Numbered.{letter_lists}
use Rattle.judge_pool.specs.Pooling.{LeadsOn, IsKnown, AreKnown}
use Rattle.judge_pool.proofs.LayeringLemmas.{Grows, grows, grew_of, grew_more}
use Rattle.judge_pool.proofs.BatchLemmas.{notes_stay}
use Rattle.judge_pool.proofs.StandLemmas.{stands_stay, list_stands_stay}
use Rattle.judge_pool.proofs.KeepLemmas.{numbers_stay}
use Rattle.judge_pool.proofs.PastLemmas.{leads_grown, key_stays, known_stays, layers_stay, layers_more}
use Rattle.std.proofs.lemmas.Option.{slice_get_within}
use Rattle.judge_pool.proofs.OwnLemmas.{leads_keep}
use Rattle.judge_pool.proofs.pool.Pool.note_layer.Goals as goal

pub returns-clause-grew : goal.returns-clause-grew
returns-clause-grew c =
    let p = c.args.self.now in
    let o = c.note_letters.new.self in
    let q = c.note_own_list.new.self in
    let h0 = c.in_ok-number.ensures.grew in
    let h1 = c.in_ok-note_own_list.ensures in
    let h = grew_more p o q h0 h1 in
    let k = c.args.key in
    let w = c.requires.leads in
    let states : List ℕ = w.0 in
    let row : List ℕ = w.1.0 in
    let next : List ℕ = c.args.next.now in
    let edges : List ℕ = c.args.edges.now in
    let new : KnownLayer = record { key = k; next = c.in_ok-number.number; edges = c.in_ok-edges.edges } in
    let same : c.in_ok-edges.edges ≡ edges = c.in_ok-edges.ensures in
    let listed : slice_get (letter_lists q) c.in_ok-number.number ≡ Some next =
    h1.letters c.in_ok-number.number next c.in_ok-number.ensures.noted in
    let leads : LeadsOn q k.keep states row next c.in_ok-edges.edges =
    subst (λ es. LeadsOn q k.keep states row next es) (sym same)
    (leads_grown p q k.keep states row next edges (grows p q h) w.1.2) in
    let known : IsKnown q new = record {
      states = states;
      row = row;
      next = next;
      key = key_stays p q (grows p q h) states row k.keep k w.1.1;
      listed = listed;
      leads = leads;
    } in
    let r : Pool = record q { layer_places = c.insert.new.self; layers = c.push.new.self } in
    let g : Grows q r = record {
      view = refl;
      keeps = λ k ns at. at;
      values = λ i x at. at;
      letters = λ l ls at. at;
    } in
    grew_more p q r h (grew_of q r (record {
      index = h.is_pool.index;
      apart = h.is_pool.apart;
      well = h.is_pool.well;
      notes = notes_stay q r g (λ i t at. at) q.notes.list.items h.is_pool.notes;
      layers =
          subst (AreKnown r) (sym c.in_ok-push.ensures.items)
          (layers_more r q.layers.items new (layers_stay q r g q.layers.items h.is_pool.layers)
          (known_stays q r g new known));
      stands = stands_stay q r g q.stands h.is_pool.stands;
      list_stands = list_stands_stay q r g q.list_stands h.is_pool.list_stands;
      numbers = numbers_stay q r g q.keep_numbers h.is_pool.numbers;
    }) g)

pub returns-clause-noted : goal.returns-clause-noted
returns-clause-noted c =
    c.in_ok-note_own_list.ensures.letters c.in_ok-number.number c.args.next.now c.in_ok-number.ensures.noted

pub note_own_list-requires-clause-keep : goal.note_own_list-requires-clause-keep
note_own_list-requires-clause-keep c =
    let p = c.args.self.now in
    let o = c.note_letters.new.self in
    let w = c.requires.leads in
    let leads = leads_grown p o c.args.key.keep w.0 w.1.0 c.args.next.now c.args.edges.now
    (grows p o c.in_ok-number.ensures.grew) w.1.2 in
    slice_get_within o.keeps.items c.args.key.keep leads.nodes leads.kept

pub note_own_list-requires-clause-kept : goal.note_own_list-requires-clause-kept
note_own_list-requires-clause-kept c =
    let p = c.args.self.now in
    let o = c.note_letters.new.self in
    let w = c.requires.leads in
    leads_keep o c.args.key.keep w.0 w.1.0 c.args.next.now c.args.edges.now
    (leads_grown p o c.args.key.keep w.0 w.1.0 c.args.next.now c.args.edges.now
    (grows p o c.in_ok-number.ensures.grew) w.1.2)
