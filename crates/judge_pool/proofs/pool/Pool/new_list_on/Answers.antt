use Rattle.std.proofs.Common.{◌≡◌, Some, slice_get, refl, ap, ◌∙◌}
use Rattle.judge_pool.specs.declared.pool.Pool.{Pool}
use Rattle.judge_pool.specs.Standing.{AreOn, ListIsOn}
use Rattle.judge_pool.specs.Numbered.{letter_lists}
use Rattle.judge_pool.proofs.LayeringLemmas.{Grows, grows, grew_more}
use Rattle.judge_pool.proofs.BatchLemmas.{list_stands_other}
use Rattle.judge_pool.proofs.StandLemmas.{all_on_stay}
use Rattle.judge_pool.proofs.pool.Pool.new_list_on.Goals as goal

pub returns-clause-on : goal.returns-clause-on
returns-clause-on c =
    let q = c.all_on.new.self in
    let r = c.note_letters.new.self in
    let here : AreOn r c.args.stand.keep c.args.ids.now c.in_ok-placed.placed.items =
    all_on_stay q r (grows q r c.in_ok-number.ensures.grew) c.args.stand.keep c.args.ids.now
    c.in_ok-placed.placed.items c.in_ok-placed.ensures.on in
    let s : Pool = record r { list_stands = c.note_list_stand.new.notes } in
    let g : Grows r s = record {
      view = refl;
      keeps = λ k ns at. at;
      values = λ i x at. at;
      letters = λ l ids at. at;
    } in
    all_on_stay r s g c.args.stand.keep c.args.ids.now c.in_ok-placed.placed.items here

pub returns-clause-grew : goal.returns-clause-grew
returns-clause-grew c =
    let p = c.args.self.now in
    let q = c.all_on.new.self in
    let r = c.note_letters.new.self in
    let g = c.in_ok-placed.ensures.grew in
    let h = c.in_ok-number.ensures.grew in
    let s : Pool = record r { list_stands = c.note_list_stand.new.notes } in
    let stand = c.args.stand in
    let behind : slice_get (letter_lists r) c.in_ok-number.number ≡ Some c.in_ok-placed.placed.items =
    c.in_ok-number.ensures.noted ∙ ap Some c.deref.ensures.value in
    let is : ListIsOn r stand.keep stand.list c.in_ok-number.number = record {
      ids = c.args.ids.now;
      ts = c.in_ok-placed.placed.items;
      before = h.letters stand.list c.args.ids.now (g.letters stand.list c.args.ids.now c.requires.listed);
      behind = behind;
      on =
          all_on_stay q r (grows q r h) stand.keep c.args.ids.now c.in_ok-placed.placed.items c.in_ok-placed.ensures.on;
    } in
    grew_more p r s (grew_more p q r g h)
    (list_stands_other r s h.is_pool (c.in_ok-note_list_stand.ensures r h.is_pool.list_stands is))

pub returns-clause-noted : goal.returns-clause-noted
returns-clause-noted c = c.in_ok-number.ensures.noted ∙ ap Some c.deref.ensures.value
