use Rattle.std.proofs.Common.{Some, ap, ◌∙◌}
use Rattle.judge_pool.proofs.LayeringLemmas.{grows, grew_more}
use Rattle.judge_pool.proofs.StandLemmas.{all_on_stay}
use Rattle.judge_pool.proofs.LyingLemmas.{fits_on, letters_fit, first_places_well, second_places_well, in_places}
use Rattle.judge_pool.proofs.pool.Pool.lie_in_places.Goals as goal

pub list_on-requires-clause-can : goal.list_on-requires-clause-can
list_on-requires-clause-can c k i at =
    let s = c.args.selection.now in
    let r = c.requires in
    let p0 = c.args.self.now in
    let p1 = c.keep_list.new.self in
    let p2 = c.keep_list-2.new.self in
    let p3 = c.keep_list-3.new.self in
    let g12 = c.in_ok-second.ensures.grew in
    let g23 = c.in_ok-keep.ensures.grew in
    let g13 = grew_more p1 p2 p3 g12 g23 in
    let pn = c.note_letters.new.self in
    let g0n = c.in_ok-list.ensures.grew in
    let g03 = grew_more p0 pn p3 g0n (grew_more pn p1 p3 c.in_ok-first.ensures.grew g13) in
    let at_first = c.in_ok-first.ensures.kept ∙ ap Some c.first_places.ensures.places in
    fits_on p0 p3 (grows p0 p3 g03) c.in_ok-first.first i s.first_places s.first
    (g13.keeps c.in_ok-first.first s.first_places at_first)
    (first_places_well s r.placed r.first r.second r.inside) r.placed.merged.first_len (r.states k i at)

pub list_on-requires-2-clause-can : goal.list_on-requires-2-clause-can
list_on-requires-2-clause-can c k i at =
    let s = c.args.selection.now in
    let r = c.requires in
    let p0 = c.args.self.now in
    let p1 = c.keep_list.new.self in
    let p2 = c.keep_list-2.new.self in
    let p3 = c.keep_list-3.new.self in
    let p4 = c.list_on.new.self in
    let g34 = c.in_ok-placed.ensures.grew in
    let g24 = grew_more p2 p3 p4 c.in_ok-keep.ensures.grew g34 in
    let g14 = grew_more p1 p2 p4 c.in_ok-second.ensures.grew g24 in
    let pn = c.note_letters.new.self in
    let g0n = c.in_ok-list.ensures.grew in
    let g04 = grew_more p0 pn p4 g0n (grew_more pn p1 p4 c.in_ok-first.ensures.grew g14) in
    let at_second = c.in_ok-second.ensures.kept ∙ ap Some c.second_places.ensures.places in
    fits_on p0 p4 (grows p0 p4 g04) c.in_ok-second.second i s.second_places s.second
    (g24.keeps c.in_ok-second.second s.second_places at_second)
    (second_places_well s r.placed r.first r.second r.inside) r.placed.merged.second_len
    (letters_fit p0 c.args.row.now s.second r.row_in r.letters k i at)

pub returns-clause-lies : goal.returns-clause-lies
returns-clause-lies c =
    let s = c.args.selection.now in
    let r = c.requires in
    let p0 = c.args.self.now in
    let p1 = c.keep_list.new.self in
    let p2 = c.keep_list-2.new.self in
    let p3 = c.keep_list-3.new.self in
    let p4 = c.list_on.new.self in
    let p5 = c.list_on-2.new.self in
    let g45 = c.in_ok-letters.ensures.grew in
    let g35 = grew_more p3 p4 p5 c.in_ok-placed.ensures.grew g45 in
    let g25 = grew_more p2 p3 p5 c.in_ok-keep.ensures.grew g35 in
    let g15 = grew_more p1 p2 p5 c.in_ok-second.ensures.grew g25 in
    let pn = c.note_letters.new.self in
    let g0n = c.in_ok-list.ensures.grew in
    let g05 = grew_more p0 pn p5 g0n (grew_more pn p1 p5 c.in_ok-first.ensures.grew g15) in
    let at_first = c.in_ok-first.ensures.kept ∙ ap Some c.first_places.ensures.places in
    let at_second = c.in_ok-second.ensures.kept ∙ ap Some c.second_places.ensures.places in
    let at_keep = c.in_ok-keep.ensures.kept ∙ ap Some c.places.ensures.places in
    in_places s r.placed r.first r.second r.inside p0 p5 (grows p0 p5 g05) c.args.states.now c.args.row.now
    (record {
      states = c.in_ok-placed.placed.ids;
      before = c.in_ok-placed.placed.number;
      letters = c.in_ok-letters.letters.ids;
      by = c.in_ok-letters.letters.number;
      keep = c.in_ok-keep.keep;
      kept = c.in_ok-from_slice.field-0;
    }) c.in_ok-first.first c.in_ok-second.second r.letters r.row_in
    (g15.keeps c.in_ok-first.first s.first_places at_first)
    (g25.keeps c.in_ok-second.second s.second_places at_second) (g35.keeps c.in_ok-keep.keep s.places at_keep)
    (all_on_stay p4 p5 (grows p4 p5 g45) c.in_ok-first.first c.args.states.now c.in_ok-placed.placed.ids.items
    c.in_ok-placed.ensures.on) c.in_ok-letters.ensures.on (c.in_ok-from_slice.ensures.items ∙ c.kept.ensures.kept)

pub list_on-requires-clause-listed : goal.list_on-requires-clause-listed
list_on-requires-clause-listed c =
    let pn = c.note_letters.new.self in
    let p1 = c.keep_list.new.self in
    let p2 = c.keep_list-2.new.self in
    let p3 = c.keep_list-3.new.self in
    let g1 = c.in_ok-first.ensures.grew in
    let g2 = c.in_ok-second.ensures.grew in
    let g3 = c.in_ok-keep.ensures.grew in
    let states = c.args.states.now in
    let number = c.args.number in
    g3.letters number states (g2.letters number states (g1.letters number states
    (c.in_ok-list.ensures.grew.letters number states c.requires.listed)))

pub list_on-requires-2-clause-listed : goal.list_on-requires-2-clause-listed
list_on-requires-2-clause-listed c =
    let g1 = c.in_ok-first.ensures.grew in
    let g2 = c.in_ok-second.ensures.grew in
    let g3 = c.in_ok-keep.ensures.grew in
    let g4 = c.in_ok-placed.ensures.grew in
    let row = c.args.row.now in
    let list = c.in_ok-list.list in
    g4.letters list row (g3.letters list row (g2.letters list row (g1.letters list row c.in_ok-list.ensures.noted)))

pub returns-clause-numbers : goal.returns-clause-numbers
returns-clause-numbers c = record {
  states =
      c.in_ok-letters.ensures.grew.letters c.in_ok-placed.placed.number c.in_ok-placed.placed.ids.items
      c.in_ok-placed.ensures.noted;
  letters = c.in_ok-letters.ensures.noted;
}
