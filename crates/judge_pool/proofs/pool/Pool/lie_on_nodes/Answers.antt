use Rattle.std.proofs.Common.{Some, ap, sym, ◌∙◌}
use Rattle.judge_pool.proofs.LayeringLemmas.{grows, grew_more}
use Rattle.judge_pool.proofs.LyingLemmas.{on_nodes}
use Rattle.judge_pool.proofs.pool.Pool.lie_on_nodes.Goals as goal

pub returns-clause-lies : goal.returns-clause-lies
returns-clause-lies c =
    let s = c.args.selection.now in
    let r = c.requires in
    let p0 = c.args.self.now in
    let pn = c.note_letters.new.self in
    let p1 = c.keep_list.new.self in
    let p2 = c.list_on.new.self in
    let g01 = grew_more p0 pn p1 c.in_ok-by.ensures.grew c.in_ok-first.ensures.grew in
    let g12 = c.in_ok-placed.ensures.grew in
    let g02 = grew_more p0 p1 p2 g01 g12 in
    let at_first = c.in_ok-first.ensures.kept ∙ ap Some r.kept in
    on_nodes s r.placed r.first r.second r.inside p0 p2 (grows p0 p2 g02) c.args.states.now c.args.row.now
    (record {
      states = c.in_ok-placed.placed.ids;
      before = c.in_ok-placed.placed.number;
      letters = c.in_ok-from_slice.field-0;
      by = c.in_ok-by.by;
      keep = c.args.keep;
      kept = c.in_ok-from_slice-2.field-0;
    }) c.in_ok-first.first r.row_in r.reach (g12.keeps c.in_ok-first.first s.first at_first)
    (g02.keeps c.args.keep s.nodes r.keep) c.in_ok-placed.ensures.on c.in_ok-from_slice.ensures.items
    (c.in_ok-from_slice-2.ensures.items ∙ c.kept.ensures.kept)

pub list_on-requires-clause-listed : goal.list_on-requires-clause-listed
list_on-requires-clause-listed c =
    c.in_ok-first.ensures.grew.letters c.args.number c.args.states.now
    (c.in_ok-by.ensures.grew.letters c.args.number c.args.states.now c.requires.listed)

pub returns-clause-numbers : goal.returns-clause-numbers
returns-clause-numbers c =
    let row = c.args.row.now in
    let by = c.in_ok-by.by in
    record {
      states = c.in_ok-placed.ensures.noted;
      letters =
          c.in_ok-placed.ensures.grew.letters by row
          (c.in_ok-first.ensures.grew.letters by row c.in_ok-by.ensures.noted)
          ∙ ap Some (sym c.in_ok-from_slice.ensures.items);
    }
