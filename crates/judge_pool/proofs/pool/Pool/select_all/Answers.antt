use Rattle.std.proofs.Common.{◌<◌, length, get_or, rules}
use Rattle.std.proofs.lemmas.Option.{slice_get-get_or}
use Rattle.judge_pool.specs.Layering.{no_answers}
use Rattle.judge_pool.proofs.LayeringLemmas.{grew_in}
use Rattle.judge_pool.proofs.AlikeLemmas.{alike_more, selects_each}
use Rattle.judge_pool.proofs.pool.Pool.select_all.Goals as goal

pub select-requires-clause-fits : goal.select-requires-clause-fits
select-requires-clause-fits c =
    let states = c.args.states.now in
    let letters = c.args.letters.now in
    let some : 0 < length states = search rules in
    let some_letter : 0 < length letters = search rules in
    c.requires.fit 0 0 (get_or states 0 0) (get_or letters 0 0) (slice_get-get_or states 0 0 some)
    (slice_get-get_or letters 0 0 some_letter)

pub returns-clause-selects : goal.returns-clause-selects
returns-clause-selects c =
    let p = c.args.self.now in
    let q = c.select.new.self in
    let g = c.in_ok-selection.ensures.grew in
    let states = c.args.states.now in
    let letters = c.args.letters.now in
    let some : 0 < length states = search rules in
    let some_letter : 0 < length letters = search rules in
    let i = get_or states 0 0 in
    let j = get_or letters 0 0 in
    let at_i = slice_get-get_or states 0 0 some in
    let at_j = slice_get-get_or letters 0 0 some_letter in
    selects_each q states letters c.args.keep c.in_ok-selection.selection.value i j
    (alike_more p.values.items q.values.items states g.values c.requires.states
    (c.keep_alike.ensures (search rules)))
    (alike_more p.values.items q.values.items letters g.values c.requires.letters
    (c.keep_alike-else-not-keep_alike.ensures (search rules)))
    at_i at_j (grew_in p q i no_answers g (c.requires.states 0 i at_i))
    (grew_in p q j no_answers g (c.requires.letters 0 j at_j)) c.in_ok-selection.ensures.selects
