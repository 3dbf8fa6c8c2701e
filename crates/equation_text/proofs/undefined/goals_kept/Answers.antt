use Rattle.std.specs.Prelude.{codes}
use Rattle.equation_text.specs.Entries.{has_entry}
use Rattle.equation_text.specs.Faults.{Behind}
use Rattle.equation_text.proofs.NumberLemmas.{no_head, none_behind, three_once, three_none, nodes_kept_by, node_lost_by}
use Rattle.equation_text.proofs.undefined.goals_kept.Goals as goal

pub returns-in_default-clause-yes : goal.returns-in_default-clause-yes
returns-in_default-clause-yes c = λ _. no_head (has_entry c.args.entries.now) (codes "node") c.args.line.now 3
    c.in_default.ensures.none

pub returns-in_default-next_word-clause-yes : goal.returns-in_default-next_word-clause-yes
returns-in_default-next_word-clause-yes c = λ _. none_behind (has_entry c.args.entries.now) (codes "node")
    c.args.line.now c.in-Some.rest.now 3 c.in-Some.ensures.some (λ words whole. c.in_default-next_word.ensures.none _
    (whole.2).is)

pub returns-in_default-behind_two-clause-yes : goal.returns-in_default-behind_two-clause-yes
returns-in_default-behind_two-clause-yes c = λ _. none_behind (has_entry c.args.entries.now) (codes "node")
    c.args.line.now c.in-Some.rest.now 3 c.in-Some.ensures.some (three_none c.in-Some.rest.now
    c.in-Some-next_word._number.now c.in-Some-next_word.rest.now c.in-Some-next_word.ensures.some
    c.in_default-behind_two.ensures.none)

pub returns-clause-yes : goal.returns-clause-yes
returns-clause-yes c = λ yes.
    let words = c.in-Some-behind_two.words.now in
    let behind : Behind 3 c.in-Some.rest.now words = (
      c.in-Some-next_word._number.now,
      c.in-Some-next_word.rest.now,
      c.in-Some-next_word.ensures.some,
      c.in-Some-behind_two.ensures.some,
    ) in
    nodes_kept_by (has_entry c.args.entries.now) (codes "node") c.args.line.now c.in-Some.rest.now 3
    c.in-Some.ensures.some words behind (λ other same. three_once c.in-Some.rest.now c.in-Some-next_word._number.now
    c.in-Some-next_word.rest.now words other c.in-Some-next_word.ensures.some c.in-Some-behind_two.ensures.some same)
    (c.are_kept.ensures.yes yes)

pub returns-clause-no : goal.returns-clause-no
returns-clause-no c = λ no.
    let words = c.in-Some-behind_two.words.now in
    let behind : Behind 3 c.in-Some.rest.now words = (
      c.in-Some-next_word._number.now,
      c.in-Some-next_word.rest.now,
      c.in-Some-next_word.ensures.some,
      c.in-Some-behind_two.ensures.some,
    ) in
    node_lost_by (has_entry c.args.entries.now) (codes "node") c.args.line.now c.in-Some.rest.now 3
    c.in-Some.ensures.some words behind (λ other same. three_once c.in-Some.rest.now c.in-Some-next_word._number.now
    c.in-Some-next_word.rest.now words other c.in-Some-next_word.ensures.some c.in-Some-behind_two.ensures.some same)
    (c.are_kept.ensures.no no)
