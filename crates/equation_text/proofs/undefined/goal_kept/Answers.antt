use Rattle.std.specs.Prelude.{codes}
use Rattle.equation_text.specs.Entries.{has_entry}
use Rattle.equation_text.proofs.NumberLemmas.{no_head, none_behind, behind_once, nodes_kept_by, node_lost_by}
use Rattle.equation_text.proofs.undefined.goal_kept.Goals as goal

pub returns-in_default-clause-yes : goal.returns-in_default-clause-yes
returns-in_default-clause-yes c = λ _. no_head (has_entry c.args.entries.now) (codes "op") c.args.line.now 2
    c.in_default.ensures.none

pub returns-in_default-behind_two-clause-yes : goal.returns-in_default-behind_two-clause-yes
returns-in_default-behind_two-clause-yes c = λ _. none_behind (has_entry c.args.entries.now) (codes "op")
    c.args.line.now c.in-Some.rest.now 2 c.in-Some.ensures.some c.in_default-behind_two.ensures.none

pub returns-clause-yes : goal.returns-clause-yes
returns-clause-yes c = λ yes. nodes_kept_by (has_entry c.args.entries.now) (codes "op") c.args.line.now
    c.in-Some.rest.now 2 c.in-Some.ensures.some c.in-Some-behind_two.words.now c.in-Some-behind_two.ensures.some
    (λ other same. behind_once c.in-Some.rest.now c.in-Some-behind_two.words.now other
    c.in-Some-behind_two.ensures.some same) (c.are_kept.ensures.yes yes)

pub returns-clause-no : goal.returns-clause-no
returns-clause-no c = λ no. node_lost_by (has_entry c.args.entries.now) (codes "op") c.args.line.now
    c.in-Some.rest.now 2 c.in-Some.ensures.some c.in-Some-behind_two.words.now c.in-Some-behind_two.ensures.some
    (λ other same. behind_once c.in-Some.rest.now c.in-Some-behind_two.words.now other
    c.in-Some-behind_two.ensures.some same) (c.are_kept.ensures.no no)
