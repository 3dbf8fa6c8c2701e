use Rattle.equation_text.specs.Entries.{has_entry}
use Rattle.equation_text.proofs.NumberLemmas.{all_kept_by, lost_start, lost_step, lost_goal, lost_node}
use Rattle.equation_text.proofs.undefined.all_kept.Goals as goal

pub returns-then-not-start_kept-clause-no : goal.returns-then-not-start_kept-clause-no
returns-then-not-start_kept-clause-no c = λ _. lost_start (has_entry c.args.entries.now) c.args.line.now
    (c.start_kept.ensures.no c.if-not-start_kept.true)

pub returns-then-not-steps_kept-clause-no : goal.returns-then-not-steps_kept-clause-no
returns-then-not-steps_kept-clause-no c = λ _. lost_step (has_entry c.args.entries.now) c.args.line.now
    (c.steps_kept.ensures.no c.if-not-steps_kept.true)

pub returns-then-not-goal_kept-clause-no : goal.returns-then-not-goal_kept-clause-no
returns-then-not-goal_kept-clause-no c = λ _. lost_goal (has_entry c.args.entries.now) c.args.line.now
    (c.goal_kept.ensures.no c.if-not-goal_kept.true)

pub returns-clause-yes : goal.returns-clause-yes
returns-clause-yes c = λ yes. all_kept_by (has_entry c.args.entries.now) c.args.line.now
    (c.start_kept.ensures.yes c.if-not-start_kept.false) (c.steps_kept.ensures.yes c.if-not-steps_kept.false)
    (c.goal_kept.ensures.yes c.if-not-goal_kept.false) (c.goals_kept.ensures.yes yes)

pub returns-clause-no : goal.returns-clause-no
returns-clause-no c = λ no. lost_node (has_entry c.args.entries.now) c.args.line.now (c.goals_kept.ensures.no no)
