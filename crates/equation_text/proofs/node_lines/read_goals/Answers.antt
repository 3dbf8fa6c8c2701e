use Rattle.equation_text.proofs.NodeFits.{first_goal, goals_begin, goals_grow, later_push, not_empty}
use Rattle.equation_text.proofs.node_lines.read_goals.Goals as goal

pub returns-in_default : goal.returns-in_default
returns-in_default c = λ gs later is.
    let hs = c.loop-left.invariant.complete gs later is in
    let begins = goals_begin c.args.n c.loop-left.left.now hs.0
    (not_empty c.loop-left.left.now c.is_empty.result c.is_empty.ensures c.loop-left-test.true) hs.2 in
    c.in_default.ensures.none begins.0 begins.1

pub returns-in_default-later_goal : goal.returns-in_default-later_goal
returns-in_default-later_goal c = λ gs later is.
    let hs = c.loop-left.invariant.complete gs later is in
    let first =
    first_goal c.args.n c.loop-left.left.now c.in-Some.rest.now c.first_word.result.0.now
    c.first_word.result.1.now hs.0 c.in-Some.ensures.some c.first_word.ensures hs.1 hs.2 in
    c.in_default-later_goal.ensures.none first.goal first.later first.is

pub loop-left-preserved : goal.loop-left-preserved
loop-left-preserved c =
    let inv = c.loop-left.invariant in
    let got = c.in-Some-later_goal.ensures.some in
    record {
      later = later_push c.args.n c.loop-left.goals.items c.push.new.self.items c.in-Some-later_goal.goal
          c.in_ok-push.ensures.items inv.later got.0;
      sound = goals_grow c.args.words.now c.in-Some.rest.now c.first_word.result.0.now c.first_word.result.1.now
          c.loop-left.left.now c.loop-left.goals.items c.push.new.self.items c.in-Some-later_goal.goal inv.sound
          c.in-Some.ensures.some c.first_word.ensures.is got.1 c.in_ok-push.ensures.items;
      complete = λ gs later is.
          let hs = inv.complete gs later is in
          let first =
          first_goal c.args.n c.loop-left.left.now c.in-Some.rest.now c.first_word.result.0.now
          c.first_word.result.1.now hs.0 c.in-Some.ensures.some c.first_word.ensures hs.1 hs.2 in
          (first.more, first.all_later, first.rest_is);
    }
