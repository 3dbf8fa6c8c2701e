use Rattle.std.proofs.Common.{arith, ◌∙◌}
use Rattle.ssd_read.proofs.Slashes.{past_slash, last_part, other}
use Rattle.ssd_read.proofs.ends.after_slash.Goals as goal
use Rattle.ssd_read.proofs.ends.after_slash.Goals.{then-b-eq47, else-b-eq47}

pub loop-i-preserved : goal.loop-i-preserved
loop-i-preserved c =
    elim c.if-b-eq47.branch [
      | then-b-eq47 w ↦ record {
        within = omega arith;
        past = rw w.start-is (past_slash c.args.name.now c.loop-i.i c.loop-i-test.true w.if-b-eq47.true);
        none = λ k h l e. omega arith;
      }
      | else-b-eq47 w ↦ record {
        within = omega arith;
        past = rw w.start-is c.loop-i.invariant.past;
        none = λ k h l e. other c.args.name.now c.loop-i.start c.if-b-eq47.start c.loop-i.i k w.start-is h l e
            c.loop-i.invariant.none w.if-b-eq47.false;
      }
    ]

pub returns : goal.returns
returns c = c.split_at.ensures.back ∙ last_part c.args.name.now c.loop-i.start c.loop-i.i c.loop-i-test.false
    c.loop-i.invariant.past c.loop-i.invariant.none
