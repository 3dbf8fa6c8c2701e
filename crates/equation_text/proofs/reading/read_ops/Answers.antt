use Rattle.std.proofs.Common.{refl, sym, subst, arith}
use Rattle.equation_text.specs.Stops.{StopsAtOp}
use Rattle.equation_text.proofs.ReadLoops.{ops_push, ops_next}
use Rattle.equation_text.proofs.reading.read_ops.Goals as goal

pub returns-in_default : goal.returns-in_default
returns-in_default c =
    let inv = c.loop-switch.invariant in
    record {
      ops = c.loop-switch.ops.items;
      few = omega (arith, c.loop-switch-test.true, inv.fits.count);
      may = record { count = refl; fit = inv.fits.fit };
      middle = c.loop-switch.left.text.now;
      passed = inv.sound;
      stop = subst (λ k. StopsAtOp k c.loop-switch.left.text.now c.next_ops.new.left.text.now) (sym inv.fits.count)
          c.in_default.ensures.none;
    }

pub loop-switch-preserved : goal.loop-switch-preserved
loop-switch-preserved c =
    let inv = c.loop-switch.invariant in
    let got = c.in-Some.ensures.some in
    record {
      fits = ops_push c.loop-switch.switch _ c.loop-switch.ops.items c.push.new.self.items c.in-Some.goals refl
          c.in_ok-push.ensures.items got.0 inv.fits;
      sound = ops_next c.loop-switch.ops.items c.push.new.self.items c.in-Some.goals c.loop-switch.switch
          c.args.left.now.text.now c.loop-switch.left.text.now c.next_ops.new.left.text.now
          c.in_ok-push.ensures.items inv.fits.count inv.sound got.1;
    }
