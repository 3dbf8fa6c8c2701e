use Rattle.std.proofs.Common.{◌≡◌, ◌∙◌, sym, ap, subst, ℕ, ◌+◌, ◌<◌, List, arith, inl, inr, take, ◌∷◌, [], ◌++◌}
use Rattle.std.proofs.Common.{length, refl}
use Rattle.std.proofs.lemmas.List.{length-append}
use Rattle.std.proofs.lemmas.List.Elements.{All-push}
use Rattle.ilk_base.specs.declared.words.Op.{Op}
use Rattle.text_lines.specs.Lines.{filled_lines, filled_left}
use Rattle.switching_orders.specs.OrderRuling.{MoveSwitches}
use Rattle.switching_orders.specs.OrderLines.{NameSteps}
use Rattle.switching_orders.proofs.LineLemmas.{next, one_step_more, nothing_left}
use Rattle.switching_orders.proofs.read.read_order.Goals as goal

pub returns-then-len-ge-MOST_STEPS-clause-err : goal.returns-then-len-ge-MOST_STEPS-clause-err
returns-then-len-ge-MOST_STEPS-clause-err c =
    let inv = c.loop-number.invariant in
    let n = next (filled_lines c.args.bytes.now) _ _ _ (sym inv.left ∙ c.in-Some.ensures.some) in
    rw c.refused-then-len-ge-MOST_STEPS.ensures (inr (
      inv.short,
      record {
        before = c.loop-number.steps.items;
        line = c.in-Some.line.now;
        steps = inv.named;
        few = inv.few;
        stands = n.at;
        fault = inl (omega (arith, c.len.ensures, c.if-len-ge-MOST_STEPS.true), refl);
      },
    ))

pub loop-number-preserved : goal.loop-number-preserved
loop-number-preserved c =
    let inv = c.loop-number.invariant in
    let items = c.in_ok-push-in-Ok.ensures.items in
    let more = one_step_more c.args.station.now (filled_lines c.args.bytes.now) c.loop-number.steps.items _ _ c.in-Ok.op
    _ items (sym inv.left ∙ c.in-Some.ensures.some) inv.named c.in-Ok.ensures.ok in
    record {
      short = inv.short;
      few = omega (
        arith,
        ap length items,
        length-append c.loop-number.steps.items (c.in-Ok.op ∷ []),
        c.len.ensures,
        c.if-len-ge-MOST_STEPS.false,
      );
      left = more.1;
      named = more.0;
      moves = subst (MoveSwitches (length c.args.station.now.switches)) (sym items)
          (All-push (λ (op : Op). op.switch.0 < length c.args.station.now.switches) _ c.in-Ok.op inv.moves
          c.in-Ok.ensures.within);
    }

pub returns-in-Err-clause-err : goal.returns-in-Err-clause-err
returns-in-Err-clause-err c =
    let inv = c.loop-number.invariant in
    let n = next (filled_lines c.args.bytes.now) _ _ _ (sym inv.left ∙ c.in-Some.ensures.some) in
    rw c.refused-in-Err.ensures (inr (
      inv.short,
      record {
        before = c.loop-number.steps.items;
        line = c.in-Some.line.now;
        steps = inv.named;
        few = inv.few;
        stands = n.at;
        fault = inr (
          omega (arith, c.len.ensures, c.if-len-ge-MOST_STEPS.false),
          c.in-Err.fault,
          c.in-Err.ensures.err,
          c.number.ensures,
        );
      },
    ))

pub returns-clause-ok : goal.returns-clause-ok
returns-clause-ok c =
    let inv = c.loop-number.invariant in
    record {
      few_bytes = inv.short;
      few_steps = inv.few;
      steps = subst (λ lines. NameSteps c.args.station.now lines c.loop-number.steps.items)
          (nothing_left _ _ (sym inv.left ∙ c.in_default.ensures.none)) inv.named;
    }
