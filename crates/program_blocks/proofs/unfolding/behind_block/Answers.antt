use Rattle.std.proofs.Common.{◌∙◌, sym, arith, drop, map, ap}
use Rattle.structured_text.specs.declared.line.Line.{Line}
use Rattle.program_blocks.specs.Calls.{bare}
use Rattle.program_blocks.proofs.PassLemmas.{block_more, past_block}
use Rattle.program_blocks.proofs.unfolding.behind_block.Goals as goal

pub loop-line-preserved : goal.loop-line-preserved
loop-line-preserved c more e =
    let low = c.loop-line-test.true in
    let inside = c.if-next-lines.false in
    c.loop-line.invariant more
    (block_more c.args.call.now c.args.inner.now c.args.lines.now c.loop-line.line-index c.loop-line.next
    _ _ (omega (arith, low)) (omega (arith, inside))
    (sym (ap (λ x. bare x) c.outer_line.ensures) ∙ c.are_same.ensures c.if-not-are_same.false) more e)

pub returns : goal.returns
returns c =
    let low = c.loop-line-test.false in
    let end = c.loop-line.auto.line-index-end in
    c.loop-line.invariant (map (λ (x : Line). bare x) (drop c.loop-line.next c.args.lines.now))
    (past_block c.args.call.now c.args.inner.now c.loop-line.line-index (omega (arith, low, end))
    (map (λ (x : Line). bare x) (drop c.loop-line.next c.args.lines.now)))
