use Rattle.std.proofs.Common.{◌∙◌, sym, drop}
use Rattle.structured_text.proofs.PathLemmas.{short_is_last, long_is_passed}
use Rattle.structured_text.proofs.readable.last_name_start.Goals as goal

pub returns-then-is_short_from-clause-value : goal.returns-then-is_short_from-clause-value
returns-then-is_short_from-clause-value c =
    short_is_last (drop c.loop-i.i c.args.path.now) (sym c.is_short_from.ensures ∙ c.if-is_short_from.true)
    ∙ c.loop-i.invariant

pub loop-i-preserved : goal.loop-i-preserved
loop-i-preserved c =
    long_is_passed c.args.path.now c.loop-i.i (sym c.is_short_from.ensures ∙ c.if-is_short_from.false)
    ∙ c.loop-i.invariant
