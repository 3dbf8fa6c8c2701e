use Rattle.std.proofs.Common.{◌+◌, ◌∙◌, sym, arith, ap, map, drop, ◌∷◌}
use Rattle.structured_text.specs.declared.line.Line.{Line}
use Rattle.program_blocks.specs.Calls.{bare}
use Rattle.program_blocks.proofs.PassLemmas.{line_more}
use Rattle.program_blocks.proofs.unfolding.behind_line.Goals as goal

pub returns : goal.returns
returns c =
    let inside = c.if-from-lines.false in
    line_more c.args.lines.now c.args.from _ (omega (arith, inside))
    ∙ ap (λ x. x ∷ map (λ (x : Line). bare x) (drop (c.args.from + 1) c.args.lines.now))
    (sym (c.are_same.ensures c.if-not-are_same.false))
