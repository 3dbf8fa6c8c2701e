use Rattle.std.proofs.Common.{◌≡◌, ◌∙◌, sym, ap, arith, List, ℕ, ◌∷◌, ◌+◌, ◌-◌, length, take, drop}
use Rattle.std.proofs.lemmas.Grind.{common_steps}
use Rattle.std.specs.Str.Lines.{lines}
use Rattle.text_lines.proofs.LineLemmas.{lines-at_feed, lines-no_feed, lines-none}
use Rattle.text_lines.proofs.lines.first_line.Goals as goal

whole : (n : ℕ) (bs : List ℕ) → take (length bs - n) (drop n bs) ≡ drop n bs
whole n bs = grind (arith, common_steps)

nothing : (bs : List ℕ) → length (take (length bs - length bs) (drop (length bs) bs)) ≡ 0
nothing bs = grind (arith, common_steps)

pub returns-in-Some-clause-lines : goal.returns-in-Some-clause-lines
returns-in-Some-clause-lines c =
    let first = lines-at_feed c.args.text.now c.in-Some.end (sym c.first_feed.ensures ∙ c.in-Some.is) in
    first.0 ∙ (λ i. sym c.without_return.ensures i ∷ lines (sym (whole (c.in-Some.end + 1) c.args.text.now) i))

pub returns-in-None-clause-lines : goal.returns-in-None-clause-lines
returns-in-None-clause-lines c =
    lines-no_feed c.args.text.now (sym c.first_feed.ensures ∙ c.in-None.is) c.requires
    ∙ ap (λ rest. c.args.text.now ∷ rest) (sym (lines-none _ (nothing c.args.text.now)))
