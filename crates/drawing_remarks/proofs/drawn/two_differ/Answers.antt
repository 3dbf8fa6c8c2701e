use Rattle.std.proofs.Common.{◌≡◌, ℕ, ◌≤◌, ◌==◌, List, [], ◌∷◌, length, get_or, drop, not, refl, arith, ap, ◌∙◌}
use Rattle.std.specs.List.{list_any}
use Rattle.std.proofs.lemmas.List.{take_rest}
use Rattle.drawing_remarks.specs.Drawn.{two_differ}
use Rattle.drawing_remarks.proofs.drawn.two_differ.Goals as goal

split : (ns : List ℕ) → 1 ≤ length ns → list_any (λ n. not (n == get_or ns 0 0)) (drop 1 ns) ≡ two_differ ns
split [] h = absurd (omega arith)
split (a ∷ ns) h = refl

pub returns-in-len1-up : goal.returns-in-len1-up
returns-in-len1-up c =
    let ns : List ℕ = c.args.nodes.now in
    c.some_other.ensures
    ∙ (ap (list_any (λ n. not (n == get_or ns 0 0))) (take_rest ns 1) ∙ split ns c.in-len1-up.len_at_least)
