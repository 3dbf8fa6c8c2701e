-- A text to which one piece after the other is put.
use Rattle.std.proofs.Common.{◌≡◌, ◌∙◌, ℕ, List, ◌++◌, ap, append_assoc}

pub grown : (text pieces piece before after : List ℕ) → before ≡ text ++ pieces → after ≡ before ++ piece
    → after ≡ text ++ (pieces ++ piece)
grown text pieces piece before after so_far more =
    more ∙ ap (λ (t : List ℕ). t ++ piece) so_far ∙ append_assoc text pieces piece
