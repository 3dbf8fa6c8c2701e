-- Words in memory, and words with the same letters.
use Rattle.std.proofs.Common.{◌≡◌, ℕ, List, [], ◌∷◌, Bool, ◌||◌, refl, ap}
use Rattle.std.specs.Borrow.{Bor}
use Rattle.std.specs.List.{list_any}
use Rattle.drawing_remarks.specs.Types.{texts}

pub any_texts : (p : List ℕ → Bool) (ws : List (Bor (List ℕ))) → list_any p (texts ws) ≡ list_any (λ w. p w.now) ws
any_texts p [] = refl
any_texts p (w ∷ ws) = ap (λ b. p w.now || b) (any_texts p ws)
