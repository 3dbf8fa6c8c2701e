-- Bytes that are written behind those before.
use Rattle.std.proofs.Common.{◌≡◌, ℕ, ◌+◌, ◌<◌, List, [], ◌∷◌, ◌++◌, length, take, slice_set, refl, ◌∙◌, ap, arith}
use Rattle.std.proofs.Common.{append_assoc}
use Rattle.std.proofs.lemmas.List.{length-set}
use Rattle.std.proofs.lemmas.Grind.{take-set_at}

two_pushed : (a : List ℕ) (h l : ℕ) → (a ++ h ∷ []) ++ l ∷ [] ≡ a ++ h ∷ l ∷ []
two_pushed a h l = simp append_assoc

-- two more bytes are written behind the first n
pub two_more : (xs : List ℕ) (n m h l : ℕ) → m ≡ n + 2 → n + 1 < length xs →
    take m (slice_set (slice_set xs n h) (n + 1) l) ≡ take n xs ++ h ∷ l ∷ []
two_more xs n m h l e n_in =
    let one : List ℕ = slice_set xs n h in
    let long : length one ≡ length xs = length-set xs n h in
    take-set_at one (n + 1) m l (omega arith) (omega arith)
    ∙ ap (λ (r : List ℕ). r ++ l ∷ []) (take-set_at xs n (n + 1) h refl (omega arith)) ∙ two_pushed (take n xs) h l
