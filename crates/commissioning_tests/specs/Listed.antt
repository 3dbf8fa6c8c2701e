-- Lists in document order.
use Rattle.std.specs.Prelude.{◌≡◌, ◌⊎◌, ℕ, suc, zero, List, [], ◌∷◌}
use Rattle.ilk_base.specs.declared.words.Op.{Op}
use Rattle.release_dependence.specs.Operations.{opening, closing}

-- The operations of so many switches, from this one on: for each of them to open and to close it.
abbrev pub operations_from : ℕ → ℕ → List Op
operations_from first zero = []
operations_from first (suc n) = opening first ∷ closing first ∷ operations_from (suc first) n

-- The list has exactly those of another list for which P holds, in their order.
abbrev pub AreThose : {X : Type 0} → (X → Type 0) → List X → List X → Type 0
AreThose P [] chosen = chosen ≡ []
AreThose {X} P (x ∷ xs) chosen =
    ((rest : List X) × (chosen ≡ x ∷ rest) × P x × AreThose P xs rest) ⊎ ((¬ P x) × AreThose P xs chosen)
