-- Positions as they count, by the number of the switch.
use Rattle.std.proofs.Common.{◌≡◌, ◌∙◌, ◌<◌, ◌+◌, ℕ, zero, suc}
use Rattle.std.proofs.Common.{length, slice_get, Some, refl, ap, arith}
use Rattle.structured_text.specs.declared.name.Name.TheVariants.{Off, On}
use Rattle.structured_text.specs.Meaning.{Store}
use Rattle.program_text.specs.declared.reading.Reading.{Reading}
use Rattle.program_text.specs.TermLines.{counts_in}
use Rattle.program_text.specs.TermLines.{positions_from, positions}

pub position_at : (r : Reading) (s : Store) (k n i : ℕ) → i < n →
    slice_get (positions_from r s k n) i
    ≡ Some (counts_in r (s (Off (record { 0 = k + i }))) (s (On (record { 0 = k + i }))))
position_at r s k zero i low = absurd (omega (arith, low))
position_at r s k (suc n) zero low =
    let e : k ≡ k + 0 = omega arith in
    ap (λ j. Some (counts_in r (s (Off (record { 0 = j }))) (s (On (record { 0 = j }))))) e
position_at r s k (suc n) (suc i) low =
    let e : suc k + i ≡ k + suc i = omega arith in
    position_at r s (suc k) n i (omega (arith, low))
    ∙ ap (λ j. Some (counts_in r (s (Off (record { 0 = j }))) (s (On (record { 0 = j }))))) e

pub position_of : (r : Reading) (s : Store) (n i : ℕ) → i < n →
    slice_get (positions r s n) i ≡ Some (counts_in r (s (Off (record { 0 = i }))) (s (On (record { 0 = i }))))
position_of r s n i low =
    let e : 0 + i ≡ i = omega arith in
    position_at r s 0 n i low ∙ ap (λ j. Some (counts_in r (s (Off (record { 0 = j }))) (s (On (record { 0 = j }))))) e

pub positions_length : (r : Reading) (s : Store) (k n : ℕ) → length (positions_from r s k n) ≡ n
positions_length r s k zero = refl
positions_length r s k (suc n) = ap suc (positions_length r s (suc k) n)
