-- A word that names a number of feeders is decimal.
use Rattle.std.proofs.Common.{◌≡◌, ◌∙◌, ◌<◌, ◌≤◌, ◌^◌, ◌⊎◌, inl, inr, sym, ℕ, List, arith}
use Rattle.std.proofs.lemmas.Fmt.{decimal_injective}
use Rattle.station_make.specs.declared.limits.TheConstants.{LEAST_FEEDERS, MOST_FEEDERS}
use Rattle.std.specs.Prelude.{decimal}
use Rattle.text_lines.specs.Decimals.{IsDecimal}
use Rattle.station_make.specs.Words.{NamesFeeders}

pub is_decimal : (word : List ℕ) (n : ℕ) → NamesFeeders word n → IsDecimal word n
is_decimal word n names = record { small = omega (arith, names.most); written = names.written }

pub same_number : (word : List ℕ) (m n : ℕ) → IsDecimal word m → NamesFeeders word n → m ≡ n
same_number word m n is names =
    decimal_injective m n (omega (arith, is.small)) (omega (arith, names.most)) (sym is.written ∙ names.written)

-- a number beyond the least and the most is none that the word names
pub out_of_range : (word : List ℕ) (m : ℕ) → IsDecimal word m → (m < LEAST_FEEDERS) ⊎ (MOST_FEEDERS < m) →
    (n : ℕ) → ¬ NamesFeeders word n
out_of_range word m is (inl low) n names =
    let same = same_number word m n is names in omega (arith, same, names.least, low)
out_of_range word m is (inr high) n names =
    let same = same_number word m n is names in omega (arith, same, names.most, high)
