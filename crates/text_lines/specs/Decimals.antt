-- Which words are numbers.
use Rattle.std.specs.Prelude.{◌≡◌, ◌<◌, ◌^◌, ℕ, List, decimal}

-- The word is the decimal numeral of this number, without sign or leading zeros, and the number has 32 bits.
pub record IsDecimal (word : List ℕ) (n : ℕ) : Type 0 where
  pub small : n < 2 ^ 32
  pub written : word ≡ decimal n
