-- A text in which names come again and again.
use Rattle.std.specs.Prelude.{ℕ, List}

-- The names that may stand in it, by their places, and the text itself.
pub record Named : Type 0 where
  pub names : List (List ℕ)
  pub text : List ℕ
