-- The lists of numbers that a pool keeps.
use Rattle.std.specs.Prelude.{ℕ, List, map}
use Rattle.judge_pool.specs.declared.pool.Pool.{Pool}

-- The lists of numbers of the pool: of letters, and of the states of layers.
abbrev pub letter_lists : Pool → List (List ℕ)
letter_lists p = map (λ v. v.items) p.letters.items
