-- The words of a line, and the numbers that they write.
use Rattle.std.specs.Prelude.{◌≡◌, ◌≢◌, ◌++◌, ℕ, List, [], ◌∷◌, codes, decimal, ⊤}

-- No byte of the text is this one.
abbrev pub Lacks : ℕ → List ℕ → Type 0
Lacks byte [] = ⊤
Lacks byte (b ∷ bs) = (b ≢ byte) × Lacks byte bs

-- The first such byte of the text stands between these two.
pub record IsCut (byte : ℕ) (text before behind : List ℕ) : Type 0 where
  pub is : text ≡ before ++ byte ∷ behind
  pub first : Lacks byte before

-- The line begins with this head, a number, and a blank.
abbrev pub numbered_head : List ℕ → ℕ → List ℕ
numbered_head head n = head ++ (decimal n ++ codes " ")

-- The text ends, or a blank comes next.
abbrev pub EndsWord : List ℕ → Type 0
EndsWord [] = ⊤
EndsWord (b ∷ bs) = b ≡ 32

-- The text is its first word, and what follows it from the blank on.
pub record IsFirstWord (text word rest : List ℕ) : Type 0 where
  pub is : text ≡ word ++ rest
  pub first : Lacks 32 word
  pub ends : EndsWord rest
