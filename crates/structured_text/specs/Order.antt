-- Lines in order: each variable is set once, and before it is read.
use Rattle.std.specs.Prelude.{◌≡◌, ◌⊎◌, ◌<◌, ℕ, List, slice_get, Some}
use Rattle.structured_text.specs.declared.name.Name.{Name}
use Rattle.structured_text.specs.declared.name.Name.TheVariants.{Off, On, May, Sure, Opens, Closes}
use Rattle.structured_text.specs.declared.line.Line.{Line}
use Rattle.structured_text.specs.Reads.{FormulaReads}

-- The variable is an input: a contact of a switch.
abbrev pub IsInput : Name → Type 0
IsInput (Off i) = Unit {0}
IsInput (On i) = Unit {0}
IsInput (May k) = ⊥
IsInput (Sure k) = ⊥
IsInput (Opens i) = ⊥
IsInput (Closes i) = ⊥

-- The variable is a release.
abbrev pub IsRelease : Name → Type 0
IsRelease (Off i) = ⊥
IsRelease (On i) = ⊥
IsRelease (May k) = ⊥
IsRelease (Sure k) = ⊥
IsRelease (Opens i) = Unit {0}
IsRelease (Closes i) = Unit {0}

-- A line sets the variable.
abbrev pub IsSetIn : List Line → Name → Type 0
IsSetIn lines m = (k : ℕ) × (y : Line) × (slice_get lines k ≡ Some y) × (y.name ≡ m)

-- A line before number n does.
abbrev pub IsSetBefore : List Line → ℕ → Name → Type 0
IsSetBefore lines n m = (k : ℕ) × (y : Line) × (k < n) × (slice_get lines k ≡ Some y) × (y.name ≡ m)

-- With these variables given, a line reads what is given or what a line before it sets; no two lines set one variable, and
-- none sets what is given.
pub record AreInOrder (given : Name → Type 0) (lines : List Line) : Type 0 where
  pub reads : (n : ℕ) (x : Line) → slice_get lines n ≡ Some x →
      FormulaReads (λ m. given m ⊎ IsSetBefore lines n m) x.formula
  pub once : (n k : ℕ) (x y : Line) → slice_get lines n ≡ Some x → slice_get lines k ≡ Some y → x.name ≡ y.name → n ≡ k
  pub own : (n : ℕ) (x : Line) → slice_get lines n ≡ Some x → ¬ given x.name

-- Each line of the first list says the same as one of the second.
abbrev pub AreAmong : List Line → List Line → Type 0
AreAmong lines more =
    (n : ℕ) (x : Line) → slice_get lines n ≡ Some x →
    (k : ℕ) × (y : Line) × (slice_get more k ≡ Some y) × (y.name ≡ x.name) × (y.formula ≡ x.formula)
