-- Terms: monotone formulas over the positions of switches, each made of earlier ones, and their values.
use Rattle.std.specs.Prelude.{◌≡◌, ◌↔◌, ◌⊎◌, ◌++◌, ◌<◌, ◌&&◌, ◌||◌, ℕ, Bool, true, false, List, [], ◌∷◌, slice_get, slice_index_or, Option, Some, None}
use Rattle.interlock_terms.specs.declared.term.Term.{Term}
use Rattle.interlock_terms.specs.declared.term.Term.TheVariants.{Always, Closed, Both, Either}

-- Which switches count as closed, and the values of the terms.
pub record Values : Type 0 where
  pub closed : List Bool
  pub terms : List Bool

-- The term of this number is true.
abbrev pub IsTrueAt : Values → ℕ → Type 0
IsTrueAt v n = slice_get v.terms n ≡ Some true

-- What the term says of others.
abbrev pub Says : Values → Term → Type 0
Says v Always = Unit {0}
Says v (Closed s) = slice_get v.closed s.0 ≡ Some true
Says v (Both a b) = IsTrueAt v a × IsTrueAt v b
Says v (Either a b) = IsTrueAt v a ⊎ IsTrueAt v b

-- The values solve the terms: each is true exactly where what it says is.
abbrev pub Solves : Values → List Term → Type 0
Solves v terms = (n : ℕ) (t : Term) → slice_get terms n ≡ Some t → IsTrueAt v n ↔ Says v t

-- Later terms were added at the end.
pub record Grew (old new : List Term) : Type 0 where
  pub more : List Term
  pub is : new ≡ old ++ more

-- Wherever the first is true, the second is.
abbrev pub Implies : List Term → ℕ → ℕ → Type 0
Implies terms a b = (v : Values) → Solves v terms → IsTrueAt v a → IsTrueAt v b

-- Term n is true exactly where both are.
abbrev pub MeansBoth : List Term → ℕ → ℕ → ℕ → Type 0
MeansBoth terms n a b = (v : Values) → Solves v terms → IsTrueAt v n ↔ (IsTrueAt v a × IsTrueAt v b)

-- Term n is true exactly where one of two is.
abbrev pub MeansEither : List Term → ℕ → ℕ → ℕ → Type 0
MeansEither terms n a b = (v : Values) → Solves v terms → IsTrueAt v n ↔ (IsTrueAt v a ⊎ IsTrueAt v b)

-- The term is always true, or is one of two of which n is one.
abbrev pub IsWeaker : Option Term → ℕ → Type 0
IsWeaker None n = ⊥
IsWeaker (Some Always) n = Unit {0}
IsWeaker (Some (Closed s)) n = ⊥
IsWeaker (Some (Both a b)) n = ⊥
IsWeaker (Some (Either a b)) n = (a ≡ n) ⊎ (b ≡ n)

-- The term is both of two of which n is one.
abbrev pub IsStronger : Option Term → ℕ → Type 0
IsStronger None n = ⊥
IsStronger (Some Always) n = ⊥
IsStronger (Some (Closed s)) n = ⊥
IsStronger (Some (Both a b)) n = (a ≡ n) ⊎ (b ≡ n)
IsStronger (Some (Either a b)) n = ⊥

-- The term refers to terms before n alone.
abbrev pub RefersBelow : ℕ → Term → Type 0
RefersBelow n Always = Unit {0}
RefersBelow n (Closed s) = Unit {0}
RefersBelow n (Both a b) = (a < n) × (b < n)
RefersBelow n (Either a b) = (a < n) × (b < n)

-- Each term refers to earlier ones alone.
abbrev pub AreOrdered : List Term → Type 0
AreOrdered terms = (n : ℕ) (t : Term) → slice_get terms n ≡ Some t → RefersBelow n t

-- The value of a term, from those of the terms before it.
abbrev pub value_of : List Bool → List Bool → Term → Bool
value_of closed done Always = true
value_of closed done (Closed s) = slice_index_or closed s.0 false
value_of closed done (Both a b) = slice_index_or done a false && slice_index_or done b false
value_of closed done (Either a b) = slice_index_or done a false || slice_index_or done b false

-- The values of the terms, one after another, from those before them: what the lines of a text mean.
abbrev pub evaluated : List Bool → List Bool → List Term → List Bool
evaluated closed done [] = done
evaluated closed done (t ∷ ts) = evaluated closed (done ++ value_of closed done t ∷ []) ts
