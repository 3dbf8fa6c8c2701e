-- The lines of releases read formulas that there are, and set each release once.
use Rattle.std.proofs.Common.{◌≡◌, ◌⊎◌, ◌++◌, ◌∙◌, ◌↔◌, ◌<◌, ◌+◌, ℕ, List, [], ◌∷◌, Bool, true, false, Some, None, refl, sym, subst, inl, inr}
use Rattle.std.proofs.Common.{arith, ap}
use Rattle.std.proofs.lemmas.Bool.{cases_eq}
use Rattle.std.specs.Prelude.{Option, nat_lt, if◌then◌else◌}
use Rattle.std.proofs.lemmas.Bool.Decides.{nat_tests}
use Rattle.ilk_base.specs.declared.words.Kind.{Kind}
use Rattle.ilk_base.specs.declared.words.Kind.TheVariants.{Breaker, Disconnector, Earthing, Infeed}
use Rattle.short_equations.specs.declared.pair.TermPair.{TermPair}
use Rattle.structured_text.specs.declared.name.Name.{Name}
use Rattle.structured_text.specs.declared.name.Name.TheVariants.{Off, On, May, Sure, Opens, Closes}
use Rattle.structured_text.specs.declared.line.GapDenial.{GapDenial}
use Rattle.structured_text.specs.declared.line.LoadDenial.{LoadDenial}
use Rattle.structured_text.specs.declared.line.Line.{Line}
use Rattle.structured_text.specs.Reads.{GapReads, LoadReads, FormulaReads}
use Rattle.structured_text.specs.Order.{IsSetIn, AreInOrder}
use Rattle.structured_text.proofs.OrderLemmas.{reads_more, set_left, set_last, last_set, one_more_in_order}
use Rattle.program_text.specs.Releases.{known_in, pair_in, two_of, one_of, gap_denial_in, loaded_of, load_denial_in, release_in}
use Rattle.program_text.specs.Releases.{IsFormula, IsReleaseBelow}

lt_from : (a b : ℕ) → nat_lt a b ≡ true → a < b
lt_from a b e = grind (arith, nat_tests)

-- a formula of so many, or none
abbrev IsOne : ℕ → Option ℕ → Type 0
IsOne count None = Unit {0}
IsOne count (Some n) = n < count

known_one : (count : ℕ) (o : Option ℕ) → IsOne count (known_in count o)
known_one count None = tt
known_one count (Some n) = by (nat_lt n count) refl
  where
    by : (b : Bool) → nat_lt n count ≡ b → IsOne count (known_in count (Some n))
    by true e = subst (λ q. IsOne count (if q then Some n else None)) (sym e) (lt_from n count e)
    by false e = subst (λ q. IsOne count (if q then Some n else None)) (sym e) tt

module _ (may sure : ℕ) where
  abbrev F : Name → Type 0
  F = IsFormula may sure

  abbrev GapOf : Option GapDenial → Type 0
  GapOf None = Unit {0}
  GapOf (Some g) = GapReads F g

  abbrev LoadOf : Option LoadDenial → Type 0
  LoadOf None = Unit {0}
  LoadOf (Some l) = LoadReads F l

  two_reads : (a b : Option ℕ) → IsOne may a → IsOne may b → GapOf (two_of a b)
  two_reads (Some a) (Some b) h k = (h, k)
  two_reads (Some a) None h k = tt
  two_reads None b h k = tt

  one_reads : (a : Option ℕ) → IsOne may a → GapOf (one_of a)
  one_reads (Some a) h = h
  one_reads None h = tt

  loaded_reads : (a b c : Option ℕ) → IsOne may a → IsOne may b → IsOne sure c → LoadOf (loaded_of a b c)
  loaded_reads (Some a) (Some b) (Some c) h k l = (h, k, l)
  loaded_reads (Some a) (Some b) None h k l = (h, k)
  loaded_reads (Some a) None c h k l = tt
  loaded_reads None b c h k l = tt

  gap_reads : (k : Kind) (p : TermPair) → GapOf (gap_denial_in k (pair_in may p))
  gap_reads Breaker p = two_reads (known_in may p.first) (known_in may p.second) (known_one may p.first) (known_one may p.second)
  gap_reads Disconnector p =
      two_reads (known_in may p.first) (known_in may p.second) (known_one may p.first) (known_one may p.second)
  gap_reads Earthing p = one_reads (known_in may p.first) (known_one may p.first)
  gap_reads Infeed p = one_reads (known_in may p.second) (known_one may p.second)

  load_reads : (k : Kind) (l b : TermPair) → LoadOf (load_denial_in k (pair_in may l) (pair_in sure b))
  load_reads Breaker l b = tt
  load_reads Disconnector l b =
      loaded_reads (known_in may l.first) (known_in may l.second) (known_in sure b.first) (known_one may l.first)
      (known_one may l.second) (known_one sure b.first)
  load_reads Earthing l b = tt
  load_reads Infeed l b = tt

  release_reads : (g : Option GapDenial) (l : Option LoadDenial) → GapOf g → LoadOf l → FormulaReads F (release_in g l)
  release_reads (Some g) (Some l) h k = (h, k)
  release_reads (Some g) None h k = h
  release_reads None (Some l) h k = k
  release_reads None None h k = tt

  pub opening_reads : (k : Kind) (l b : TermPair) →
      FormulaReads F (release_in None (load_denial_in k (pair_in may l) (pair_in sure b)))
  opening_reads k l b = release_reads None (load_denial_in k (pair_in may l) (pair_in sure b)) tt (load_reads k l b)

  pub closing_reads : (k : Kind) (g l b : TermPair) →
      FormulaReads F (release_in (gap_denial_in k (pair_in may g)) (load_denial_in k (pair_in may l) (pair_in sure b)))
  closing_reads k g l b =
      release_reads (gap_denial_in k (pair_in may g)) (load_denial_in k (pair_in may l) (pair_in sure b)) (gap_reads k g)
      (load_reads k l b)

  more_below : (k : ℕ) (m : Name) → IsReleaseBelow k m → IsReleaseBelow (k + 1) m
  more_below k (Off i) h = absurd h
  more_below k (On i) h = absurd h
  more_below k (May n) h = absurd h
  more_below k (Sure n) h = absurd h
  more_below k (Opens i) h = omega (arith, h)
  more_below k (Closes i) h = omega (arith, h)

  -- two lines more, for one switch more
  module _ (k : ℕ) (lines : List Line) (order : AreInOrder F lines) (sets : (m : Name) → IsSetIn lines m ↔ IsReleaseBelow k m)
      (x y : Line) (opens : x.name ≡ Opens (record { 0 = k })) (closes : y.name ≡ Closes (record { 0 = k }))
      (x_reads : FormulaReads F x.formula) (y_reads : FormulaReads F y.formula) where
    abbrev one : List Line
    one = lines ++ x ∷ []

    abbrev two : List Line
    two = one ++ y ∷ []

    opens_new : ¬ IsSetIn lines x.name
    opens_new h =
        let low : k < k = subst (IsReleaseBelow k) opens ((sets x.name).0 h) in omega (arith, low)

    closes_new : ¬ IsSetIn one y.name
    closes_new h = elim (set_last lines x y.name h) [
      | inl old ↦ let low : k < k = subst (IsReleaseBelow k) closes ((sets y.name).0 old) in omega (arith, low)
      | inr e ↦ cc (opens, closes, e)
    ]

    pub two_order : AreInOrder F two
    two_order =
        one_more_in_order F one y
        (one_more_in_order F lines x order (reads_more F (λ m. F m ⊎ IsSetIn lines m) (λ m h. inl h) x.formula x_reads)
        (λ h. subst F opens h) opens_new)
        (reads_more F (λ m. F m ⊎ IsSetIn one m) (λ m h. inl h) y.formula y_reads) (λ h. subst F closes h) closes_new

    pub two_sets : (m : Name) → IsSetIn two m ↔ IsReleaseBelow (k + 1) m
    two_sets m = (
      λ h. elim (set_last one y m h) [
        | inl a ↦ elim (set_last lines x m a) [
          | inl b ↦ more_below k m ((sets m).0 b)
          | inr e ↦ let low : k < k + 1 = omega arith in subst (IsReleaseBelow (k + 1)) (sym opens ∙ e) low
        ]
        | inr e ↦ let low : k < k + 1 = omega arith in subst (IsReleaseBelow (k + 1)) (sym closes ∙ e) low
      ],
      below m,
    )
      where
        old : (m : Name) → IsReleaseBelow k m → IsSetIn two m
        old m h = set_left one (y ∷ []) m (set_left lines (x ∷ []) m ((sets m).1 h))

        below : (m : Name) → IsReleaseBelow (k + 1) m → IsSetIn two m
        below (Off i) h = absurd h
        below (On i) h = absurd h
        below (May n) h = absurd h
        below (Sure n) h = absurd h
        below (Opens i) h = elim (cases_eq i.0 k) [
          | inl e ↦
              subst (IsSetIn two) (opens ∙ ap (λ j. Opens (record { 0 = j })) (sym e))
              (set_left one (y ∷ []) x.name (last_set lines x))
          | inr far ↦ old (Opens i) (omega (arith, h, far))
        ]
        below (Closes i) h = elim (cases_eq i.0 k) [
          | inl e ↦ subst (IsSetIn two) (closes ∙ ap (λ j. Closes (record { 0 = j })) (sym e)) (last_set one y)
          | inr far ↦ old (Closes i) (omega (arith, h, far))
        ]
