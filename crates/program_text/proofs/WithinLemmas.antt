-- The lines name switches of the station alone.
use Rattle.std.proofs.Common.{◌≡◌, ◌<◌, ◌≤◌, ◌^◌, ◌++◌, ℕ, zero, suc, List, [], ◌∷◌, Bool, true, false, length, get_or, Some, None, refl}
use Rattle.std.proofs.Common.{sym, subst, inl, inr, arith}
use Rattle.std.specs.Prelude.{Option, nat_lt, if◌then◌else◌}
use Rattle.std.proofs.lemmas.Bool.Decides.{nat_tests}
use Rattle.std.proofs.lemmas.Option.{slice_get-get_or}
use Rattle.ilk_base.specs.declared.words.Kind.{Kind}
use Rattle.ilk_base.specs.declared.words.Kind.TheVariants.{Breaker, Disconnector, Earthing, Infeed}
use Rattle.ilk_base.specs.declared.words.SwitchId.{SwitchId}
use Rattle.interlock_terms.specs.declared.term.Term.{Term}
use Rattle.interlock_terms.specs.declared.term.Term.TheVariants.{Always, Closed, Both, Either}
use Rattle.interlock_terms.specs.Terms.{RefersBelow, AreOrdered}
use Rattle.interlock_terms.proofs.TermLemmas.{push_cases}
use Rattle.short_equations.specs.declared.pair.TermPair.{TermPair}
use Rattle.structured_text.specs.declared.line.GapDenial.{GapDenial}
use Rattle.structured_text.specs.declared.line.LoadDenial.{LoadDenial}
use Rattle.structured_text.specs.declared.line.Formula.TheVariants.{Never}
use Rattle.structured_text.specs.declared.line.Heading.{Heading}
use Rattle.structured_text.specs.declared.line.Line.{Line}
use Rattle.station_graph.specs.Diagram.{Diagram, part_count}
use Rattle.structured_text.specs.Within.{IsOfFormula, GapWithin, LoadWithin, OperandWithin, FormulaWithin}
use Rattle.structured_text.specs.Within.{HeadingWithin, LineWithin, LinesWithin}
use Rattle.structured_text.proofs.FormulaNames.{formula_within as any_within}
use Rattle.program_text.specs.declared.reading.Reading.{Reading}
use Rattle.program_text.specs.declared.reading.Reading.TheVariants.{May as AsClosed, Sure as AsOpen}
use Rattle.program_text.specs.declared.place.Place.{Place}
use Rattle.program_text.specs.declared.place.Place.TheVariants.{Nowhere, Inside, Named}
use Rattle.program_text.specs.Names.{name_in}
use Rattle.program_text.specs.TermLines.{position_in, leaf_in, inside_in, operand_in, side_in, formula_in}
use Rattle.program_text.specs.Releases.{known_in, pair_in, two_of, one_of, gap_denial_in, loaded_of, load_denial_in, release_in}

lt_from : (a b : ℕ) → nat_lt a b ≡ true → a < b
lt_from a b e = grind (arith, nat_tests)

pub within_pushed : (d : Diagram) (lines : List Line) (l : Line) → LinesWithin d lines → LineWithin d l →
    LinesWithin d (lines ++ l ∷ [])
within_pushed d lines l h k i x at = elim (push_cases lines l x i at) [
  | inl old ↦ h i x old
  | inr new ↦ subst (LineWithin d) new.1 k
]

pub within_both : (d : Diagram) (xs ys : List Line) → LinesWithin d xs → LinesWithin d ys → LinesWithin d (xs ++ ys)
within_both d [] ys h k i x at = k i x at
within_both d (z ∷ zs) ys h k zero x at = h 0 x at
within_both d (z ∷ zs) ys h k (suc i) x at = within_both d zs ys (λ j y at_j. h (suc j) y at_j) k i x at

name_small : (r : Reading) (k : ℕ) → k < 2 ^ 64 → IsOfFormula (name_in r k)
name_small AsClosed k small = small
name_small AsOpen k small = small

position_within : (count : ℕ) (r : Reading) (i : SwitchId) → i.0 < count → FormulaWithin count (position_in r i)
position_within count AsClosed i low = low
position_within count AsOpen i low = low

leaf_within : (count : ℕ) (r : Reading) (i : SwitchId) → FormulaWithin count (leaf_in r count i)
leaf_within count r i = by (nat_lt i.0 count) refl
  where
    by : (b : Bool) → nat_lt i.0 count ≡ b → FormulaWithin count (leaf_in r count i)
    by true e =
        subst (λ q. FormulaWithin count (if q then position_in r i else Never)) (sym e)
        (position_within count r i (lt_from i.0 count e))
    by false e = subst (λ q. FormulaWithin count (if q then position_in r i else Never)) (sym e) tt

inside_within : (r : Reading) (t : Term) (n : ℕ) → n < 2 ^ 64 → RefersBelow n t → OperandWithin (inside_in r t n)
inside_within r Always n small lower = name_small r n small
inside_within r (Closed i) n small lower = name_small r n small
inside_within r (Both a b) n small lower =
    let x = lower.0 in
    let y = lower.1 in
    (name_small r a (omega (arith, x, small)), name_small r b (omega (arith, y, small)))
inside_within r (Either a b) n small lower =
    let x = lower.0 in
    let y = lower.1 in
    (name_small r a (omega (arith, x, small)), name_small r b (omega (arith, y, small)))

operand_within : (r : Reading) (p : Place) (t : Term) (n : ℕ) → n < 2 ^ 64 → RefersBelow n t →
    OperandWithin (operand_in r p t n)
operand_within r Nowhere t n small lower = name_small r n small
operand_within r Inside t n small lower = inside_within r t n small lower
operand_within r Named t n small lower = name_small r n small

module _ (r : Reading) (terms : List Term) (places : List Place) (ordered : AreOrdered terms) (k : ℕ)
    (within : k < length terms) (small : k < 2 ^ 64) where
  side_within : (n : ℕ) → n < k → OperandWithin (side_in r terms places n)
  side_within n low =
      operand_within r (get_or places n Nowhere) (get_or terms n Always) n (omega (arith, low, small))
      (ordered n (get_or terms n Always) (slice_get-get_or terms n Always (omega (arith, low, within))))

  formula_within : (count : ℕ) (t : Term) → RefersBelow k t → FormulaWithin count (formula_in r count terms places t)
  formula_within count Always lower = tt
  formula_within count (Closed i) lower = leaf_within count r i
  formula_within count (Both a b) lower = (side_within a lower.0, side_within b lower.1)
  formula_within count (Either a b) lower = (side_within a lower.0, side_within b lower.1)

  pub term_within : (d : Diagram) (count : ℕ) → length d.switches ≡ count → (hd : Option Heading) →
      HeadingWithin (part_count d) hd → (t : Term) → RefersBelow k t →
      LineWithin d (record { heading = hd; name = name_in r k; formula = formula_in r count terms places t })
  term_within d count counted hd above t lower = record {
    heading = above;
    name = any_within (length d.switches) (name_in r k) (name_small r k small);
    formula = subst (λ n. FormulaWithin n (formula_in r count terms places t)) (sym counted) (formula_within count t lower);
  }

-- ---- releases
abbrev GapIn : Option GapDenial → Type 0
GapIn None = Unit {0}
GapIn (Some g) = GapWithin g

abbrev LoadIn : Option LoadDenial → Type 0
LoadIn None = Unit {0}
LoadIn (Some l) = LoadWithin l

-- a formula whose number is small, or none
abbrev IsSmall : Option ℕ → Type 0
IsSmall None = Unit {0}
IsSmall (Some n) = n < 2 ^ 64

known_small : (count : ℕ) → count ≤ 2 ^ 64 → (o : Option ℕ) → IsSmall (known_in count o)
known_small count few None = tt
known_small count few (Some n) = by (nat_lt n count) refl
  where
    by : (b : Bool) → nat_lt n count ≡ b → IsSmall (known_in count (Some n))
    by true e =
        let low = lt_from n count e in
        subst (λ q. IsSmall (if q then Some n else None)) (sym e) (omega (arith, low, few))
    by false e = subst (λ q. IsSmall (if q then Some n else None)) (sym e) tt

two_in : (a b : Option ℕ) → IsSmall a → IsSmall b → GapIn (two_of a b)
two_in (Some a) (Some b) h k = (h, k)
two_in (Some a) None h k = tt
two_in None b h k = tt

one_in : (a : Option ℕ) → IsSmall a → GapIn (one_of a)
one_in (Some a) h = h
one_in None h = tt

loaded_in : (a b c : Option ℕ) → IsSmall a → IsSmall b → IsSmall c → LoadIn (loaded_of a b c)
loaded_in (Some a) (Some b) (Some c) h k l = (h, k, l)
loaded_in (Some a) (Some b) None h k l = (h, k)
loaded_in (Some a) None c h k l = tt
loaded_in None b c h k l = tt

release_within : (count : ℕ) (g : Option GapDenial) (l : Option LoadDenial) → GapIn g → LoadIn l →
    FormulaWithin count (release_in g l)
release_within count (Some g) (Some l) h k = (h, k)
release_within count (Some g) None h k = h
release_within count None (Some l) h k = k
release_within count None None h k = tt

module _ (count may sure : ℕ) (few : may ≤ 2 ^ 64) (rare : sure ≤ 2 ^ 64) where
  gap_in : (k : Kind) (p : TermPair) → GapIn (gap_denial_in k (pair_in may p))
  gap_in Breaker p =
      two_in (known_in may p.first) (known_in may p.second) (known_small may few p.first) (known_small may few p.second)
  gap_in Disconnector p =
      two_in (known_in may p.first) (known_in may p.second) (known_small may few p.first) (known_small may few p.second)
  gap_in Earthing p = one_in (known_in may p.first) (known_small may few p.first)
  gap_in Infeed p = one_in (known_in may p.second) (known_small may few p.second)

  load_in : (k : Kind) (l b : TermPair) → LoadIn (load_denial_in k (pair_in may l) (pair_in sure b))
  load_in Breaker l b = tt
  load_in Disconnector l b =
      loaded_in (known_in may l.first) (known_in may l.second) (known_in sure b.first) (known_small may few l.first)
      (known_small may few l.second) (known_small sure rare b.first)
  load_in Earthing l b = tt
  load_in Infeed l b = tt

  pub opening_within : (k : Kind) (l b : TermPair) →
      FormulaWithin count (release_in None (load_denial_in k (pair_in may l) (pair_in sure b)))
  opening_within k l b =
      release_within count None (load_denial_in k (pair_in may l) (pair_in sure b)) tt (load_in k l b)

  pub closing_within : (k : Kind) (g l b : TermPair) →
      FormulaWithin count (release_in (gap_denial_in k (pair_in may g)) (load_denial_in k (pair_in may l) (pair_in sure b)))
  closing_within k g l b =
      release_within count (gap_denial_in k (pair_in may g)) (load_denial_in k (pair_in may l) (pair_in sure b))
      (gap_in k g) (load_in k l b)
