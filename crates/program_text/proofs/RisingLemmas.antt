-- Sections that rise along the lines that are read.
use Rattle.std.proofs.Common.{◌≡◌, ◌++◌, ◌<◌, ◌≤◌, ◌+◌, ℕ, zero, suc, List, [], ◌∷◌, length, slice_get, Some}
use Rattle.std.proofs.Common.{refl, sym, ap, subst, inl, inr, arith}
use Rattle.std.proofs.lemmas.Bool.{cases_eq}
use Rattle.structured_text.specs.declared.name.Name.{Name}
use Rattle.structured_text.specs.declared.line.Line.{Line}
use Rattle.structured_text.specs.Reads.{FormulaReads}
use Rattle.structured_text.specs.Order.{IsInput}
use Rattle.structured_text.proofs.OrderLemmas.{reads_more}
use Rattle.program_text.proofs.ReadLemmas.{reads_from}
use Rattle.program_text.specs.declared.section_order.TheConstants.{LAST}
use Rattle.program_text.specs.declared.section_keys.Keys.{Keys}
use Rattle.program_text.specs.ReadNames.{formula_names}
use Rattle.program_text.specs.Sections.{key_in, section_at, AreKeysSmall, RisesTo, KeysRise}

-- ---- one section more
old_at : (xs : List ℕ) (s n : ℕ) → n < length xs → section_at (xs ++ s ∷ []) n ≡ section_at xs n
old_at [] s n low = absurd (omega (arith, low))
old_at (x ∷ xs) s zero low = refl
old_at (x ∷ xs) s (suc n) low = old_at xs s n (omega (arith, low))

new_at : (xs : List ℕ) (s : ℕ) → section_at (xs ++ s ∷ []) (length xs) ≡ s
new_at [] s = refl
new_at (x ∷ xs) s = new_at xs s

pub keys_small : (xs : List ℕ) (s : ℕ) → s ≤ LAST → AreKeysSmall xs → AreKeysSmall (xs ++ s ∷ [])
keys_small [] s low h zero = low
keys_small [] s low h (suc n) = h n
keys_small (x ∷ xs) s low h zero = h 0
keys_small (x ∷ xs) s low h (suc n) = keys_small xs s low (λ k. h (suc k)) n

-- each of the first lines stands in no later section than the one behind which its variable can be read
abbrev pub AreNoted : List Line → List ℕ → Keys → ℕ → Type 0
AreNoted lines sections keys count =
    (k : ℕ) (y : Line) → k < count → slice_get lines k ≡ Some y → ¬ IsInput y.name →
    section_at sections k ≤ key_in keys y.name

module _ (lines : List Line) (sections : List ℕ) (s n : ℕ) (count : length sections ≡ n) (x : Line)
    (listed : slice_get lines n ≡ Some x) (old new : Keys) where
  abbrev more : List ℕ
  more = sections ++ s ∷ []

  same_section : (k : ℕ) → k < n → section_at more k ≡ section_at sections k
  same_section k low = old_at sections s k (omega (arith, low, count))

  this_section : section_at more n ≡ s
  this_section = subst (λ k. section_at more k ≡ s) count (new_at sections s)

  pub noted_more : AreNoted lines sections old n → ((m : Name) → key_in old m ≤ key_in new m) →
      (¬ IsInput x.name → s ≤ key_in new x.name) → AreNoted lines more new (n + 1)
  noted_more before kept raised k y low at strange = elim (cases_eq k n) [
    | inl e ↦
        let at_n : slice_get lines n ≡ Some y = subst (λ i. slice_get lines i ≡ Some y) e at in
        let is : x ≡ y = cc (listed, at_n) in
        let here : s ≤ key_in new y.name =
        subst (λ (z : Line). s ≤ key_in new z.name) is (raised (λ i. strange (subst (λ (z : Line). IsInput z.name) is i))) in
        let this = this_section in
        let same : section_at more k ≡ section_at more n = ap (section_at more) e in
        omega (arith, here, this, same)
    | inr far ↦
        let under : k < n = omega (arith, low, far) in
        let a = same_section k under in
        let b = before k y under at strange in
        let c = kept y.name in
        omega (arith, a, b, c)
  ]

  pub rise_more : AreNoted lines sections old n → KeysRise lines sections n →
      ((k : ℕ) (m : Name) → slice_get (formula_names x.formula) k ≡ Some m → key_in old m ≤ s) →
      KeysRise lines more (n + 1)
  rise_more noted before behind i y low at = elim (cases_eq i n) [
    | inl e ↦
        let at_n : slice_get lines n ≡ Some y = subst (λ j. slice_get lines j ≡ Some y) e at in
        let is : x ≡ y = cc (listed, at_n) in
        subst (λ j. FormulaReads (RisesTo lines more j) y.formula) (sym e)
        (subst (λ (z : Line). FormulaReads (RisesTo lines more n) z.formula) is
        (reads_from (RisesTo lines more n) x.formula (λ j m read k z under at_k strange name.
        let a = same_section k under in
        let b = noted k z under at_k strange in
        let c = behind j m read in
        let d : key_in old z.name ≡ key_in old m = ap (key_in old) name in
        let this = this_section in
        omega (arith, a, b, c, d, this))))
    | inr far ↦
        let under : i < n = omega (arith, low, far) in
        reads_more (RisesTo lines sections i) (RisesTo lines more i) (λ m h k z lower at_k strange name.
        let a = same_section k (omega (arith, lower, under)) in
        let b = same_section i under in
        let c = h k z lower at_k strange name in
        omega (arith, a, b, c)) y.formula (before i y under at)
  ]
