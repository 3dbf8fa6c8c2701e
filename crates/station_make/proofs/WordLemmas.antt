-- The number that a word names is found among those that can be made.
use Rattle.std.proofs.Common.{◌≡◌, ◌≢◌, ◌∙◌, ◌<◌, ◌≤◌, ◌+◌, ◌^◌, ap, sym, refl, ℕ, zero, suc, true, false, List, Option}
use Rattle.std.proofs.Common.{Some, None, inl, inr, arith}
use Rattle.std.specs.Prelude.{find, decimal, IfSome, IfNone}
use Rattle.std.specs.List.{range_with_len}
use Rattle.std.specs.Str.{bytes_eq}
use Rattle.std.proofs.lemmas.Bool.{cases_Bool}
use Rattle.std.proofs.lemmas.Slice.Eq.{bytes_eq-Decides}
use Rattle.std.proofs.lemmas.Fmt.{decimal_injective}
use Rattle.station_make.specs.Words.{NamesFeeders, feeders_of}

-- of numbers in a row the one that is written so is found
find_number : (word : List ℕ) (first count n : ℕ) → first ≤ n → n < first + count → n < 2 ^ 8 → word ≡ decimal n →
    find (λ x. bytes_eq (decimal x) word) (range_with_len first count) ≡ Some n
find_number word first zero n low high few written = absurd (omega arith)
find_number word first (suc count) n low high few written = elim (cases_Bool (bytes_eq (decimal first) word)) [
  | inl same ↦
      let equal : decimal first ≡ decimal n = (bytes_eq-Decides (decimal first) word).0 same ∙ written in
      let is : first ≡ n = decimal_injective first n (omega arith) (omega arith) equal in
      rw same (ap Some is)
  | inr other ↦
      let differ : first ≢ n = λ is. differs first is other in
      rw other (find_number word (first + 1) count n (omega arith) (omega arith) few written)
]
  where
    differs : (x : ℕ) → x ≡ n → bytes_eq (decimal x) word ≡ false → ⊥
    differs x is other =
        let same : bytes_eq (decimal x) word ≡ true =
        (bytes_eq-Decides (decimal x) word).1 (ap decimal is ∙ sym written) in
        cc

-- and where none is written so, none is found
find_none : (word : List ℕ) (first count : ℕ) → ((n : ℕ) → first ≤ n → n < first + count → word ≢ decimal n) →
    find (λ x. bytes_eq (decimal x) word) (range_with_len first count) ≡ None
find_none word first zero none = refl
find_none word first (suc count) none = elim (cases_Bool (bytes_eq (decimal first) word)) [
  | inl same ↦ absurd (none first (omega arith) (omega arith) (sym ((bytes_eq-Decides (decimal first) word).0 same)))
  | inr other ↦ rw other (find_none word (first + 1) count (λ n low high. none n (omega arith) (omega arith)))
]

pub found : (word : List ℕ) (r : Option ℕ) → IfSome r (NamesFeeders word) →
    IfNone r ((n : ℕ) → NamesFeeders word n → ⊥) → r ≡ feeders_of word
unfolding feeders_of
found word (Some n) names none =
    sym (find_number word 2 59 n names.least (omega (arith, names.most)) (omega (arith, names.most)) names.written)
found word None some none =
    sym (find_none word 2 59
    (λ n low high written. none n (record { least = low; most = omega arith; written = written })))
