-- The lines of groups, and the places at which they stand in a text.
use Rattle.std.proofs.Common.{◌≡◌, ◌∙◌, ◌⊎◌, ℕ, ◌+◌, zero, suc, List, [], ◌∷◌, ◌++◌, refl, sym, ap, subst}
use Rattle.std.proofs.Common.{inl, inr, arith, Some, append_assoc}
use Rattle.std.specs.Prelude.{slice_get, codes}
use Rattle.station_equations.specs.EquationText.{text_of}
use Rattle.equation_text.specs.Words.{Lacks}
use Rattle.equation_text.specs.Faults.{EndsInLf, HasLine, IsLine}
use Rattle.station_equations.proofs.TextLemmas.{text_of-append}
use Rattle.equation_text.proofs.GroupLemmas.{lines_from, text_cons}
use Rattle.equation_text.proofs.WholeText.{whole_more, whole_text}
use Rattle.equation_text.proofs.FilledLemmas.{at_either}
use Rattle.equation_text.proofs.LineLemmas.{line_split}

-- one of these lines
pub record Among (l : List ℕ) (ls : List (List ℕ)) : Type 0 where
  pub place : ℕ
  pub at : slice_get ls place ≡ Some l

-- ---- the entry of a line

pub record EntryOf {X : Type 0} (lines : ℕ → X → List (List ℕ)) (n : ℕ) (xs : List X) (l : List ℕ) : Type 0 where
  pub place : ℕ
  pub entry : X
  pub at : slice_get xs place ≡ Some entry
  pub among : Among l (lines (n + place) entry)

pub entry_of : {X : Type 0} (lines : ℕ → X → List (List ℕ)) (n : ℕ) (xs : List X) (l : List ℕ)
    → Among l (lines_from lines n xs) → EntryOf lines n xs l
entry_of lines n [] l a = absurd (let at = a.at in cc at)
entry_of lines n (x ∷ xs) l a = elim (at_either (lines n x) (lines_from lines (n + 1) xs) a.place l a.at) [
  | inl here ↦
      let number : n ≡ n + 0 = omega arith in
      record {
        place = 0;
        entry = x;
        at = refl;
        among = subst (λ k. Among l (lines k x)) number (record { place = a.place; at = here });
      }
  | inr there ↦
      let rest = entry_of lines (n + 1) xs l (record { place = there.0; at = there.1 }) in
      let number : n + 1 + rest.place ≡ n + suc rest.place = omega arith in
      record {
        place = suc rest.place;
        entry = rest.entry;
        at = rest.at;
        among = subst (λ k. Among l (lines k rest.entry)) number rest.among;
      }
]

pub only_one : (l k : List ℕ) → Among l (k ∷ []) → k ≡ l
only_one l k a = by a.place a.at
  where
    by : (i : ℕ) → slice_get (k ∷ []) i ≡ Some l → k ≡ l
    by zero at = cc at
    by (suc i) at = absurd (cc at)

-- ---- lines that begin with these words

pub among_or_later : (ls : List (List ℕ)) (tail head : List ℕ) → ((l : List ℕ) → Among l ls → Lacks 10 l) →
    Lacks 10 head
    → HasLine (text_of ls ++ tail) head
    → ((l more : List ℕ) × Among l ls × (l ≡ head ++ more)) ⊎ HasLine tail head
among_or_later [] tail head lacks plain has = inr has
among_or_later (k ∷ ls) tail head lacks plain has = elim (line_split k (text_of ls ++ tail) head (lacks k (record {
  place = 0;
  at = refl;
})) plain (subst (λ (z : List ℕ). HasLine z head) (text_cons k ls tail) has)) [
  | inl here ↦ inl (k, here.0, record { place = 0; at = refl }, here.1)
  | inr later ↦ elim (among_or_later ls tail head (λ l a. lacks l (record { place = suc a.place; at = a.at })) plain
      later) [
        | inl found ↦
            let a : Among found.0 ls = found.2 in
            inl (found.0, found.1, record { place = suc a.place; at = a.at }, found.3)
        | inr behind ↦ inr behind
      ]
]

-- ---- where a line stands

pub record Stands (text l : List ℕ) : Type 0 where
  pub before : List ℕ
  pub whole : EndsInLf before
  pub rest : List ℕ
  pub is : text ≡ before ++ (l ++ 10 ∷ rest)

pub stands_after : (before text l : List ℕ) → EndsInLf before → Stands text l → Stands (before ++ text) l
stands_after before text l whole s = record {
  before = before ++ s.before;
  whole = whole_more before s.before whole s.whole;
  rest = s.rest;
  is = ap (λ (z : List ℕ). before ++ z) s.is ∙ sym (append_assoc before s.before (l ++ 10 ∷ s.rest));
}

pub stands_before : (text l more : List ℕ) → Stands text l → Stands (text ++ more) l
stands_before text l more s = record {
  before = s.before;
  whole = s.whole;
  rest = s.rest ++ more;
  is = ap (λ (z : List ℕ). z ++ more) s.is ∙ append_assoc s.before (l ++ 10 ∷ s.rest) more ∙ ap (λ
      (z : List ℕ). s.before ++ z) (append_assoc l (10 ∷ s.rest) more);
}

pub stands_line : (text l : List ℕ) → Lacks 10 l → (s : Stands text l) → IsLine text s.before l
stands_line text l lacks s = record { whole = s.whole; lacks = lacks; rest = s.rest; is = s.is }

-- the first of some lines
pub stands_first : (l : List ℕ) (ls : List (List ℕ)) → Stands (text_of (l ∷ ls)) l
stands_first l ls = record {
  before = [];
  whole = inl refl;
  rest = text_of ls;
  is = append_assoc l (codes "\n") (text_of ls);
}

pub stands_in : {X : Type 0} (lines : ℕ → X → List (List ℕ)) (n : ℕ) (xs : List X) (i : ℕ) (x : X) (l : List ℕ)
    → slice_get xs i ≡ Some x → Stands (text_of (lines (n + i) x)) l → Stands (text_of (lines_from lines n xs)) l
stands_in lines n [] i x l at s = absurd (cc at)
stands_in {X} lines n (y ∷ xs) zero x l at s =
    let same : y ≡ x = cc at in
    let number : n + 0 ≡ n = omega arith in
    let here = subst (λ k. Stands (text_of (lines k y)) l) number (subst (λ (z : X). Stands (text_of
    (lines (n + 0) z)) l) (sym same) s) in
    subst (λ (z : List ℕ). Stands z l) (sym (text_of-append (lines n y) (lines_from lines (n + 1) xs))) (stands_before
    (text_of (lines n y)) l (text_of (lines_from lines (n + 1) xs)) here)
stands_in {X} lines n (y ∷ xs) (suc i) x l at s =
    let number : n + suc i ≡ n + 1 + i = omega arith in
    let rest = stands_in lines (n + 1) xs i x l at (subst (λ k. Stands (text_of (lines k x)) l) number s) in
    subst (λ (z : List ℕ). Stands z l) (sym (text_of-append (lines n y) (lines_from lines (n + 1) xs))) (stands_after
    (text_of (lines n y)) (text_of (lines_from lines (n + 1) xs)) l (whole_text (lines n y)) rest)
