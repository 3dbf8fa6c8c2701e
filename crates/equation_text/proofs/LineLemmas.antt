-- The lines of a text, one by one.
use Rattle.std.proofs.Common.{◌≡◌, ◌∙◌, ◌⊎◌, ℕ, List, [], ◌∷◌, ◌++◌, refl, sym, ap, subst}
use Rattle.std.proofs.Common.{inl, inr, append_assoc}
use Rattle.equation_text.specs.Words.{Lacks}
use Rattle.equation_text.specs.Faults.{EndsInLf, HasLine}
use Rattle.equation_text.proofs.WordLemmas.{not_cut}
use Rattle.equation_text.proofs.WholeText.{whole_line, whole_more}

-- a line that begins as a text without LF does
peel : (head rest l tail : List ℕ) → Lacks 10 head → l ++ 10 ∷ tail ≡ head ++ rest →
    (more : List ℕ) × (l ≡ head ++ more)
peel [] rest l tail lacks same = (l, refl)
peel (h ∷ head) rest [] tail lacks same = absurd (lacks.0 (let e : 10 ≡ h = cc same in sym e))
peel (h ∷ head) rest (x ∷ l) tail lacks same =
    let first : x ≡ h = cc same in
    let next : l ++ 10 ∷ tail ≡ head ++ rest = cc same in
    let found = peel head rest l tail lacks.1 next in
    (found.0, ap (λ z. z ∷ l) first ∙ ap (λ (zs : List ℕ). h ∷ zs) found.1)

-- a later LF stands behind the first one
pub record Later (l tail b rest : List ℕ) : Type 0 where
  pub between : List ℕ
  pub before : b ≡ l ++ 10 ∷ between
  pub behind : tail ≡ between ++ 10 ∷ rest

pub first_or_later : (l tail b rest : List ℕ) → Lacks 10 l → l ++ 10 ∷ tail ≡ b ++ 10 ∷ rest
    → ((l ≡ b) × (tail ≡ rest)) ⊎ Later l tail b rest
first_or_later [] tail [] rest lacks same = inl (refl, let e : tail ≡ rest = cc same in e)
first_or_later [] tail (c ∷ b) rest lacks same =
    let first : 10 ≡ c = cc same in
    let next : tail ≡ b ++ 10 ∷ rest = cc same in
    inr (record { between = b; before = ap (λ z. z ∷ b) (sym first); behind = next })
first_or_later (x ∷ l) tail [] rest lacks same = absurd (lacks.0 (let e : x ≡ 10 = cc same in e))
first_or_later (x ∷ l) tail (c ∷ b) rest lacks same =
    let first : x ≡ c = cc same in
    let next : l ++ 10 ∷ tail ≡ b ++ 10 ∷ rest = cc same in
    elim (first_or_later l tail b rest lacks.1 next) [
      | inl here ↦ inl (ap (λ z. z ∷ l) first ∙ ap (λ (zs : List ℕ). c ∷ zs) here.0, here.1)
      | inr there ↦ inr (record {
        between = there.between;
        before = ap (λ (zs : List ℕ). c ∷ zs) there.before ∙ ap (λ z. z ∷ (l ++ 10 ∷ there.between)) (sym first);
        behind = there.behind;
      })
    ]

-- ---- lines that begin with these words

pub line_here : (l tail head more : List ℕ) → l ≡ head ++ more → HasLine (l ++ 10 ∷ tail) head
line_here l tail head more is = record {
  before = [];
  whole = inl refl;
  rest = more ++ 10 ∷ tail;
  is = ap (λ (z : List ℕ). z ++ 10 ∷ tail) is ∙ append_assoc head more (10 ∷ tail);
}

pub line_after : (before tail head : List ℕ) → EndsInLf before → HasLine tail head → HasLine (before ++ tail) head
line_after before tail head whole has = record {
  before = before ++ has.before;
  whole = whole_more before has.before whole has.whole;
  rest = has.rest;
  is = ap (λ (z : List ℕ). before ++ z) has.is ∙ sym (append_assoc before has.before (head ++ has.rest));
}

pub line_later : (l tail head : List ℕ) → HasLine tail head → HasLine (l ++ 10 ∷ tail) head
line_later l tail head has = subst (λ (z : List ℕ). HasLine z head) (append_assoc l (10 ∷ []) tail) (line_after
    (l ++ 10 ∷ []) tail head (whole_line l) has)

split_by : (l tail head before rest : List ℕ) → Lacks 10 l → Lacks 10 head → EndsInLf before
    → l ++ 10 ∷ tail ≡ before ++ (head ++ rest) → ((more : List ℕ) × (l ≡ head ++ more)) ⊎ HasLine tail head
split_by l tail head before rest lacks plain (inl none) same = inl (peel head rest l tail plain (same ∙ ap (λ
    (z : List ℕ). z ++ (head ++ rest)) none))
split_by l tail head before rest lacks plain (inr some) same =
    let cut = same ∙ ap (λ (z : List ℕ). z ++ (head ++ rest)) some.1 ∙ append_assoc some.0 (10 ∷ []) (head ++ rest) in
    elim (first_or_later l tail some.0 (head ++ rest) lacks cut) [
      | inl here ↦ inr (record { before = []; whole = inl refl; rest = rest; is = here.1 })
      | inr there ↦ inr (record {
        before = there.between ++ 10 ∷ [];
        whole = whole_line there.between;
        rest = rest;
        is = there.behind ∙ sym (append_assoc there.between (10 ∷ []) (head ++ rest));
      })
    ]

pub line_split : (l tail head : List ℕ) → Lacks 10 l → Lacks 10 head → HasLine (l ++ 10 ∷ tail) head
    → ((more : List ℕ) × (l ≡ head ++ more)) ⊎ HasLine tail head
line_split l tail head lacks plain has = split_by l tail head has.before has.rest lacks plain has.whole has.is

pub last_here : (left head rest : List ℕ) → left ≡ head ++ rest → HasLine left head
last_here left head rest is = record { before = []; whole = inl refl; rest = rest; is = is }

last_by : (left head before rest : List ℕ) → Lacks 10 left → EndsInLf before → left ≡ before ++ (head ++ rest)
    → left ≡ head ++ rest
last_by left head before rest lacks (inl none) is = is ∙ ap (λ (z : List ℕ). z ++ (head ++ rest)) none
last_by left head before rest lacks (inr some) is = absurd (not_cut 10 left some.0 (head ++ rest) lacks (is ∙ ap (λ
    (z : List ℕ). z ++ (head ++ rest)) some.1 ∙ append_assoc some.0 (10 ∷ []) (head ++ rest)))

pub last_only : (left head : List ℕ) → Lacks 10 left → HasLine left head → (rest : List ℕ) × (left ≡ head ++ rest)
last_only left head lacks has = (has.rest, last_by left head has.before has.rest lacks has.whole has.is)
