-- Lines in order, one after another and one list behind another.
use Rattle.std.proofs.Common.{◌≡◌, ◌⊎◌, ◌++◌, ◌∙◌, ◌<◌, ◌+◌, ℕ, zero, suc, List, [], ◌∷◌, length, slice_get, Some}
use Rattle.std.proofs.Common.{refl, sym, ap, subst, inl, inr, arith}
use Rattle.structured_text.specs.declared.name.Name.{Name}
use Rattle.structured_text.specs.declared.name.Name.TheVariants.{Off, On}
use Rattle.structured_text.specs.declared.line.GapDenial.{GapDenial}
use Rattle.structured_text.specs.declared.line.GapDenial.TheVariants.{One, Two}
use Rattle.structured_text.specs.declared.line.LoadDenial.{LoadDenial}
use Rattle.structured_text.specs.declared.line.LoadDenial.TheVariants.{Loaded, Unbonded}
use Rattle.structured_text.specs.declared.line.Operand.{Operand}
use Rattle.structured_text.specs.declared.line.Operand.TheVariants.{Variable, Product, Sum}
use Rattle.structured_text.specs.declared.line.Formula.{Formula}
use Rattle.structured_text.specs.declared.line.Formula.TheVariants.{Always, Never, MayBeClosed, IsClosed, Both, Either, Apart, Unloaded, Released}
use Rattle.structured_text.specs.declared.line.Line.{Line}
use Rattle.structured_text.specs.Reads.{GapReads, LoadReads, OperandReads, FormulaReads}
use Rattle.structured_text.specs.Order.{IsSetIn, IsSetBefore, AreInOrder}

-- ---- what is read is of two kinds, and so of a third
module _ (P Q R : Name → Type 0) (f : (m : Name) → P m → Q m → R m) where
  gap_both : (x : GapDenial) → GapReads P x → GapReads Q x → GapReads R x
  gap_both (One a) p q = f a p q
  gap_both (Two a b) p q = (f a p.0 q.0, f b p.1 q.1)

  load_both : (x : LoadDenial) → LoadReads P x → LoadReads Q x → LoadReads R x
  load_both (Loaded a b) p q = (f a p.0 q.0, f b p.1 q.1)
  load_both (Unbonded a b c) p q = (f a p.0 q.0, f b p.1 q.1, f c p.2 q.2)

  operand_both : (x : Operand) → OperandReads P x → OperandReads Q x → OperandReads R x
  operand_both (Variable a) p q = f a p q
  operand_both (Product a b) p q = (f a p.0 q.0, f b p.1 q.1)
  operand_both (Sum a b) p q = (f a p.0 q.0, f b p.1 q.1)

  pub reads_both : (x : Formula) → FormulaReads P x → FormulaReads Q x → FormulaReads R x
  reads_both Always p q = tt
  reads_both Never p q = tt
  reads_both (MayBeClosed i) p q = (f (Off i) p.0 q.0, f (On i) p.1 q.1)
  reads_both (IsClosed i) p q = (f (Off i) p.0 q.0, f (On i) p.1 q.1)
  reads_both (Both a b) p q = (operand_both a p.0 q.0, operand_both b p.1 q.1)
  reads_both (Either a b) p q = (operand_both a p.0 q.0, operand_both b p.1 q.1)
  reads_both (Apart g) p q = gap_both g p q
  reads_both (Unloaded l) p q = load_both l p q
  reads_both (Released g l) p q = (gap_both g p.0 q.0, load_both l p.1 q.1)

pub reads_more : (P R : Name → Type 0) → ((m : Name) → P m → R m) → (x : Formula) → FormulaReads P x → FormulaReads R x
reads_more P R f x p = reads_both P P R (λ m h k. f m h) x p p

-- ---- places in two lists, one behind the other
left_get : (xs ys : List Line) (x : Line) (n : ℕ) → slice_get xs n ≡ Some x → slice_get (xs ++ ys) n ≡ Some x
left_get [] ys x n e = cc
left_get (z ∷ zs) ys x zero e = e
left_get (z ∷ zs) ys x (suc n) e = left_get zs ys x n e

right_get : (xs ys : List Line) (x : Line) (n : ℕ) → slice_get ys n ≡ Some x → slice_get (xs ++ ys) (length xs + n) ≡ Some x
right_get [] ys x n e = let same : 0 + n ≡ n = omega arith in ap (slice_get ys) same ∙ e
right_get (z ∷ zs) ys x n e =
    let next : suc (length zs) + n ≡ suc (length zs + n) = omega arith in
    ap (slice_get (z ∷ (zs ++ ys))) next ∙ right_get zs ys x n e

-- a line of both is one of the first, or one of the second so many places further
both_get : (xs ys : List Line) (x : Line) (n : ℕ) → slice_get (xs ++ ys) n ≡ Some x →
    (slice_get xs n ≡ Some x) ⊎ ((k : ℕ) × (n ≡ length xs + k) × (slice_get ys k ≡ Some x))
both_get [] ys x n e = inr (n, omega arith, e)
both_get (z ∷ zs) ys x zero e = inl e
both_get (z ∷ zs) ys x (suc n) e = elim (both_get zs ys x n e) [
  | inl h ↦ inl h
  | inr h ↦ let is = h.1 in inr (h.0, omega (arith, is), h.2)
]

within : (xs : List Line) (x : Line) (n : ℕ) → slice_get xs n ≡ Some x → n < length xs
within [] x n e = cc e
within (z ∷ zs) x zero e = omega arith
within (z ∷ zs) x (suc n) e = let low = within zs x n e in omega (arith, low)

pub set_before : (lines : List Line) (n : ℕ) (m : Name) → IsSetBefore lines n m → IsSetIn lines m
set_before lines n m (k, y, low, at, is) = (k, y, at, is)

pub set_left : (xs ys : List Line) (m : Name) → IsSetIn xs m → IsSetIn (xs ++ ys) m
set_left xs ys m (k, y, at, is) = (k, y, left_get xs ys y k at, is)

pub set_right : (xs ys : List Line) (m : Name) → IsSetIn ys m → IsSetIn (xs ++ ys) m
set_right xs ys m (k, y, at, is) = (length xs + k, y, right_get xs ys y k at, is)

pub set_cases : (xs ys : List Line) (m : Name) → IsSetIn (xs ++ ys) m → IsSetIn xs m ⊎ IsSetIn ys m
set_cases xs ys m (k, y, at, is) = elim (both_get xs ys y k at) [
  | inl h ↦ inl (k, y, h, is)
  | inr h ↦ inr (h.0, y, h.2, is)
]

pub set_last : (xs : List Line) (x : Line) (m : Name) → IsSetIn (xs ++ x ∷ []) m → IsSetIn xs m ⊎ (x.name ≡ m)
set_last xs x m h = elim (set_cases xs (x ∷ []) m h) [ inl a ↦ inl a | inr b ↦ inr (one b) ]
  where
    one : IsSetIn (x ∷ []) m → x.name ≡ m
    one (zero, y, at, is) = let same : x ≡ y = cc at in ap (λ (z : Line). z.name) same ∙ is
    one (suc k, y, at, is) = absurd (let low = within [] y k at in omega (arith, low))

pub last_set : (xs : List Line) (x : Line) → IsSetIn (xs ++ x ∷ []) x.name
last_set xs x = set_right xs (x ∷ []) x.name (0, x, refl, refl)

pub none_in_order : (given : Name → Type 0) → AreInOrder given []
none_in_order given = record {
  reads = λ n x at. absurd (let low = within [] x n at in omega (arith, low));
  once = λ n k x y at. absurd (let low = within [] x n at in omega (arith, low));
  own = λ n x at. absurd (let low = within [] x n at in omega (arith, low));
}

-- one list behind the other: what the second is given is given to the first, or set by it
module _ (G H : Name → Type 0) (xs ys : List Line) (first : AreInOrder G xs) (second : AreInOrder H ys)
    (covers : (m : Name) → H m → G m ⊎ IsSetIn xs m) (strange : (n : ℕ) (y : Line) → slice_get ys n ≡ Some y → ¬ G y.name)
    (apart : (n : ℕ) (y : Line) → slice_get ys n ≡ Some y → ¬ IsSetIn xs y.name) where
  abbrev all : List Line
  all = xs ++ ys

  early : (n : ℕ) (m : Name) → G m ⊎ IsSetBefore xs n m → G m ⊎ IsSetBefore all n m
  early n m (inl g) = inl g
  early n m (inr (k, y, low, at, is)) = inr (k, y, low, left_get xs ys y k at, is)

  late : (n : ℕ) (m : Name) → H m ⊎ IsSetBefore ys n m → G m ⊎ IsSetBefore all (length xs + n) m
  late n m (inl h) = elim (covers m h) [
    | inl g ↦ inl g
    | inr (k, y, at, is) ↦
        let low = within xs y k at in inr (k, y, omega (arith, low), left_get xs ys y k at, is)
  ]
  late n m (inr (k, y, low, at, is)) = inr (length xs + k, y, omega (arith, low), right_get xs ys y k at, is)

  pub two_in_order : AreInOrder G all
  two_in_order = record {
    reads = λ n x at. elim (both_get xs ys x n at) [
      | inl h ↦
          reads_more (λ m. G m ⊎ IsSetBefore xs n m) (λ m. G m ⊎ IsSetBefore all n m) (early n) x.formula (first.reads n x h)
      | inr (k, is, h) ↦
          subst (λ i. FormulaReads (λ m. G m ⊎ IsSetBefore all i m) x.formula) (sym is)
          (reads_more (λ m. H m ⊎ IsSetBefore ys k m) (λ m. G m ⊎ IsSetBefore all (length xs + k) m) (late k) x.formula
          (second.reads k x h))
    ];
    once = λ n k x y at_x at_y same. elim (both_get xs ys x n at_x) [
      | inl a ↦ elim (both_get xs ys y k at_y) [
        | inl b ↦ first.once n k x y a b same
        | inr (j, is, b) ↦ absurd (apart j y b (n, x, a, same))
      ]
      | inr (i, is_i, a) ↦ elim (both_get xs ys y k at_y) [
        | inl b ↦ absurd (apart i x a (k, y, b, sym same))
        | inr (j, is_j, b) ↦ let e = second.once i j x y a b same in omega (arith, is_i, is_j, e)
      ]
    ];
    own = λ n x at. elim (both_get xs ys x n at) [
      | inl h ↦ first.own n x h
      | inr (k, is, h) ↦ strange k x h
    ];
  }

-- one line more
pub one_more_in_order : (G : Name → Type 0) (xs : List Line) (x : Line) → AreInOrder G xs →
    FormulaReads (λ m. G m ⊎ IsSetIn xs m) x.formula → ¬ G x.name → ¬ IsSetIn xs x.name → AreInOrder G (xs ++ x ∷ [])
one_more_in_order G xs x order reads strange apart =
    two_in_order G (λ m. G m ⊎ IsSetIn xs m) xs (x ∷ []) order (record {
      reads = λ n y at.
          subst (λ (z : Line). FormulaReads (λ m. (G m ⊎ IsSetIn xs m) ⊎ IsSetBefore (x ∷ []) n m) z.formula)
          (only n y at).1
          (reads_more (λ m. G m ⊎ IsSetIn xs m) (λ m. (G m ⊎ IsSetIn xs m) ⊎ IsSetBefore (x ∷ []) n m) (λ m h. inl h)
          x.formula reads);
      once = λ n k y z at_y at_z same. (only n y at_y).0 ∙ sym (only k z at_z).0;
      own = λ n y at. subst (λ (z : Line). ¬ (G z.name ⊎ IsSetIn xs z.name)) (only n y at).1 (λ h. elim h [
        | inl g ↦ strange g
        | inr s ↦ apart s
      ]);
    }) (λ m h. h) (λ n y at. subst (λ (z : Line). ¬ G z.name) (only n y at).1 strange)
    (λ n y at. subst (λ (z : Line). ¬ IsSetIn xs z.name) (only n y at).1 apart)
  where
    only : (n : ℕ) (y : Line) → slice_get (x ∷ []) n ≡ Some y → (n ≡ 0) × (x ≡ y)
    only zero y at = (refl, let same : x ≡ y = cc at in same)
    only (suc n) y at = absurd (let low = within [] y n at in omega (arith, low))
