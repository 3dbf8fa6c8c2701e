-- Lines that read variables alone on which two stores agree do the same in both.
use Rattle.std.proofs.Common.{◌≡◌, ◌∙◌, ◌&&◌, ◌||◌, ℕ, suc, List, [], ◌∷◌, Bool, true, false, slice_get, Some, refl, ap}
use Rattle.std.specs.Prelude.{if◌then◌else◌}
use Rattle.structured_text.specs.declared.name.Name.{Name}
use Rattle.structured_text.specs.declared.name.Name.TheVariants.{Off, On}
use Rattle.structured_text.specs.declared.line.GapDenial.{GapDenial}
use Rattle.structured_text.specs.declared.line.GapDenial.TheVariants.{One, Two}
use Rattle.structured_text.specs.declared.line.LoadDenial.{LoadDenial}
use Rattle.structured_text.specs.declared.line.LoadDenial.TheVariants.{Loaded, Unbonded}
use Rattle.structured_text.specs.declared.line.Operand.{Operand}
use Rattle.structured_text.specs.declared.line.Operand.TheVariants.{Variable, Product, Sum}
use Rattle.structured_text.specs.declared.line.Formula.{Formula}
use Rattle.structured_text.specs.declared.line.Formula.TheVariants.{Always, Never, MayBeClosed, IsClosed, Both, Either, Apart, Unloaded, Released}
use Rattle.structured_text.specs.declared.line.Line.{Line}
use Rattle.structured_text.specs.Meaning.{Store, b_not, may_be_closed, is_closed, gap_denied, load_denied, operand_value, value}
use Rattle.structured_text.specs.Meaning.{same_name, assign, after}
use Rattle.structured_text.specs.Reads.{GapReads, LoadReads, OperandReads, FormulaReads}

and_same : (a b c d : Bool) → a ≡ b → c ≡ d → (a && c) ≡ (b && d)
and_same a b c d e f = ap (λ x. x && c) e ∙ ap (λ x. b && x) f

or_same : (a b c d : Bool) → a ≡ b → c ≡ d → (a || c) ≡ (b || d)
or_same a b c d e f = ap (λ x. x || c) e ∙ ap (λ x. b || x) f

-- the variables that are of two kinds
module _ (P Q : Name → Type 0) where
  -- the stores agree on these
  abbrev pub Agree : Store → Store → Type 0
  Agree s t = (m : Name) → P m → Q m → s m ≡ t m

  module _ (s t : Store) (agree : Agree s t) where
    gap_same : (g : GapDenial) → GapReads P g → GapReads Q g → gap_denied s g ≡ gap_denied t g
    gap_same (One a) p q = agree a p q
    gap_same (Two a b) p q = and_same (s a) (t a) (s b) (t b) (agree a p.0 q.0) (agree b p.1 q.1)

    load_same : (l : LoadDenial) → LoadReads P l → LoadReads Q l → load_denied s l ≡ load_denied t l
    load_same (Loaded a b) p q = and_same (s a) (t a) (s b) (t b) (agree a p.0 q.0) (agree b p.1 q.1)
    load_same (Unbonded a b c) p q =
        and_same (s a) (t a) (s b && b_not (s c)) (t b && b_not (t c)) (agree a p.0 q.0)
        (and_same (s b) (t b) (b_not (s c)) (b_not (t c)) (agree b p.1 q.1) (ap b_not (agree c p.2 q.2)))

    operand_same : (o : Operand) → OperandReads P o → OperandReads Q o → operand_value s o ≡ operand_value t o
    operand_same (Variable a) p q = agree a p q
    operand_same (Product a b) p q = and_same (s a) (t a) (s b) (t b) (agree a p.0 q.0) (agree b p.1 q.1)
    operand_same (Sum a b) p q = or_same (s a) (t a) (s b) (t b) (agree a p.0 q.0) (agree b p.1 q.1)

    pub value_same : (f : Formula) → FormulaReads P f → FormulaReads Q f → value s f ≡ value t f
    value_same Always p q = refl
    value_same Never p q = refl
    value_same (MayBeClosed i) p q =
        ap (λ x. may_be_closed x (s (On i))) (agree (Off i) p.0 q.0)
        ∙ ap (λ x. may_be_closed (t (Off i)) x) (agree (On i) p.1 q.1)
    value_same (IsClosed i) p q =
        ap (λ x. is_closed x (s (On i))) (agree (Off i) p.0 q.0)
        ∙ ap (λ x. is_closed (t (Off i)) x) (agree (On i) p.1 q.1)
    value_same (Both a b) p q =
        and_same (operand_value s a) (operand_value t a) (operand_value s b) (operand_value t b)
        (operand_same a p.0 q.0) (operand_same b p.1 q.1)
    value_same (Either a b) p q =
        or_same (operand_value s a) (operand_value t a) (operand_value s b) (operand_value t b)
        (operand_same a p.0 q.0) (operand_same b p.1 q.1)
    value_same (Apart g) p q = ap b_not (gap_same g p q)
    value_same (Unloaded l) p q = ap b_not (load_same l p q)
    value_same (Released g l) p q =
        and_same (b_not (gap_denied s g)) (b_not (gap_denied t g)) (b_not (load_denied s l)) (b_not (load_denied t l))
        (ap b_not (gap_same g p.0 q.0)) (ap b_not (load_same l p.1 q.1))

  assigned_same : (q : Bool) (a b c d : Bool) → a ≡ b → c ≡ d → (if q then a else c) ≡ (if q then b else d)
  assigned_same true a b c d e f = e
  assigned_same false a b c d e f = f

  pub after_same : (lines : List Line) (s t : Store) → Agree s t →
      ((i : ℕ) (x : Line) → slice_get lines i ≡ Some x → FormulaReads P x.formula) →
      ((i : ℕ) (x : Line) → slice_get lines i ≡ Some x → FormulaReads Q x.formula) → Agree (after lines s) (after lines t)
  after_same [] s t agree p q = agree
  after_same (x ∷ xs) s t agree p q =
      after_same xs (assign s x.name (value s x.formula)) (assign t x.name (value t x.formula))
      (λ m h k.
      assigned_same (same_name x.name m) (value s x.formula) (value t x.formula) (s m) (t m)
      (value_same s t agree x.formula (p 0 x refl) (q 0 x refl)) (agree m h k))
      (λ i y at. p (suc i) y at) (λ i y at. q (suc i) y at)
