-- Lines on the side of denial release no more where signals do not come.
use Rattle.std.proofs.Common.{◌≡◌, ◌⊎◌, ◌∙◌, ◌&&◌, ◌||◌, ℕ, suc, List, [], ◌∷◌, Bool, true, false, slice_get, Some, refl, sym, ap, subst, inl, inr}
use Rattle.std.specs.Prelude.{if◌then◌else◌}
use Rattle.std.proofs.lemmas.Bool.{false≢true}
use Rattle.structured_text.specs.declared.name.Name.{Name}
use Rattle.structured_text.specs.declared.name.Name.TheVariants.{Off, On, May, Sure, Opens, Closes}
use Rattle.structured_text.specs.declared.line.GapDenial.{GapDenial}
use Rattle.structured_text.specs.declared.line.GapDenial.TheVariants.{One, Two}
use Rattle.structured_text.specs.declared.line.LoadDenial.{LoadDenial}
use Rattle.structured_text.specs.declared.line.LoadDenial.TheVariants.{Loaded, Unbonded}
use Rattle.structured_text.specs.declared.line.Operand.{Operand}
use Rattle.structured_text.specs.declared.line.Operand.TheVariants.{Variable, Product, Sum}
use Rattle.structured_text.specs.declared.line.Formula.{Formula}
use Rattle.structured_text.specs.declared.line.Formula.TheVariants.{Always, Never, MayBeClosed, IsClosed, Both, Either, Apart, Unloaded, Released}
use Rattle.structured_text.specs.declared.line.Line.{Line}
use Rattle.structured_text.specs.Meaning.{Store, b_not, may_be_closed, is_closed, gap_denied, load_denied, operand_value, value}
use Rattle.structured_text.specs.Meaning.{same_name, assign, after}
use Rattle.structured_text.specs.Reads.{GapReads, OperandReads}
use Rattle.structured_text.specs.Order.{IsRelease}
use Rattle.structured_text.specs.Sides.{IsMissed, AreMissed, IsCautious, IsMay, IsSure, IsOfThese, IsLoadDenial, IsDenied, IsSided, AreSided}
use Rattle.structured_text.proofs.StoreLemmas.{same_true}

-- ---- one value is true where another is
abbrev Leads : Bool → Bool → Type 0
Leads a b = a ≡ true → b ≡ true

and_leads : (a b c d : Bool) → Leads a b → Leads c d → Leads (a && c) (b && d)
and_leads false b c d f g h = absurd (false≢true h)
and_leads true b false d f g h = absurd (false≢true h)
and_leads true b true d f g h = ap (λ x. x && d) (f refl) ∙ g refl

or_leads : (a b c d : Bool) → Leads a b → Leads c d → Leads (a || c) (b || d)
or_leads true b c d f g h = ap (λ x. x || d) (f refl)
or_leads false true c d f g h = refl
or_leads false false c d f g h = g h

not_leads : (a b : Bool) → Leads a b → Leads (b_not b) (b_not a)
not_leads false b f h = refl
not_leads true b f h = absurd (false≢true (sym (ap b_not (f refl)) ∙ h))

same_leads : (a b : Bool) → a ≡ b → Leads a b
same_leads a b e h = sym e ∙ h

-- ---- a store, and one in which signals do not come
abbrev Bolder : Name → Bool → Bool → Type 0
Bolder (Off i) a b = a ≡ b
Bolder (On i) a b = a ≡ b
Bolder (May k) a b = Leads a b
Bolder (Sure k) a b = Leads b a
Bolder (Opens i) a b = Leads b a
Bolder (Closes i) a b = Leads b a

missed_bolder : (m : Name) (a b : Bool) → (b ≡ a) ⊎ IsMissed m b → Bolder m a b
missed_bolder (Off i) a b (inl e) = sym e
missed_bolder (Off i) a b (inr z) = absurd z
missed_bolder (On i) a b (inl e) = sym e
missed_bolder (On i) a b (inr z) = absurd z
missed_bolder (May k) a b (inl e) = same_leads a b (sym e)
missed_bolder (May k) a b (inr z) = λ h. z
missed_bolder (Sure k) a b (inl e) = same_leads b a e
missed_bolder (Sure k) a b (inr z) = λ h. absurd (false≢true (sym z ∙ h))
missed_bolder (Opens i) a b (inl e) = same_leads b a e
missed_bolder (Opens i) a b (inr z) = absurd z
missed_bolder (Closes i) a b (inl e) = same_leads b a e
missed_bolder (Closes i) a b (inr z) = absurd z

released : (m : Name) (a b : Bool) → IsRelease m → Bolder m a b → Leads b a
released (Off i) a b r h = absurd r
released (On i) a b r h = absurd r
released (May k) a b r h = absurd r
released (Sure k) a b r h = absurd r
released (Opens i) a b r h = h
released (Closes i) a b r h = h

module _ (s t : Store) (bolder : (m : Name) → Bolder m (s m) (t m)) where
  may_leads : (m : Name) → IsMay m → Leads (s m) (t m)
  may_leads (Off i) z = absurd z
  may_leads (On i) z = absurd z
  may_leads (May k) z = bolder (May k)
  may_leads (Sure k) z = absurd z
  may_leads (Opens i) z = absurd z
  may_leads (Closes i) z = absurd z

  sure_leads : (m : Name) → IsSure m → Leads (t m) (s m)
  sure_leads (Off i) z = absurd z
  sure_leads (On i) z = absurd z
  sure_leads (May k) z = absurd z
  sure_leads (Sure k) z = bolder (Sure k)
  sure_leads (Opens i) z = absurd z
  sure_leads (Closes i) z = absurd z

  may_same : (i : _) → value s (MayBeClosed i) ≡ value t (MayBeClosed i)
  may_same i =
      ap (λ x. may_be_closed x (s (On i))) (bolder (Off i)) ∙ ap (λ x. may_be_closed (t (Off i)) x) (bolder (On i))

  sure_same : (i : _) → value s (IsClosed i) ≡ value t (IsClosed i)
  sure_same i = ap (λ x. is_closed x (s (On i))) (bolder (Off i)) ∙ ap (λ x. is_closed (t (Off i)) x) (bolder (On i))

  gap_leads : (g : GapDenial) → GapReads IsMay g → Leads (gap_denied s g) (gap_denied t g)
  gap_leads (One a) p = may_leads a p
  gap_leads (Two a b) p = and_leads (s a) (t a) (s b) (t b) (may_leads a p.0) (may_leads b p.1)

  load_leads : (l : LoadDenial) → IsLoadDenial l → Leads (load_denied s l) (load_denied t l)
  load_leads (Loaded a b) p = and_leads (s a) (t a) (s b) (t b) (may_leads a p.0) (may_leads b p.1)
  load_leads (Unbonded a b c) p =
      and_leads (s a) (t a) (s b && b_not (s c)) (t b && b_not (t c)) (may_leads a p.0)
      (and_leads (s b) (t b) (b_not (s c)) (b_not (t c)) (may_leads b p.1) (not_leads (t c) (s c) (sure_leads c p.2)))

  denied_leads : (f : Formula) → IsDenied f → Leads (value t f) (value s f)
  denied_leads Always p = λ h. h
  denied_leads Never p = λ h. h
  denied_leads (MayBeClosed i) p = absurd p
  denied_leads (IsClosed i) p = absurd p
  denied_leads (Both a b) p = absurd p
  denied_leads (Either a b) p = absurd p
  denied_leads (Apart g) p = not_leads (gap_denied s g) (gap_denied t g) (gap_leads g p)
  denied_leads (Unloaded l) p = not_leads (load_denied s l) (load_denied t l) (load_leads l p)
  denied_leads (Released g l) p =
      and_leads (b_not (gap_denied t g)) (b_not (gap_denied s g)) (b_not (load_denied t l)) (b_not (load_denied s l))
      (not_leads (gap_denied s g) (gap_denied t g) (gap_leads g p.0))
      (not_leads (load_denied s l) (load_denied t l) (load_leads l p.1))

-- ---- formulas without NOT
module _ (P : Name → Type 0) (s t : Store) (leads : (m : Name) → P m → Leads (s m) (t m)) where
  operand_leads : (o : Operand) → OperandReads P o → Leads (operand_value s o) (operand_value t o)
  operand_leads (Variable a) p = leads a p
  operand_leads (Product a b) p = and_leads (s a) (t a) (s b) (t b) (leads a p.0) (leads b p.1)
  operand_leads (Sum a b) p = or_leads (s a) (t a) (s b) (t b) (leads a p.0) (leads b p.1)

  value_leads : ((i : _) → value s (MayBeClosed i) ≡ value t (MayBeClosed i)) →
      ((i : _) → value s (IsClosed i) ≡ value t (IsClosed i)) → (f : Formula) → IsOfThese P f → Leads (value s f) (value t f)
  value_leads may sure Always p = λ h. h
  value_leads may sure Never p = λ h. h
  value_leads may sure (MayBeClosed i) p = same_leads (value s (MayBeClosed i)) (value t (MayBeClosed i)) (may i)
  value_leads may sure (IsClosed i) p = same_leads (value s (IsClosed i)) (value t (IsClosed i)) (sure i)
  value_leads may sure (Both a b) p =
      and_leads (operand_value s a) (operand_value t a) (operand_value s b) (operand_value t b) (operand_leads a p.0)
      (operand_leads b p.1)
  value_leads may sure (Either a b) p =
      or_leads (operand_value s a) (operand_value t a) (operand_value s b) (operand_value t b) (operand_leads a p.0)
      (operand_leads b p.1)
  value_leads may sure (Apart g) p = absurd p
  value_leads may sure (Unloaded l) p = absurd p
  value_leads may sure (Released g l) p = absurd p

-- ---- lines
module _ (s t : Store) (bolder : (m : Name) → Bolder m (s m) (t m)) where
  line_bolder : (n : Name) (f : Formula) → IsSided n f → Bolder n (value s f) (value t f)
  line_bolder (Off i) f p = absurd p
  line_bolder (On i) f p = absurd p
  line_bolder (May k) f p =
      value_leads IsMay s t (may_leads s t bolder) (may_same s t bolder) (sure_same s t bolder) f p
  line_bolder (Sure k) f p =
      value_leads IsSure t s (sure_leads s t bolder) (λ i. sym (may_same s t bolder i)) (λ i. sym (sure_same s t bolder i)) f p
  line_bolder (Opens i) f p = denied_leads s t bolder f p
  line_bolder (Closes i) f p = denied_leads s t bolder f p

  assign_bolder : (n : Name) (x y : Bool) → Bolder n x y → (m : Name) → Bolder m (assign s n x m) (assign t n y m)
  assign_bolder n x y h m = by (same_name n m) refl
    where
      by : (q : Bool) → same_name n m ≡ q → Bolder m (if q then x else s m) (if q then y else t m)
      by true is = subst (λ k. Bolder k x y) (same_true n m is) h
      by false is = bolder m

after_bolder : (lines : List Line) (s t : Store) → ((m : Name) → Bolder m (s m) (t m)) → AreSided lines → (m : Name) →
    Bolder m (after lines s m) (after lines t m)
after_bolder [] s t bolder sided m = bolder m
after_bolder (x ∷ xs) s t bolder sided m =
    after_bolder xs (assign s x.name (value s x.formula)) (assign t x.name (value t x.formula))
    (assign_bolder s t bolder x.name (value s x.formula) (value t x.formula)
    (line_bolder s t bolder x.name x.formula (sided 0 x refl))) (λ k y at. sided (suc k) y at) m

pub cautious : (lines : List Line) → AreSided lines → IsCautious (after lines)
cautious lines sided s t m missed release is =
    released m (after lines s m) (after lines t m) release
    (after_bolder lines s t (λ n. missed_bolder n (s n) (t n) (missed n)) sided m) is
