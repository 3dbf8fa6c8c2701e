-- What holds of each variable of the list of those that a formula reads holds of each that it reads.
use Rattle.std.proofs.Common.{◌≡◌, ◌++◌, ℕ, zero, suc, List, [], ◌∷◌, slice_get, Some}
use Rattle.std.proofs.Common.{refl}
use Rattle.structured_text.specs.declared.name.Name.{Name}
use Rattle.structured_text.specs.declared.line.GapDenial.{GapDenial}
use Rattle.structured_text.specs.declared.line.GapDenial.TheVariants.{One, Two}
use Rattle.structured_text.specs.declared.line.LoadDenial.{LoadDenial}
use Rattle.structured_text.specs.declared.line.LoadDenial.TheVariants.{Loaded, Unbonded}
use Rattle.structured_text.specs.declared.line.Operand.{Operand}
use Rattle.structured_text.specs.declared.line.Operand.TheVariants.{Variable, Product, Sum}
use Rattle.structured_text.specs.declared.line.Formula.{Formula}
use Rattle.structured_text.specs.declared.line.Formula.TheVariants.{Always, Never, MayBeClosed, IsClosed, Both, Either, Apart, Unloaded, Released}
use Rattle.structured_text.specs.Reads.{GapReads, LoadReads, OperandReads, FormulaReads}
use Rattle.program_text.specs.ReadNames.{gap_names, load_names, operand_names, formula_names}

left_at : (xs ys : List Name) (k : ℕ) (m : Name) → slice_get xs k ≡ Some m → slice_get (xs ++ ys) k ≡ Some m
left_at [] ys k m e = cc
left_at (x ∷ xs) ys zero m e = e
left_at (x ∷ xs) ys (suc k) m e = left_at xs ys k m e

right_at : (xs ys : List Name) (k : ℕ) (m : Name) → slice_get ys k ≡ Some m →
    (j : ℕ) × (slice_get (xs ++ ys) j ≡ Some m)
right_at [] ys k m e = (k, e)
right_at (x ∷ xs) ys k m e = let (j, at) = right_at xs ys k m e in (suc j, at)

-- each variable of the list is one of these
abbrev AllOf : (Name → Type 0) → List Name → Type 0
AllOf P names = (k : ℕ) (m : Name) → slice_get names k ≡ Some m → P m

left_all : (P : Name → Type 0) (xs ys : List Name) → AllOf P (xs ++ ys) → AllOf P xs
left_all P xs ys h k m e = h k m (left_at xs ys k m e)

right_all : (P : Name → Type 0) (xs ys : List Name) → AllOf P (xs ++ ys) → AllOf P ys
right_all P xs ys h k m e = let (j, at) = right_at xs ys k m e in h j m at

module _ (P : Name → Type 0) where
  gap_from : (g : GapDenial) → AllOf P (gap_names g) → GapReads P g
  gap_from (One a) h = h 0 a refl
  gap_from (Two a b) h = (h 0 a refl, h 1 b refl)

  load_from : (l : LoadDenial) → AllOf P (load_names l) → LoadReads P l
  load_from (Loaded a b) h = (h 0 a refl, h 1 b refl)
  load_from (Unbonded a b c) h = (h 0 a refl, h 1 b refl, h 2 c refl)

  operand_from : (o : Operand) → AllOf P (operand_names o) → OperandReads P o
  operand_from (Variable a) h = h 0 a refl
  operand_from (Product a b) h = (h 0 a refl, h 1 b refl)
  operand_from (Sum a b) h = (h 0 a refl, h 1 b refl)

  sides_from : (a b : Operand) → AllOf P (operand_names a ++ operand_names b) → OperandReads P a × OperandReads P b
  sides_from a b h =
      let x = operand_names a in
      let y = operand_names b in
      (operand_from a (left_all P x y h), operand_from b (right_all P x y h))

  pub reads_from : (f : Formula) → AllOf P (formula_names f) → FormulaReads P f
  reads_from Always h = tt
  reads_from Never h = tt
  reads_from (MayBeClosed i) h = (h 0 _ refl, h 1 _ refl)
  reads_from (IsClosed i) h = (h 0 _ refl, h 1 _ refl)
  reads_from (Both a b) h = sides_from a b h
  reads_from (Either a b) h = sides_from a b h
  reads_from (Apart g) h = gap_from g h
  reads_from (Unloaded l) h = load_from l h
  reads_from (Released g l) h =
      let x = gap_names g in
      let y = load_names l in
      (gap_from g (left_all P x y h), load_from l (right_all P x y h))
