-- What a formula reads.
use Rattle.structured_text.specs.declared.name.Name.{Name}
use Rattle.structured_text.specs.declared.name.Name.TheVariants.{Off, On}
use Rattle.structured_text.specs.declared.line.GapDenial.{GapDenial}
use Rattle.structured_text.specs.declared.line.GapDenial.TheVariants.{One, Two}
use Rattle.structured_text.specs.declared.line.LoadDenial.{LoadDenial}
use Rattle.structured_text.specs.declared.line.LoadDenial.TheVariants.{Loaded, Unbonded}
use Rattle.structured_text.specs.declared.line.Operand.{Operand}
use Rattle.structured_text.specs.declared.line.Operand.TheVariants.{Variable, Product, Sum}
use Rattle.structured_text.specs.declared.line.Formula.{Formula}
use Rattle.structured_text.specs.declared.line.Formula.TheVariants.{Always, Never, MayBeClosed, IsClosed, Both, Either, Apart, Unloaded, Released}

-- Each variable that it reads is one of these.
abbrev pub GapReads : (Name → Type 0) → GapDenial → Type 0
GapReads P (One a) = P a
GapReads P (Two a b) = P a × P b

abbrev pub LoadReads : (Name → Type 0) → LoadDenial → Type 0
LoadReads P (Loaded a b) = P a × P b
LoadReads P (Unbonded a b c) = P a × P b × P c

abbrev pub OperandReads : (Name → Type 0) → Operand → Type 0
OperandReads P (Variable a) = P a
OperandReads P (Product a b) = P a × P b
OperandReads P (Sum a b) = P a × P b

abbrev pub FormulaReads : (Name → Type 0) → Formula → Type 0
FormulaReads P Always = Unit {0}
FormulaReads P Never = Unit {0}
FormulaReads P (MayBeClosed i) = P (Off i) × P (On i)
FormulaReads P (IsClosed i) = P (Off i) × P (On i)
FormulaReads P (Both a b) = OperandReads P a × OperandReads P b
FormulaReads P (Either a b) = OperandReads P a × OperandReads P b
FormulaReads P (Apart gap) = GapReads P gap
FormulaReads P (Unloaded load) = LoadReads P load
FormulaReads P (Released gap load) = GapReads P gap × LoadReads P load
