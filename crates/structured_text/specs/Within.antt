-- Names of switches that there are, and of formulas.
use Rattle.std.specs.Prelude.{◌≡◌, ◌<◌, ◌^◌, ℕ, List, length, slice_get, Option, Some, None}
use Rattle.station_graph.specs.Diagram.{Diagram, part_count}
use Rattle.structured_text.specs.declared.name.Name.{Name}
use Rattle.structured_text.specs.declared.name.Name.TheVariants.{Off, On, May, Sure, Opens, Closes}
use Rattle.structured_text.specs.declared.line.GapDenial.{GapDenial}
use Rattle.structured_text.specs.declared.line.GapDenial.TheVariants.{One, Two}
use Rattle.structured_text.specs.declared.line.LoadDenial.{LoadDenial}
use Rattle.structured_text.specs.declared.line.LoadDenial.TheVariants.{Loaded, Unbonded}
use Rattle.structured_text.specs.declared.line.Operand.{Operand}
use Rattle.structured_text.specs.declared.line.Operand.TheVariants.{Variable, Product, Sum}
use Rattle.structured_text.specs.declared.line.Heading.{Heading}
use Rattle.structured_text.specs.declared.line.Heading.TheVariants.{Signals, Together, Releases}
use Rattle.structured_text.specs.declared.line.Formula.{Formula}
use Rattle.structured_text.specs.declared.line.Formula.TheVariants.{Always, Never, MayBeClosed, IsClosed, Both, Either, Apart, Unloaded, Released}
use Rattle.structured_text.specs.declared.line.Line.{Line}

-- The number of the variable has at most 64 bits.
abbrev pub IsNumbered : Name → Type 0
IsNumbered (Off i) = i.0 < 2 ^ 64
IsNumbered (On i) = i.0 < 2 ^ 64
IsNumbered (May k) = k < 2 ^ 64
IsNumbered (Sure k) = k < 2 ^ 64
IsNumbered (Opens i) = i.0 < 2 ^ 64
IsNumbered (Closes i) = i.0 < 2 ^ 64

-- A name of a switch is that of one of so many; the number of a formula has at most 64 bits.
abbrev pub NameWithin : ℕ → Name → Type 0
NameWithin count (Off i) = i.0 < count
NameWithin count (On i) = i.0 < count
NameWithin count (May k) = k < 2 ^ 64
NameWithin count (Sure k) = k < 2 ^ 64
NameWithin count (Opens i) = i.0 < count
NameWithin count (Closes i) = i.0 < count

-- Each of the variables is so.
abbrev pub NamesWithin : ℕ → List Name → Type 0
NamesWithin count names = (i : ℕ) (m : Name) → slice_get names i ≡ Some m → NameWithin count m

-- The variable is that of a formula, whose number has at most 64 bits.
abbrev pub IsOfFormula : Name → Type 0
IsOfFormula (Off i) = ⊥
IsOfFormula (On i) = ⊥
IsOfFormula (May k) = k < 2 ^ 64
IsOfFormula (Sure k) = k < 2 ^ 64
IsOfFormula (Opens i) = ⊥
IsOfFormula (Closes i) = ⊥

-- What denies reads formulas.
abbrev pub GapWithin : GapDenial → Type 0
GapWithin (One a) = IsOfFormula a
GapWithin (Two a b) = IsOfFormula a × IsOfFormula b

abbrev pub LoadWithin : LoadDenial → Type 0
LoadWithin (Loaded a b) = IsOfFormula a × IsOfFormula b
LoadWithin (Unbonded a b c) = IsOfFormula a × IsOfFormula b × IsOfFormula c

-- So does a side of AND or OR.
abbrev pub OperandWithin : Operand → Type 0
OperandWithin (Variable a) = IsOfFormula a
OperandWithin (Product a b) = IsOfFormula a × IsOfFormula b
OperandWithin (Sum a b) = IsOfFormula a × IsOfFormula b

abbrev pub FormulaWithin : ℕ → Formula → Type 0
FormulaWithin count Always = Unit {0}
FormulaWithin count Never = Unit {0}
FormulaWithin count (MayBeClosed i) = i.0 < count
FormulaWithin count (IsClosed i) = i.0 < count
FormulaWithin count (Both a b) = OperandWithin a × OperandWithin b
FormulaWithin count (Either a b) = OperandWithin a × OperandWithin b
FormulaWithin count (Apart gap) = GapWithin gap
FormulaWithin count (Unloaded load) = LoadWithin load
FormulaWithin count (Released gap load) = GapWithin gap × LoadWithin load

-- A heading names a part of so many.
abbrev pub HeadingWithin : ℕ → Option Heading → Type 0
HeadingWithin parts None = Unit {0}
HeadingWithin parts (Some (Signals p)) = p.0 < parts
HeadingWithin parts (Some Together) = Unit {0}
HeadingWithin parts (Some (Releases p)) = p.0 < parts

-- The line names parts and switches of the station alone.
pub record LineWithin (d : Diagram) (line : Line) : Type 0 where
  pub heading : HeadingWithin (part_count d) line.heading
  pub name : NameWithin (length d.switches) line.name
  pub formula : FormulaWithin (length d.switches) line.formula

-- Each of the lines does.
abbrev pub LinesWithin : Diagram → List Line → Type 0
LinesWithin d lines = (i : ℕ) (x : Line) → slice_get lines i ≡ Some x → LineWithin d x
