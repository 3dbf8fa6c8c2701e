-- The lines of formulas, and what they mean.
use Rattle.std.specs.Prelude.{◌≡◌, ◌↔◌, ◌<◌, ℕ, zero, suc, Bool, true, List, [], ◌∷◌, nat_lt, if◌then◌else◌, length, slice_index_or}
use Rattle.ilk_base.specs.declared.words.SwitchId.{SwitchId}
use Rattle.interlock_terms.specs.declared.term.Term.{Term}
use Rattle.interlock_terms.specs.declared.term.Term.TheVariants.{Always, Closed, Both, Either}
use Rattle.interlock_terms.specs.Terms.{Values, IsTrueAt, evaluated}
use Rattle.structured_text.specs.declared.name.Name.{Name}
use Rattle.structured_text.specs.declared.name.Name.TheVariants.{Off, On}
use Rattle.structured_text.specs.declared.line.Operand.{Operand}
use Rattle.structured_text.specs.declared.line.Operand.TheVariants.{Variable, Product, Sum}
use Rattle.structured_text.specs.declared.line.Formula.{Formula}
use Rattle.structured_text.specs.declared.line.Formula.TheVariants.{Always as TrueAlways, Never, MayBeClosed, IsClosed}
use Rattle.structured_text.specs.declared.line.Formula.TheVariants.{Both as BothOf, Either as EitherOf}
use Rattle.structured_text.specs.declared.line.Line.{Line}
use Rattle.structured_text.specs.Meaning.{Store, may_be_closed, is_closed, after}
use Rattle.structured_text.specs.Order.{IsInput, IsSetIn, AreInOrder}
use Rattle.program_text.specs.declared.reading.Reading.{Reading}
use Rattle.program_text.specs.declared.reading.Reading.TheVariants.{May as AsClosed, Sure as AsOpen}
use Rattle.program_text.specs.declared.place.Place.{Place}
use Rattle.program_text.specs.declared.place.Place.TheVariants.{Nowhere, Inside, Named}
use Rattle.program_text.specs.Names.{name_in}
use Rattle.program_text.specs.Places.{IsNamed, ArePlaced, ReadWhatIsSet}

-- That the switch counts as closed; never where there is no such switch.
abbrev pub position_in : Reading → SwitchId → Formula
position_in AsClosed i = MayBeClosed i
position_in AsOpen i = IsClosed i

abbrev pub leaf_in : Reading → ℕ → SwitchId → Formula
leaf_in reading count i = if nat_lt i.0 count then position_in reading i else Never

-- What a formula that has no line says, in the variables of two.
abbrev pub inside_in : Reading → Term → ℕ → Operand
inside_in reading Always n = Variable (name_in reading n)
inside_in reading (Closed i) n = Variable (name_in reading n)
inside_in reading (Both a b) n = Product (name_in reading a) (name_in reading b)
inside_in reading (Either a b) n = Sum (name_in reading a) (name_in reading b)

-- What stands for a formula: its variable, or what it says.
abbrev pub operand_in : Reading → Place → Term → ℕ → Operand
operand_in reading Nowhere t n = Variable (name_in reading n)
operand_in reading Inside t n = inside_in reading t n
operand_in reading Named t n = Variable (name_in reading n)

abbrev pub side_in : Reading → List Term → List Place → ℕ → Operand
side_in reading terms places n =
    operand_in reading (slice_index_or places n Nowhere) (slice_index_or terms n Always) n

-- What a formula says, in the variables of earlier ones.
abbrev pub formula_in : Reading → ℕ → List Term → List Place → Term → Formula
formula_in reading count terms places Always = TrueAlways
formula_in reading count terms places (Closed i) = leaf_in reading count i
formula_in reading count terms places (Both a b) = BothOf (side_in reading terms places a) (side_in reading terms places b)
formula_in reading count terms places (Either a b) =
    EitherOf (side_in reading terms places a) (side_in reading terms places b)

-- Whether a switch counts as closed, by its contacts.
abbrev pub counts_in : Reading → Bool → Bool → Bool
counts_in AsClosed off on = may_be_closed off on
counts_in AsOpen off on = is_closed off on

-- The positions as they count, of so many switches from number k on.
abbrev pub positions_from : Reading → Store → ℕ → ℕ → List Bool
positions_from reading s k zero = []
positions_from reading s k (suc n) =
    counts_in reading (s (Off (record { 0 = k }))) (s (On (record { 0 = k }))) ∷ positions_from reading s (suc k) n

abbrev pub positions : Reading → Store → ℕ → List Bool
positions reading s count = positions_from reading s 0 count

-- The positions, and the values of the formulas in them.
abbrev pub values_in : Reading → ℕ → Store → List Term → Values
values_in reading count s terms =
    record { closed = positions reading s count; terms = evaluated (positions reading s count) [] terms }

-- The variable is that of one of the first k formulas, which has a line.
abbrev pub IsSetBy : Reading → List Place → ℕ → Name → Type 0
IsSetBy reading places k m = (j : ℕ) × (j < k) × IsNamed places j × (m ≡ name_in reading j)

-- The lines give the variables of the first k formulas, of those that have lines, their values, and change no other variable.
-- They are in order, and set those variables.
pub record MeansTerms (reading : Reading) (count : ℕ) (terms : List Term) (places : List Place) (k : ℕ) (lines : List Line) : Type 0 where
  pub others : (s : Store) (m : Name) → ¬ IsSetBy reading places k m → after lines s m ≡ s m
  pub values : (s : Store) (j : ℕ) → j < k → IsNamed places j →
      (after lines s (name_in reading j) ≡ true) ↔ IsTrueAt (values_in reading count s terms) j
  pub order : AreInOrder IsInput lines
  pub sets : (m : Name) → IsSetIn lines m ↔ IsSetBy reading places k m

-- The lines serve those of the releases: these read variables of formulas that have lines, which the lines give their values.
pub record ServesReleases (reading : Reading) (count : ℕ) (terms : List Term) (releases lines : List Line) : Type 0 where
  pub places : List Place
  pub placed : ArePlaced terms places
  pub set : ReadWhatIsSet reading places releases
  pub means : MeansTerms reading count terms places (length terms) lines
