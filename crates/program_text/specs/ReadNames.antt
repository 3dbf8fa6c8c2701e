-- The variables that a formula reads, as a list.
use Rattle.std.specs.Prelude.{◌++◌, List, [], ◌∷◌}
use Rattle.structured_text.specs.declared.name.Name.{Name}
use Rattle.structured_text.specs.declared.name.Name.TheVariants.{Off, On}
use Rattle.structured_text.specs.declared.line.GapDenial.{GapDenial}
use Rattle.structured_text.specs.declared.line.GapDenial.TheVariants.{One, Two}
use Rattle.structured_text.specs.declared.line.LoadDenial.{LoadDenial}
use Rattle.structured_text.specs.declared.line.LoadDenial.TheVariants.{Loaded, Unbonded}
use Rattle.structured_text.specs.declared.line.Operand.{Operand}
use Rattle.structured_text.specs.declared.line.Operand.TheVariants.{Variable, Product, Sum}
use Rattle.structured_text.specs.declared.line.Formula.{Formula}
use Rattle.structured_text.specs.declared.line.Formula.TheVariants.{Always, Never, MayBeClosed, IsClosed, Both, Either, Apart, Unloaded, Released}

abbrev pub gap_names : GapDenial → List Name
gap_names (One a) = a ∷ []
gap_names (Two a b) = a ∷ b ∷ []

abbrev pub load_names : LoadDenial → List Name
load_names (Loaded a b) = a ∷ b ∷ []
load_names (Unbonded a b c) = a ∷ b ∷ c ∷ []

abbrev pub operand_names : Operand → List Name
operand_names (Variable a) = a ∷ []
operand_names (Product a b) = a ∷ b ∷ []
operand_names (Sum a b) = a ∷ b ∷ []

abbrev pub formula_names : Formula → List Name
formula_names Always = []
formula_names Never = []
formula_names (MayBeClosed i) = Off i ∷ On i ∷ []
formula_names (IsClosed i) = Off i ∷ On i ∷ []
formula_names (Both a b) = operand_names a ++ operand_names b
formula_names (Either a b) = operand_names a ++ operand_names b
formula_names (Apart gap) = gap_names gap
formula_names (Unloaded load) = load_names load
formula_names (Released gap load) = gap_names gap ++ load_names load
