-- The variable of a formula is within any number of switches.
use Rattle.std.proofs.Common.{ℕ}
use Rattle.structured_text.specs.declared.name.Name.{Name}
use Rattle.structured_text.specs.declared.name.Name.TheVariants.{Off, On, May, Sure, Opens, Closes}
use Rattle.structured_text.specs.Within.{NameWithin, IsOfFormula}

pub formula_within : (count : ℕ) (m : Name) → IsOfFormula m → NameWithin count m
formula_within count (Off i) h = absurd h
formula_within count (On i) h = absurd h
formula_within count (May k) h = h
formula_within count (Sure k) h = h
formula_within count (Opens i) h = absurd h
formula_within count (Closes i) h = absurd h
