-- The variables of formulas.
use Rattle.std.specs.Prelude.{ℕ, Option, Some, None}
use Rattle.structured_text.specs.declared.name.Name.{Name}
use Rattle.structured_text.specs.declared.name.Name.TheVariants.{Off, On, May, Sure, Opens, Closes}
use Rattle.program_text.specs.declared.reading.Reading.{Reading}
use Rattle.program_text.specs.declared.reading.Reading.TheVariants.{May as AsClosed, Sure as AsOpen}

-- The variable of the formula of this number.
abbrev pub name_in : Reading → ℕ → Name
name_in AsClosed k = May k
name_in AsOpen k = Sure k

-- The formula whose variable it is, if it is one of this reading.
abbrev pub number_in : Reading → Name → Option ℕ
number_in r (Off i) = None
number_in r (On i) = None
number_in r (Opens i) = None
number_in r (Closes i) = None
number_in AsClosed (May k) = Some k
number_in AsClosed (Sure k) = None
number_in AsOpen (May k) = None
number_in AsOpen (Sure k) = Some k
