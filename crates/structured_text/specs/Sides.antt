-- Lines on the side of denial, and signals that do not come.
use Rattle.std.specs.Prelude.{◌≡◌, ◌⊎◌, ℕ, Bool, true, false, List, slice_get, Some}
use Rattle.structured_text.specs.declared.name.Name.{Name}
use Rattle.structured_text.specs.declared.name.Name.TheVariants.{Off, On, May, Sure, Opens, Closes}
use Rattle.structured_text.specs.declared.line.LoadDenial.{LoadDenial}
use Rattle.structured_text.specs.declared.line.LoadDenial.TheVariants.{Loaded, Unbonded}
use Rattle.structured_text.specs.declared.line.Formula.{Formula}
use Rattle.structured_text.specs.declared.line.Formula.TheVariants.{Always, Never, MayBeClosed, IsClosed, Both, Either, Apart, Unloaded, Released}
use Rattle.structured_text.specs.declared.line.Line.{Line}
use Rattle.structured_text.specs.Meaning.{Store}
use Rattle.structured_text.specs.Reads.{GapReads, OperandReads}
use Rattle.structured_text.specs.Order.{IsRelease}

-- What a signal counts as that does not come: what may be as TRUE, and what is certain as FALSE.
abbrev pub IsMissed : Name → Bool → Type 0
IsMissed (Off i) b = ⊥
IsMissed (On i) b = ⊥
IsMissed (May k) b = b ≡ true
IsMissed (Sure k) b = b ≡ false
IsMissed (Opens i) b = ⊥
IsMissed (Closes i) b = ⊥

-- The second store is the first one, but for signals that do not come.
abbrev pub AreMissed : Store → Store → Type 0
AreMissed s t = (m : Name) → (t m ≡ s m) ⊎ IsMissed m (t m)

-- Nothing is released where signals do not come that is not released where they do.
abbrev pub IsCautious : (Store → Store) → Type 0
IsCautious run = (s t : Store) (m : Name) → AreMissed s t → IsRelease m → run t m ≡ true → run s m ≡ true

-- The variable is one of what may be; it is one of what is certain.
abbrev pub IsMay : Name → Type 0
IsMay (Off i) = ⊥
IsMay (On i) = ⊥
IsMay (May k) = Unit {0}
IsMay (Sure k) = ⊥
IsMay (Opens i) = ⊥
IsMay (Closes i) = ⊥

abbrev pub IsSure : Name → Type 0
IsSure (Off i) = ⊥
IsSure (On i) = ⊥
IsSure (May k) = ⊥
IsSure (Sure k) = Unit {0}
IsSure (Opens i) = ⊥
IsSure (Closes i) = ⊥

-- The formula has no NOT but of contacts, and reads such variables alone.
abbrev pub IsOfThese : (Name → Type 0) → Formula → Type 0
IsOfThese P Always = Unit {0}
IsOfThese P Never = Unit {0}
IsOfThese P (MayBeClosed i) = Unit {0}
IsOfThese P (IsClosed i) = Unit {0}
IsOfThese P (Both a b) = OperandReads P a × OperandReads P b
IsOfThese P (Either a b) = OperandReads P a × OperandReads P b
IsOfThese P (Apart gap) = ⊥
IsOfThese P (Unloaded load) = ⊥
IsOfThese P (Released gap load) = ⊥

-- What denies is of what may be, but for a bond, which is of what is certain.
abbrev pub IsLoadDenial : LoadDenial → Type 0
IsLoadDenial (Loaded a b) = IsMay a × IsMay b
IsLoadDenial (Unbonded a b c) = IsMay a × IsMay b × IsSure c

abbrev pub IsDenied : Formula → Type 0
IsDenied Always = Unit {0}
IsDenied Never = Unit {0}
IsDenied (MayBeClosed i) = ⊥
IsDenied (IsClosed i) = ⊥
IsDenied (Both a b) = ⊥
IsDenied (Either a b) = ⊥
IsDenied (Apart gap) = GapReads IsMay gap
IsDenied (Unloaded load) = IsLoadDenial load
IsDenied (Released gap load) = GapReads IsMay gap × IsLoadDenial load

-- So a line that sets the variable may say: what may be is of what may be, what is certain of what is certain, and a release
-- is denied.
abbrev pub IsSided : Name → Formula → Type 0
IsSided (Off i) f = ⊥
IsSided (On i) f = ⊥
IsSided (May k) f = IsOfThese IsMay f
IsSided (Sure k) f = IsOfThese IsSure f
IsSided (Opens i) f = IsDenied f
IsSided (Closes i) f = IsDenied f

-- Each of the lines is so.
abbrev pub AreSided : List Line → Type 0
AreSided lines = (k : ℕ) (x : Line) → slice_get lines k ≡ Some x → IsSided x.name x.formula
