-- What an audit finds of an equation: whether it is loose, strict, or the same as the rules.
use Rattle.std.specs.Prelude.{◌≡◌, ◌⊎◌, ℕ, Bool, true, false, List, [], ◌∷◌, ◌||◌, is_some, IfSome, MatchOption, Option, Some}
use Rattle.std.specs.Prelude.{None, All}
use Rattle.std.specs.List.{AllZip, list_any}
use Rattle.ilk_base.specs.declared.words.Rule.{Rule}
use Rattle.ilk_base.specs.declared.words.Op.{Op}
use Rattle.ilk_base.specs.declared.words.SwitchId.{SwitchId}
use Rattle.station_graph.specs.Diagram.{Diagram}
use Rattle.station_graph.specs.CentralRules.{Breaks, IsOperation}
use Rattle.station_graph.specs.Alike.{IsVector}
use Rattle.equation_audit.specs.Equations.{Equation, is_released, is_own, AreOwn}
use Rattle.equation_audit.specs.Positions.{placed, SharesPosition}
use Rattle.equation_audit.specs.declared.finding.Loose.{Loose}
use Rattle.equation_audit.specs.declared.finding.Finding.{Finding}
use Rattle.equation_audit.specs.declared.tried.Tried.{Tried}
use Rattle.equation_audit.specs.declared.tried.Tried.TheVariants.{Strict, NotStrict}

-- In this vector the equation releases what the rules forbid.
pub record IsLooseIn (d : Diagram) (e : Equation) (rule : Rule) (v : List Bool) : Type 0 where
  pub whole : IsVector d v
  pub released : is_released e.alternatives v ≡ true
  pub breaks : Breaks d v e.op (Some rule)

-- It does so in some vector.
abbrev pub IsLoose : Diagram → Equation → Type 0
IsLoose d e = (rule : Rule) × (v : List Bool) × IsLooseIn d e rule v

-- No rule forbids the operation in any vector.
abbrev pub NeverDenied : Diagram → Op → Type 0
NeverDenied d op = (v : List Bool) → IsVector d v → Breaks d v op None

-- It does so in no vector that gives the own switches the position that u gives them.
abbrev pub NoneLooseBy : Diagram → Equation → List Bool → Type 0
NoneLooseBy d e u = (rule : Rule) (v : List Bool) → SharesPosition d (is_own e.alternatives) u v →
    ¬ IsLooseIn d e rule v

-- The position that u gives the own switches suffices for the rules: they forbid nothing in any vector with
-- it.
abbrev pub Suffices : Diagram → Equation → List Bool → Type 0
Suffices d e u = (v : List Bool) → SharesPosition d (is_own e.alternatives) u v → Breaks d v e.op None

-- By the position of its own switches in u the equation denies what the rules allow: that position suffices.
pub record IsStrictAt (d : Diagram) (e : Equation) (u : List Bool) : Type 0 where
  pub whole : IsVector d u
  pub denied : is_released e.alternatives u ≡ false
  pub suffices : Suffices d e u

-- A vector with these switches in the position of this number, in which a rule forbids the operation.
pub record IsDeniedAt (d : Diagram) (op : Op) (own : List SwitchId) (number : ℕ) (v : List Bool) : Type 0 where
  pub before : List Bool
  pub whole : IsVector d before
  pub placed_is : v ≡ placed before own number
  pub rule : Rule
  pub breaks : Breaks d v op (Some rule)

-- It does so in some position.
abbrev pub IsStrict : Diagram → Equation → Type 0
IsStrict d e = (u : List Bool) × IsStrictAt d e u

-- What is found of the position that u gives the own switches: that it is strict there, and is shown by u; or that it is
-- not, with a vector of the station or none.
abbrev pub TellsTried : Diagram → Equation → List Bool → Tried → Type 0
TellsTried d e u (Strict v) = IsStrictAt d e v
TellsTried d e u (NotStrict o) = (¬ IsStrictAt d e u) × IfSome o (IsVector d)

-- The equation is the same as the rules: neither loose nor strict.
pub record IsSame (d : Diagram) (e : Equation) : Type 0 where
  pub not_loose : ¬ IsLoose d e
  pub not_strict : ¬ IsStrict d e

-- What tells whether it is loose: a vector in which it is, or none where it is not.
abbrev pub TellsLoose : Diagram → Equation → Option Loose → Type 0
TellsLoose d e o = MatchOption o (¬ IsLoose d e) (λ l. IsLooseIn d e l.rule l.vector)

-- What tells whether it is strict: a position in which it is, or none where it is not.
abbrev pub TellsStrict : Diagram → Equation → Option (List Bool) → Type 0
TellsStrict d e o = MatchOption o (¬ IsStrict d e) (λ u. IsStrictAt d e u)

-- What is found of the equation: where it is loose, a vector in which it is; where it is strict, a position.
pub record IsFinding (d : Diagram) (e : Equation) (f : Finding) : Type 0 where
  pub op : f.op ≡ e.op
  pub own : AreOwn e.alternatives f.own.items
  pub loose : TellsLoose d e f.loose
  pub strict : TellsStrict d e f.strict

-- What is found of each of the equations.
abbrev pub AreFindings : Diagram → List Equation → List Finding → Type 0
AreFindings d es fs = AllZip (IsFinding d) es fs

-- One of the equations is loose or strict.
abbrev pub SomeDiffers : Diagram → List Equation → Type 0
SomeDiffers d [] = ⊥
SomeDiffers d (e ∷ es) = IsLoose d e ⊎ IsStrict d e ⊎ SomeDiffers d es

-- It is found to be loose or strict.
abbrev pub is_different : Finding → Bool
is_different f = is_some f.loose || is_some f.strict

-- One of the findings is that.
abbrev pub some_differ : List Finding → Bool
some_differ fs = list_any is_different fs

-- What is shown of the equation is of the station.
pub record IsShown (d : Diagram) (f : Finding) : Type 0 where
  pub op : IsOperation d f.op
  pub loose : (l : Loose) → f.loose ≡ Some l → IsVector d l.vector
  pub strict : (u : List Bool) → f.strict ≡ Some u → IsVector d u

-- All of them are.
abbrev pub AreShown : Diagram → List Finding → Type 0
AreShown d fs = All (IsShown d) fs
