-- The lines of releases, and what they mean.
use Rattle.std.specs.Prelude.{◌≡◌, ◌↔◌, ◌<◌, ℕ, List, slice_get, Option, Some, None, nat_lt, if◌then◌else◌}
use Rattle.ilk_base.specs.declared.words.Kind.{Kind}
use Rattle.ilk_base.specs.declared.words.Kind.TheVariants.{Breaker, Disconnector, Earthing, Infeed}
use Rattle.station_graph.specs.declared.items.Switch.{Switch}
use Rattle.station_graph.specs.Diagram.{Diagram}
use Rattle.short_equations.specs.declared.pair.TermPair.{TermPair}
use Rattle.structured_text.specs.declared.name.Name.{Name}
use Rattle.structured_text.specs.declared.name.Name.TheVariants.{Off, On, May, Sure, Opens, Closes}
use Rattle.structured_text.specs.declared.line.GapDenial.{GapDenial}
use Rattle.structured_text.specs.declared.line.GapDenial.TheVariants.{One, Two}
use Rattle.structured_text.specs.declared.line.LoadDenial.{LoadDenial}
use Rattle.structured_text.specs.declared.line.LoadDenial.TheVariants.{Loaded, Unbonded}
use Rattle.structured_text.specs.declared.line.Formula.{Formula}
use Rattle.structured_text.specs.declared.line.Formula.TheVariants.{Always, Apart, Unloaded, Released}
use Rattle.structured_text.specs.declared.line.Line.{Line}
use Rattle.structured_text.specs.Meaning.{Store, value, after}
use Rattle.structured_text.specs.Order.{IsRelease, IsSetIn, AreInOrder}

-- The formula, if it is one of so many.
abbrev pub known_in : ℕ → Option ℕ → Option ℕ
known_in count None = None
known_in count (Some n) = if nat_lt n count then Some n else None

-- The two formulas of a switch, as far as they are of so many.
abbrev pub pair_in : ℕ → TermPair → TermPair
pair_in count p = record { first = known_in count p.first; second = known_in count p.second }

-- Both of two formulas, one of which may be never true.
abbrev pub two_of : Option ℕ → Option ℕ → Option GapDenial
two_of (Some a) (Some b) = Some (Two (May a) (May b))
two_of (Some a) None = None
two_of None b = None

abbrev pub one_of : Option ℕ → Option GapDenial
one_of (Some a) = Some (One (May a))
one_of None = None

-- What denies that a switch of this kind is closed.
abbrev pub gap_denial_in : Kind → TermPair → Option GapDenial
gap_denial_in Breaker p = two_of p.first p.second
gap_denial_in Disconnector p = two_of p.first p.second
gap_denial_in Earthing p = one_of p.first
gap_denial_in Infeed p = one_of p.second

abbrev pub loaded_of : Option ℕ → Option ℕ → Option ℕ → Option LoadDenial
loaded_of (Some a) (Some b) (Some c) = Some (Unbonded (May a) (May b) (Sure c))
loaded_of (Some a) (Some b) None = Some (Loaded (May a) (May b))
loaded_of (Some a) None c = None
loaded_of None b c = None

-- What denies that a switch of this kind is moved.
abbrev pub load_denial_in : Kind → TermPair → TermPair → Option LoadDenial
load_denial_in Breaker load bond = None
load_denial_in Disconnector load bond = loaded_of load.first load.second bond.first
load_denial_in Earthing load bond = None
load_denial_in Infeed load bond = None

-- Neither denial holds.
abbrev pub release_in : Option GapDenial → Option LoadDenial → Formula
release_in (Some gap) (Some load) = Released gap load
release_in (Some gap) None = Apart gap
release_in None (Some load) = Unloaded load
release_in None None = Always

-- The variable is that of a formula, of so many of each reading.
abbrev pub IsFormula : ℕ → ℕ → Name → Type 0
IsFormula may sure (Off i) = ⊥
IsFormula may sure (On i) = ⊥
IsFormula may sure (May n) = n < may
IsFormula may sure (Sure n) = n < sure
IsFormula may sure (Opens i) = ⊥
IsFormula may sure (Closes i) = ⊥

-- The variable is a release of one of the first k switches.
abbrev pub IsReleaseBelow : ℕ → Name → Type 0
IsReleaseBelow k (Off i) = ⊥
IsReleaseBelow k (On i) = ⊥
IsReleaseBelow k (May n) = ⊥
IsReleaseBelow k (Sure n) = ⊥
IsReleaseBelow k (Opens i) = i.0 < k
IsReleaseBelow k (Closes i) = i.0 < k

-- The lines give the releases of the first k switches their values, and change nothing but releases. There are so many
-- formulas of what may be, and of what is certain, which the lines read; they are in order, and set releases of those switches.
pub record MeansReleases (d : Diagram) (may sure : ℕ) (gap load bond : List TermPair) (k : ℕ) (lines : List Line) : Type 0 where
  pub others : (s : Store) (m : Name) → ¬ IsRelease m → after lines s m ≡ s m
  pub opens : (s : Store) (i : ℕ) (x : Switch) (l b : TermPair) → i < k → slice_get d.switches i ≡ Some x →
      slice_get load i ≡ Some l → slice_get bond i ≡ Some b →
      after lines s (Opens (record { 0 = i })) ≡ value s (release_in None (load_denial_in x.kind (pair_in may l) (pair_in sure b)))
  pub closes : (s : Store) (i : ℕ) (x : Switch) (g l b : TermPair) → i < k → slice_get d.switches i ≡ Some x →
      slice_get gap i ≡ Some g → slice_get load i ≡ Some l → slice_get bond i ≡ Some b →
      after lines s (Closes (record { 0 = i }))
      ≡ value s (release_in (gap_denial_in x.kind (pair_in may g)) (load_denial_in x.kind (pair_in may l) (pair_in sure b)))
  pub order : AreInOrder (IsFormula may sure) lines
  pub sets : (m : Name) → IsSetIn lines m ↔ IsReleaseBelow k m
