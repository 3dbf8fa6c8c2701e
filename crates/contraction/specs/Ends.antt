-- What the answers of all items but one switch say of moving it.
use Rattle.std.specs.Prelude.{◌≡◌, ℕ, ◌⊎◌, List, Option, Some, None}
use Rattle.ilk_base.specs.declared.words.Kind.TheVariants.{Disconnector, Earthing, Infeed}
use Rattle.ilk_base.specs.declared.words.Direction.{Direction}
use Rattle.ilk_base.specs.declared.words.Direction.TheVariants.{ToOn}
use Rattle.ilk_base.specs.declared.words.Rule.{Rule}
use Rattle.ilk_base.specs.declared.words.Rule.TheVariants.{R1, R2, R3}
use Rattle.ilk_base.specs.declared.words.NodeId.{NodeId}
use Rattle.station_graph.specs.declared.items.Switch.{Switch}
use Rattle.contraction.specs.Answers.{Answers, Keeps, SaysEnergisable, SaysEarthable, SaysFed, SaysLoaded, SaysBonded}

-- The ends of the switch are kept.
pub record EndsKept (kept : List ℕ) (x : Switch) : Type 0 where
  pub first : Keeps kept x.first.0
  pub second : (n : NodeId) → x.second ≡ Some n → Keeps kept n.0

-- An earthing switch is closed at a node that is energisable.
pub record EndsEarthing (c : Answers) (x : Switch) (direction : Direction) : Type 0 where
  pub closes : direction ≡ ToOn
  pub is_earthing : x.kind ≡ Earthing
  pub energisable : SaysEnergisable c x.first.0

-- An infeed is set on at a node that is earthable.
pub record EndsFeeding (c : Answers) (x : Switch) (direction : Direction) : Type 0 where
  pub closes : direction ≡ ToOn
  pub is_infeed : x.kind ≡ Infeed
  pub earthable : SaysEarthable c x.first.0

-- Of two nodes one is energisable, and one is earthable.
abbrev pub Meets : Answers → ℕ → ℕ → Type 0
Meets c a b = (SaysEnergisable c a ⊎ SaysEnergisable c b) × (SaysEarthable c a ⊎ SaysEarthable c b)

-- A switch with two ends is closed between nodes of which one is energisable and one earthable.
pub record EndsClosing (c : Answers) (x : Switch) (direction : Direction) : Type 0 where
  pub second : NodeId
  pub closes : direction ≡ ToOn
  pub has_second : x.second ≡ Some second
  pub meets : Meets c x.first.0 second.0

-- Of two nodes one is fed, both are loaded, and they are not bonded.
abbrev pub CarriesLoad : Answers → ℕ → ℕ → Type 0
CarriesLoad c a b = (SaysFed c a ⊎ SaysFed c b) × SaysLoaded c a × SaysLoaded c b × (¬ SaysBonded c a b)

-- A disconnector stands between such nodes.
pub record EndsLoad (c : Answers) (x : Switch) : Type 0 where
  pub second : NodeId
  pub is_disconnector : x.kind ≡ Disconnector
  pub has_second : x.second ≡ Some second
  pub load : CarriesLoad c x.first.0 second.0

-- The first rule that the ends tell by the gap view, or none.
abbrev pub EndsGap : Answers → Switch → Direction → Option Rule → Type 0
EndsGap c x direction None =
    (¬ EndsEarthing c x direction) × (¬ (EndsClosing c x direction ⊎ EndsFeeding c x direction))
EndsGap c x direction (Some R1) = EndsEarthing c x direction
EndsGap c x direction (Some R2) =
    (¬ EndsEarthing c x direction) × (EndsClosing c x direction ⊎ EndsFeeding c x direction)
EndsGap c x direction (Some R3) = ⊥
