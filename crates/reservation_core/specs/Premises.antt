-- The premises, their numbers, and what breaks them.
use Rattle.std.specs.Prelude.{◌≡◌, ◌⊎◌, ℕ, true, false}
use Rattle.station_graph.specs.Diagram.{Diagram}
use Rattle.central_rules.specs.Meaning.{bay_of}
use Rattle.bay_protocol.specs.declared.values.Grant.{Grant}
use Rattle.reservation_core.specs.Scene.{Scene, node, true_at, runs, IsTrueWord, end_position}
use Rattle.reservation_core.specs.RoundFacts.{NotGranted}
use Rattle.reservation_core.specs.Happens.{IsUnsent, IsMoving, IsOpenOperation}
use Rattle.reservation_core.specs.declared.values.Which.{Which}
use Rattle.reservation_core.specs.declared.values.Which.TheVariants.{Start, Sensed, Begun, Ended, Withdrawn, Unsent}
use Rattle.reservation_core.specs.declared.values.Which.TheVariants.{Cut as NotCut}
use Rattle.reservation_core.specs.declared.values.WorldEvent.{WorldEvent}
use Rattle.reservation_core.specs.declared.values.WorldEvent.TheVariants.{Command, Sense, Deliver, Tick, Withdraw}
use Rattle.reservation_core.specs.declared.values.WorldEvent.TheVariants.{Restart, Begin, End, Part, Cut}

-- The number of a premise.
abbrev pub number : Which → ℕ
number Start = 1
number Sensed = 2
number Begun = 3
number Ended = 4
number Withdrawn = 5
number Unsent = 6
number NotCut = 7

-- An open operation of switch i moves it to where it is.
abbrev pub IsThereAlready : Diagram → Scene → ℕ → Type 0
IsThereAlready d w i =
    (g : Grant) × IsOpenOperation (node d w (bay_of d i)) i g × (true_at w.truth i ≡ end_position g.op.direction)

-- The event breaks this premise in this scene. An event breaks one premise at most.
abbrev pub BreaksPremise : Diagram → Scene → WorldEvent → Which → Type 0
BreaksPremise d w (Command op) which = ⊥
BreaksPremise d w (Sense i word) which = (which ≡ Sensed) × (¬ IsTrueWord word (true_at w.truth i.0))
BreaksPremise d w (Deliver k) which = (which ≡ Unsent) × IsUnsent w k
BreaksPremise d w (Tick b) which = ⊥
BreaksPremise d w (Withdraw b) which = (which ≡ Withdrawn) × IsMoving d w b.0
BreaksPremise d w (Restart b) which = ⊥
BreaksPremise d w (Begin i) which =
    (which ≡ Begun) × (NotGranted (node d w (bay_of d i.0)) i.0 ⊎ ((runs w.drives i.0 ≡ true) ⊎ IsThereAlready d w i.0))
BreaksPremise d w (End i) which = (which ≡ Ended) × (runs w.drives i.0 ≡ false)
BreaksPremise d w (Part k bytes) which = (which ≡ Unsent) × IsUnsent w k
BreaksPremise d w (Cut i) which = (which ≡ NotCut) × (runs w.drives i.0 ≡ false)
