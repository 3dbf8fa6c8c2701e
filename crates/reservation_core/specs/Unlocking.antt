-- How a lock is given up whose round is over.
use Rattle.std.specs.Prelude.{◌≡◌, ◌≢◌, ◌+◌, ℕ, List, [], ◌∷◌, length, Some}
use Rattle.ilk_base.specs.declared.words.BayId.{BayId}
use Rattle.station_graph.specs.Diagram.{Diagram}
use Rattle.central_rules.specs.Meaning.{Meaning, IsBay}
use Rattle.bay_protocol.specs.declared.values.Lock.{Lock}
use Rattle.bay_protocol.specs.State.{under_way}
use Rattle.reservation_core.specs.Scene.{Scene, node}
use Rattle.reservation_core.specs.Happens.{Happens}
use Rattle.reservation_core.specs.declared.values.WorldEvent.{WorldEvent}
use Rattle.reservation_core.specs.declared.values.WorldEvent.TheVariants.{Tick, Deliver}
use Rattle.reservation_core.specs.declared.values.WorldOutcome.{WorldOutcome}

-- Bay b is locked for a round that is not under way at its holder.
pub record IsLeftLocked (d : Diagram) (w : Scene) (b : ℕ) : Type 0 where
  pub bay : IsBay d b
  pub lock : Lock
  pub locked : (node d w b).lock ≡ Some lock
  pub over : under_way (node d w lock.holder.0) ≢ Some lock.round

-- A tick in bay b, and then the delivery of the next message that is sent, and of the one after it.
abbrev pub unlocking : Scene → BayId → List WorldEvent
unlocking w b = Tick b ∷ Deliver (length w.sent + 1) ∷ Deliver (length w.sent + 2) ∷ []

-- The events happen one after another, from one scene to the other.
abbrev pub HappenInTurn : Meaning → Scene → List WorldEvent → Scene → Type 0
HappenInTurn m old [] new = new ≡ old
HappenInTurn m old (event ∷ events) new =
    (next : Scene) × (outcome : WorldOutcome) × Happens m old event next outcome × HappenInTurn m next events new
