-- A switch of a part by its number.
use Rattle.std.proofs.Common.{ℕ, ◌+◌, ◌<◌, ◌≤◌, inl, inr, arith}
use Rattle.std.proofs.lemmas.Option.{slice_get_cases}
use Rattle.station_graph.specs.Diagram.{Diagram, AreSwitchesOf}
use Rattle.station_graph.specs.Connection.{a_switch}
use Rattle.station_graph.specs.Sharing.{OfPart}

pub own_switch : (d : Diagram) (part first count s : ℕ) → AreSwitchesOf d part first count → first ≤ s
    → s < first + count → OfPart d part (a_switch s)
own_switch d part first count s are low high = elim (slice_get_cases d.switches s).1 [
  | inl here ↦ (here.0, here.2, (are.those s here.0 here.2).1 (low, high))
  | inr past ↦ absurd (omega (arith, past.0, high, are.within))
]
