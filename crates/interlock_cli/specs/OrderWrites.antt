-- What `order` writes, and how it ends.
use Rattle.std.specs.Prelude.{◌≡◌, ℕ, Bool, true, false, List}
use Rattle.ilk_base.specs.declared.words.Op.{Op}
use Rattle.station_graph.specs.Diagram.{Diagram}
use Rattle.switching_orders.specs.OrderText.{IsOrderText}
use Rattle.switching_orders.specs.declared.text.OrderReport.{OrderReport}
use Rattle.interlock_cli.specs.declared.end.Outcome.{Outcome}
use Rattle.interlock_cli.specs.declared.end.Outcome.TheVariants.{Done, Differs}

-- How a call ends that has found a difference from the rules, or none.
abbrev pub done_or_differs : Bool → Outcome
done_or_differs false = Done
done_or_differs true = Differs

-- The text of the order from this start; a step that is denied or idle is a difference.
abbrev pub OrderWrites : Diagram → List Bool → List Op → Outcome → List ℕ → Type 0
OrderWrites d start steps outcome text =
    (report : OrderReport) × IsOrderText d start steps report × (outcome ≡ done_or_differs report.differs)
    × (text ≡ report.text)
