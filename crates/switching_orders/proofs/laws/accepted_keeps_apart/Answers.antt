use Rattle.std.proofs.Common.{ℕ, zero, suc, ◌<◌, Bool, List, [], ◌∷◌, length, take, None}
use Rattle.std.proofs.lemmas.List.Elements.{All-head, All-tail}
use Rattle.ilk_base.specs.declared.words.Op.{Op}
use Rattle.station_graph.specs.Diagram.{Diagram}
use Rattle.station_graph.specs.Supply.{Apart}
use Rattle.station_graph.specs.CentralRules.{carried_out, IsOperation, Breaks}
use Rattle.switching_orders.specs.OrderRuling.{after_all, AreOperations}
use Rattle.switching_orders.proofs.Steps.{EachAfter, EachAfter-from_index}
use Rattle.switching_orders.proofs.RulingLemmas.{IsOk}
use Rattle.switching_orders.proofs.laws.accepted_keeps_apart.Goals as goal

-- step by step
along : ((d : Diagram) (v : List Bool) (op : Op) → IsOperation d op → Breaks d v op None → Apart d v →
    Apart d (carried_out v op))
    → (d : Diagram) (v : List Bool) (ops : List Op) → AreOperations d ops → Apart d v → EachAfter (IsOk d) v ops →
    (k : ℕ) → Apart d (after_all v (take k ops))
along keeps d v [] operations apart each zero = apart
along keeps d v [] operations apart each (suc k) = apart
along keeps d v (op ∷ ops) operations apart each zero = apart
along keeps d v (op ∷ ops) operations apart each (suc k) =
    along keeps d (carried_out v op) ops (All-tail (IsOperation d) op ops operations)
    (keeps d v op (All-head (IsOperation d) op ops operations) each.0.1 apart) each.1 k

pub returns : goal.returns
returns c = λ d v ops operations apart accepted. along c.soundness_is_kept.ensures.carried_out d v ops operations apart
    (EachAfter-from_index (IsOk d) v ops accepted)
