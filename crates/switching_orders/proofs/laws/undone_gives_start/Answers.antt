use Rattle.std.proofs.Common.{◌≡◌, Bool, List}
use Rattle.ilk_base.specs.declared.words.Op.{Op}
use Rattle.station_graph.specs.Diagram.{Diagram}
use Rattle.switching_orders.specs.OrderRuling.{after_all, IsAcceptedFrom}
use Rattle.switching_orders.specs.Undoing.{undone}
use Rattle.switching_orders.proofs.Steps.{EachAfter, EachAfter-from_index, index-from_EachAfter}
use Rattle.switching_orders.proofs.UndoLemmas.{Moves, leads_back, moves_back}
use Rattle.switching_orders.proofs.laws.undone_gives_start.Goals as goal

moves : (d : Diagram) (v : List Bool) (ops : List Op) → IsAcceptedFrom d v ops → EachAfter Moves v ops
moves d v ops accepted = EachAfter-from_index Moves v ops (λ k op at. (accepted k op at).0)

pub returns-clause-start : goal.returns-clause-start
returns-clause-start c = λ d v ops accepted. leads_back v ops (moves d v ops accepted)

pub returns-clause-never_idle : goal.returns-clause-never_idle
returns-clause-never_idle c = λ d v ops accepted. index-from_EachAfter Moves (after_all v ops) (undone ops)
    (moves_back v ops (moves d v ops accepted))
