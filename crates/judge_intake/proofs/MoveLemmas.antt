-- The index of a part and the views of some items depend on the positions of their own switches alone.
use Rattle.std.proofs.Common.{◌≢◌, ℕ, Bool, List, sym, ap, ◌∙◌}
use Rattle.std.proofs.lemmas.Option.{same_Some}
use Rattle.station_graph.specs.declared.items.Switch.{Switch}
use Rattle.station_graph.specs.Sharing.{OfPart}
use Rattle.station_graph.specs.Alike.{SamePositions, DifferInPart}
use Rattle.station_graph.specs.Diagram.{Diagram}
use Rattle.station_graph.specs.Connection.{Item}
use Rattle.contraction.specs.Answers.{Answers}
use Rattle.contraction.proofs.MoveLemmas.{gap_moves, load_moves, stands_moves}
use Rattle.judge_pool.specs.declared.view.View.{View}
use Rattle.judge_pool.specs.declared.view.View.TheVariants.{Gap, Load}
use Rattle.judge_pool.specs.Seen.{SeenFor}
use Rattle.judge_pool.specs.Lettered.{Lettered, PartHas}

pub index_moves : (a : Lettered) (p i : ℕ) (v w : List Bool) → SamePositions (OfPart a.diagram p) v w →
    PartHas a p i v → PartHas a p i w
index_moves a p i v w same h = record {
  letter = h.letter;
  listed = h.listed;
  stands = stands_moves (OfPart a.diagram p) a.diagram v w same h.letter h.stands;
}

pub seen_moves : (view : View) (These : Item → Type 0) (d : Diagram) (v w : List Bool) → SamePositions These v w →
    (c : Answers) → SeenFor view These d v c → SeenFor view These d w c
seen_moves Gap These d v w same c s = gap_moves These d v w same c s
seen_moves Load These d v w same c s = load_moves These d v w same c s

-- the positions of one part stay where only those of another are moved
pub part_stays : (d : Diagram) (p q : ℕ) (v w : List Bool) → p ≢ q → DifferInPart d q v w →
    SamePositions (OfPart d p) v w
part_stays d p q v w ne stay i of_p =
    stay i
    (λ of_q. ne (sym of_p.2 ∙ (ap (λ (x : Switch). x.bay.0) (same_Some of_p.0 of_q.0 (sym of_p.1 ∙ of_q.1)) ∙ of_q.2)))
