-- What the list of a bay's other parts says of another bay.
use Rattle.std.proofs.Common.{◌≡◌, ◌≢◌, ℕ, ◌<◌, Bool, false, List, length, get_or, MatchBool, sym, subst, arith}
use Rattle.station_graph.specs.Diagram.{Diagram, part_count}
use Rattle.station_graph.specs.Alike.{Irrelevant, Partner}
use Rattle.judge_pool.specs.Graphs.{other_of}
use Rattle.judge_graphs.specs.Built.{AreTold}
use Rattle.judge_intake.proofs.OuterFits.{place_of_part}

pub told_of : (d : Diagram) (to b : ℕ) (told : List Bool) (is : Bool) → AreTold d to told → b ≢ to → b < part_count d →
    to < part_count d → ((j : ℕ) → other_of 0 to j ≡ b → is ≡ get_or told j false) →
    MatchBool is (Partner d b to) (Irrelevant d b to)
told_of d to b told is are ne b_in to_in reads =
    let r = place_of_part to b (length told) (omega (arith, to_in, are.count)) ne (omega (arith, b_in, are.count)) in
    let each = are.each r.0 r.1 in
    subst (λ (t : Bool). MatchBool t (Partner d b to) (Irrelevant d b to)) (sym (reads r.0 r.2))
    (subst (λ p. MatchBool (get_or told r.0 false) (Partner d p to) (Irrelevant d p to)) r.2 each)
