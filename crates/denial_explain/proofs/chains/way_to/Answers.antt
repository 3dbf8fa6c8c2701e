use Rattle.std.proofs.Common.{ℕ, List, false, length, Contains, Option, sym, subst}
use Rattle.std.proofs.lemmas.Result.{IfOk-weaker}
use Rattle.station_graph.specs.Connection.{Touching}
use Rattle.denial_explain.specs.Listing.{Listed}
use Rattle.denial_explain.specs.Stepping.{HasSteps, AreSteps}
use Rattle.denial_explain.proofs.ListingLemmas.{IsUndirected-station}
use Rattle.denial_explain.proofs.WayLemmas.{IsWay-same, AreSteps-own_ends, steps_from}
use Rattle.denial_explain.proofs.chains.way_to.Goals as goal

pub steps_to-requires-clause-lists : goal.steps_to-requires-clause-lists
steps_to-requires-clause-lists c =
    IsUndirected-station c.args.station.now c.is_station.ensures c.args.joining.now c.in_ok-neighbours.neighbours
    c.in_ok-neighbours.ensures

pub follow-requires-clause-lists : goal.follow-requires-clause-lists
follow-requires-clause-lists c =
    IsUndirected-station c.args.station.now c.is_station.ensures c.args.joining.now c.in_ok-neighbours.neighbours
    c.in_ok-neighbours.ensures

pub follow-requires-clause-steps : goal.follow-requires-clause-steps
follow-requires-clause-steps c =
    let lists = c.in_ok-neighbours.neighbours in
    let ends = c.args.ends.now in
    rw c.deref.ensures.value
    (AreSteps-own_ends (Listed lists) (Contains ends) (length lists) c.in_ok-steps.steps.items c.in_ok-steps.ensures)

pub follow-requires-clause-from : goal.follow-requires-clause-from
follow-requires-clause-from c =
    let lists = c.in_ok-neighbours.neighbours in
    let ends = c.args.ends.now in
    let there = c.requires.there in
    rw c.deref.ensures.value
    (steps_from (Listed lists) (Touching false c.args.station.now c.args.joining.now) (Contains ends) (length lists)
    c.in_ok-steps.steps.items c.in_ok-steps.ensures
    (λ x y t. (c.in_ok-neighbours.ensures.exact x y).1 t) c.args.from.0 there.0 there.1 there.2)

pub returns-clause-way : goal.returns-clause-way
returns-clause-way c =
    let lists = c.in_ok-neighbours.neighbours in
    let ends = c.args.ends.now in
    let steps = c.deref.result.now in
    let are : AreSteps (Listed lists) (Contains ends) (length lists) steps =
    subst (λ (s : List (Option ℕ)). AreSteps (Listed lists) (Contains ends) (length lists) s)
    (sym c.deref.ensures.value) c.in_ok-steps.ensures in
    IfOk-weaker c.follow.result _ _ (λ w h.
    IsWay-same (Listed lists) (Touching false c.args.station.now c.args.joining.now) (λ n. HasSteps steps n 0)
    (Contains ends) c.args.from.0 w.last.0 w.nodes
    (λ x y l. (c.in_ok-neighbours.ensures.exact x y).0 l) (λ x y t. (c.in_ok-neighbours.ensures.exact x y).1 t)
    are.only_ends are.ends h) c.follow.ensures.way
