use Rattle.std.proofs.Common.{◌≡◌, ℕ, List, [], length, slice_get, Contains, Option, Some, None, sym, ◌∙◌, ap, subst}
use Rattle.std.proofs.Common.{arith}
use Rattle.std.proofs.Math.ListN.{replicate}
use Rattle.std.proofs.lemmas.Option.{slice_get-get_or, slice_get_within}
use Rattle.station_graph.proofs.PathLemmas.{Contains-from_slice_get}
use Rattle.denial_explain.specs.Listing.{list_at, Listed}
use Rattle.denial_explain.specs.Stepping.{ReachesAll}
use Rattle.denial_explain.proofs.PassLemmas.{Passed-start, Passed-turn, AreSteps-passed}
use Rattle.denial_explain.proofs.steps.spread_all.Goals as goal

pub queue-init : goal.queue-init
queue-init c =
    let lists = c.args.neighbours.now in
    let ends = c.args.ends.now in
    let reached : ReachesAll (Contains ends) 0 c.args.steps.now c.reach_all.new.steps c.args.queue.now
    c.reach_all.new.queue =
    subst (λ (xs : List ℕ). ReachesAll (Contains xs) 0 c.args.steps.now c.reach_all.new.steps c.args.queue.now
    c.reach_all.new.queue) c.numbers.ensures c.in_ok-reach_all.ensures in
    let from_none : ReachesAll (Contains ends) 0 (replicate (length lists) None) c.reach_all.new.steps []
    c.reach_all.new.queue =
    subst (λ (q : List ℕ). ReachesAll (Contains ends) 0 (replicate (length lists) None) c.reach_all.new.steps q
    c.reach_all.new.queue) c.requires.queue
    (subst (λ (s : List (Option ℕ)). ReachesAll (Contains ends) 0 s c.reach_all.new.steps c.args.queue.now
    c.reach_all.new.queue) c.requires.steps reached) in
    Passed-start (Listed lists) (Contains ends) (length lists) c.reach_all.new.steps c.reach_all.new.queue from_none

pub spread-requires-clause-node : goal.spread-requires-clause-node
spread-requires-clause-node c =
    let p = c.queue.invariant in
    let at : slice_get c.queue.queue c.queue.front ≡ Some c.get.result.0 = slice_get-get_or c.queue.queue c.queue.front
    0 (omega arith) ∙ ap Some (sym c.get.ensures) in
    let w = p.stepped c.queue.front c.get.result.0 at in
    omega (arith, slice_get_within c.queue.steps c.get.result.0 (Some w.0) w.1, p.len)

pub spread-requires-clause-reached : goal.spread-requires-clause-reached
spread-requires-clause-reached c =
    let p = c.queue.invariant in
    let at : slice_get c.queue.queue c.queue.front ≡ Some c.get.result.0 = slice_get-get_or c.queue.queue c.queue.front
    0 (omega arith) ∙ ap Some (sym c.get.ensures) in
    let w = p.stepped c.queue.front c.get.result.0 at in
    (w.0, w.1, omega (arith, w.2, p.room, c.requires.few))

pub spread-requires-clause-within : goal.spread-requires-clause-within
spread-requires-clause-within c =
    let lists = c.args.neighbours.now in
    let node = c.get.result.0 in
    λ i n e. omega (
      arith,
      c.requires.lists.within node n (Contains-from_slice_get (list_at lists node) i n e),
      c.queue.invariant.len,
    )

pub queue-preserved : goal.queue-preserved
queue-preserved c =
    let lists = c.args.neighbours.now in
    let node = c.get.result.0 in
    let spreads = c.in_ok-spread.ensures in
    let at : slice_get c.queue.queue c.queue.front ≡ Some node = slice_get-get_or c.queue.queue c.queue.front 0
    (omega arith) ∙ ap Some (sym c.get.ensures) in
    Passed-turn (Listed lists) (Contains c.args.ends.now) (length lists) c.requires.lists.back c.queue.front node
    spreads.at c.queue.steps c.spread.new.steps c.queue.queue c.spread.new.queue c.queue.invariant at
    spreads.reached spreads.all

pub returns : goal.returns
returns c =
    let lists = c.args.neighbours.now in
    AreSteps-passed (Listed lists) (Contains c.args.ends.now) (length lists) c.queue.front c.queue.steps c.queue.queue
    (omega arith) c.queue.invariant
