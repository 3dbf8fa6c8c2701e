use Rattle.std.proofs.Common.{◌≡◌, ℕ, ◌+◌, ◌-◌, List, length, Contains, sym, subst, arith}
use Rattle.station_graph.proofs.PathLemmas.{Contains-from_slice_get}
use Rattle.denial_explain.specs.Listing.{Listed}
use Rattle.denial_explain.specs.Stepping.{HasSteps}
use Rattle.denial_explain.proofs.WayLemmas.{Follows, Follows-step, Follows-below, IsWay-followed}
use Rattle.denial_explain.proofs.steps.follow.Goals as goal

pub nearer-last-requires-clause-within : goal.nearer-last-requires-clause-within
nearer-last-requires-clause-within c =
    let lists = c.args.neighbours.now in
    let node = c.steps.last.0 in
    λ i n e.
    let listed : Listed lists node n = subst (λ (xs : List ℕ). Contains xs n) c.at.ensures
    (Contains-from_slice_get c.at.result.now i n e) in
    omega (arith, c.requires.lists.within node n listed, c.requires.steps.len)

pub nearer-last-requires-clause-there : goal.nearer-last-requires-clause-there
nearer-last-requires-clause-there c =
    let lists = c.args.neighbours.now in
    let node = c.steps.last.0 in
    let more : c.steps.left ≡ c.steps.left - 1 + 1 = omega arith in
    let w = c.requires.steps.nearer node (c.steps.left - 1) (subst (λ k. HasSteps c.args.steps.now node k) more
    c.steps.invariant.here) in
    (w.0, subst (λ (xs : List ℕ). Contains xs w.0) (sym c.at.ensures) w.1, w.2)

pub steps-preserved : goal.steps-preserved
steps-preserved c =
    let lists = c.args.neighbours.now in
    let steps = c.args.steps.now in
    let from = c.args.from.0 in
    let node = c.steps.last.0 in
    let next = c.nearer-last.result.0 in
    let more : c.steps.left ≡ c.steps.left - 1 + 1 = omega arith in
    let listed : Listed lists node next = subst (λ (xs : List ℕ). Contains xs next) c.at.ensures
    c.nearer-last.ensures.listed in
    rw c.in_ok-push-2.ensures.ok
    (Follows-step (Listed lists) steps from node c.steps.nodes (c.steps.left - 1) next
    (subst (λ k. Follows (Listed lists) steps from node k c.steps.nodes) more c.steps.invariant) listed
    c.nearer-last.ensures.steps)

pub returns-clause-way : goal.returns-clause-way
returns-clause-way c =
    let lists = c.args.neighbours.now in
    let steps = c.args.steps.now in
    let none : c.steps.left ≡ 0 = omega arith in
    IsWay-followed (Listed lists) steps c.args.from.0 c.steps.last.0 c.steps.nodes (λ n. HasSteps steps n 0)
    (length lists) c.requires.steps
    (subst (λ k. Follows (Listed lists) steps c.args.from.0 c.steps.last.0 k c.steps.nodes) none c.steps.invariant)

pub returns-clause-nodes : goal.returns-clause-nodes
returns-clause-nodes c =
    λ i n e. omega (
      arith,
      Follows-below (Listed c.args.neighbours.now) c.args.steps.now c.args.from.0 c.steps.last.0
          c.steps.nodes c.steps.left c.steps.invariant i n e,
      c.requires.steps.len,
    )
