use Rattle.std.proofs.Common.{ℕ, List, [], ◌∷◌, ◌++◌, length, set, sym, ap, subst}
use Rattle.judge_pool.specs.Layering.{AreSeats, IsPlaced}
use Rattle.judge_pool.proofs.SeatLemmas.{placed_new, seats_new}
use Rattle.judge_pool.proofs.seats.push_seated.Goals as goal

pub returns-clause-seats : goal.returns-clause-seats
returns-clause-seats c =
    let list : List ℕ = c.args.list.now.items in
    let seats : List ℕ = c.args.seats.now.items in
    let id = c.args.id in
    let end = length c.as_slice-held.result.now in
    subst (λ (l : List ℕ). AreSeats l (set seats id end)) (sym c.in_ok-push.ensures.items)
    (subst (λ (n : ℕ). AreSeats (list ++ id ∷ []) (set seats id n)) (sym (ap length c.as_slice-held.ensures.value))
    (seats_new list id c.requires.new seats c.requires.seats c.requires.seat))

pub returns-clause-placed : goal.returns-clause-placed
returns-clause-placed c =
    let list : List ℕ = c.args.list.now.items in
    let id = c.args.id in
    let end = length c.as_slice-held.result.now in
    subst (λ (l : List ℕ). IsPlaced list l id end) (sym c.in_ok-push.ensures.items)
    (subst (λ (n : ℕ). IsPlaced list (list ++ id ∷ []) id n) (sym (ap length c.as_slice-held.ensures.value))
    (placed_new list id c.requires.new))
