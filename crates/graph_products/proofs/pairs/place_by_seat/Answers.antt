use Rattle.std.proofs.Common.{◌≡◌, ℕ, ◌+◌, ◌-◌, ◌<◌, List, [], ◌∷◌, ◌++◌, length, get_or, set}
use Rattle.std.proofs.Common.{sym, ap, ◌∙◌, subst, arith}
use Rattle.std.proofs.lemmas.List.{get_or_read}
use Rattle.graph_products.specs.declared.pair.Pair.{Pair}
use Rattle.graph_products.specs.Layering.{IsPlaced}
use Rattle.graph_products.specs.Seating.{AreSeats, seat_of}
use Rattle.graph_products.proofs.SeatLemmas.{placed_there, placed_behind, seats_after}
use Rattle.graph_products.proofs.pairs.place_by_seat.Goals as goal

-- what was read at a seat is what it tells
told_there : (seats : List ℕ) (k seat told : ℕ) → k ≡ seat → seat < length seats → told ≡ get_or seats k told →
    get_or seats seat 0 ≡ told
told_there seats k seat told is within read =
    ap (λ n. get_or seats n 0) (sym is) ∙ sym (get_or_read seats k told (omega (arith, is, within)) read 0)

pub returns-then-told-ne0-clause-placed : goal.returns-then-told-ne0-clause-placed
returns-then-told-ne0-clause-placed c =
    let t = c.args.table.now in
    let told = told_there t.seats.items c.seat_in-seat.result (seat_of c.args.width c.args.pair) c.index-told.result.now
    c.seat_in-seat.ensures c.requires.seat c.index-told.ensures in
    placed_there c.args.width t.seats.items t.list.items c.args.pair c.requires.seats c.requires.second
    (c.index-told.result.now - 1) (omega (arith, told, c.if-told-ne0.true))

pub returns-clause-seats : goal.returns-clause-seats
returns-clause-seats c =
    let t = c.args.table.now in
    let w = c.args.width in
    let pair = c.args.pair in
    let told = told_there t.seats.items c.seat_in-seat.result (seat_of w pair) c.index-told.result.now
    c.seat_in-seat.ensures c.requires.seat c.index-told.ensures in
    let place : c.len-place.result ≡ length t.list.items = omega (arith, c.len-place.ensures, t.list.ok.0) in
    subst (λ (xs : List Pair). AreSeats w (set t.seats.items c.seat_in-seat.result (c.len-place.result + 1)) xs)
    (sym c.in_ok-push.ensures.items)
    (subst (λ (k : ℕ). AreSeats w (set t.seats.items k (c.len-place.result + 1)) (t.list.items ++ pair ∷ []))
    (sym c.seat_in-seat.ensures)
    (subst (λ (n : ℕ). AreSeats w (set t.seats.items (seat_of w pair) (n + 1)) (t.list.items ++ pair ∷ [])) (sym place)
    (seats_after w t.seats.items t.list.items pair c.requires.seats c.requires.second
    (omega (arith, told, c.if-told-ne0.false)) c.requires.seat)))

pub returns-clause-placed : goal.returns-clause-placed
returns-clause-placed c =
    let t = c.args.table.now in
    let w = c.args.width in
    let pair = c.args.pair in
    let told = told_there t.seats.items c.seat_in-seat.result (seat_of w pair) c.index-told.result.now
    c.seat_in-seat.ensures c.requires.seat c.index-told.ensures in
    let place : c.len-place.result ≡ length t.list.items = omega (arith, c.len-place.ensures, t.list.ok.0) in
    subst (λ (xs : List Pair). IsPlaced t.list.items xs pair c.len-place.result) (sym c.in_ok-push.ensures.items)
    (subst (λ (n : ℕ). IsPlaced t.list.items (t.list.items ++ pair ∷ []) pair n) (sym place)
    (placed_behind w t.seats.items t.list.items pair c.requires.seats c.requires.second
    (omega (arith, told, c.if-told-ne0.false))))
