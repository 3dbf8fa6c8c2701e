use Rattle.std.proofs.Common.{◌≡◌, ℕ, List, slice_get, Some, refl, sym, ap, ◌∙◌}
use Rattle.std.proofs.lemmas.Bool.{false≢true}
use Rattle.std.proofs.lemmas.Option.{slice_get_read}
use Rattle.judge_pool.proofs.SeatLemmas.{seats_more, seat_tells}
use Rattle.judge_pool.proofs.seats.place.Goals as goal

pub returns-then-stands_at-clause-seats : goal.returns-then-stands_at-clause-seats
returns-then-stands_at-clause-seats c =
    seats_more c.args.list.now.items c.args.seats.now.items c.make_seat.new.seats.items c.in_ok-make_seat.ensures.stays
    c.requires

pub push_seated-requires-clause-seats : goal.push_seated-requires-clause-seats
push_seated-requires-clause-seats c =
    seats_more c.args.list.now.items c.args.seats.now.items c.make_seat.new.seats.items c.in_ok-make_seat.ensures.stays
    c.requires

pub push_seated-requires-clause-new : goal.push_seated-requires-clause-new
push_seated-requires-clause-new c =
    let list : List ℕ = c.args.list.now.items in
    let seats : List ℕ = c.make_seat.new.seats.items in
    let id = c.args.id in
    let told : ℕ = c.index-told.result.now in
    let at : slice_get seats id ≡ Some told =
    slice_get_read seats _ id told refl c.in_ok-make_seat.ensures.seat c.index-told.ensures in
    seat_tells list seats id told (seats_more list c.args.seats.now.items seats c.in_ok-make_seat.ensures.stays c.requires)
    at
    (λ there.
    false≢true
    (sym c.if-stands_at.false ∙ c.stands_at.ensures.1 (ap (λ l. slice_get l told) c.deref.ensures.value ∙ there)))
