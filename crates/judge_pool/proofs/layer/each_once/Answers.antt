use Rattle.std.proofs.Common.{[], subst}
use Rattle.judge_pool.specs.Layering.{AreAdded}
use Rattle.judge_pool.proofs.SeatLemmas.{seats_none}
use Rattle.judge_pool.proofs.layer.each_once.Goals as goal

pub add_places-requires : goal.add_places-requires
add_places-requires c = seats_none c.new-once.result.items c.args.seats.now.items c.new-once.ensures.items

pub returns : goal.returns
returns c =
    let letters = c.args.letters.now in
    let places = c.add_places.new.places.items in
    subst (λ l. AreAdded l [] letters c.add_places.new.list.items places) c.new-once.ensures.items
    (subst (λ l. AreAdded c.new-once.result.items l letters c.add_places.new.list.items places) c.new-places.ensures.items
    c.in_ok-add_places.ensures.added)
