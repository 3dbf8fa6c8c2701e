use Rattle.std.proofs.Common.{◌≡◌, ◌+◌, [], ◌∷◌, ◌++◌, take, get_or, refl, sym, subst, arith}
use Rattle.std.proofs.lemmas.List.{take_more, take_all}
use Rattle.judge_pool.specs.Layering.{AreAdded}
use Rattle.judge_pool.proofs.AddedEdges.{added_none, added_one}
use Rattle.judge_pool.proofs.seats.add_places.Goals as goal

pub loop-c-init : goal.loop-c-init
loop-c-init c = record {
  seats = c.requires;
  added = added_none c.args.list.now.items c.args.places.now.items (take 0 c.args.ids.now) refl;
}

pub loop-c-preserved : goal.loop-c-preserved
loop-c-preserved c =
    let ids = c.args.ids.now in
    let k = c.loop-c.c in
    let id = get_or ids k 0 in
    let more : take (k + 1) ids ≡ take k ids ++ id ∷ [] = take_more ids k 0 c.loop-c-test.true in
    record {
      seats = c.in_ok-to.ensures.seats;
      added =
          subst (λ l. AreAdded c.args.list.now.items c.args.places.now.items l c.place.new.list.items c.push.new.self.items)
          (sym more)
          (subst (λ l. AreAdded c.args.list.now.items c.args.places.now.items (take k ids ++ id ∷ []) c.place.new.list.items l)
          (sym c.in_ok-push.ensures.items)
          (added_one c.args.list.now.items c.args.places.now.items (take k ids) c.loop-c.list.items c.loop-c.places.items
          c.place.new.list.items id c.in_ok-to.to c.loop-c.invariant.added c.in_ok-to.ensures.placed));
    }

pub returns-clause-added : goal.returns-clause-added
returns-clause-added c =
    subst (λ l. AreAdded c.args.list.now.items c.args.places.now.items l c.loop-c.list.items c.loop-c.places.items)
    (take_all c.loop-c.c c.args.ids.now (omega (arith, c.loop-c-test.false))) c.loop-c.invariant.added
