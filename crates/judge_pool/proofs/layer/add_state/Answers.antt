use Rattle.std.proofs.Common.{◌≡◌, ◌<◌, ◌++◌, length, Some, slice_get, ap, ◌∙◌, sym, subst, arith}
use Rattle.judge_pool.specs.Layering.{AreAdded, at_places}
use Rattle.judge_pool.proofs.OnceLemmas.{added_spread, ends_within}
use Rattle.judge_pool.proofs.layer.add_state.Goals as goal

pub add_edges-requires-clause-within : goal.add_edges-requires-clause-within
add_edges-requires-clause-within c m k at =
    let ids = c.args.ids.now in
    let added = subst
    (λ l. AreAdded c.args.next.now.items l ids c.add_places.new.list.items c.add_places.new.places.items)
    c.clear.ensures.items c.in_ok-add_places.ensures.added in
    let lt : k < length ids = c.requires.places.within m k at in
    omega (arith, lt, added.len, ap length added.behind, ap length c.deref.ensures.value)

pub add_edges-requires-clause-short : goal.add_edges-requires-clause-short
add_edges-requires-clause-short c k t at =
    let ids = c.args.ids.now in
    let next = c.add_places.new.list.items in
    let added = subst (λ l. AreAdded c.args.next.now.items l ids next c.add_places.new.places.items)
    c.clear.ensures.items c.in_ok-add_places.ensures.added in
    let here : slice_get c.add_places.new.places.items k ≡ Some t =
    ap (λ l. slice_get l k) (sym c.deref.ensures.value) ∙ at in
    let lt : t < length next = ends_within c.args.next.now.items ids next c.add_places.new.places.items added k t here in
    omega (arith, lt, added.grown, c.requires.few)

pub returns-clause-added : goal.returns-clause-added
returns-clause-added c =
    let ids = c.args.ids.now in
    let next = c.add_places.new.list.items in
    let ends = c.add_places.new.places.items in
    let added = subst (λ l. AreAdded c.args.next.now.items l ids next ends) c.clear.ensures.items
    c.in_ok-add_places.ensures.added in
    added_spread c.args.next.now.items c.args.edges.now.items ids c.args.places.now next ends
    c.add_edges.new.edges.items c.requires.places added
    (subst (λ l. c.add_edges.new.edges.items ≡ c.args.edges.now.items ++ at_places l c.args.places.now)
    c.deref.ensures.value c.in_ok-add_edges.ensures)
