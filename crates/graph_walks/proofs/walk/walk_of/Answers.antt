use Rattle.std.proofs.Common.{◌≡◌, ℕ, List, Vec, Global, map, slice_get, Some, sym, ap, ◌∙◌, subst}
use Rattle.decision_graphs.specs.Label.{Layered}
use Rattle.graph_products.specs.declared.pair.Pair.{Pair}
use Rattle.graph_products.specs.declared.row.Row.{Row}
use Rattle.graph_products.specs.Products.{IsProductOf, HasRoom}
use Rattle.graph_walks.specs.Walks.{same_steps, codes_at, IsInPlace}
use Rattle.graph_walks.proofs.WalkLemmas.{steps_fit, has_twos, in_place, walk_is}
use Rattle.graph_walks.proofs.walk.walk_of.Goals as goal

-- the rows of the steps
abbrev rows_of : List (Vec Row Global) → List (List Row)
rows_of steps = map (λ (v : Vec Row Global). v.items) steps

-- a product by these steps is one by the same choices
by_same : (g h p : Layered) (pairs : List Pair) (n : ℕ) (held steps : List (Vec Row Global)) → held ≡ steps →
    rows_of steps ≡ same_steps n → IsProductOf g h (rows_of held) p pairs → IsProductOf g h (same_steps n) p pairs
by_same g h p pairs n held steps same is made =
    subst (λ ss. IsProductOf g h ss p pairs) (ap rows_of same ∙ is) made

-- the room of such a product is that of one by the same choices
room_by_same : (g h : Layered) (n budget : ℕ) (held steps : List (Vec Row Global)) → held ≡ steps →
    rows_of steps ≡ same_steps n → HasRoom g h (rows_of held) budget → HasRoom g h (same_steps n) budget
room_by_same g h n budget held steps same is room =
    subst (λ ss. HasRoom g h ss budget) (ap rows_of same ∙ is) room

pub product_of-requires-3-clause-steps : goal.product_of-requires-3-clause-steps
product_of-requires-3-clause-steps c =
    let n = c.args.n in
    let steps : List (Vec Row Global) = c.in_ok-steps.steps.items in
    let one : Layered = c.in_ok-one.one.graph in
    let other : Layered = c.in_ok-other.other.graph in
    let first = by_same c.args.first.now c.args.second.now one c.in_ok-one.one.pairs.items n c.deref.result.now steps
    c.deref.ensures.value c.in_ok-steps.ensures c.in_ok-one.ensures.product in
    let second = by_same c.args.third.now c.args.fourth.now other c.in_ok-other.other.pairs.items n
    c.deref-2.result.now steps c.deref-2.ensures.value c.in_ok-steps.ensures c.in_ok-other.ensures.product in
    steps_fit n one other (rows_of c.deref-3.result.now) (ap rows_of c.deref-3.ensures.value ∙ c.in_ok-steps.ensures)
    (has_twos n c.args.first.now c.args.second.now one c.in_ok-one.one.pairs.items first)
    (has_twos n c.args.third.now c.args.fourth.now other c.in_ok-other.other.pairs.items second)

pub codes-requires : goal.codes-requires
codes-requires c t x at =
    let n = c.args.n in
    let steps : List (Vec Row Global) = c.in_ok-steps.steps.items in
    let one : Layered = c.in_ok-one.one.graph in
    let other : Layered = c.in_ok-other.other.graph in
    let all : Layered = c.in_ok-all.all.graph in
    let one_pairs : List Pair = c.in_ok-one.one.pairs.items in
    let other_pairs : List Pair = c.in_ok-other.other.pairs.items in
    let pairs : List Pair = c.in_ok-all.all.pairs.items in
    let first = by_same c.args.first.now c.args.second.now one one_pairs n c.deref.result.now steps
    c.deref.ensures.value c.in_ok-steps.ensures c.in_ok-one.ensures.product in
    let second = by_same c.args.third.now c.args.fourth.now other other_pairs n c.deref-2.result.now steps
    c.deref-2.ensures.value c.in_ok-steps.ensures c.in_ok-other.ensures.product in
    let both = by_same one other all pairs n c.deref-3.result.now steps c.deref-3.ensures.value c.in_ok-steps.ensures
    c.in_ok-all.ensures.product in
    let here : slice_get pairs t ≡ Some x = ap (λ (l : List Pair). slice_get l t) (sym c.deref-6.ensures.value) ∙ at in
    let is = in_place n c.args.first.now c.args.second.now c.args.third.now c.args.fourth.now one other all one_pairs
    other_pairs pairs first second both t x here in
    subst (λ (l : List Pair). IsInPlace l c.deref-5.result.now x) (sym c.deref-4.ensures.value)
    (subst (λ (l : List Pair). IsInPlace one_pairs l x) (sym c.deref-5.ensures.value) is)

pub returns-clause-walk : goal.returns-clause-walk
returns-clause-walk c =
    let n = c.args.n in
    let steps : List (Vec Row Global) = c.in_ok-steps.steps.items in
    let one : Layered = c.in_ok-one.one.graph in
    let other : Layered = c.in_ok-other.other.graph in
    let all : Layered = c.in_ok-all.all.graph in
    let one_pairs : List Pair = c.in_ok-one.one.pairs.items in
    let other_pairs : List Pair = c.in_ok-other.other.pairs.items in
    let pairs : List Pair = c.in_ok-all.all.pairs.items in
    let first = by_same c.args.first.now c.args.second.now one one_pairs n c.deref.result.now steps
    c.deref.ensures.value c.in_ok-steps.ensures c.in_ok-one.ensures.product in
    let second = by_same c.args.third.now c.args.fourth.now other other_pairs n c.deref-2.result.now steps
    c.deref-2.ensures.value c.in_ok-steps.ensures c.in_ok-other.ensures.product in
    let both = by_same one other all pairs n c.deref-3.result.now steps c.deref-3.ensures.value c.in_ok-steps.ensures
    c.in_ok-all.ensures.product in
    let are : c.in_ok-codes.codes.items ≡ map (codes_at one_pairs other_pairs) pairs =
    c.in_ok-codes.ensures
    ∙ (ap (λ (l : List Pair). map (codes_at l c.deref-5.result.now) c.deref-6.result.now) c.deref-4.ensures.value
    ∙ (ap (λ (l : List Pair). map (codes_at one_pairs l) c.deref-6.result.now) c.deref-5.ensures.value
    ∙ ap (λ (l : List Pair). map (codes_at one_pairs other_pairs) l) c.deref-6.ensures.value)) in
    walk_is n c.args.first.now c.args.second.now c.args.third.now c.args.fourth.now one other all one_pairs
    other_pairs pairs first second both c.in_ok-codes.codes.items are

pub returns-clause-room : goal.returns-clause-room
returns-clause-room c =
    let n = c.args.n in
    let steps : List (Vec Row Global) = c.in_ok-steps.steps.items in
    let one : Layered = c.in_ok-one.one.graph in
    let other : Layered = c.in_ok-other.other.graph in
    record {
      one = one;
      other = other;
      one_pairs = c.in_ok-one.one.pairs.items;
      other_pairs = c.in_ok-other.other.pairs.items;
      first =
          by_same c.args.first.now c.args.second.now one c.in_ok-one.one.pairs.items n c.deref.result.now steps
          c.deref.ensures.value c.in_ok-steps.ensures c.in_ok-one.ensures.product;
      second =
          by_same c.args.third.now c.args.fourth.now other c.in_ok-other.other.pairs.items n c.deref-2.result.now steps
          c.deref-2.ensures.value c.in_ok-steps.ensures c.in_ok-other.ensures.product;
      first_room =
          room_by_same c.args.first.now c.args.second.now n c.args.budget c.deref.result.now steps
          c.deref.ensures.value c.in_ok-steps.ensures c.in_ok-one.ensures.room;
      second_room =
          room_by_same c.args.third.now c.args.fourth.now n c.args.budget c.deref-2.result.now steps
          c.deref-2.ensures.value c.in_ok-steps.ensures c.in_ok-other.ensures.room;
      room =
          room_by_same one other n c.args.budget c.deref-3.result.now steps c.deref-3.ensures.value
          c.in_ok-steps.ensures c.in_ok-all.ensures.room;
    }
