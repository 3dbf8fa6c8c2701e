-- Graphs that tell no more rows apart than others have no more pairs of nodes.
use Rattle.std.proofs.Common.{◌≡◌, ℕ, ◌+◌, ◌*◌, ◌<◌, ◌≤◌, ◌⊎◌, zero, suc, List, [], ◌∷◌, length, take, slice_get, Some}
use Rattle.std.proofs.Common.{refl, sym, ap, ◌∙◌, inl, inr, arith}
use Rattle.std.proofs.Math.Nat.{mul-le-mul_right}
use Rattle.std.proofs.lemmas.Bool.{cases_lt}
use Rattle.std.proofs.lemmas.Option.{slice_get_within, same_Some}
use Rattle.indexmap.proofs.IndexTableLemmas.Probe.{pigeonhole}
use Rattle.decision_graphs.specs.Label.{Layered}
use Rattle.graph_products.specs.declared.pair.Pair.{Pair}
use Rattle.graph_products.specs.declared.row.Row.{Row}
use Rattle.graph_products.specs.Products.{AreRows, firsts, seconds, front_of, StandsThere, IsFront, AreSoManyPairs}
use Rattle.graph_products.specs.Products.{AreCounts, edges_of, IsWide, HasRoom}
use Rattle.graph_products.proofs.PlaceLemmas.{pair_same}

some_pair : (xs : List Pair) (i : ℕ) → i < length xs → (x : Pair) × (slice_get xs i ≡ Some x)
some_pair [] i lt = absurd (omega (arith, lt))
some_pair (x ∷ xs) zero lt = (x, refl)
some_pair (x ∷ xs) (suc i) lt = some_pair xs i (omega (arith, lt))

-- rows that come to one node of the third graph come to one of the first, and so of the fourth and the second
pub record Follow (g h p q : Layered) (rss : List (List Row)) (j : ℕ) : Type 0 where
  pub first : (cs ds : List ℕ) → AreRows (take j rss) cs → AreRows (take j rss) ds →
      front_of p j (firsts (take j rss) cs) ≡ front_of p j (firsts (take j rss) ds) →
      front_of g j (firsts (take j rss) cs) ≡ front_of g j (firsts (take j rss) ds)
  pub second : (cs ds : List ℕ) → AreRows (take j rss) cs → AreRows (take j rss) ds →
      front_of q j (seconds (take j rss) cs) ≡ front_of q j (seconds (take j rss) ds) →
      front_of h j (seconds (take j rss) cs) ≡ front_of h j (seconds (take j rss) ds)

-- the pair at place i of one list, and the place in another of the pair to which its rows come in two other graphs
record Goes (g h p q : Layered) (rss : List (List Row)) (j : ℕ) (these those : List Pair) (i place : ℕ) : Type 0 where
  pub pair : Pair
  pub listed : slice_get these i ≡ Some pair
  pub front : IsFront g h rss j pair
  pub there : StandsThere those place (front_of p j (firsts (take j rss) front.rows)) (front_of q j
      (seconds (take j rss) front.rows))

module _ (g h p q : Layered) (rss : List (List Row)) (j : ℕ) (follow : Follow g h p q rss j) (n m : ℕ)
    (these : AreSoManyPairs g h rss j n) (those : AreSoManyPairs p q rss j m) where
  abbrev GoesTo : ℕ → ℕ → Type 0
  GoesTo i place = Goes g h p q rss j these.pairs those.pairs i place

  goes : (i : ℕ) → i < n → (place : ℕ) × GoesTo i place
  goes i lt =
      let x = some_pair these.pairs i (omega (arith, lt, these.count)) in
      let f = these.each i x.0 x.1 in
      let t = those.all f.rows f.are_rows in
      (t.0, record { pair = x.0; listed = x.1; front = f; there = t.1 })

  place_of : (i : ℕ) → (i < n) ⊎ (n ≤ i) → ℕ
  place_of i (inl lt) = (goes i lt).0
  place_of i (inr le) = 0

  goes_there : (i : ℕ) (s : (i < n) ⊎ (n ≤ i)) → i < n → GoesTo i (place_of i s)
  unfolding place_of
  goes_there i (inl lt) less = (goes i lt).1
  goes_there i (inr le) less = absurd (omega (arith, le, less))

  place : ℕ → ℕ
  place i = place_of i (cases_lt i n)

  at : (i : ℕ) → i < n → GoesTo i (place i)
  unfolding place
  at i lt = goes_there i (cases_lt i n) lt

  apart : (i k : ℕ) → i < n → k < n → place i ≡ place k → i ≡ k
  apart i k lt_i lt_k e =
      let a = at i lt_i in
      let b = at k lt_k in
      let one = same_Some _ _ (sym a.there ∙ (ap (slice_get those.pairs) e ∙ b.there)) in
      let first = follow.first a.front.rows b.front.rows a.front.are_rows b.front.are_rows
      (ap (λ (z : Pair). z.first) one) in
      let second = follow.second a.front.rows b.front.rows a.front.are_rows b.front.are_rows
      (ap (λ (z : Pair). z.second) one) in
      let same : a.pair ≡ b.pair = a.front.is ∙ (pair_same _ _ _ _ first second ∙ sym b.front.is) in
      these.none_twice i k b.pair (a.listed ∙ ap Some same) b.listed

  pub no_more : n ≤ m
  no_more = pigeonhole n m place
      (λ i lt. let a = at i lt in omega (arith, slice_get_within those.pairs (place i) _ a.there, those.count))
      apart

module _ (g h p q : Layered) (steps : List (List Row)) (follow : (j : ℕ) → j ≤ length steps → Follow g h p q steps j) where
  fewer : (ns ms : List ℕ) (rss : List (List Row)) (j : ℕ) → AreCounts g h steps j ns → AreCounts p q steps j ms →
      length ns ≤ length ms → j + length ms ≤ length steps → edges_of ns rss ≤ edges_of ms rss
  fewer [] ms rss j these those short within = omega arith
  fewer (n ∷ ns) [] rss j these those short within = absurd (omega (arith, short))
  fewer (n ∷ ns) (m ∷ ms) [] j these those short within = omega arith
  fewer (n ∷ ns) (m ∷ ms) (rs ∷ rss) j these those short within =
      let here : n ≤ m = no_more g h p q steps j (follow j (omega (arith, within))) n m these.0 those.0 in
      let edges : n * length rs ≤ m * length rs = mul-le-mul_right (length rs) here in
      let rest = fewer ns ms rss (suc j) these.1 those.1 (omega (arith, short)) (omega (arith, within)) in
      omega (arith, edges, rest)

  pub wide_has_no_room : (budget : ℕ) → HasRoom p q steps budget → IsWide g h steps budget → ⊥
  wide_has_no_room budget room wide =
      let few = fewer wide.counts room.counts steps 0 wide.are_counts room.are_counts
      (omega (arith, wide.steps, room.steps)) (omega (arith, room.steps)) in
      omega (arith, few, wide.wide, room.room)
