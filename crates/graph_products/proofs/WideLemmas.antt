-- How many edges a product has.
use Rattle.std.proofs.Common.{◌≡◌, ℕ, ◌+◌, ◌-◌, ◌*◌, ◌<◌, ◌≤◌, suc, List, [], ◌∷◌, ◌++◌, length, refl, sym, ap, ◌∙◌}
use Rattle.std.proofs.Common.{subst, arith}
use Rattle.std.proofs.lemmas.List.{length_push}
use Rattle.decision_graphs.specs.Label.{Layered}
use Rattle.graph_products.specs.declared.row.Row.{Row}
use Rattle.graph_products.specs.Products.{rows_at, AreSoManyPairs, AreCounts, edges_of, IsWide, HasRoom}

-- The edges of the first j steps, and how many are left of the budget.
pub record IsSpent (g h : Layered) (rss : List (List Row)) (j left budget : ℕ) : Type 0 where
  pub counts : List ℕ
  pub steps : length counts ≡ j
  pub are_counts : AreCounts g h rss 0 counts
  pub all : edges_of counts rss + left ≡ budget

pub spent_none : (g h : Layered) (rss : List (List Row)) (budget : ℕ) → IsSpent g h rss 0 budget budget
spent_none g h rss budget = record { counts = []; steps = refl; are_counts = tt; all = omega arith }

counts_more : (g h : Layered) (rss : List (List Row)) (i n : ℕ) (ns : List ℕ) → AreCounts g h rss i ns →
    AreSoManyPairs g h rss (i + length ns) n → AreCounts g h rss i (ns ++ n ∷ [])
counts_more g h rss i n [] are many =
    (subst (λ k. AreSoManyPairs g h rss k n) (let e : i + 0 ≡ i = omega arith in e) many, tt)
counts_more g h rss i n (m ∷ ns) are many = (
  are.0,
  counts_more g h rss (suc i) n ns are.1
      (subst (λ k. AreSoManyPairs g h rss k n)
      (let e : i + suc (length ns) ≡ suc i + length ns = omega arith in e) many),
)

edges_more : (ns : List ℕ) (n : ℕ) (rss : List (List Row)) → length ns < length rss →
    edges_of (ns ++ n ∷ []) rss ≡ edges_of ns rss + n * length (rows_at rss (length ns))
edges_more [] n [] lt = absurd (omega (arith, lt))
edges_more [] n (rs ∷ rss) lt = omega arith
edges_more (m ∷ ns) n [] lt = absurd (omega (arith, lt))
edges_more (m ∷ ns) n (rs ∷ rss) lt = omega (arith, edges_more ns n rss (omega (arith, lt)))

-- one step more, of so many pairs
module _ (g h : Layered) (rss : List (List Row)) (j left budget n : ℕ) (spent : IsSpent g h rss j left budget)
    (lt : j < length rss) (many : AreSoManyPairs g h rss j n) where
  counts_next : AreCounts g h rss 0 (spent.counts ++ n ∷ [])
  counts_next =
      let e : 0 + length spent.counts ≡ j = omega (arith, spent.steps) in
      counts_more g h rss 0 n spent.counts spent.are_counts (subst (λ k. AreSoManyPairs g h rss k n) (sym e) many)

  edges_next : edges_of (spent.counts ++ n ∷ []) rss ≡ edges_of spent.counts rss + n * length (rows_at rss j)
  edges_next =
      edges_more spent.counts n rss (omega (arith, lt, spent.steps))
      ∙ ap (λ k. edges_of spent.counts rss + n * length (rows_at rss k)) spent.steps

  pub spent_more : (cost : ℕ) → cost ≡ n * length (rows_at rss j) → cost ≤ left →
      IsSpent g h rss (suc j) (left - cost) budget
  spent_more cost is room = record {
    counts = spent.counts ++ n ∷ [];
    steps = omega (arith, length_push spent.counts n, spent.steps);
    are_counts = counts_next;
    all = omega (arith, edges_next, is, room, spent.all);
  }

  pub is_wide : (cost : ℕ) → cost ≡ n * length (rows_at rss j) → left < cost → IsWide g h rss budget
  is_wide cost is more = record {
    counts = spent.counts ++ n ∷ [];
    steps = omega (arith, length_push spent.counts n, spent.steps, lt);
    are_counts = counts_next;
    wide = omega (arith, edges_next, is, more, spent.all);
  }

pub has_room : (g h : Layered) (rss : List (List Row)) (left budget : ℕ) →
    IsSpent g h rss (length rss) left budget → HasRoom g h rss budget
has_room g h rss left budget spent = record {
  counts = spent.counts;
  steps = spent.steps;
  are_counts = spent.are_counts;
  room = omega (arith, spent.all);
}
