-- Pairs that are reached, and labels of the product.
use Rattle.std.proofs.Common.{◌≡◌, ℕ, ◌<◌, zero, suc, Bool, List, [], ◌∷◌, length, map, refl, sym, ap, ◌∙◌, subst}
use Rattle.std.proofs.Common.{Some, arith}
use Rattle.std.proofs.lemmas.Bool.{false≢true}
use Rattle.std.proofs.lemmas.Option.{same_Some}
use Rattle.decision_graphs.specs.Label.{Layered, label_of, AreAllowed}
use Rattle.decision_graphs.specs.Reaching.{AreSetsOf, IsSet}
use Rattle.graph_products.specs.declared.pair.Pair.{Pair}
use Rattle.graph_products.specs.declared.row.Row.{Row}
use Rattle.graph_products.specs.Products.{AreRows, firsts, seconds, StandsThere, IsProductOf, PairReaches}
use Rattle.graph_products.specs.Products.{PairIsReached}
use Rattle.graph_products.proofs.PlaceLemmas.{pair_same}

-- what is set is within the list
set_within : (s : List Bool) (c : ℕ) → IsSet s c → c < length s
set_within [] c h = absurd (false≢true h)
set_within (b ∷ s) zero h = omega arith
set_within (b ∷ s) (suc c) h = omega (arith, set_within s c h)

sets_head : (s : List Bool) (ss : List (List Bool)) (rs : List Row) (rss : List (List Row)) →
    map length (s ∷ ss) ≡ map length (rs ∷ rss) → length s ≡ length rs
sets_head s ss rs rss e = cc

sets_tail : (s : List Bool) (ss : List (List Bool)) (rs : List Row) (rss : List (List Row)) →
    map length (s ∷ ss) ≡ map length (rs ∷ rss) → map length ss ≡ map length rss
sets_tail s ss rs rss e = cc

-- allowed rows are rows
allowed_rows : (sets : List (List Bool)) (rss : List (List Row)) (cs : List ℕ) → map length sets ≡ map length rss →
    AreAllowed sets cs → AreRows rss cs
allowed_rows [] [] [] e a = tt
allowed_rows [] [] (c ∷ cs) e a = absurd a
allowed_rows [] (rs ∷ rss) cs e a = absurd (cc e)
allowed_rows (s ∷ ss) [] cs e a = absurd (cc e)
allowed_rows (s ∷ ss) (rs ∷ rss) [] e a = absurd a
allowed_rows (s ∷ ss) (rs ∷ rss) (c ∷ cs) e a = (
  omega (arith, set_within s c a.0, sets_head s ss rs rss e),
  allowed_rows ss rss cs (sets_tail s ss rs rss e) a.1,
)

module _ (g h p : Layered) (rss : List (List Row)) (pairs : List Pair) (sets : List (List Bool))
    (product : IsProductOf g h rss p pairs) (fits : AreSetsOf p.layers sets) where
  rows_of_allowed : (cs : List ℕ) → AreAllowed sets cs → AreRows rss cs
  rows_of_allowed cs a = allowed_rows sets rss cs (fits ∙ product.choices) a

  pub is_reached : (a b : ℕ) → PairReaches g h rss sets a b → PairIsReached p pairs sets a b
  is_reached a b r =
      let s = product.pair r.rows (rows_of_allowed r.rows r.allows) in
      record {
        label = label_of p r.rows;
        stands = s ∙ ap Some (pair_same _ _ _ _ r.first r.second);
        reached = (r.rows, (r.allows, refl));
      }

  pub reaches : (a b : ℕ) → PairIsReached p pairs sets a b → PairReaches g h rss sets a b
  reaches a b r =
      let cs = r.reached.0 in
      let s = product.pair cs (rows_of_allowed cs r.reached.1.0) in
      let there : StandsThere pairs r.label (label_of g (firsts rss cs)) (label_of h (seconds rss cs)) =
      subst (λ t. StandsThere pairs t (label_of g (firsts rss cs)) (label_of h (seconds rss cs))) r.reached.1.1 s in
      let same = same_Some _ _ (sym there ∙ r.stands) in
      record {
        rows = cs;
        allows = r.reached.1.0;
        first = ap (λ (x : Pair). x.first) same;
        second = ap (λ (x : Pair). x.second) same;
      }
