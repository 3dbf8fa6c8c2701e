-- Lists with one more at the end.
use Rattle.std.proofs.Common.{◌≡◌, ℕ, ◌<◌, ◌⊎◌, zero, suc, List, [], ◌∷◌, ◌++◌, length, slice_get, Some, refl, ap}
use Rattle.std.proofs.Common.{inl, inr, arith}
use Rattle.decision_graphs.specs.Label.{Layer, leads, step, AreLayers, LayerFits, size_at, layer_at}
use Rattle.graph_products.specs.declared.row.Row.{Row}
use Rattle.graph_products.specs.Products.{row_at, AreRows, firsts, seconds}

pub slice_get-push : {X : Type 0} (xs : List X) (y x : X) (i : ℕ) → slice_get (xs ++ y ∷ []) i ≡ Some x →
    (slice_get xs i ≡ Some x) ⊎ ((i ≡ length xs) × (y ≡ x))
slice_get-push [] y x zero e = inr (refl, cc)
slice_get-push [] y x (suc i) e = cc
slice_get-push (z ∷ zs) y x zero e = inl e
slice_get-push (z ∷ zs) y x (suc i) e = elim (slice_get-push zs y x i e) [
  | inl h ↦ inl h
  | inr h ↦ inr (ap suc h.0, h.1)
]

pub get_front : {X : Type 0} (xs ys : List X) (i : ℕ) (x : X) → slice_get xs i ≡ Some x →
    slice_get (xs ++ ys) i ≡ Some x
get_front [] ys i x e = cc
get_front (z ∷ zs) ys zero x e = e
get_front (z ∷ zs) ys (suc i) x e = get_front zs ys i x e

pub get_last : {X : Type 0} (xs : List X) (x : X) → slice_get (xs ++ x ∷ []) (length xs) ≡ Some x
get_last [] x = refl
get_last (z ∷ zs) x = get_last zs x

-- where a list of choices with one more leads
pub leads_more : (ls : List Layer) (l : Layer) (k c : ℕ) (cs : List ℕ) → length ls ≡ length cs →
    leads (ls ++ l ∷ []) k (cs ++ c ∷ []) ≡ step l (leads ls k cs) c
leads_more [] l k c [] e = refl
leads_more [] l k c (d ∷ cs) e = absurd (omega arith)
leads_more (m ∷ ls) l k c [] e = absurd (omega arith)
leads_more (m ∷ ls) l k c (d ∷ cs) e = leads_more ls l (step m k d) c cs (omega arith)

-- ---- rows

pub rows_len : (rss : List (List Row)) (cs : List ℕ) → AreRows rss cs → length cs ≡ length rss
rows_len [] [] a = refl
rows_len [] (c ∷ cs) a = absurd a
rows_len (rs ∷ rss) [] a = absurd a
rows_len (rs ∷ rss) (c ∷ cs) a = ap suc (rows_len rss cs a.1)

pub olds_len : (rss : List (List Row)) (cs : List ℕ) → AreRows rss cs → length (firsts rss cs) ≡ length rss
olds_len [] [] a = refl
olds_len [] (c ∷ cs) a = absurd a
olds_len (rs ∷ rss) [] a = absurd a
olds_len (rs ∷ rss) (c ∷ cs) a = ap suc (olds_len rss cs a.1)

pub news_len : (rss : List (List Row)) (cs : List ℕ) → AreRows rss cs → length (seconds rss cs) ≡ length rss
news_len [] [] a = refl
news_len [] (c ∷ cs) a = absurd a
news_len (rs ∷ rss) [] a = absurd a
news_len (rs ∷ rss) (c ∷ cs) a = ap suc (news_len rss cs a.1)

pub firsts_more : (rss : List (List Row)) (rs : List Row) (c : ℕ) (cs : List ℕ) → AreRows rss cs →
    firsts (rss ++ rs ∷ []) (cs ++ c ∷ []) ≡ firsts rss cs ++ (row_at rs c).first ∷ []
firsts_more [] rs c [] a = refl
firsts_more [] rs c (d ∷ cs) a = absurd a
firsts_more (qs ∷ rss) rs c [] a = absurd a
firsts_more (qs ∷ rss) rs c (d ∷ cs) a = ap (λ xs. (row_at qs d).first ∷ xs) (firsts_more rss rs c cs a.1)

pub seconds_more : (rss : List (List Row)) (rs : List Row) (c : ℕ) (cs : List ℕ) → AreRows rss cs →
    seconds (rss ++ rs ∷ []) (cs ++ c ∷ []) ≡ seconds rss cs ++ (row_at rs c).second ∷ []
seconds_more [] rs c [] a = refl
seconds_more [] rs c (d ∷ cs) a = absurd a
seconds_more (qs ∷ rss) rs c [] a = absurd a
seconds_more (qs ∷ rss) rs c (d ∷ cs) a = ap (λ xs. (row_at qs d).second ∷ xs) (seconds_more rss rs c cs a.1)

pub rows_more : (rss : List (List Row)) (rs : List Row) (c : ℕ) (cs : List ℕ) → AreRows rss cs → c < length rs →
    AreRows (rss ++ rs ∷ []) (cs ++ c ∷ [])
rows_more [] rs c [] a lt = (lt, tt)
rows_more [] rs c (d ∷ cs) a lt = absurd a
rows_more (qs ∷ rss) rs c [] a lt = absurd a
rows_more (qs ∷ rss) rs c (d ∷ cs) a lt = (a.0, rows_more rss rs c cs a.1 lt)

-- a list of rows of some steps and one more is a list of rows of these, and one row
pub record AreMore (rss : List (List Row)) (rs : List Row) (cs : List ℕ) : Type 0 where
  pub front : List ℕ
  pub last : ℕ
  pub split : cs ≡ front ++ last ∷ []
  pub are : AreRows rss front
  pub within : last < length rs

pub rows_split : (rss : List (List Row)) (rs : List Row) (cs : List ℕ) → AreRows (rss ++ rs ∷ []) cs →
    AreMore rss rs cs
rows_split [] rs [] a = absurd a
rows_split [] rs (c ∷ []) a = record { front = []; last = c; split = refl; are = tt; within = a.0 }
rows_split [] rs (c ∷ d ∷ cs) a = absurd a.1
rows_split (qs ∷ rss) rs [] a = absurd a
rows_split (qs ∷ rss) rs (c ∷ cs) a =
    let h = rows_split rss rs cs a.1 in
    record {
      front = c ∷ h.front;
      last = h.last;
      split = ap (λ xs. c ∷ xs) h.split;
      are = (a.0, h.are);
      within = h.within;
    }

-- ---- layers

pub layer_fits : (labels : ℕ) (ls : List Layer) (j : ℕ) → AreLayers labels ls → j < length ls →
    LayerFits (size_at labels ls (suc j)) (layer_at ls j)
layer_fits labels [] j fit lt = absurd (omega (arith, lt))
layer_fits labels (l ∷ ls) zero fit lt = fit.0
layer_fits labels (l ∷ ls) (suc j) fit lt = layer_fits labels ls j fit.1 (omega (arith, lt))

pub size_in : (labels : ℕ) (ls : List Layer) (j : ℕ) → j < length ls →
    size_at labels ls j ≡ length (layer_at ls j).rows
size_in labels [] j lt = absurd (omega (arith, lt))
size_in labels (l ∷ ls) zero lt = refl
size_in labels (l ∷ ls) (suc j) lt = size_in labels ls j (omega (arith, lt))

pub some_start : (labels : ℕ) (ls : List Layer) → AreLayers labels ls → 0 < size_at labels ls 0
some_start labels [] fit = fit
some_start labels (l ∷ ls) fit = fit.0.nodes

pub size_end : (labels : ℕ) (ls : List Layer) (j : ℕ) → j ≡ length ls → size_at labels ls j ≡ labels
size_end labels [] j e = refl
size_end labels (l ∷ ls) zero e = absurd (omega (arith, e))
size_end labels (l ∷ ls) (suc j) e = size_end labels ls j (omega (arith, e))
