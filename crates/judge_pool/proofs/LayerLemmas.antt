-- Layers with one more at the end.
use Rattle.std.proofs.Common.{◌≡◌, ℕ, ◌<◌, zero, suc, List, [], ◌∷◌, ◌++◌, length, slice_get, Some, refl, sym, ap, ◌∙◌}
use Rattle.std.proofs.Common.{subst, arith}
use Rattle.decision_graphs.specs.Label.{Layer, leads, step, AreLayers, LayerFits, size_at}

-- a list that is not empty has a front and a last element
pub snoc_of : {X : Type 0} (x : X) (xs : List X) →
    (front : List X) × (last : X) × (x ∷ xs ≡ front ++ last ∷ []) × (length front ≡ length xs)
snoc_of x [] = ([], x, refl, refl)
snoc_of x (y ∷ ys) = let r = snoc_of y ys in (x ∷ r.0, r.1, ap (λ zs. x ∷ zs) r.2, ap suc r.3)

pub snoc : {X : Type 0} (j : ℕ) (xs : List X) → length xs ≡ suc j →
    (front : List X) × (last : X) × (xs ≡ front ++ last ∷ []) × (length front ≡ j)
snoc j [] e = absurd (omega arith)
snoc j (x ∷ xs) e = let r = snoc_of x xs in (r.0, r.1, r.2, r.3 ∙ omega arith)

pub get_front : {X : Type 0} (xs ys : List X) (i : ℕ) (x : X) → slice_get xs i ≡ Some x →
    slice_get (xs ++ ys) i ≡ Some x
get_front [] ys i x e = cc
get_front (z ∷ zs) ys zero x e = e
get_front (z ∷ zs) ys (suc i) x e = get_front zs ys i x e

pub get_last : {X : Type 0} (xs : List X) (x : X) → slice_get (xs ++ x ∷ []) (length xs) ≡ Some x
get_last [] x = refl
get_last (z ∷ zs) x = get_last zs x

-- where a list of choices with one more leads
pub leads_more : (ls : List Layer) (l : Layer) (k c : ℕ) (cs : List ℕ) → length ls ≡ length cs →
    leads (ls ++ l ∷ []) k (cs ++ c ∷ []) ≡ step l (leads ls k cs) c
leads_more [] l k c [] e = refl
leads_more [] l k c (d ∷ cs) e = absurd (omega arith)
leads_more (m ∷ ls) l k c [] e = absurd (omega arith)
leads_more (m ∷ ls) l k c (d ∷ cs) e = leads_more ls l (step m k d) c cs (omega arith)

size_more : (n : ℕ) (ls : List Layer) (l : Layer) → size_at n (ls ++ l ∷ []) 0 ≡ size_at (length l.rows) ls 0
size_more n [] l = refl
size_more n (m ∷ ls) l = refl

pub layers_more : (n : ℕ) (ls : List Layer) (l : Layer) → AreLayers (length l.rows) ls → LayerFits n l →
    AreLayers n (ls ++ l ∷ [])
layers_more n [] l fit h = (h, let e : step l 0 0 < n = h.edges 0 0 h.nodes h.choices in omega (arith, e))
layers_more n (m ∷ ls) l (f, rest) h =
    (subst (λ s. LayerFits s m) (sym (size_more n ls l)) f, layers_more n ls l rest h)
