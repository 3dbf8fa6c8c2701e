-- Edges that lie layer by layer, and the same edges one behind the other.
use Rattle.std.proofs.Common.{◌≡◌, ℕ, ◌+◌, ◌*◌, ◌<◌, ◌≤◌, zero, suc, List, [], ◌∷◌, ◌++◌, length, get_or, take, map, refl, ap, sym}
use Rattle.std.proofs.Common.{◌∙◌, ◌-◌, subst, arith, inl, inr}
use Rattle.std.specs.List.{concat, sum_by}
use Rattle.std.proofs.Math.Path.{ap₂}
use Rattle.std.proofs.lemmas.List.{get_or_append_left, get_or-append-add, length-append, map-append}
use Rattle.std.proofs.lemmas.List.{take_more, take_all}
use Rattle.std.proofs.lemmas.Bool.{cases_lt}
use Rattle.std.proofs.lemmas.List.Sums.{sum_by-cons}
use Rattle.decision_graphs.specs.LaidOut.{AreCutAs}
use Rattle.decision_graphs.specs.Shapes.{GraphLists, no_shape, shape_at, edge_count, base_of, IsLaid}
use Rattle.decision_graphs.specs.declared.shape.Shape.{Shape}

-- the list of a layer is as long as the layer has edges
pub cut_len : (ss : List Shape) (ls : List (List ℕ)) (j : ℕ) → AreCutAs ss ls → j < length ss →
    length (get_or ls j []) ≡ edge_count (get_or ss j no_shape)
cut_len [] ls j cut lt = absurd (omega (arith, lt))
cut_len (s ∷ ss) [] j cut lt = absurd (omega (arith, ap length cut))
cut_len (s ∷ ss) (l ∷ ls) zero cut lt = cc
cut_len (s ∷ ss) (l ∷ ls) (suc j) cut lt = cut_len ss ls j (let rest : AreCutAs ss ls = cc in rest) (omega (arith, lt))

-- there is a list for each layer
pub cut_layers : (ss : List Shape) (ls : List (List ℕ)) → AreCutAs ss ls → length ls ≡ length ss
cut_layers [] [] cut = refl
cut_layers [] (l ∷ ls) cut = absurd (omega (arith, ap length cut))
cut_layers (s ∷ ss) [] cut = absurd (omega (arith, ap length cut))
cut_layers (s ∷ ss) (l ∷ ls) cut = ap suc (cut_layers ss ls (let rest : AreCutAs ss ls = cc in rest))

-- an edge of a layer, in its own list and among all
pub cut_read : (ss : List Shape) (ls : List (List ℕ)) (j q : ℕ) → AreCutAs ss ls → j < length ss →
    q < edge_count (get_or ss j no_shape) →
    get_or (concat ls) (sum_by edge_count (take j ss) + q) 0 ≡ get_or (get_or ls j []) q 0
cut_read [] ls j q cut lt within = absurd (omega (arith, lt))
cut_read (s ∷ ss) [] j q cut lt within = absurd (omega (arith, ap length cut))
cut_read (s ∷ ss) (l ∷ ls) zero q cut lt within =
    let len : length l ≡ edge_count s = cc in
    let here : sum_by edge_count (take 0 (s ∷ ss)) + q ≡ q = omega arith in
    ap (λ n. get_or (l ++ concat ls) n 0) here ∙ get_or_append_left l (concat ls) 0 q (omega (arith, len, within))
cut_read (s ∷ ss) (l ∷ ls) (suc j) q cut lt within =
    let len : length l ≡ edge_count s = cc in
    let rest : AreCutAs ss ls = cc in
    let here : sum_by edge_count (take (suc j) (s ∷ ss)) + q ≡ length l + (sum_by edge_count (take j ss) + q) =
    omega (arith, len, sum_by-cons edge_count s (take j ss)) in
    ap (λ n. get_or (l ++ concat ls) n 0) here
    ∙ (get_or-append-add l (concat ls) (sum_by edge_count (take j ss) + q) 0
    ∙ cut_read ss ls j q rest (omega (arith, lt)) within)

-- the lists together are as long as the layers have edges
pub cut_total : (ss : List Shape) (ls : List (List ℕ)) → AreCutAs ss ls → length (concat ls) ≡ sum_by edge_count ss
cut_total [] [] cut = refl
cut_total [] (l ∷ ls) cut = absurd (omega (arith, ap length cut))
cut_total (s ∷ ss) [] cut = absurd (omega (arith, ap length cut))
cut_total (s ∷ ss) (l ∷ ls) cut =
    let len : length l ≡ edge_count s = cc in
    let rest : AreCutAs ss ls = cc in
    length-append l (concat ls) ∙ (ap₂ (λ a b. a + b) len (cut_total ss ls rest) ∙ sym (sum_by-cons edge_count s ss))

-- a list more, for the next layer
pub cut_more : (ss : List Shape) (ls new : List (List ℕ)) (j n : ℕ) → AreCutAs (take j ss) ls → j < length ss →
    n ≡ edge_count (get_or ss j no_shape) → map length new ≡ map length ls ++ n ∷ [] → AreCutAs (take (j + 1) ss) new
cut_more ss ls new j n cut lt len more =
    more ∙ (ap (λ xs. xs ++ n ∷ []) cut ∙ (ap (λ m. map edge_count (take j ss) ++ m ∷ []) len
    ∙ (sym (map-append edge_count (take j ss) (get_or ss j no_shape ∷ []))
    ∙ ap (λ xs. map edge_count xs) (sym (take_more ss j no_shape lt)))))

-- a layer more, with its list
pub cut_push : (ss : List Shape) (ls new : List (List ℕ)) (s : Shape) (n : ℕ) → AreCutAs ss ls → n ≡ edge_count s →
    map length new ≡ map length ls ++ n ∷ [] → AreCutAs (ss ++ s ∷ []) new
cut_push ss ls new s n cut len more =
    more ∙ (ap (λ xs. xs ++ n ∷ []) cut ∙ (ap (λ m. map edge_count ss ++ m ∷ []) len
    ∙ sym (map-append edge_count ss (s ∷ []))))

-- the list of a layer of a graph whose edges lie layer by layer, which begins where the layer stands
pub layer_read : (g : GraphLists) (ls : List (List ℕ)) (j q : ℕ) → g.edges ≡ concat ls → AreCutAs g.shapes ls →
    IsLaid g → j < length g.shapes → q < edge_count (shape_at g j) →
    get_or (get_or ls j []) q 0 ≡ get_or g.edges ((shape_at g j).base + q) 0
layer_read g ls j q is cut laid lt within =
    sym (cut_read g.shapes ls j q cut lt within)
    ∙ (ap (λ es. get_or es (base_of g j + q) 0) (sym is)
    ∙ ap (λ n. get_or g.edges (n + q) 0) (sym (laid.stands j lt).base))

-- more choices are more edges
pub edges_most : (k c m : ℕ) → c ≤ m → k * c ≤ k * m
edges_most zero c m le = omega arith
edges_most (suc k) c m le = omega (arith, edges_most k c m le, le)

-- what holds of the edge at each place
abbrev pub EachEdge : (ℕ → ℕ → Type 0) → List ℕ → Type 0
EachEdge P es = (p : ℕ) → p < length es → P p (get_or es p 0)

-- the edges of a layer more
pub each_more : (P : ℕ → ℕ → Type 0) (old x : List ℕ) → EachEdge P old →
    ((q : ℕ) → q < length x → P (length old + q) (get_or x q 0)) → EachEdge P (old ++ x)
each_more P old x before here p lt = elim (cases_lt p (length old)) [
  | inl less ↦ subst (P p) (sym (get_or_append_left old x 0 p less)) (before p less)
  | inr more ↦
      (let q : ℕ = p - length old in
      let at : length old + q ≡ p = omega (arith, more) in
      let within : q < length x = omega (arith, lt, at, length-append old x) in
      let read : get_or (old ++ x) p 0 ≡ get_or x q 0 =
      ap (λ n. get_or (old ++ x) n 0) (sym at) ∙ get_or-append-add old x q 0 in
      subst (P p) (sym read) (subst (λ n. P n (get_or x q 0)) at (here q within)))
]

-- the edges of the layers before a layer end where it begins
pub cut_base : (g : GraphLists) (ls : List (List ℕ)) (j : ℕ) → AreCutAs (take j g.shapes) ls → IsLaid g →
    j < length g.shapes → length (concat ls) ≡ (shape_at g j).base
cut_base g ls j cut laid lt = cut_total (take j g.shapes) ls cut ∙ sym (laid.stands j lt).base

-- those of all layers are all
pub cut_ends : (g : GraphLists) (ls : List (List ℕ)) → AreCutAs g.shapes ls → IsLaid g →
    length (concat ls) ≡ length g.edges
cut_ends g ls cut laid =
    cut_total g.shapes ls cut
    ∙ (ap (sum_by edge_count) (sym (take_all (length g.shapes) g.shapes (omega arith))) ∙ sym laid.ends)
