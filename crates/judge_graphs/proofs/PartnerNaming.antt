-- Rows of labels tell which are one, and an index of them finds the first.
use Rattle.std.proofs.Common.{◌≡◌, ◌≢◌, ◌↔◌, ℕ, ◌+◌, ◌<◌, zero, suc, List, [], ◌∷◌, ◌++◌, length, take, get_or, refl}
use Rattle.std.proofs.Common.{ap, sym, ◌∙◌, subst, arith, inl, inr, Some, None, Bool, true, false, cond, eqb, Vec}
use Rattle.std.proofs.Common.{Global, nat_eq}
use Rattle.std.specs.Cmp.Lexicographic.{pointwise}
use Rattle.std.specs.HashMap.{HashMap, get, Updates}
use Rattle.std.proofs.lemmas.Bool.{cases_eq, false≢true}
use Rattle.std.proofs.lemmas.Bool.Decides.{Decides-eqb}
use Rattle.std.proofs.lemmas.Option.{none-some, same_Some}
use Rattle.std.proofs.lemmas.Slice.Eq.{slice_eq-Decides}
use Rattle.std.proofs.lemmas.List.{map-append, take_more}
use Rattle.decision_graphs.specs.Label.{Layered, Layer, layer_at, AreLayers, IsNode, HasEdge, place_after, first_at}
use Rattle.judge_graphs.specs.PartnerLabels.{entry, IsInnerOf, AreInnersOf, TellsNot, AreOne, IsLeastOf}
use Rattle.judge_graphs.specs.PartnerNames.{entries, label_named, IsFirstOf, IsIndexOf}
use Rattle.judge_graphs.proofs.PartnerMerging.{tells_not}

-- ---- rows

places_apart : (b : Bool) (n s t : ℕ) → cond b s (n + s) ≡ cond b t (n + t) → s ≡ t
places_apart true n s t e = e
places_apart false n s t e = omega (arith, e)

entries_one : (labels : ℕ) (inners : List Layered) (x y : ℕ) → AreInnersOf labels inners → x < labels → y < labels →
    entries inners x ≡ entries inners y → AreOne inners x y
entries_one labels [] x y are in_x in_y e i g at = absurd (none-some g at)
entries_one labels (h ∷ hs) x y are in_x in_y e zero g at =
    let head : place_after h 0 (entry h x) ≡ place_after h 0 (entry h y) = cc in
    let same : entry h x ≡ entry h y =
    places_apart (eqb 1 (length h.layers)) (first_at h.layers 1) (entry h x) (entry h y) head in
    subst (λ k. TellsNot k x y) (same_Some h g at) ((tells_not labels h x y (are 0 h refl) in_x in_y).0 same)
entries_one labels (h ∷ hs) x y are in_x in_y e (suc i) g at =
    let tail : entries hs x ≡ entries hs y = cc in
    entries_one labels hs x y (λ k f here. are (suc k) f here) in_x in_y tail i g at

one_entries : (labels : ℕ) (inners : List Layered) (x y : ℕ) → AreInnersOf labels inners → x < labels → y < labels →
    AreOne inners x y → entries inners x ≡ entries inners y
one_entries labels [] x y are in_x in_y one = refl
one_entries labels (h ∷ hs) x y are in_x in_y one =
    let head : entry h x ≡ entry h y = (tells_not labels h x y (are 0 h refl) in_x in_y).1 (one 0 h refl) in
    let tail : entries hs x ≡ entries hs y =
    one_entries labels hs x y (λ k f here. are (suc k) f here) in_x in_y (λ k f here. one (suc k) f here) in
    ap (λ n. place_after h 0 n ∷ entries hs x) head ∙ ap (λ ns. place_after h 0 (entry h y) ∷ ns) tail

pub entries_tell_one : (labels : ℕ) (inners : List Layered) (x y : ℕ) → AreInnersOf labels inners → x < labels →
    y < labels → (entries inners x ≡ entries inners y) ↔ AreOne inners x y
entries_tell_one labels inners x y are in_x in_y =
    (entries_one labels inners x y are in_x in_y, one_entries labels inners x y are in_x in_y)

-- ---- the index

abbrev pub same_row : Vec ℕ Global → Vec ℕ Global → Bool
same_row x y = pointwise nat_eq x.items y.items

is_same : (x y : Vec ℕ Global) → same_row x y ≡ true → x.items ≡ y.items
is_same x y e = (slice_eq-Decides Decides-eqb x.items y.items _ refl).0 e

same_is : (x y : Vec ℕ Global) → x.items ≡ y.items → same_row x y ≡ true
same_is x y e = (slice_eq-Decides Decides-eqb x.items y.items _ refl).1 e

-- a row that is known
pub index_skip : {S : Type 0} (rows : ℕ → List ℕ) (n y : ℕ) (m : HashMap (Vec ℕ Global) ℕ S) (row : Vec ℕ Global) →
    IsIndexOf rows n m → rows n ≡ row.items → label_named m row ≡ Some y → IsIndexOf rows (n + 1) m
index_skip rows n y m row index here is = record {
  found = λ q z at. (let h = index.found q z at in (omega (arith, h.0), h.1));
  missing = λ q none z lt same. elim (cases_eq z n) [
    | inr ne ↦ index.missing q none z (omega (arith, lt, ne)) same
    | inl e ↦
        let items : q.items ≡ row.items = sym same ∙ (ap rows e ∙ here) in
        let at : label_named m q ≡ label_named m row =
        ap (λ xs. get (λ (k h : Vec ℕ Global). pointwise nat_eq xs h.items) m q) items in
        none-some y (sym none ∙ (at ∙ is))
  ];
}

-- a new row
pub index_more : {S : Type 0} (rows : ℕ → List ℕ) (n : ℕ) (old new : HashMap (Vec ℕ Global) ℕ S) (row : Vec ℕ Global) →
    IsIndexOf rows n old → rows n ≡ row.items → label_named old row ≡ None → Updates same_row old new row (Some n) →
    IsIndexOf rows (n + 1) new
index_more rows n old new row index here none updates = record {
  found = λ q y is. found q y (same_row row q) refl (sym (updates.0 q) ∙ is);
  missing = λ q is z lt. missing q (same_row row q) refl (sym (updates.0 q) ∙ is) z lt;
}
  where
    found : (q : Vec ℕ Global) (y : ℕ) (b : Bool) → same_row row q ≡ b → cond b (Some n) (label_named old q) ≡ Some y →
        (y < n + 1) × IsFirstOf rows q.items y
    found q y true same is =
        let e : n ≡ y = cc in
        let items : row.items ≡ q.items = is_same row q same in (
          omega (arith, e),
          record {
            same = ap rows (sym e) ∙ (here ∙ items);
            first = λ z lt at. index.missing row none z (omega (arith, lt, e)) (at ∙ sym items);
          },
        )
    found q y false same is = (let h = index.found q y is in (omega (arith, h.0), h.1))

    missing : (q : Vec ℕ Global) (b : Bool) → same_row row q ≡ b → cond b (Some n) (label_named old q) ≡ None
        → (z : ℕ) →
        z < n + 1 → rows z ≢ q.items
    missing q true same is z lt at = cc
    missing q false same is z lt at = elim (cases_eq z n) [
      | inr ne ↦ index.missing q is z (omega (arith, lt, ne)) at
      | inl e ↦ false≢true (sym same ∙ same_is row q (sym here ∙ (ap rows (sym e) ∙ at)))
    ]

-- ---- the code's steps

some_rows : (labels : ℕ) (ls : List Layer) → AreLayers labels ls → 0 < length ls → 0 < length (layer_at ls 0).rows
some_rows labels [] fit some = absurd (omega (arith, some))
some_rows labels (l ∷ ls) fit some = fit.0.nodes

-- the start of an inner graph
pub start_node : (labels : ℕ) (g : Layered) → IsInnerOf labels g → IsNode g 0 0 0
start_node labels g inner = record {
  layer = inner.some;
  within = some_rows g.labels g.layers inner.fits inner.some;
  number = refl;
}

pub start_edge : (labels : ℕ) (g : Layered) (x : ℕ) → IsInnerOf labels g → x < labels → HasEdge g 0 x
start_edge labels g x inner in_x = record {
  layer = 0;
  within = 0;
  at = start_node labels g inner;
  choice_in = omega (arith, in_x, inner.outer);
}

pub entries_more : (inners : List Layered) (k x r : ℕ) (g : Layered) → k < length inners → g ≡ get_or inners k g →
    r ≡ place_after g 0 (entry g x) → entries (take k inners) x ++ r ∷ [] ≡ entries (take (k + 1) inners) x
entries_more inners k x r g lt is e =
    ap (λ n. entries (take k inners) x ++ n ∷ []) e
    ∙ (sym (map-append (λ (h : Layered). place_after h 0 (entry h x)) (take k inners) (g ∷ []))
    ∙ ap (λ hs. entries hs x) (ap (λ h. take k inners ++ h ∷ []) is ∙ sym (take_more inners k g lt)))

-- the first label of a row is the least that is one with each label of it
pub least_of_first : (labels : ℕ) (inners : List Layered) (x name : ℕ) (row : List ℕ) → AreInnersOf labels inners →
    x < labels → name < x + 1 → row ≡ entries inners x → IsFirstOf (entries inners) row name → IsLeastOf inners x name
least_of_first labels inners x name row are in_x below here is = record {
  one = (entries_tell_one labels inners name x are (omega (arith, below, in_x)) in_x).0 (is.same ∙ here);
  below = omega (arith, below);
  least =
      λ y lt one. is.first y lt
      ((entries_tell_one labels inners y x are (omega (arith, lt, below, in_x)) in_x).1 one ∙ sym here);
}
