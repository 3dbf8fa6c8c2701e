-- A station that keeps its limits is not refused: at least so many edges are no more than exactly so many.
use Rattle.std.proofs.Common.{◌≡◌, ℕ, ◌+◌, ◌-◌, ◌*◌, ◌<◌, ◌≤◌, ◌⊎◌, zero, suc, Bool, List, [], ◌∷◌, length, get_or}
use Rattle.std.proofs.Common.{slice_get, Some, refl, sym, ◌∙◌, subst, inl, inr, arith}
use Rattle.std.specs.List.{sum, sum_by}
use Rattle.std.proofs.Math.Nat.{mul-le-mul_right}
use Rattle.std.proofs.lemmas.Bool.{cases_lt}
use Rattle.std.proofs.lemmas.List.Sums.{sum_by-cons}
use Rattle.std.proofs.lemmas.Option.{slice_get-get_or, slice_get_cases}
use Rattle.station_graph.specs.Diagram.{Diagram, IsStation, part_count, AreSwitchesOf}
use Rattle.station_graph.specs.Connection.{Item}
use Rattle.station_graph.specs.Alike.{Alike}
use Rattle.station_graph.specs.Sharing.{OfPart, IsShared}
use Rattle.station_graph.proofs.PositionLemmas.{SameGapView-sym, SameLoadView-sym, SameGapView-trans}
use Rattle.station_graph.proofs.PositionLemmas.{SameLoadView-trans}
use Rattle.part_alphabets.specs.Counting.{AreSoMany, StepFits, PartIsPast}
use Rattle.bay_contract.proofs.CountingLemmas.{not_longer, so_many_once, layer_past}
use Rattle.central_rules.specs.Meaning.{IsBay}
use Rattle.judge_pool.specs.declared.view.View.{View}
use Rattle.judge_pool.specs.declared.view.View.TheVariants.{Gap, Load}
use Rattle.release_compile.specs.declared.refusal.BuildRefusal.{BuildRefusal}
use Rattle.release_compile.specs.declared.refusal.BuildRefusal.TheVariants.{Memory, Many, Wide}
use Rattle.judge_pool.specs.Seen.{SameView}
use Rattle.judge_pool.specs.Graphs.{other_of}
use Rattle.judge_pool.specs.Listing.{parts_before}
use Rattle.judge_pool.specs.Needing.{IsNeededOuter, IsNeededInner}
use Rattle.contraction.specs.Stands.{Among}
use Rattle.judge_pool.specs.Counted.{Size, edges_in, AreAtLeast, before_switch, OuterHas, InnerHas, SwitchHas}
use Rattle.judge_pool.specs.Counted.{ViewHas, BayHas, Passes}
use Rattle.release_compile.specs.Judging.{PartHasEdges, KeepEdges, KeepsLimits, IsBuildRefusal}
use Rattle.judge_graphs.proofs.EdgesLemmas.{view_at_least}
use Rattle.part_alphabets.specs.declared.limits.TheConstants.{CONTRACTIONS, LETTERS}
use Rattle.judge_pool.specs.declared.limits.TheConstants.{BAY_EDGES, ALL_EDGES}

-- ---- views and contractions are the same to and fro

view_back : (view : View) (Kept : ℕ → Type 0) (These : Item → Type 0) (d : Diagram) (v w : List Bool) →
    SameView view Kept These d v w → SameView view Kept These d w v
view_back Gap Kept These d v w h = SameGapView-sym Kept These d v w h
view_back Load Kept These d v w h = SameLoadView-sym Kept These d v w h

view_on : (view : View) (Kept : ℕ → Type 0) (These : Item → Type 0) (d : Diagram) (u v w : List Bool) →
    SameView view Kept These d u v → SameView view Kept These d v w → SameView view Kept These d u w
view_on Gap Kept These d u v w h k = SameGapView-trans Kept These d u v w h k
view_on Load Kept These d u v w h k = SameLoadView-trans Kept These d u v w h k

alike_back : (d : Diagram) (part : ℕ) (v w : List Bool) → Alike d part v w → Alike d part w v
alike_back d part v w h = record {
  gap = SameGapView-sym (IsShared d part) (OfPart d part) d v w h.gap;
  load = SameLoadView-sym (IsShared d part) (OfPart d part) d v w h.load;
}

alike_on : (d : Diagram) (part : ℕ) (u v w : List Bool) → Alike d part u v → Alike d part v w → Alike d part u w
alike_on d part u v w h k = record {
  gap = SameGapView-trans (IsShared d part) (OfPart d part) d u v w h.gap k.gap;
  load = SameLoadView-trans (IsShared d part) (OfPart d part) d u v w h.load k.load;
}

views_most : (view : View) (Kept : ℕ → Type 0) (These : Item → Type 0) (d : Diagram) (n m : ℕ) →
    AreAtLeast d (λ v w. SameView view Kept These d v w) n → AreSoMany d (λ v w. SameView view Kept These d v w) m →
    n ≤ m
views_most view Kept These d n m a b =
    let le = not_longer d (λ v w. SameView view Kept These d v w) (view_back view Kept These d)
    (view_on view Kept These d) a.list b.list a.distinct b.all in
    omega (arith, le, a.count, b.count)

-- ---- sums

sizes_most : (xs ys : List Size) → length xs ≡ length ys →
    ((i : ℕ) (x y : Size) → slice_get xs i ≡ Some x → slice_get ys i ≡ Some y → edges_in x ≤ edges_in y) →
    sum_by edges_in xs ≤ sum_by edges_in ys
sizes_most [] ys len most = omega arith
sizes_most (x ∷ xs) [] len most = absurd (omega (arith, len))
sizes_most (x ∷ xs) (y ∷ ys) len most = omega (
  arith,
  most 0 x y refl refl,
  sizes_most xs ys (omega (arith, len)) (λ i a b at_a at_b. most (suc i) a b at_a at_b),
  sum_by-cons edges_in x xs,
  sum_by-cons edges_in y ys,
)

numbers_most : (xs ys : List ℕ) → length xs ≡ length ys →
    ((i x y : ℕ) → slice_get xs i ≡ Some x → slice_get ys i ≡ Some y → x ≤ y) → sum xs ≤ sum ys
numbers_most [] ys len most = omega arith
numbers_most (x ∷ xs) [] len most = absurd (omega (arith, len))
numbers_most (x ∷ xs) (y ∷ ys) len most = omega (
  arith,
  most 0 x y refl refl,
  numbers_most xs ys (omega (arith, len)) (λ i a b at_a at_b. most (suc i) a b at_a at_b),
  sum_by-cons (λ (n : ℕ). n) x xs,
  sum_by-cons (λ (n : ℕ). n) y ys,
)

product_most : (a b c e : ℕ) → a ≤ b → c ≡ e → a * c ≤ b * e
product_most a b c e le same = subst (λ k. a * c ≤ b * k) same (mul-le-mul_right c le)

-- ---- graphs

module _ (view : View) (d : Diagram) (b : ℕ) where
  outer_most : (n e f : ℕ) → OuterHas view d b n (AreAtLeast d) e → OuterHas view d b n (AreSoMany d) f → e ≤ f
  outer_most n e f h k =
      let le = sizes_most h.sizes k.sizes (h.len ∙ sym k.len) (λ j x y at_x at_y.
      (let fewer =
      views_most view (IsNeededOuter d b j) (Among (parts_before d b j)) d x.views y.views (h.views j x at_x)
      (k.views j y at_y) in
      let same = so_many_once d (Alike d (other_of 0 b j)) (alike_back d (other_of 0 b j)) (alike_on d (other_of 0 b j))
      x.choices y.choices (h.indices j x at_x) (k.indices j y at_y) in
      product_most x.views y.views x.choices y.choices fewer same)) in
      omega (arith, le, h.all, k.all)

  switch_most : (m first count e f : ℕ) → SwitchHas view d b m first count (AreAtLeast d) e →
      SwitchHas view d b m first count (AreSoMany d) f → e ≤ f
  switch_most m first count e f h k =
      let others : k.others ≡ h.others = omega (arith, h.one_more, k.one_more) in
      let inner = subst (λ n. InnerHas view d b m first n n (AreSoMany d) f) others k.inner in
      let le = numbers_most h.inner.sizes inner.sizes (h.inner.len ∙ sym inner.len) (λ i x y at_x at_y. views_most view
      (IsNeededInner d m first h.others i) (Among (before_switch d b m first i)) d x y (h.inner.views i x at_x)
      (inner.views i y at_y)) in
      omega (arith, le, h.inner.all, inner.all)

  view_most : (first count e f : ℕ) → ViewHas view d b first count (AreAtLeast d) e →
      ViewHas view d b first count (AreSoMany d) f → e ≤ f
  view_most first count e f h k =
      let others : k.others ≡ h.others = omega (arith, h.one_more, k.one_more) in
      let outer = outer_most h.others h.outer_edges k.outer_edges h.outer
      (subst (λ n. OuterHas view d b n (AreSoMany d) k.outer_edges) others k.outer) in
      let inner = numbers_most h.inner.each k.inner.each (h.inner.len ∙ sym k.inner.len) (λ i x y at_x at_y. switch_most
      (first + i) first count x y (h.inner.graphs i x at_x) (k.inner.graphs i y at_y)) in
      omega (arith, outer, inner, h.inner.all, k.inner.all, h.all, k.all)

-- ---- bays

-- the first switch of a bay
first_least : (d : Diagram) (b first count first' count' : ℕ) → AreSwitchesOf d b first count →
    AreSwitchesOf d b first' count' → 0 < count → first' ≤ first
first_least d b first count first' count' a a' some = elim ((slice_get_cases d.switches first).1) [
  | inl w ↦ ((a'.those first w.0 w.2).0 ((a.those first w.0 w.2).1 (omega arith, omega (arith, some)))).0
  | inr w ↦ absurd (omega (arith, w.0, a.within, some))
]

pub bay_most : (d : Diagram) (b e f : ℕ) → IsBay d b → BayHas d b (AreAtLeast d) e → BayHas d b (AreSoMany d) f → e ≤ f
bay_most d b e f bay h k =
    let count : k.count ≡ h.count = k.switches.counted ∙ sym h.switches.counted in
    let some : 0 < h.count = omega (arith, bay.1, h.switches.counted) in
    let first : k.first ≡ h.first = omega (
      arith,
      first_least d b h.first h.count k.first k.count h.switches k.switches some,
      first_least d b k.first k.count h.first h.count k.switches h.switches (omega (arith, some, count)),
    ) in
    let gap = view_most Gap d b h.first h.count h.gap_edges k.gap_edges h.gap (subst
    (λ n. ViewHas Gap d b n h.count (AreSoMany d) k.gap_edges) first
    (subst (λ n. ViewHas Gap d b k.first n (AreSoMany d) k.gap_edges) count k.gap)) in
    let load = view_most Load d b h.first h.count h.load_edges k.load_edges h.load (subst
    (λ n. ViewHas Load d b n h.count (AreSoMany d) k.load_edges) first
    (subst (λ n. ViewHas Load d b k.first n (AreSoMany d) k.load_edges) count k.load)) in
    omega (arith, gap, load, h.all, k.all)

bay_at_least : (d : Diagram) (b e : ℕ) → BayHas d b (AreSoMany d) e → BayHas d b (AreAtLeast d) e
bay_at_least d b e h = record {
  first = h.first;
  count = h.count;
  switches = h.switches;
  gap_edges = h.gap_edges;
  load_edges = h.load_edges;
  gap = view_at_least Gap d b h.first h.count h.gap_edges h.gap;
  load = view_at_least Load d b h.first h.count h.load_edges h.load;
  all = h.all;
}

-- the counted edges of a part are one number
part_once : (d : Diagram) (b e f : ℕ) → (IsBay d b ⊎ (¬ IsBay d b)) → PartHasEdges d b e → PartHasEdges d b f → e ≤ f
part_once d b e f (inl bay) h k = bay_most d b e f bay (bay_at_least d b e (h.bay bay)) (k.bay bay)
part_once d b e f (inr not_bay) h k = omega (arith, h.other not_bay)

is_bay : (d : Diagram) (b : ℕ) → IsBay d b ⊎ (¬ IsBay d b)
is_bay d b = elim (cases_lt b (part_count d)) [
  | inl less ↦ elim (cases_lt 0 _) [ inl some ↦ inl (less, some) | inr none ↦ inr (λ h. omega (arith, none, h.1)) ]
  | inr more ↦ inr (λ h. omega (arith, more, h.0))
]

-- the edges of fewer parts, and of one more, are no more
sum_fewer : (xs ys : List ℕ) (n : ℕ) → length xs ≡ n → n < length ys →
    ((i x y : ℕ) → slice_get xs i ≡ Some x → slice_get ys i ≡ Some y → x ≤ y) → sum xs + get_or ys n 0 ≤ sum ys
sum_fewer xs [] n len lt most = absurd (omega (arith, lt))
sum_fewer [] (y ∷ ys) zero len lt most = omega (arith, sum_by-cons (λ (k : ℕ). k) y ys)
sum_fewer [] (y ∷ ys) (suc n) len lt most = absurd (omega (arith, len))
sum_fewer (x ∷ xs) (y ∷ ys) zero len lt most = absurd (omega (arith, len))
sum_fewer (x ∷ xs) (y ∷ ys) (suc n) len lt most = omega (
  arith,
  most 0 x y refl refl,
  sum_fewer xs ys n (omega (arith, len)) (omega (arith, lt)) (λ i a b at_a at_b. most (suc i) a b at_a at_b),
  sum_by-cons (λ (k : ℕ). k) x xs,
  sum_by-cons (λ (k : ℕ). k) y ys,
)

-- A STATION THAT KEEPS ITS LIMITS IS REFUSED FOR WANT OF MEMORY ALONE
pub limits_kept : (d : Diagram) → IsStation d → (refusal : BuildRefusal) → KeepsLimits d → IsBuildRefusal d refusal →
    refusal ≡ Memory
limits_kept d station Memory keeps is = refl
limits_kept d station (Many p step) keeps is = absurd (many (is.0))
  where
    many : PartIsPast d p.0 step → ⊥
    many past =
        let fits = keeps.0 p.0 (in_range past) in
        let count : fits.count ≡ past.count = fits.switches.counted ∙ sym past.switches.counted in
        let some : 0 < past.count = omega (arith, past.within.0, past.within.1) in
        let first : fits.first ≡ past.first = omega (
          arith,
          first_least d p.0 past.first past.count fits.first fits.count past.switches fits.switches some,
          first_least d p.0 fits.first fits.count past.first past.count fits.switches past.switches
              (omega (arith, some, count)),
        ) in
        let here : StepFits d p.0 past.first past.count step =
        subst (λ n. StepFits d p.0 n past.count step) first
        (subst (λ n. StepFits d p.0 fits.first n step) count (fits.steps step (omega (arith, past.within.1, count)))) in
        elim past.past [
          | inl way ↦
              omega (
                arith,
                here.on_the_way,
                layer_past d p.0 (past.first + step)
                    here.number CONTRACTIONS here.counted way,
              )
          | inr end ↦
              omega (
                arith,
                here.at_end end.0,
                layer_past d p.0 (past.first + step)
                    here.number LETTERS here.counted end.1,
              )
        ]
      where
        in_range : PartIsPast d p.0 step → p.0 < part_count d
        in_range past = elim ((slice_get_cases d.switches past.first).1) [
          | inl w ↦
              subst (λ n. n < part_count d)
              ((past.switches.those past.first w.0 w.2).1 (omega arith, omega (arith, past.within.0, past.within.1)))
              (station.items.switches_fit past.first w.0 w.2).part_in
          | inr w ↦ absurd (omega (arith, w.0, past.switches.within, past.within.0, past.within.1))
        ]
limits_kept d station (Wide bay) keeps is = absurd (wide (is.1.past))
  where
    b : ℕ
    b = bay.0

    size : (total : ℕ) (k : KeepEdges d (part_count d) total) → ℕ
    size total k = get_or k.each b 0

    counted : (total : ℕ) (k : KeepEdges d (part_count d) total) →
        PartHasEdges d b (size total k) × (size total k ≤ BAY_EDGES)
    counted total k = k.counted b (size total k) (slice_get-get_or k.each b 0 (omega (arith, k.len, is.1.bay.0)))

    wide : Passes (BayHas d b) d BAY_EDGES ⊎ Passes (BayHas d b) d (ALL_EDGES - is.1.spent) → ⊥
    wide (inl p) =
        let total = keeps.1 in
        let k = keeps.2 in
        let c = counted total k in
        omega (arith, p.past, bay_most d b p.edges (size total k) is.1.bay p.has (c.0.bay is.1.bay), c.1)
    wide (inr p) =
        let total = keeps.1 in
        let k = keeps.2 in
        let c = counted total k in
        let before = is.1.before in
        let all = sum_fewer before.each k.each b before.len (omega (arith, k.len, is.1.bay.0))
        (λ i x y at_x at_y. part_once d i x y (is_bay d i) (before.counted i x at_x).0 (k.counted i y at_y).0) in
        omega (
          arith,
          p.past,
          bay_most d b p.edges (size total k) is.1.bay p.has (c.0.bay is.1.bay),
          all,
          before.all,
          k.all,
          k.few,
        )
