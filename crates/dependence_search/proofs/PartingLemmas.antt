-- From which nodes two choices part, layer by layer.
use Rattle.std.proofs.Common.{◌≡◌, ◌≢◌, ℕ, ◌+◌, ◌-◌, ◌<◌, ◌≤◌, ◌⊎◌, zero, suc, Bool, false, List, [], ◌∷◌, ◌++◌, take, drop, length, map}
use Rattle.std.proofs.Common.{Vec, Global, option_map, get_or, slice_get, Some, refl, sym, ap, ◌∙◌, subst, inl, inr, arith}
use Rattle.std.specs.Prelude.{◌↔◌}
use Rattle.std.proofs.Math.Seq.{drop-cons}
use Rattle.std.proofs.lemmas.List.{map-append}
use Rattle.std.proofs.lemmas.Option.{same_Some, slice_get-map, slice_get-get_or}
use Rattle.decision_graphs.specs.Label.{Layer, Layered, layer_at, no_layer, leads, step, AreLayers, size_at}
use Rattle.decision_graphs.specs.Reaching.{IsSet}
use Rattle.graph_walks.specs.Walks.{AreTwos, HasTwos}
use Rattle.dependence_search.specs.RuleWalks.{turned_at}
use Rattle.dependence_search.specs.Parting.{IsParting, PartsFrom, AreParting, ArePartingBack}
use Rattle.graph_products.proofs.ListLemmas.{slice_get-push, layer_fits, size_in}
use Rattle.dependence_search.proofs.MarkLemmas.{MarkedUpto}

pub two_tail : (n c : ℕ) (cs : List ℕ) → AreTwos (suc n) (c ∷ cs) → AreTwos n cs
two_tail n c cs h = record { len = omega (arith, h.len); small = λ j d at. h.small (suc j) d at }

pub two_more : (n c : ℕ) (cs : List ℕ) → c < 2 → AreTwos n cs → AreTwos (suc n) (c ∷ cs)
two_more n c cs lt h = record { len = ap suc h.len; small = each }
  where
    each : (j d : ℕ) → slice_get (c ∷ cs) j ≡ Some d → d < 2
    each zero d at = omega (arith, lt, same_Some c d at)
    each (suc j) d at = h.small j d at

pub no_twos : (n : ℕ) → AreTwos (suc n) [] → ⊥
no_twos n h = omega (arith, h.len)

pub twos_none : AreTwos 0 []
twos_none = record { len = refl; small = λ j c at. cc }

-- ---- one layer

parts_now : (l : Layer) (ls : List Layer) (k : ℕ) → PartsFrom (l ∷ ls) 0 k ↔ IsParting l k
parts_now l ls k = (λ p. p.parts, λ parts. record { before = []; twos = twos_none; parts = parts })

parts_on : (l : Layer) (ls : List Layer) (count k : ℕ) → PartsFrom (l ∷ ls) (suc count) k →
    PartsFrom ls count (step l k 0) ⊎ PartsFrom ls count (step l k 1)
parts_on l ls count k p = by p.before p.twos p.parts
  where
    by : (before : List ℕ) → AreTwos (suc count) before →
        IsParting (layer_at ls count) (leads (l ∷ take count ls) k before) →
        PartsFrom ls count (step l k 0) ⊎ PartsFrom ls count (step l k 1)
    by [] twos parts = absurd (no_twos count twos)
    by (zero ∷ cs) twos parts = inl (record { before = cs; twos = two_tail count 0 cs twos; parts = parts })
    by (suc zero ∷ cs) twos parts = inr (record { before = cs; twos = two_tail count 1 cs twos; parts = parts })
    by (suc (suc c) ∷ cs) twos parts = absurd (omega (arith, twos.small 0 (suc (suc c)) refl))

parts_back : (l : Layer) (ls : List Layer) (count k c : ℕ) → c < 2 → PartsFrom ls count (step l k c) →
    PartsFrom (l ∷ ls) (suc count) k
parts_back l ls count k c lt p = record {
  before = c ∷ p.before;
  twos = two_more count c p.before lt p.twos;
  parts = p.parts;
}

-- ---- the layers from one on

pub from_layer : (ls : List Layer) (j : ℕ) → j < length ls → drop j ls ≡ layer_at ls j ∷ drop (suc j) ls
from_layer ls j lt = drop-cons ls j no_layer lt

pub parts_here : (ls : List Layer) (j k : ℕ) → j < length ls → PartsFrom (drop j ls) 0 k ↔ IsParting (layer_at ls j) k
parts_here ls j k lt =
    subst (λ (xs : List Layer). PartsFrom xs 0 k ↔ IsParting (layer_at ls j) k) (sym (from_layer ls j lt))
    (parts_now (layer_at ls j) (drop (suc j) ls) k)

pub parts_next : (ls : List Layer) (j count k : ℕ) → j < length ls → PartsFrom (drop j ls) (suc count) k ↔
    (PartsFrom (drop (suc j) ls) count (step (layer_at ls j) k 0)
    ⊎ PartsFrom (drop (suc j) ls) count (step (layer_at ls j) k 1))
parts_next ls j count k lt =
    let l = layer_at ls j in
    let on = drop (suc j) ls in
    subst (λ (xs : List Layer). PartsFrom xs (suc count) k ↔ (PartsFrom on count (step l k 0) ⊎ PartsFrom on count (step l k 1)))
    (sym (from_layer ls j lt)) (
      parts_on l on count k,
      λ e. elim e [
        | inl p ↦ parts_back l on count k 0 (omega arith) p
        | inr p ↦ parts_back l on count k 1 (omega arith) p
      ],
    )

-- a choice leads to a node of the next layer
pub next_in : (g : Layered) (j k c : ℕ) → AreLayers g.labels g.layers → suc j < length g.layers →
    k < length (layer_at g.layers j).rows → c < (layer_at g.layers j).choices →
    step (layer_at g.layers j) k c < length (layer_at g.layers (suc j)).rows
next_in g j k c fit lt k_in c_in =
    subst (λ (n : ℕ). step (layer_at g.layers j) k c < n) (size_in g.labels g.layers (suc j) lt)
    ((layer_fits g.labels g.layers j fit (omega (arith, lt))).edges k c k_in c_in)

-- ---- marks

pub marked_on : (ls : List Layer) (j k first second : ℕ) (marks : List Bool) → j < length ls →
    first ≡ step (layer_at ls j) k 0 → second ≡ step (layer_at ls j) k 1 → first < length (layer_at ls (suc j)).rows →
    second < length (layer_at ls (suc j)).rows → (count : ℕ) → AreParting ls (suc j) count marks →
    (IsSet marks first ⊎ IsSet marks second) ↔ PartsFrom (drop j ls) (suc count) k
marked_on ls j k first second marks lt one two first_in second_in count are =
    let on = drop (suc j) ls in
    let a = are.each first first_in in
    let b = are.each second second_in in
    let n = parts_next ls j count k lt in (
      λ e. n.1 (elim e [
        | inl s ↦ inl (subst (λ (t : ℕ). PartsFrom on count t) one (a.0 s))
        | inr s ↦ inr (subst (λ (t : ℕ). PartsFrom on count t) two (b.0 s))
      ]),
      λ p. elim (n.0 p) [
        | inl q ↦ inl (a.1 (subst (λ (t : ℕ). PartsFrom on count t) (sym one) q))
        | inr q ↦ inr (b.1 (subst (λ (t : ℕ). PartsFrom on count t) (sym two) q))
      ],
    )

pub parting_of : (ls : List Layer) (j count n : ℕ) (marks : List Bool) → n ≡ length (layer_at ls j).rows →
    MarkedUpto (PartsFrom (drop j ls) count) n marks → AreParting ls j count marks
parting_of ls j count n marks all so = record {
  len = so.len ∙ all;
  each = λ k lt. so.each k (omega (arith, lt, all));
}

-- one more list of marks
pub back_more : (ls : List Layer) (layer n : ℕ) (all : List (List Bool)) (marks : List Bool) → length all ≡ n →
    ArePartingBack ls layer all → AreParting ls (layer - n) n marks → ArePartingBack ls layer (all ++ marks ∷ [])
back_more ls layer n all marks len so are count found at = elim (slice_get-push all marks found count at) [
  | inl before ↦ so count found before
  | inr last ↦
      subst (λ (m : ℕ). AreParting ls (layer - m) m found) (sym (last.0 ∙ len))
      (subst (λ (f : List Bool). AreParting ls (layer - n) n f) last.1 are)
]

-- the list of marks at a place
pub marks_at : (ls : List Layer) (layer : ℕ) (all : List (Vec Bool Global)) (i from : ℕ) (v : Vec Bool Global) →
    ArePartingBack ls layer (map (λ (m : Vec Bool Global). m.items) all) → from ≡ i → v ≡ get_or all from v →
    i < length all → AreParting ls (layer - i) i v.items
marks_at ls layer all i from v are is at lt =
    are i v.items (slice_get-map (λ (m : Vec Bool Global). m.items) all i
    ∙ ap (option_map (λ (m : Vec Bool Global). m.items))
    (slice_get-get_or all i v lt ∙ ap Some (sym (at ∙ ap (λ (k : ℕ). get_or all k v) is))))

-- a choice that leads on
pub leads_first : (ls : List Layer) (j k first : ℕ) (marks : List Bool) → first ≡ step (layer_at ls j) k 0 →
    first < length (layer_at ls (suc j)).rows → IsSet marks first → (count : ℕ) → AreParting ls (suc j) count marks →
    PartsFrom (drop (suc j) ls) count (step (layer_at ls j) k 0)
leads_first ls j k first marks is within set count are =
    subst (λ (t : ℕ). PartsFrom (drop (suc j) ls) count t) is ((are.each first within).0 set)

pub leads_second : (ls : List Layer) (j k first : ℕ) (marks : List Bool) → j < length ls →
    first ≡ step (layer_at ls j) k 0 → first < length (layer_at ls (suc j)).rows → ¬ IsSet marks first → (count : ℕ) →
    AreParting ls (suc j) count marks → PartsFrom (drop j ls) (suc count) k →
    PartsFrom (drop (suc j) ls) count (step (layer_at ls j) k 1)
leads_second ls j k first marks lt is within unset count are p = elim ((parts_next ls j count k lt).0 p) [
  | inl q ↦
      absurd (unset ((are.each first within).1 (subst (λ (t : ℕ). PartsFrom (drop (suc j) ls) count t) (sym is) q)))
  | inr q ↦ q
]
