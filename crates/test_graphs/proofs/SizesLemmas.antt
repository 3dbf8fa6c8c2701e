-- Sums of the first counts, and what a new node does to them.
use Rattle.std.proofs.Common.{◌≡◌, ℕ, ◌+◌, ◌-◌, ◌^◌, ◌<◌, ◌≤◌, suc, List, ◌∷◌, ◌++◌, [], length, get_or, take, sum}
use Rattle.std.proofs.Common.{replicate, None, Bool, true, false, cond, eqb, inl, inr, refl, ap, ◌∙◌, arith, add-one}
use Rattle.std.proofs.lemmas.Bool.{cases_lt}
use Rattle.std.proofs.lemmas.Bool.Decides.{nat_tests}
use Rattle.std.proofs.lemmas.List.{take_all, length-map, map-set, length-set, length_push, length-take-le, get_or-take}
use Rattle.std.proofs.lemmas.List.Sums.{sum_by-set, sum_by_push}
use Rattle.std.proofs.Math.Seq.{take-suc}
use Rattle.std.proofs.Math.ListN.{get_or-map}
use Rattle.decision_graphs.specs.Label.{Layer, layer_at, no_layer}
use Rattle.decision_graphs.specs.Reaching.{AreSetsOf, set_at}
use Rattle.decision_graphs.specs.Drafting.{DraftLayer, Draft, draft_layer_at, MayGrow, MayHaveEdge, node_count}
use Rattle.decision_graphs.specs.Drafting.{with_node, sizes_of, choices_of, IsShaped, IsBare}
use Rattle.decision_graphs.specs.declared.limits.TheConstants.{LAYERS, GRAPH_NODES}
use Rattle.decision_graphs.proofs.SetLemmas.{set_at-AreSetsOf}
use Rattle.decision_graphs.proofs.ShapeLemmas.{sum_before-suc, sum_before-mono}
use Rattle.decision_graphs.proofs.BuildingLemmas.{node_count-sizes, size_at-sizes, MayGrow-from_bare}
use Rattle.decision_graphs.proofs.BuildingLemmas.{MayHaveEdge-from_sizes}
use Rattle.test_graphs.specs.Sizes.{AreSizes}

sum-suc : (ns : List ℕ) (j : ℕ) → j < length ns → sum (take (suc j) ns) ≡ sum (take j ns) + get_or ns j 0
sum-suc ns j lt = sum_before-suc (λ n. n) ns 0 j lt

sum-within : (ns : List ℕ) (j : ℕ) → j < length ns → sum (take j ns) + get_or ns j 0 ≤ sum ns
sum-within ns j lt = omega (
  arith,
  sum-suc ns j lt,
  sum_before-mono (λ (n : ℕ). n) ns (suc j) (length ns) lt,
  ap sum (take_all (length ns) ns (omega arith)),
)

-- a new node is one node more
pub node_count-with_node : (d : Draft) → 0 < length d.layers → node_count (with_node d) ≡ node_count d + 1
node_count-with_node d some =
    let row = replicate (draft_layer_at d (length d.layers - 1)).choices None in
    let e = map-set (λ (l : DraftLayer). length l.rows) d.layers (length d.layers - 1)
    (record {
      choices = (draft_layer_at d (length d.layers - 1)).choices;
      rows = (draft_layer_at d (length d.layers - 1)).rows ++ replicate (draft_layer_at d (length d.layers - 1)).choices
          None ∷ [];
    }) in
    let whole = node_count-sizes (with_node d) d.labels (choices_of (with_node d)) (sizes_of (with_node d))
    (record { labels_are = refl; choices_are = refl; sizes_are = refl }) in
    let before = node_count-sizes d d.labels (choices_of d) (sizes_of d) (record {
      labels_are = refl;
      choices_are =
          refl;
      sizes_are = refl;
    }) in
    let len = length-map d.layers (λ (l : DraftLayer). length l.rows) in
    let more = length_push (draft_layer_at d (length d.layers - 1)).rows row in
    let sums = sum_by-set (λ (n : ℕ). n) (sizes_of d) (length d.layers - 1)
    (length ((draft_layer_at d (length d.layers - 1)).rows ++ row ∷ [])) 0 (omega arith) in
    whole ∙ ap sum e ∙ omega (arith, before, sums, more, size_at-sizes d (length d.layers - 1))

pub length-set_at-AreSetsOf : (ls : List Layer) (sets : List (List Bool)) (j : ℕ) → AreSetsOf ls sets →
    length (set_at sets j) ≡ (layer_at ls j).choices
length-set_at-AreSetsOf ls sets j are = set_at-AreSetsOf ls sets j are ∙ get_or-map (λ (l : Layer). l.choices)
    ls j no_layer

pub some-with_node : (d : Draft) → 0 < length d.layers → 0 < length (with_node d).layers
some-with_node d some = omega (
  arith,
  length-set d.layers (length d.layers - 1)
      (record {
        choices = (draft_layer_at d (length d.layers - 1)).choices;
        rows =
            (draft_layer_at d (length d.layers - 1)).rows ++ replicate (draft_layer_at d (length d.layers - 1)).choices
            None ∷ [];
      }),
)

pub take-next : (xs : List ℕ) (i : ℕ) → i < length xs → take (i + 1) xs ≡ take i xs ++ get_or xs i 0 ∷ []
take-next xs i lt = ap (λ n. take n xs) (add-one i) ∙ take-suc xs i 0 lt

-- the next layer may come
pub may_grow : (d : Draft) (labels : ℕ) (cs ns : List ℕ) (i : ℕ) → AreSizes labels cs ns → i ≤ length ns →
    IsShaped d labels (take i cs) (take i ns) → IsBare d → MayGrow d
may_grow d labels cs ns i sizes le shaped bare =
    MayGrow-from_bare d bare
    (λ j last.
    let len = length-map d.layers (λ (l : DraftLayer). length l.rows) in
    let lt : j < i = omega (arith, ap length shaped.sizes_are, length-take-le i ns le) in
    let at = ap (λ xs. get_or xs j 0) shaped.sizes_are ∙ get_or-take i ns j 0 lt in
    omega (arith, sizes.filled j (omega arith)))

-- its nodes are within the limit
pub room_for : (d : Draft) (labels : ℕ) (cs' cs ns : List ℕ) (i : ℕ) → AreSizes labels cs ns → i < length ns →
    IsShaped d labels cs' (take i ns ++ 0 ∷ []) → node_count d + get_or ns i 0 ≤ GRAPH_NODES
room_for d labels cs' cs ns i sizes lt shaped =
    omega (
      arith,
      node_count-sizes d labels cs' (take i ns ++ 0 ∷ []) shaped,
      sum_by_push (λ (n : ℕ). n) (take i ns) 0,
      sum-within ns i lt,
      sizes.total,
    )

-- the numbers of the places after a layer
pub places_fit : (labels : ℕ) (cs ns : List ℕ) (i first low places : ℕ) → AreSizes labels cs ns → labels < 2 ^ 32 →
    i < length ns → first ≡ sum (take i ns) → low ≡ cond (eqb (suc i) (length ns)) 0 (first + get_or ns i 0) →
    places ≡ cond (eqb (suc i) (length ns)) labels (get_or ns (suc i) 0) → low + places < 2 ^ 32
places_fit labels cs ns i first low places sizes range lt begins low_is places_is =
    elim (cases_lt (suc i) (length ns)) [
      | inl more ↦
          (let ne : eqb (suc i) (length ns) ≡ false = grind (arith, nat_tests) in
          let low' = rw ne at low_is in
          let places' = rw ne at places_is in
          omega (arith, low', places', sum-suc ns i lt, sum-within ns (suc i) more, sizes.total))
      | inr past ↦
          (let is : eqb (suc i) (length ns) ≡ true = grind (arith, nat_tests) in
          let low' = rw is at low_is in
          let places' = rw is at places_is in
          omega (arith, low', places'))
    ]

pub may_have : (d : Draft) (labels : ℕ) (cs ns : List ℕ) (i first low places : ℕ) → IsShaped d labels cs ns →
    i < length ns → first ≡ sum (take i ns) → low ≡ cond (eqb (suc i) (length ns)) 0 (first + get_or ns i 0) →
    places ≡ cond (eqb (suc i) (length ns)) labels (get_or ns (suc i) 0) → (k c t : ℕ) → k < get_or ns i 0 →
    c < get_or cs i 0 → t < places → MayHaveEdge d (first + k) c (low + t)
may_have d labels cs ns i first low places shaped lt begins low_is places_is k c t in_nodes in_choices in_places =
    MayHaveEdge-from_sizes d labels cs ns i k (first + k) c (low + t) shaped lt in_nodes
    (ap (λ n. n + k) begins) in_choices
    (λ last.
    let is : eqb (suc i) (length ns) ≡ true = grind (arith, nat_tests) in
    let low' = rw is at low_is in
    let places' = rw is at places_is in
    omega (arith, low', places'))
    (λ more.
    let ne : eqb (suc i) (length ns) ≡ false = grind (arith, nat_tests) in
    let low' = rw ne at low_is in
    let places' = rw ne at places_is in
    (omega (arith, low', sum-suc ns i lt), omega (arith, low', places', sum-suc ns i lt)))
