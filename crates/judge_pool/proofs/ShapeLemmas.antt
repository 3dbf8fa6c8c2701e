-- Values of one shape: each of them may stand in place of another, and on other nodes that lie alike.
use Rattle.std.proofs.Common.{◌≡◌, ℕ, ◌<◌, ◌⊎◌, ◌↔◌, List, [], map, length, slice_get, slice_index}
use Rattle.std.proofs.Common.{Some, refl, sym, ap, ◌∙◌, subst, inl, inr, arith}
use Rattle.std.specs.Prelude.{option_map, Contains}
use Rattle.std.proofs.lemmas.List.{length-map}
use Rattle.std.proofs.lemmas.Option.{slice_get_within, slice_get-get_or, get_or_from_slice_get, slice_get-map}
use Rattle.contraction.specs.Answers.{Answers, Keeps, AreNodes, IsContraction}
use Rattle.contraction.specs.Composing.{ComposesGap, ComposesLoad}
use Rattle.contraction.specs.Renaming.{renamed}
use Rattle.contraction.specs.Selecting.{Selected, ArePlaced}
use Rattle.contraction.proofs.MergeLemmas.{merged_nodes}
use Rattle.contraction.proofs.RowLemmas.{same_entries}
use Rattle.contraction.proofs.ViewLemmas.{lists_from_gap, lists_from_load}
use Rattle.judge_pool.specs.declared.view.View.{View}
use Rattle.judge_pool.specs.declared.view.View.TheVariants.{Gap, Load}
use Rattle.judge_pool.specs.Places.{node_listed}
use Rattle.judge_pool.specs.Seen.{ComposesIn, SameSeen}
use Rattle.judge_pool.specs.Shapes.{SameShape, SameAs}
use Rattle.judge_pool.proofs.NodeLemmas.{node_at}

-- ---- one shape

pub shape_own : (view : View) (x : Answers) → SameShape view x x
shape_own Gap x = (refl, refl, refl)
shape_own Load x = (refl, refl, refl, refl)

pub shape_back : (view : View) (x y : Answers) → SameShape view x y → SameShape view y x
shape_back Gap x y (a, b, c) = (sym a, sym b, sym c)
shape_back Load x y (a, b, c, d) = (sym a, sym b, sym c, sym d)

pub shape_on : (view : View) (x y z : Answers) → SameShape view x y → SameShape view y z → SameShape view x z
shape_on Gap x y z (a, b, c) (d, e, f) = (a ∙ d, b ∙ e, c ∙ f)
shape_on Load x y z (a, b, c, d) (e, f, g, h) = (a ∙ e, b ∙ f, c ∙ g, d ∙ h)

-- a shape says nothing of nodes
pub renamed_as : (view : View) (x z : Answers) (nodes : List ℕ) → SameShape view z x →
    SameShape view z (renamed nodes x)
renamed_as Gap x z nodes h = h
renamed_as Load x z nodes h = h

turned : (view : View) (x y : Answers) → SameAs view x y → SameAs view y x
turned view x y h = record { kept = sym h.kept; shape = shape_back view x y h.shape }

-- ---- values of one shape on the same nodes

-- What the gap view of two values together is made of.
abbrev pub gap_part : Answers → Answers
gap_part x = record {
  kept = x.kept;
  coupled = x.coupled;
  joined = [];
  bonded = [];
  energisable = x.energisable;
  earthable = x.earthable;
  fed = [];
  loaded = [];
}

abbrev pub load_part : Answers → Answers
load_part x = record {
  kept = x.kept;
  coupled = [];
  joined = x.joined;
  bonded = x.bonded;
  energisable = [];
  earthable = [];
  fed = x.fed;
  loaded = x.loaded;
}

gap_part_of : (x y r : Answers) → ComposesGap x y r → ComposesGap (gap_part x) (gap_part y) (gap_part r)
gap_part_of x y r h =
    record { kept = h.kept; coupled = h.coupled; energisable = h.energisable; earthable = h.earthable }

gap_of_part : (x y r : Answers) → ComposesGap (gap_part x) (gap_part y) (gap_part r) → ComposesGap x y r
gap_of_part x y r h =
    record { kept = h.kept; coupled = h.coupled; energisable = h.energisable; earthable = h.earthable }

load_part_of : (x y r : Answers) → ComposesLoad x y r → ComposesLoad (load_part x) (load_part y) (load_part r)
load_part_of x y r h =
    record { kept = h.kept; joined = h.joined; bonded = h.bonded; fed = h.fed; loaded = h.loaded }

load_of_part : (x y r : Answers) → ComposesLoad (load_part x) (load_part y) (load_part r) → ComposesLoad x y r
load_of_part x y r h =
    record { kept = h.kept; joined = h.joined; bonded = h.bonded; fed = h.fed; loaded = h.loaded }

pub same_gap_part : (x y : Answers) → SameAs Gap x y → gap_part x ≡ gap_part y
same_gap_part x y h = let (a, b, c) = h.shape in cc (h.kept, a, b, c)

pub same_load_part : (x y : Answers) → SameAs Load x y → load_part x ≡ load_part y
same_load_part x y h = let (a, b, c, d) = h.shape in cc (h.kept, a, b, c, d)

in_place : (P : Answers → Answers → Answers → Type 0) (x x' y y' r r' : Answers) → x ≡ x' → y ≡ y' → r ≡ r' →
    P x y r → P x' y' r'
in_place P x x' y y' r r' one two both h =
    subst (λ c. P x' y' c) both (subst (λ b. P x' b r) two (subst (λ a. P a y r) one h))

-- A VALUE OF THE SAME SHAPE ON THE SAME NODES MAY STAND IN PLACE OF ANOTHER
pub composes_as : (view : View) (x x' y y' r r' : Answers) → SameAs view x x' → SameAs view y y' → SameAs view r r' →
    ComposesIn view x y r → ComposesIn view x' y' r'
composes_as Gap x x' y y' r r' one two both h =
    gap_of_part x' y' r' (in_place ComposesGap (gap_part x) (gap_part x') (gap_part y) (gap_part y') (gap_part r)
    (gap_part r') (same_gap_part x x' one) (same_gap_part y y' two) (same_gap_part r r' both) (gap_part_of x y r h))
composes_as Load x x' y y' r r' one two both h =
    load_of_part x' y' r' (in_place ComposesLoad (load_part x) (load_part x') (load_part y) (load_part y') (load_part r)
    (load_part r') (same_load_part x x' one) (same_load_part y y' two) (same_load_part r r' both)
    (load_part_of x y r h))

-- ---- what tells a shape

pub seen_tells_shape : (view : View) (x y : Answers) → IsContraction x → IsContraction y → SameSeen view x y →
    SameShape view x y
seen_tells_shape Gap x y wx wy h =
    let l = lists_from_gap x y wx wy h in
    (l.coupled, l.energisable, l.earthable)
seen_tells_shape Load x y wx wy h =
    let l = lists_from_load x y wx wy h in
    (l.joined, l.bonded, l.fed, l.loaded)

-- ---- shapes where their nodes lie

-- nodes that stand at these places are the nodes at them
nodes_there : (all places nodes : List ℕ) → length places ≡ length nodes →
    ((k : ℕ) → k < length nodes → slice_index places k < length all) →
    ((k : ℕ) → k < length nodes → slice_index all (slice_index places k) ≡ slice_index nodes k) →
    map (node_listed all) places ≡ nodes
nodes_there all places nodes len inside stands =
    let f : ℕ → ℕ = node_listed all in
    let count = length-map places f in
    same_entries (map f places) nodes (count ∙ len) (λ k k_in.
    let k_at : k < length nodes = omega (arith, k_in, count, len) in
    let p : ℕ = slice_index places k in
    let at_k = slice_get-get_or places k 0 (omega (arith, k_at, len)) in
    let at_p = slice_get-get_or all p 0 (inside k k_at) in
    get_or_from_slice_get (map f places) k (f p) 0 (slice_get-map f places k ∙ ap (option_map f) at_k)
    ∙ (node_at all p (slice_index all p) at_p ∙ stands k k_at))

module _ (s : Selected) (placed : ArePlaced s) (first_well : AreNodes s.first) (second_well : AreNodes s.second)
    (inside : (n : ℕ) → Contains s.nodes n → Keeps s.first n ⊎ Keeps s.second n) where
  pub all_nodes : AreNodes s.all
  all_nodes = merged_nodes s.first s.second s.all s.first_places s.second_places first_well second_well placed.merged

  pub first_at : map (node_listed s.all) s.first_places ≡ s.first
  first_at =
      let m = placed.merged in
      nodes_there s.all s.first_places s.first m.first_len m.first_inside m.first_stands

  pub second_at : map (node_listed s.all) s.second_places ≡ s.second
  second_at =
      let m = placed.merged in
      nodes_there s.all s.second_places s.second m.second_len m.second_inside m.second_stands

  -- the node of a kept place
  entry : (k : ℕ) → k < length s.places → slice_index s.kept k ≡ slice_index s.all (slice_index s.places k)
  entry k k_in =
      let p : ℕ = slice_index s.places k in
      get_or_from_slice_get s.kept k (slice_index s.all p) 0
      (placed.picked.told k k_in ∙ slice_get-get_or s.all p 0 (placed.asked.below k k_in))

  pub kept_count : length s.kept ≡ length s.places
  kept_count = placed.picked.len

  pub kept_at : map (node_listed s.all) s.places ≡ s.kept
  kept_at =
      let there : (k : ℕ) → k < length s.kept → k < length s.places = λ k k_in. omega (arith, k_in, kept_count) in
      nodes_there s.all s.places s.kept (sym kept_count) (λ k k_in. placed.asked.below k (there k k_in))
      (λ k k_in. sym (entry k (there k k_in)))

  pub kept_nodes : AreNodes s.kept
  kept_nodes = record {
    rises = λ j k less k_in.
        let k_at : k < length s.places = omega (arith, k_in, kept_count) in
        let j_at : j < length s.places = omega (arith, less, k_at) in
        let up = placed.asked.rises j k less k_at in
        omega (
          arith,
          entry j j_at,
          entry k k_at,
          all_nodes.rises (slice_index s.places j) (slice_index s.places k) up (placed.asked.below k k_at),
        );
    small = λ k k_in.
        let k_at : k < length s.places = omega (arith, k_in, kept_count) in
        omega (arith, entry k k_at, all_nodes.small (slice_index s.places k) (placed.asked.below k k_at));
  }

  -- each node that is asked for is in the merged list
  in_all : (n : ℕ) → Contains s.nodes n → Keeps s.all n
  in_all n has =
      let there : (nodes places : List ℕ) → ((k : ℕ) → k < length nodes → slice_index places k < length s.all) →
      ((k : ℕ) → k < length nodes → slice_index s.all (slice_index places k) ≡ slice_index nodes k) → Keeps nodes n →
      Keeps s.all n =
      λ nodes places within stands k.
      let k_in : k.place < length nodes = slice_get_within nodes k.place n k.at in
      let p : ℕ = slice_index places k.place in
      let is : slice_index s.all p ≡ n =
      stands k.place k_in ∙ get_or_from_slice_get nodes k.place n 0 k.at in
      record { place = p; at = slice_get-get_or s.all p 0 (within k.place k_in) ∙ ap Some is } in
      let m = placed.merged in
      elim (inside n has) [
        | inl one ↦ there s.first s.first_places m.first_inside m.first_stands one
        | inr two ↦ there s.second s.second_places m.second_inside m.second_stands two
      ]

  pub kept_are : (n : ℕ) → Keeps s.kept n ↔ Contains s.nodes n
  kept_are n = (
    λ k.
        let k_at : k.place < length s.places =
        omega (arith, slice_get_within s.kept k.place n k.at, kept_count) in
        let is = sym (entry k.place k_at) ∙ get_or_from_slice_get s.kept k.place n 0 k.at in
        subst (λ m. Contains s.nodes m) is (placed.asked.named k.place k_at),
    λ has.
        let k = in_all n has in
        let p_in = slice_get_within s.all k.place n k.at in
        let is = get_or_from_slice_get s.all k.place n 0 k.at in
        let (j, j_in, at) = placed.asked.found k.place p_in (subst (λ m. Contains s.nodes m) (sym is) has) in
        record { place = j; at = placed.picked.told j j_in ∙ (ap (slice_get s.all) at ∙ k.at) },
  )
