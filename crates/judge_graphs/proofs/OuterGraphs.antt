-- The outer graphs: what their layers take in is linked, and reduction keeps what their labels name.
use Rattle.std.proofs.Common.{◌≡◌, ℕ, ◌-◌, ◌<◌, ◌≤◌, ◌⊎◌, ◌↔◌, zero, suc, Bool, List, [], length, map, get_or}
use Rattle.std.proofs.Common.{slice_get, Some, sym, ap, ◌∙◌, subst, inl, inr, arith}
use Rattle.std.specs.Prelude.{Contains}
use Rattle.std.proofs.lemmas.Option.{slice_get_within, slice_get-get_or, same_Some}
use Rattle.station_graph.specs.Diagram.{part_count}
use Rattle.contraction.specs.Answers.{Answers, Keeps}
use Rattle.decision_graphs.specs.Label.{Layer, Layered, layer_at, no_layer, label_of, AreChoices, AreLayers}
use Rattle.judge_pool.specs.declared.view.View.{View}
use Rattle.judge_pool.specs.declared.pool.Pool.{Pool}
use Rattle.judge_pool.specs.Lettered.{Lettered, AreLettered, letters_in}
use Rattle.judge_pool.specs.Pooling.{GrewTo}
use Rattle.judge_pool.specs.Layering.{values_at, no_answers}
use Rattle.station_graph.specs.Diagram.{IsStation}
use Rattle.contraction.specs.Stands.{Among}
use Rattle.part_alphabets.specs.Counting.{AreSoMany}
use Rattle.judge_pool.specs.Seen.{SeenFor, SameView}
use Rattle.judge_pool.specs.Listing.{parts_before}
use Rattle.judge_pool.specs.Counted.{OuterIsSmall}
use Rattle.judge_pool.specs.Folding.{StandsIn, AreViews, IsExact}
use Rattle.judge_pool.specs.Graphs.{other_of, OfOthers, PartChosen, IsOuter}
use Rattle.judge_pool.specs.Needing.{IsNeededOuter}
use Rattle.judge_intake.specs.Inputs.{AreCopies, AreRows, AreKeeps, HasNothing, AreNames}
use Rattle.judge_pool.specs.Plans.{outer_plan, items_of, AreLinked}
use Rattle.judge_intake.specs.Ready.{IsOuterReady}
use Rattle.judge_pool.proofs.LayeringLemmas.{grows}
use Rattle.judge_intake.proofs.InputsLemmas.{rows_stay, keeps_stay}
use Rattle.judge_pool.proofs.BridgeLemmas.{number_at}
use Rattle.judge_intake.proofs.OtherLemmas.{other_in}
use Rattle.judge_intake.proofs.OuterLemmas.{outer_chain}
use Rattle.judge_intake.proofs.OuterFits.{outer_items, letter_kept, needed_at, seen_over, others_all}
use Rattle.judge_pool.proofs.ChoiceLemmas.{choices_each, same_choices, same_count, any_label}

-- nothing is kept in no place
pub none_kept : (kept : List ℕ) (n : ℕ) → kept ≡ [] → Keeps kept n → ⊥
none_kept kept n e k = no_place k.place (ap (λ ks. slice_get ks k.place) (sym e) ∙ k.at)
  where
    no_place : (i : ℕ) → slice_get {X = ℕ} [] i ≡ Some n → ⊥
    no_place zero at = cc
    no_place (suc i) at = cc

module _ (a : Lettered) (b : ℕ) (p : Pool) (start : ℕ) (letters : List (List ℕ)) (keeps : List ℕ)
    (ready : IsOuterReady a b p start letters keeps) where
  row_letters : (j : ℕ) (ids : List ℕ) → slice_get letters j ≡ Some ids →
      AreCopies p (letters_in a (other_of 0 b j)) ids
  row_letters j ids at = ready.rows.each j ids at

  part_of : (j : ℕ) (ids : List ℕ) → slice_get letters j ≡ Some ids → other_of 0 b j < part_count a.diagram
  part_of j ids at = omega (arith, (other_in 0 b (length letters) j (slice_get_within letters j ids at)).1, ready.count)

  letter_id : (j c i : ℕ) (ids : List ℕ) → slice_get letters j ≡ Some ids → slice_get ids c ≡ Some i →
      i < length p.values.items
  letter_id j c i ids at at_c =
      let copies = row_letters j ids at in
      let x : Answers = get_or (letters_in a (other_of 0 b j)) c no_answers in
      let at_x : slice_get (letters_in a (other_of 0 b j)) c ≡ Some x =
      slice_get-get_or (letters_in a (other_of 0 b j)) c no_answers
      (omega (arith, slice_get_within ids c i at_c, copies.len)) in
      let m = copies.each c x at_x in
      let same : m.id ≡ i = same_Some m.id i (sym m.at ∙ at_c) in
      subst (λ k. k < length p.values.items) same (slice_get_within p.values.items m.id m.copy.value m.copy.listed)

  begins_kept : (x : Answers) (nodes : List ℕ) (k n : ℕ) → slice_get p.values.items start ≡ Some x →
      slice_get keeps 0 ≡ Some k → slice_get p.keeps.items k ≡ Some nodes → Keeps x.kept n ↔ Contains nodes n
  begins_kept x nodes k n at at_k at_nodes =
      let is : ready.begins.value ≡ x = same_Some ready.begins.value x (sym ready.begins.listed ∙ at) in
      let bare : x.kept ≡ [] = ap (λ (z : Answers). z.kept) (sym is) ∙ ready.begins.bare in
      let exact = needed_at (IsNeededOuter a.diagram b 0) p k nodes (ready.needed.each 0 k at_k) at_nodes n in
      (λ h. absurd (none_kept x.kept n bare h), λ h. absurd ((exact.0 h).before.among))

  chained : (j k h c i : ℕ) (ids nodes after : List ℕ) (y : Answers) → slice_get letters j ≡ Some ids →
      slice_get keeps j ≡ Some k → slice_get keeps (suc j) ≡ Some h → slice_get p.keeps.items k ≡ Some nodes →
      slice_get p.keeps.items h ≡ Some after → slice_get ids c ≡ Some i → slice_get p.values.items i ≡ Some y →
      (n : ℕ) → Contains after n → Contains nodes n ⊎ Keeps y.kept n
  chained j k h c i ids nodes after y at_j at_k at_h at_nodes at_after at_c at_y n n_in =
      let need = (needed_at (IsNeededOuter a.diagram b (suc j)) p h after (ready.needed.each (suc j) h at_h)
      at_after n).0 n_in in
      elim (outer_chain a.diagram b j n need) [
        | inl before ↦
            inl ((needed_at (IsNeededOuter a.diagram b j) p k nodes (ready.needed.each j k at_k) at_nodes n).1 before)
        | inr shared ↦
            inr ((letter_kept a b p start letters keeps ready j c ids y at_j
            (number_at p.values.items ids c i y at_c at_y) n).1 shared)
      ]

  pub outer_linked : AreLinked p start letters keeps
  outer_linked = record {
    start_in = slice_get_within p.values.items start ready.begins.value ready.begins.listed;
    count = ready.needed.len;
    keeps_in = λ j k at. (let h = ready.needed.each j k at in slice_get_within p.keeps.items k h.nodes h.listed);
    letters_in = letter_id;
    some =
        λ j ids at. (let few = (ready.lettered.alphabets.each (other_of 0 b j) (part_of j ids at)).some in
        omega (arith, few, (row_letters j ids at).len));
    start_kept = λ x k nodes at at_k at_nodes n. begins_kept x nodes k n at at_k at_nodes;
    chain = chained;
  }

-- a graph with the same labels for every list of choices names the same
pub outer_same : (view : View) (a : Lettered) (b : ℕ) (names : List Answers) (g h : Layered) →
    IsOuter view a b g names → h.labels ≡ g.labels →
    map (λ (l : Layer). l.choices) h.layers ≡ map (λ (l : Layer). l.choices) g.layers →
    ((cs : List ℕ) → AreChoices g.layers cs → label_of h cs ≡ label_of g cs) → AreLayers h.labels h.layers →
    IsOuter view a b h names
outer_same view a b names g h o labels choices same fits = record {
  fits = fits;
  count = omega (arith, len, o.count);
  choices = λ j lt. same_choices g.layers h.layers choices j ∙ o.choices j (omega (arith, lt, len));
  labels = o.labels ∙ sym labels;
  named = λ v cs whole count chosen.
      let all = choices_each g.layers cs (count ∙ len)
      (λ j c at. in_range j c v (omega (arith, slice_get_within cs j c at, count, len)) (chosen j c at)) in
      subst (λ t. StandsIn view (OfOthers a.diagram b) a.diagram v names t) (sym (same cs all))
      (o.named v cs whole (count ∙ len) chosen);
}
  where
    len : length h.layers ≡ length g.layers
    len = same_count g.layers h.layers choices

    in_range : (j c : ℕ) (v : List Bool) → j < length g.layers → PartChosen a b j c v →
        c < (layer_at g.layers j).choices
    in_range j c v lt has =
        omega (arith, slice_get_within (letters_in a (other_of 0 b j)) c has.letter has.listed, o.choices j lt)

-- the names of the labels
pub names_of : (a : Lettered) (b others : ℕ) (p q : Pool) (ls : List Layer) (ids : List ℕ) → IsStation a.diagram →
    suc others ≡ part_count a.diagram → b < part_count a.diagram → q.view ≡ p.view →
    IsExact p.view a.diagram (PartChosen a b) (items_of (outer_plan a b)) (IsNeededOuter a.diagram b) others ls
    (values_at q.values.items ids) → ((t i : ℕ) → slice_get ids t ≡ Some i → i < length q.values.items) →
    length (values_at q.values.items ids) ≡ length ids → AreNames q a.diagram b ids
names_of a b others p q ls ids station count b_in same exact within len = record {
  some = omega (arith, any_label (length (values_at q.values.items ids)) ls exact.fits, len);
  within = within;
  kept =
      λ t x at n. (let e : others ≡ part_count a.diagram - 1 = omega (arith, count) in
      subst (λ k. Keeps x.kept n ↔ IsNeededOuter a.diagram b k n) e (exact.kept t x at n));
  views = subst (λ w. AreViews w (OfOthers a.diagram b) a.diagram (values_at q.values.items ids)) (sym same) (record {
    made = λ t r at. (let (v, whole, seen) = exact.views.made t r at in (v, whole, over v r seen));
    cover =
        λ v whole. (let (t, s) = exact.views.cover v whole in
        (t, record { value = s.value; listed = s.listed; stands = over v s.value s.stands }));
  });
}
  where
    over : (v : List Bool) (r : Answers) → SeenFor p.view (Among (items_of (outer_plan a b) others)) a.diagram v r →
        SeenFor p.view (OfOthers a.diagram b) a.diagram v r
    over v r seen =
        seen_over p.view (Among (parts_before a.diagram b others)) (OfOthers a.diagram b) a.diagram v r
        (others_all a b others station count b_in)
        (subst (λ xs. SeenFor p.view (Among xs) a.diagram v r) (outer_items a b others) seen)

-- no layer has more nodes than there are distinct views
pub outer_small : (view : View) (a : Lettered) (b others : ℕ) (ls : List Layer) (states : List Answers)
    (g h : Layered) →
    IsExact view a.diagram (PartChosen a b) (items_of (outer_plan a b)) (IsNeededOuter a.diagram b) others ls states →
    g.layers ≡ ls → map (λ (l : Layer). l.choices) h.layers ≡ map (λ (l : Layer). l.choices) g.layers →
    ((j : ℕ) → length (layer_at h.layers j).rows ≤ length (layer_at g.layers j).rows) → OuterIsSmall view a.diagram b h
outer_small view a b others ls states g h exact same choices sizes j lt =
    let len : length h.layers ≡ length g.layers = same_count g.layers h.layers choices in
    let at : slice_get g.layers j ≡ Some (layer_at g.layers j) =
    slice_get-get_or g.layers j no_layer (omega (arith, lt, len)) in
    let counted = exact.counted j (layer_at g.layers j) (ap (λ xs. slice_get xs j) (sym same) ∙ at) in
    record {
      count = length (layer_at g.layers j).rows;
      counted =
          subst (λ xs. AreSoMany a.diagram (λ v w. SameView view (IsNeededOuter a.diagram b j) (Among xs) a.diagram v w)
          (length (layer_at g.layers j).rows)) (outer_items a b j) counted;
      few = sizes j;
    }

-- what the layers of an outer graph take in, from what the calls give
pub outer_ready : (a : Lettered) (b : ℕ) (p1 p2 p3 : Pool) (start : ℕ) (rows : List (List ℕ)) (keeps : List ℕ)
    (others : ℕ) → AreLettered a → suc others ≡ part_count a.diagram → b < part_count a.diagram → GrewTo p1 p2 →
    GrewTo p2 p3 → AreKeeps (IsNeededOuter a.diagram b) p1 keeps (suc others) → AreRows a b p2 rows others →
    HasNothing p3 start → IsOuterReady a b p3 start rows keeps
outer_ready a b p1 p2 p3 start rows keeps others lettered count b_in g2 g3 kept are begins = record {
  lettered = lettered;
  pool = g3.is_pool;
  count = ap suc are.len ∙ count;
  bay_in = b_in;
  rows = subst (λ n. AreRows a b p3 rows n) (sym are.len) (rows_stay p2 p3 (grows p2 p3 g3) a b rows others are);
  needed =
      subst (λ n. AreKeeps (IsNeededOuter a.diagram b) p3 keeps (suc n)) (sym are.len) (keeps_stay p2 p3
      (grows p2 p3 g3) (IsNeededOuter a.diagram b) keeps (suc others)
      (keeps_stay p1 p2 (grows p1 p2 g2) (IsNeededOuter a.diagram b) keeps (suc others) kept));
  begins = begins;
}
