-- The inner graphs: what their layers take in is linked, and their labels say what holds of the switch.
use Rattle.std.proofs.Common.{◌≡◌, ◌≢◌, ℕ, ◌-◌, ◌<◌, ◌≤◌, ◌⊎◌, ◌↔◌, zero, suc, Bool, true, false, List, [], ◌∷◌, ◌++◌}
use Rattle.std.proofs.Common.{length, map, get_or, slice_get, Some, Vec, Global, refl, sym, ap, ◌∙◌, subst, inl, inr}
use Rattle.std.proofs.Common.{arith}
use Rattle.std.specs.Prelude.{Contains}
use Rattle.std.proofs.lemmas.Bool.{cases_eq}
use Rattle.std.proofs.lemmas.Option.{slice_get_within, slice_get-get_or, slice_get_cases, same_Some}
use Rattle.station_graph.specs.declared.items.Switch.{Switch}
use Rattle.station_graph.specs.Diagram.{Diagram, IsStation, part_count}
use Rattle.station_graph.specs.Connection.{Item, a_switch, a_link, a_tap}
use Rattle.station_graph.specs.Sharing.{OfPart}
use Rattle.station_graph.specs.Alike.{IsVector}
use Rattle.contraction.specs.Answers.{Answers, Keeps}
use Rattle.contraction.specs.Stands.{Among, AllBut, IsItem}
use Rattle.contraction.proofs.ItemSets.{among_first, among_second, among_both}
use Rattle.part_alphabets.specs.Layers.{IsBase}
use Rattle.decision_graphs.specs.Label.{Layer, Layered, layer_at, no_layer, label_of, AreChoices, AreLayers}
use Rattle.judge_pool.specs.declared.view.View.{View}
use Rattle.judge_pool.specs.declared.pool.Pool.{Pool}
use Rattle.judge_pool.specs.Lettered.{Lettered}
use Rattle.part_alphabets.specs.Counting.{AreSoMany}
use Rattle.judge_pool.specs.Seen.{SameView}
use Rattle.judge_pool.specs.Counted.{InnerIsSmall}
use Rattle.judge_pool.specs.Folding.{StandsIn, AreChosen, IsExact}
use Rattle.judge_pool.specs.Graphs.{other_of, OfOthers, SwitchChosen, IsOwn, IsInner, LabelSays}
use Rattle.judge_pool.specs.Listing.{own_links, parts_before}
use Rattle.judge_pool.specs.Needing.{IsNeededInner, InnerNeeds}
use Rattle.judge_intake.specs.Coding.{AreCodes, KeepsEnds}
use Rattle.judge_intake.specs.Inputs.{HasPair, HasSwitch, AreKeeps, AreOtherRows, IsBayIntake}
use Rattle.judge_intake.specs.declared.own.BayIntake.{BayIntake}
use Rattle.judge_pool.specs.Plans.{Plan, inner_plan, ChosenBy, items_of, NeededBy, AreLinked}
use Rattle.judge_intake.specs.Ready.{IsInnerReady}
use Rattle.judge_intake.proofs.OtherLemmas.{own_place, switch_not}
use Rattle.judge_graphs.proofs.InnerFits.{number_of}
use Rattle.judge_graphs.proofs.InnerEdges.{before_items}
use Rattle.judge_intake.proofs.OuterFits.{seen_over, others_all, needed_at}
use Rattle.judge_pool.proofs.LayeringLemmas.{Grows}
use Rattle.judge_intake.proofs.InputsLemmas.{base_listed, listed_base, bay_intake_stays, inner_rows_of}
use Rattle.judge_intake.proofs.NodesLemmas.{bay_inner}
use Rattle.judge_pool.proofs.ChoiceLemmas.{choices_each, same_choices, same_count}

-- ---- what the layers take in

less_needed : (d : Diagram) (b m first others j n : ℕ) → InnerNeeds d b m first others (suc j) n →
    InnerNeeds d b m first others j n
less_needed d b m first others zero n h = inr h
less_needed d b m first others (suc j) n (inl t) = inl t
less_needed d b m first others (suc j) n (inr (i, le, lt, t)) = inr (i, omega (arith, le), lt, t)

module _ (a : Lettered) (b m first others : ℕ) (p : Pool) (start : ℕ) (names : List ℕ) (letters : List (List ℕ))
    (keeps : List ℕ) (ready : IsInnerReady a b m first others p start names letters keeps) where
  pair_id : (i c k : ℕ) (ids : List ℕ) → slice_get letters (suc i) ≡ Some ids → slice_get ids c ≡ Some k →
      k < length p.values.items
  pair_id i c k ids at at_c = by c (ap (λ l. slice_get l c) (sym h.two) ∙ at_c)
    where
      h : HasPair p a.diagram (other_of first m i) ids
      h = ready.rows.pairs i ids at

      of_value : (id : ℕ) (closed : Bool) → HasSwitch p a.diagram (other_of first m i) closed id → id ≡ k →
          k < length p.values.items
      of_value id closed s e =
          subst (λ n. n < length p.values.items) e (slice_get_within p.values.items id s.value s.listed)

      by : (c' : ℕ) → slice_get (h.off ∷ h.on ∷ []) c' ≡ Some k → k < length p.values.items
      by zero e = of_value h.off false h.off_has (same_Some h.off k e)
      by (suc zero) e = of_value h.on true h.on_has (same_Some h.on k e)
      by (suc (suc c')) e = cc

  letter_id : (j c i : ℕ) (ids : List ℕ) → slice_get letters j ≡ Some ids → slice_get ids c ≡ Some i →
      i < length p.values.items
  letter_id zero c i ids at at_c =
      let same : ids ≡ names = same_Some ids names (sym at ∙ ready.rows.first_row) in
      ready.named.within c i (ap (λ l. slice_get l c) (sym same) ∙ at_c)
  letter_id (suc j) c i ids at at_c = pair_id j c i ids at at_c

  some_letter : (j : ℕ) (ids : List ℕ) → slice_get letters j ≡ Some ids → 0 < length ids
  some_letter zero ids at =
      let same : names ≡ ids = same_Some names ids (sym ready.rows.first_row ∙ at) in
      subst (λ l. 0 < length l) same ready.named.some
  some_letter (suc i) ids at = omega (arith, ap length (ready.rows.pairs i ids at).two)

  chained : (j k h c i : ℕ) (ids nodes after : List ℕ) (y : Answers) → slice_get letters j ≡ Some ids →
      slice_get keeps j ≡ Some k → slice_get keeps (suc j) ≡ Some h → slice_get p.keeps.items k ≡ Some nodes →
      slice_get p.keeps.items h ≡ Some after → slice_get ids c ≡ Some i → slice_get p.values.items i ≡ Some y →
      (n : ℕ) → Contains after n → Contains nodes n ⊎ Keeps y.kept n
  chained j k h c i ids nodes after y at_j at_k at_h at_nodes at_after at_c at_y n n_in =
      let need = (needed_at (InnerNeeds a.diagram b m first others (suc j)) p h after (ready.needed.each (suc j) h at_h)
      at_after n).0 n_in in
      inl ((needed_at (InnerNeeds a.diagram b m first others j) p k nodes (ready.needed.each j k at_k) at_nodes n).1
      (less_needed a.diagram b m first others j n need))

  pub inner_linked : AreLinked p start letters keeps
  inner_linked = record {
    start_in = slice_get_within p.values.items start ready.begins.value ready.begins.listed;
    count = ready.needed.len ∙ ap suc (sym ready.rows.len);
    keeps_in = λ j k at. (let h = ready.needed.each j k at in slice_get_within p.keeps.items k h.nodes h.listed);
    letters_in = letter_id;
    some = some_letter;
    start_kept = λ x k nodes at at_k at_nodes n.
        let is : ready.begins.value ≡ x = same_Some ready.begins.value x (sym ready.begins.listed ∙ at) in
        let kept = subst (λ (z : Answers). Keeps z.kept n ↔ InnerNeeds a.diagram b m first others 0 n) is
        (ready.begins.kept n) in
        let exact = needed_at (InnerNeeds a.diagram b m first others 0) p k nodes (ready.needed.each 0 k at_k)
        at_nodes n in
        (λ h. exact.1 (kept.0 h), λ h. kept.1 (exact.0 h));
    chain = chained;
  }

-- ---- the items of all layers

module _ (view : View) (a : Lettered) (b m first others : ℕ) (names : List Answers) (station : IsStation a.diagram)
    (own : IsOwn a.diagram b m first others) (b_in : b < part_count a.diagram) where
  abbrev plan : Plan
  plan = inner_plan view a b m first others names

  count_is : suc (part_count a.diagram - 1) ≡ part_count a.diagram
  count_is = omega (arith, b_in)

  moved_part : OfPart a.diagram b (a_switch m)
  moved_part = elim ((slice_get_cases a.diagram.switches m).1) [
    | inl w ↦ (w.0, w.2, (own.those.those m w.0 w.2).1 (own.from, own.below))
    | inr w ↦ absurd (omega (arith, w.0, own.below, own.those.within))
  ]

  -- none of them is the switch
  no_link : (it : Item) → IsBase a.diagram b it → it ≢ a_switch m
  no_link (a_switch i) h e = h
  no_link (a_link i) h e = cc
  no_link (a_tap i) h e = cc

  no_other : (it : Item) → OfOthers a.diagram b it → it ≢ a_switch m
  no_other it o e =
      let x = subst (λ i. OfPart a.diagram o.part i) e o.of_part in
      let same : x.0 ≡ moved_part.0 = same_Some x.0 moved_part.0 (sym x.1 ∙ moved_part.1) in
      o.apart (sym x.2 ∙ (ap (λ (s : Switch). s.bay.0) same ∙ moved_part.2))

  all_no : (j : ℕ) (it : Item) → IsItem a.diagram it → Among (items_of plan (suc j)) it → it ≢ a_switch m
  all_no zero it is h =
      elim ((among_both (own_links a.diagram b) (parts_before a.diagram b (part_count a.diagram - 1)) it).1 h) [
        | inl l ↦ no_link it (listed_base a.diagram b it l)
        | inr o ↦ no_other it ((others_all a b (part_count a.diagram - 1) station count_is b_in it is).0 o)
      ]
  all_no (suc j) it is h = elim ((among_both (items_of plan (suc j)) (a_switch (other_of first m j) ∷ []) it).1 h) [
    | inl before ↦ all_no j it is before
    | inr last ↦ elim last [
      | inl e ↦ (λ e'. switch_not first m j (number_of (other_of first m j) m (sym e ∙ e')))
      | inr never ↦ absurd never
    ]
  ]

  -- and each item but the switch is one of them
  early : (j : ℕ) (it : Item) →
      Among (own_links a.diagram b ++ parts_before a.diagram b (part_count a.diagram - 1)) it →
      Among (items_of plan (suc j)) it
  early zero it h = h
  early (suc j) it h = among_first (items_of plan (suc j)) (a_switch (other_of first m j) ∷ []) it (early j it h)

  late : (j i : ℕ) → i < j → Among (items_of plan (suc j)) (a_switch (other_of first m i))
  late zero i lt = absurd (omega (arith, lt))
  late (suc j) i lt = elim (cases_eq i j) [
    | inl e ↦
        among_second (items_of plan (suc j)) (a_switch (other_of first m j) ∷ []) (a_switch (other_of first m i))
        (inl (ap (λ k. a_switch (other_of first m k)) e))
    | inr ne ↦
        among_first (items_of plan (suc j)) (a_switch (other_of first m j) ∷ []) (a_switch (other_of first m i))
        (late j i (omega (arith, lt, ne)))
  ]

  of_some_part : (it : Item) → IsItem a.diagram it → (p : ℕ) × OfPart a.diagram p it
  of_some_part (a_switch i) is = elim ((slice_get_cases a.diagram.switches i).1) [
    | inl w ↦ (w.0.bay.0, (w.0, w.2, refl))
    | inr w ↦ absurd (omega (arith, w.0, is))
  ]
  of_some_part (a_link i) is = elim ((slice_get_cases a.diagram.links i).1) [
    | inl w ↦ (w.0.part.0, (w.0, w.2, refl))
    | inr w ↦ absurd (omega (arith, w.0, is))
  ]
  of_some_part (a_tap i) is = elim ((slice_get_cases a.diagram.taps i).1) [
    | inl w ↦ (w.0.part.0, (w.0, w.2, refl))
    | inr w ↦ absurd (omega (arith, w.0, is))
  ]

  own_item : (it : Item) → OfPart a.diagram b it → it ≢ a_switch m → Among (items_of plan (suc others)) it
  own_item (a_switch i) (x, at, of_b) ne =
      let range = (own.those.those i x at).0 of_b in
      let k = own_place first m others i own.from own.below range.0 range.1 (λ e. ne (ap a_switch e)) in
      subst (λ n. Among (items_of plan (suc others)) (a_switch n)) k.2 (late others k.0 k.1)
  own_item (a_link i) of_b ne =
      early others (a_link i) (among_first (own_links a.diagram b) (parts_before a.diagram b (part_count a.diagram - 1))
      (a_link i) (base_listed a.diagram b (a_link i) of_b))
  own_item (a_tap i) of_b ne =
      early others (a_tap i) (among_first (own_links a.diagram b) (parts_before a.diagram b (part_count a.diagram - 1))
      (a_tap i) (base_listed a.diagram b (a_tap i) of_b))

  all_yes : (it : Item) → IsItem a.diagram it → it ≢ a_switch m → Among (items_of plan (suc others)) it
  all_yes it is ne =
      let o = of_some_part it is in
      elim (cases_eq o.0 b) [
        | inl e ↦ own_item it (subst (λ p. OfPart a.diagram p it) e o.1) ne
        | inr apart ↦
            early others it (among_second (own_links a.diagram b) (parts_before a.diagram b (part_count a.diagram - 1))
            it ((others_all a b (part_count a.diagram - 1) station count_is b_in it is).1
            (record { part = o.0; apart = apart; of_part = o.1 })))
      ]

  pub all_but : (it : Item) → IsItem a.diagram it → Among (items_of plan (suc others)) it ↔ AllBut (a_switch m) it
  all_but it is = (λ h. all_no others it is h, λ ne. all_yes it is ne)

  -- ---- what the labels say

  -- a name and positions as choices of all layers
  chosen_all : (v : List Bool) (name : ℕ) (ds : List ℕ) → StandsIn view (OfOthers a.diagram b) a.diagram v names name →
      AreChosen (SwitchChosen first m) v ds → AreChosen (ChosenBy plan) v (name ∷ ds)
  chosen_all v name ds s own' zero c at =
      subst (λ k. StandsIn view (OfOthers a.diagram b) a.diagram v names k) (same_Some name c at) s
  chosen_all v name ds s own' (suc i) c at = own' i c at

  module _ (g h : Layered) (states : List Answers) (codes : List ℕ)
      (exact : IsExact view a.diagram (ChosenBy plan) (items_of plan) (NeededBy plan) (suc others) g.layers states)
      (are : AreCodes view a.diagram m states codes) (first_choices : (layer_at g.layers 0).choices ≡ length names)
      (choices : (i : ℕ) → i < others → (layer_at g.layers (suc i)).choices ≡ 2)
      (same : map (λ (l : Layer). l.choices) h.layers ≡ map (λ (l : Layer). l.choices) g.layers)
      (label : (cs : List ℕ) → AreChoices g.layers cs → label_of h cs ≡ get_or codes (label_of g cs) 0)
      (fits : AreLayers h.labels h.layers) where
    len : length h.layers ≡ suc others
    len = same_count g.layers h.layers same ∙ exact.count

    in_range : (v : List Bool) (cs : List ℕ) → length cs ≡ suc others → AreChosen (ChosenBy plan) v cs → (j c : ℕ) →
        slice_get cs j ≡ Some c → c < (layer_at g.layers j).choices
    in_range v cs count chosen zero c at =
        (let s = chosen 0 c at in omega (arith, slice_get_within names c s.value s.listed, first_choices))
    in_range v cs count chosen (suc i) c at =
        (let s = chosen (suc i) c at in
        omega (arith, s.small, choices i (omega (arith, slice_get_within cs (suc i) c at, count))))

    says : (v : List Bool) (name : ℕ) (ds : List ℕ) → IsVector a.diagram v →
        StandsIn view (OfOthers a.diagram b) a.diagram v names name → length ds ≡ others →
        AreChosen (SwitchChosen first m) v ds → LabelSays view a.diagram m v (label_of h (name ∷ ds))
    says v name ds whole s count own' =
        let cs : List ℕ = name ∷ ds in
        let chosen = chosen_all v name ds s own' in
        let cs_len : length (name ∷ ds) ≡ suc others = ap suc count in
        let all = choices_each g.layers (name ∷ ds) (cs_len ∙ sym exact.count) (in_range v (name ∷ ds) cs_len chosen) in
        let stands = exact.stands v (name ∷ ds) whole cs_len chosen in
        let over = seen_over view (Among (items_of plan (suc others))) (AllBut (a_switch m)) a.diagram v stands.value
        all_but stands.stands in
        subst (λ l. LabelSays view a.diagram m v l) (sym (label (name ∷ ds) all))
        (are.each (label_of g (name ∷ ds)) stands.value stands.listed v whole over)

    pub inner_says : IsInner view a b m first others names h
    inner_says = record {
      fits = fits;
      count = len;
      outer = same_choices g.layers h.layers same 0 ∙ first_choices;
      choices = λ i lt. same_choices g.layers h.layers same (suc i) ∙ choices i lt;
      says = says;
    }

-- no layer behind the first has more nodes than there are distinct views
pub inner_small : (view : View) (a : Lettered) (b m first others : ℕ) (names : List Answers) (ls : List Layer)
    (states : List Answers) (g h k : Layered) →
    IsExact view a.diagram (ChosenBy (inner_plan view a b m first others names))
    (items_of (inner_plan view a b m first others names)) (NeededBy (inner_plan view a b m first others names))
    (suc others) ls states → g.layers ≡ ls →
    ((j : ℕ) → length (layer_at h.layers j).rows ≡ length (layer_at g.layers j).rows) →
    ((j : ℕ) → length (layer_at k.layers j).rows ≤ length (layer_at h.layers j).rows) →
    InnerIsSmall view a.diagram b m first others k
inner_small view a b m first others names ls states g h k exact same renamed reduced i lt =
    let at : slice_get g.layers (suc i) ≡ Some (layer_at g.layers (suc i)) =
    slice_get-get_or g.layers (suc i) no_layer (omega (arith, lt, ap length same, exact.count)) in
    let counted = exact.counted (suc i) (layer_at g.layers (suc i)) (ap (λ xs. slice_get xs (suc i)) (sym same) ∙ at) in
    record {
      count = length (layer_at g.layers (suc i)).rows;
      counted =
          subst (λ xs. AreSoMany a.diagram
          (λ v w. SameView view (IsNeededInner a.diagram m first others i) (Among xs) a.diagram v w)
          (length (layer_at g.layers (suc i)).rows)) (before_items view a b m first others names i) counted;
      few = omega (arith, reduced (suc i), renamed (suc i));
    }

-- the last values keep the ends of the switch
pub ends_kept : (d : Diagram) (m first others : ℕ) (x : Answers) →
    ((n : ℕ) → Keeps x.kept n ↔ IsNeededInner d m first others others n) → KeepsEnds d m x
ends_kept d m first others x kept s at = record {
  first = (kept s.first.0).1 (inl (s, at, inl refl));
  second = λ n has. (kept n.0).1 (inl (s, at, inr (n, has, refl)));
}

-- what the layers of an inner graph take in, from what those of all the bay's switches take in
pub inner_ready : (a : Lettered) (b m first others : ℕ) (p q : Pool) (i : BayIntake) (rows : List (List ℕ))
    (keeps : List ℕ) → IsStation a.diagram → b < part_count a.diagram → IsOwn a.diagram b m first others → Grows p q →
    IsBayIntake p a.diagram b first (suc others) i →
    AreKeeps (InnerNeeds a.diagram b m first others) q keeps (suc (suc others)) →
    AreOtherRows (m - first) (map (λ v. v.items) i.pairs.items) rows others →
    IsInnerReady a b m first others q i.start i.names.items (i.names.items ∷ rows) keeps
inner_ready a b m first others p q i rows keeps station b_in own g intake kept others_are =
    let h = bay_intake_stays p q g a.diagram b first (suc others) i intake in
    let needs = bay_inner a.diagram b m first others own in
    record {
      station = station;
      bay_in = b_in;
      own = own;
      named = h.named;
      rows =
          inner_rows_of a.diagram m first q i.names.items (map (λ (v : Vec ℕ Global). v.items) i.pairs.items) rows
          others own.from h.pairs others_are;
      needed = kept;
      begins = record {
        value = h.links.value;
        listed = h.links.listed;
        kept = λ n. (λ k. (needs n).0 ((h.links.kept n).0 k), λ k. (h.links.kept n).1 ((needs n).1 k));
        stands = h.links.stands;
      };
    }
