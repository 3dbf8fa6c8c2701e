-- The inner graphs: their layers are those of their plan.
use Rattle.std.proofs.Common.{◌≡◌, ℕ, ◌+◌, ◌-◌, ◌≢◌, ◌<◌, ◌≤◌, ◌==◌, ◌↔◌, zero, suc, Bool, true, false, List, [], ◌∷◌}
use Rattle.std.proofs.Common.{length, get_or, slice_get, slice_set, Some, refl, sym, ap, ◌∙◌, subst, inl, inr, arith}
use Rattle.std.proofs.lemmas.List.{length-map, length-set}
use Rattle.std.proofs.lemmas.Option.{slice_get_within, slice_get-get_or, same_Some}
use Rattle.station_graph.proofs.PositionLemmas.{slice_get-set_other}
use Rattle.contraction.proofs.MarkLemmas.{slice_get-set_same}
use Rattle.station_graph.specs.Diagram.{Diagram, part_count}
use Rattle.station_graph.specs.Connection.{Item, a_switch, a_link, a_tap}
use Rattle.station_graph.specs.Sharing.{OfPart, Touches, TouchedBy, IsShared}
use Rattle.station_graph.specs.Alike.{IsVector}
use Rattle.contraction.specs.Answers.{Answers, Keeps}
use Rattle.contraction.specs.Stands.{Among, MeetsKept}
use Rattle.contraction.proofs.ItemSets.{among_second, among_both}
use Rattle.judge_pool.specs.declared.pool.Pool.{Pool}
use Rattle.judge_pool.specs.Lettered.{Lettered}
use Rattle.judge_pool.specs.Seen.{SeenFor}
use Rattle.judge_pool.specs.Layering.{values_at, no_answers}
use Rattle.judge_pool.specs.Folding.{StandsIn}
use Rattle.judge_pool.specs.Graphs.{other_of, OfOthers, SwitchChosen, IsOwn}
use Rattle.judge_pool.specs.Plans.{Plan, inner_plan, PlanFits, CanBoth, ChosenBy, items_of, new_of, NeededBy}
use Rattle.judge_intake.specs.Ready.{IsInnerReady}
use Rattle.judge_intake.specs.Inputs.{HasPair, HasSwitch}
use Rattle.judge_pool.specs.Needing.{IsNeededOuter, IsNeededInner, InnerNeeds}
use Rattle.judge_pool.specs.Listing.{own_links, parts_before}
use Rattle.judge_pool.proofs.BridgeLemmas.{number_at}
use Rattle.judge_intake.proofs.OtherLemmas.{other_in, switches_apart}
use Rattle.judge_intake.proofs.OuterLemmas.{part_has, before_has, other_not}
use Rattle.judge_intake.proofs.MoveLemmas.{seen_moves}
use Rattle.judge_intake.proofs.InputsLemmas.{listed_base}
use Rattle.judge_intake.proofs.OuterFits.{seen_over, others_all, needed_at}

-- the links and taps of a part are of it
pub links_part : (d : Diagram) (b : ℕ) (it : Item) → Among (own_links d b) it → OfPart d b it
links_part d b it among = part_has d b it (among_second _ (own_links d b) it among)

-- a switch of the bay is of it
own_part : (d : Diagram) (b m first others i n : ℕ) → IsOwn d b m first others → first ≤ i → i < first + suc others →
    Touches d (a_switch i) n → TouchedBy (OfPart d b) d n
own_part d b m first others i n own low high t = record {
  item = a_switch i;
  among = (t.0, t.1, (own.those.those i t.0 t.1).1 (low, high));
  touches = t;
}

-- a node that the bay's switches need is touched by the bay
pub needed_own : (d : Diagram) (b m first others j n : ℕ) → IsOwn d b m first others →
    IsNeededInner d m first others j n → TouchedBy (OfPart d b) d n
needed_own d b m first others j n own (inl t) = own_part d b m first others m n own own.from own.below t
needed_own d b m first others j n own (inr (i, le, lt, t)) =
    let range = other_in first m others i lt in
    own_part d b m first others (other_of first m i) n own range.0 range.1 t

switch_number : Item → ℕ
switch_number (a_switch n) = n
switch_number (a_link n) = n
switch_number (a_tap n) = n

pub number_of : (i k : ℕ) → a_switch i ≡ a_switch k → i ≡ k
unfolding switch_number
number_of i k e = ap switch_number e

module _ (a : Lettered) (b m first others : ℕ) (p : Pool) (start : ℕ) (names : List ℕ) (letters : List (List ℕ))
    (keeps : List ℕ) (ready : IsInnerReady a b m first others p start names letters keeps) where
  abbrev plan : Plan
  plan = inner_plan p.view a b m first others (values_at p.values.items names)

  count_is : suc (part_count a.diagram - 1) ≡ part_count a.diagram
  count_is = omega (arith, ready.bay_in)

  -- ---- the letters

  name_stands : (c : ℕ) (ids : List ℕ) (v : List Bool) → slice_get letters 0 ≡ Some ids →
      StandsIn p.view (OfOthers a.diagram b) a.diagram v (values_at p.values.items names) c →
      StandsIn p.view (Among (parts_before a.diagram b (part_count a.diagram - 1))) a.diagram v
      (values_at p.values.items ids) c
  name_stands c ids v at s =
      let same : names ≡ ids = same_Some names ids (sym ready.rows.first_row ∙ at) in
      let all = others_all a b (part_count a.diagram - 1) ready.station count_is ready.bay_in in
      record {
        value = s.value;
        listed = ap (λ l. slice_get (values_at p.values.items l) c) (sym same) ∙ s.listed;
        stands =
            seen_over p.view (OfOthers a.diagram b) (Among (parts_before a.diagram b (part_count a.diagram - 1)))
            a.diagram v s.value (λ it is. (let h = all it is in (h.1, h.0))) s.stands;
      }

  switch_stands : (i c : ℕ) (ids : List ℕ) (v : List Bool) → slice_get letters (suc i) ≡ Some ids →
      SwitchChosen first m i c v →
      StandsIn p.view (Among (a_switch (other_of first m i) ∷ [])) a.diagram v (values_at p.values.items ids) c
  switch_stands i zero ids v at s =
      let h = ready.rows.pairs i ids at in
      record {
        value = h.off_has.value;
        listed = number_at p.values.items ids 0 h.off h.off_has.value (ap (λ l. slice_get l 0) h.two) h.off_has.listed;
        stands = h.off_has.stands v s.stands;
      }
  switch_stands i (suc zero) ids v at s =
      let h = ready.rows.pairs i ids at in
      record {
        value = h.on_has.value;
        listed = number_at p.values.items ids 1 h.on h.on_has.value (ap (λ l. slice_get l 1) h.two) h.on_has.listed;
        stands = h.on_has.stands v s.stands;
      }
  switch_stands i (suc (suc c)) ids v at s = absurd (omega (arith, s.small))

  letter : (j c : ℕ) (ids : List ℕ) (v : List Bool) → slice_get letters j ≡ Some ids → IsVector a.diagram v →
      ChosenBy plan j c v → StandsIn p.view (Among (new_of plan j)) a.diagram v (values_at p.values.items ids) c
  letter zero c ids v at whole chosen = name_stands c ids v at chosen
  letter (suc i) c ids v at whole chosen = switch_stands i c ids v at chosen

  -- ---- what meets

  -- a node of the bay's links that another part touches is shared
  share : (n : ℕ) → TouchedBy (Among (own_links a.diagram b)) a.diagram n →
      TouchedBy (Among (parts_before a.diagram b (part_count a.diagram - 1))) a.diagram n → IsShared a.diagram b n
  share n own others' =
      let r = before_has a.diagram b (part_count a.diagram - 1) others'.item others'.among in
      record {
        here = record { item = own.item; among = links_part a.diagram b own.item own.among; touches = own.touches };
        other = other_of 0 b r.0;
        apart = other_not b r.0;
        there = record { item = others'.item; among = r.2; touches = others'.touches };
      }

  meets_names : (x y : Answers) → ((n : ℕ) → Keeps x.kept n ↔ NeededBy plan 0 n) →
      ((n : ℕ) → Keeps y.kept n ↔ IsNeededOuter a.diagram b (part_count a.diagram - 1) n) →
      MeetsKept (Among (own_links a.diagram b)) (Among (parts_before a.diagram b (part_count a.diagram - 1)))
      a.diagram x.kept y.kept
  meets_names x y kept_x kept_y = record {
    in_first = λ n own at. elim at [
      | inl t ↦ (kept_x n).1 (inl (share n own t))
      | inr k ↦ (kept_x n).1 (inl (share n own ((kept_y n).0 k).before))
    ];
    in_second = λ n t at. (kept_y n).1 (record {
      before = t;
      after = inl (elim at [
        | inl own ↦ record { item = own.item; among = links_part a.diagram b own.item own.among; touches = own.touches }
        | inr k ↦ elim ((kept_x n).0 k) [
          | inl s ↦ s.here
          | inr need ↦ needed_own a.diagram b m first others 0 n ready.own need
        ]
      ]);
    });
  }

  meets_switch : (i : ℕ) (items : List Item) (x y : Answers) → i < others →
      ((n : ℕ) → Keeps x.kept n ↔ IsNeededInner a.diagram m first others i n) →
      ((n : ℕ) → Keeps y.kept n ↔ Touches a.diagram (a_switch (other_of first m i)) n) →
      MeetsKept (Among items) (Among (a_switch (other_of first m i) ∷ [])) a.diagram x.kept y.kept
  meets_switch i items x y lt kept_x kept_y = record {
    in_first = λ n t at. elim at [
      | inl s ↦ (kept_x n).1 (inr (i, omega arith, lt, touch n s))
      | inr k ↦ (kept_x n).1 (inr (i, omega arith, lt, (kept_y n).0 k))
    ];
    in_second = λ n s at. (kept_y n).1 (touch n s);
  }
    where
      touch : (n : ℕ) → TouchedBy (Among (a_switch (other_of first m i) ∷ [])) a.diagram n →
          Touches a.diagram (a_switch (other_of first m i)) n
      touch n s = elim s.among [ inl is ↦ subst (λ it. Touches a.diagram it n) is s.touches | inr never ↦ absurd never ]

  pair_kept : (i c : ℕ) (ids : List ℕ) (y : Answers) → slice_get letters (suc i) ≡ Some ids →
      slice_get (values_at p.values.items ids) c ≡ Some y → (n : ℕ) → Keeps y.kept n ↔
      Touches a.diagram (a_switch (other_of first m i)) n
  pair_kept i c ids y at at_y = by c (ap (λ l. slice_get (values_at p.values.items l) c) (sym h.two) ∙ at_y)
    where
      h : HasPair p a.diagram (other_of first m i) ids
      h = ready.rows.pairs i ids at

      kept_of : (id : ℕ) (closed : Bool) → (s : HasSwitch p a.diagram (other_of first m i) closed id) → (k : ℕ) →
          slice_get (values_at p.values.items (h.off ∷ h.on ∷ [])) k ≡ Some y →
          slice_get (h.off ∷ h.on ∷ []) k ≡ Some id → (n : ℕ) → Keeps y.kept n ↔
          Touches a.diagram (a_switch (other_of first m i)) n
      kept_of id closed s k at_k id_at n =
          let listed = number_at p.values.items (h.off ∷ h.on ∷ []) k id s.value id_at s.listed in
          let is : s.value ≡ y = same_Some s.value y (sym listed ∙ at_k) in
          subst (λ (z : Answers). Keeps z.kept n ↔ Touches a.diagram (a_switch (other_of first m i)) n) is (s.kept n)

      by : (k : ℕ) → slice_get (values_at p.values.items (h.off ∷ h.on ∷ [])) k ≡ Some y → (n : ℕ) → Keeps y.kept n ↔
          Touches a.diagram (a_switch (other_of first m i)) n
      by zero at_k = kept_of h.off false h.off_has 0 at_k refl
      by (suc zero) at_k = kept_of h.on true h.on_has 1 at_k refl
      by (suc (suc k)) at_k = cc

  meets : (j c : ℕ) (ids : List ℕ) (x y : Answers) → slice_get letters j ≡ Some ids →
      ((n : ℕ) → Keeps x.kept n ↔ NeededBy plan j n) → slice_get (values_at p.values.items ids) c ≡ Some y →
      MeetsKept (Among (items_of plan j)) (Among (new_of plan j)) a.diagram x.kept y.kept
  meets zero c ids x y at kept_x at_y =
      let same : ids ≡ names = same_Some ids names (sym at ∙ ready.rows.first_row) in
      meets_names x y kept_x
      (ready.named.kept c y (ap (λ l. slice_get (values_at p.values.items l) c) (sym same) ∙ at_y))
  meets (suc i) c ids x y at kept_x at_y =
      meets_switch i (items_of plan (suc i)) x y
      (omega (arith, slice_get_within letters (suc i) ids at, ready.rows.len)) kept_x (pair_kept i c ids y at at_y)

  -- ---- what can be had together

  -- the switch of a layer is not among the items before it
  not_yet : (i j n : ℕ) → i ≤ j → j < others → Among (items_of plan (suc i)) (a_switch n) → n ≢ other_of first m j
  not_yet zero j n le lt among e =
      elim ((among_both (own_links a.diagram b) (parts_before a.diagram b (part_count a.diagram - 1)) (a_switch n)).1
      among) [
        | inl link ↦ listed_base a.diagram b (a_switch n) link
        | inr part ↦
            let r = before_has a.diagram b (part_count a.diagram - 1) (a_switch n) part in
            let range = other_in first m others j lt in
            let of_b = (ready.own.those.those n r.2.0 r.2.1).1 (omega (arith, e, range.0), omega (arith, e, range.1)) in
            other_not b r.0 (sym r.2.2 ∙ of_b)
      ]
  not_yet (suc i) j n le lt among e =
      elim ((among_both (items_of plan (suc i)) (a_switch (other_of first m i) ∷ []) (a_switch n)).1 among) [
        | inl before ↦ not_yet i j n (omega (arith, le)) lt before e
        | inr last ↦ elim last [
          | inl is ↦ switches_apart first m i j (omega (arith, le)) (sym (number_of n (other_of first m i) is) ∙ e)
          | inr never ↦ never
        ]
      ]

  inner_given : (j c : ℕ) (ids : List ℕ) (x y : Answers) (v : List Bool) → slice_get letters j ≡ Some ids →
      slice_get (values_at p.values.items ids) c ≡ Some y → IsVector a.diagram v →
      SeenFor p.view (Among (items_of plan j)) a.diagram v x →
      CanBoth p.view a.diagram (Among (items_of plan j)) (Among (new_of plan j)) x y
  inner_given zero c ids x y v at at_y whole seen =
      let same : ids ≡ names = same_Some ids names (sym at ∙ ready.rows.first_row) in
      let (u, whole_u, seen_u) =
      ready.named.views.made c y (ap (λ l. slice_get (values_at p.values.items l) c) (sym same) ∙ at_y) in
      let all = others_all a b (part_count a.diagram - 1) ready.station count_is ready.bay_in in
      record {
        vector = u;
        whole = whole_u;
        first =
            seen_moves p.view (Among (own_links a.diagram b)) a.diagram v u
            (λ k among. absurd (listed_base a.diagram b (a_switch k) among)) x seen;
        second =
            seen_over p.view (OfOthers a.diagram b) (Among (parts_before a.diagram b (part_count a.diagram - 1)))
            a.diagram u y (λ it is. (let h = all it is in (h.1, h.0))) seen_u;
      }
  inner_given (suc i) c ids x y v at at_y whole seen =
      let n = other_of first m i in
      let lt : i < others = omega (arith, slice_get_within letters (suc i) ids at, ready.rows.len) in
      let c_in : c < 2 = omega (
        arith,
        slice_get_within (values_at p.values.items ids) c y at_y,
        length-map ids (λ k. get_or p.values.items k no_answers),
        ap length (ready.rows.pairs i ids at).two,
      ) in
      let n_in : n < length v = omega (arith, (other_in first m others i lt).1, ready.own.those.within, whole) in
      let w : List Bool = slice_set v n (c == 1) in
      let s = switch_stands i c ids w at (record { small = c_in; stands = slice_get-set_same v n (c == 1) n_in }) in
      let is : s.value ≡ y = same_Some s.value y (sym s.listed ∙ at_y) in
      record {
        vector = w;
        whole = length-set v n (c == 1) ∙ whole;
        first =
            seen_moves p.view (Among (items_of plan (suc i))) a.diagram v w
            (λ k among. sym (slice_get-set_other v n k (c == 1) (not_yet i i k (omega arith) lt among))) x seen;
        second = subst (λ z. SeenFor p.view (Among (a_switch n ∷ [])) a.diagram w z) is s.stands;
      }

  inner_cover : (j : ℕ) (ids : List ℕ) (v : List Bool) → slice_get letters j ≡ Some ids → IsVector a.diagram v →
      (c : ℕ) × StandsIn p.view (Among (new_of plan j)) a.diagram v (values_at p.values.items ids) c
  inner_cover zero ids v at whole = let (c, s) = ready.named.views.cover v whole in (c, name_stands c ids v at s)
  inner_cover (suc i) ids v at whole =
      let n = other_of first m i in
      let lt : i < others = omega (arith, slice_get_within letters (suc i) ids at, ready.rows.len) in
      by (get_or v n false)
      (slice_get-get_or v n false (omega (arith, (other_in first m others i lt).1, ready.own.those.within, whole)))
    where
      by : (closed : Bool) → slice_get v (other_of first m i) ≡ Some closed →
          (c : ℕ)
          × StandsIn p.view (Among (a_switch (other_of first m i) ∷ [])) a.diagram v (values_at p.values.items ids) c
      by false is = (0, switch_stands i 0 ids v at (record { small = omega arith; stands = is }))
      by true is = (1, switch_stands i 1 ids v at (record { small = omega arith; stands = is }))

  pub inner_fits : PlanFits (inner_plan p.view a b m first others (values_at p.values.items names)) p start
      letters keeps
  inner_fits = record {
    start_stands =
        λ x v at whole. subst (λ z. SeenFor p.view (Among (own_links a.diagram b)) a.diagram v z)
        (same_Some ready.begins.value x (sym ready.begins.listed ∙ at)) (ready.begins.stands v);
    needed =
        λ j k nodes at_k at_nodes n. needed_at (InnerNeeds a.diagram b m first others j) p k nodes
        (ready.needed.each j k at_k) at_nodes n;
    letter = letter;
    meets = meets;
    given = inner_given;
    cover = inner_cover;
  }
