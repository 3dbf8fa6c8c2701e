-- How the states and letters of a layer lie on other nodes.
use Rattle.std.proofs.Common.{◌≡◌, ℕ, ◌<◌, ◌⊎◌, ◌↔◌, List, map, length, get_or, slice_get, slice_index, Some, sym}
use Rattle.std.proofs.Common.{ap, ◌∙◌, subst, inl, inr, arith}
use Rattle.std.specs.Prelude.{Contains, Result, IfOk}
use Rattle.std.proofs.lemmas.Bool.{cases_eq, cases_lt}
use Rattle.std.proofs.lemmas.Result.{IfOk-weaker}
use Rattle.std.proofs.lemmas.Option.{slice_get_within, slice_get-get_or, get_or_from_slice_get, same_Some}
use Rattle.station_graph.specs.Nodes.{Rises}
use Rattle.contraction.specs.Answers.{Answers, Keeps, AreNodes}
use Rattle.contraction.specs.Renaming.{renamed, mapped}
use Rattle.contraction.specs.Selecting.{Selected, ArePlaced}
use Rattle.contraction.proofs.MappedLemmas.{map_self, mapped_self}
use Rattle.contraction.proofs.MergeLemmas.{few_nodes}
use Rattle.contraction.proofs.PlaceLemmas.{keeps_from_has, has_from_keeps}
use Rattle.contraction.proofs.RisingLemmas.{rising_equal}
use Rattle.judge_pool.specs.declared.lying.Lying.{Lying}
use Rattle.judge_pool.specs.declared.pool.Pool.{Pool}
use Rattle.judge_pool.specs.Layering.{no_answers}
use Rattle.judge_pool.specs.Lying.{AreMapped, AllKeepAs, LettersReach, StatesFit, IsLying}
use Rattle.judge_pool.specs.Places.{node_listed}
use Rattle.judge_pool.specs.Shapes.{SameAs}
use Rattle.judge_pool.specs.Standing.{IsOn, AreOn, CanStand}
use Rattle.judge_pool.proofs.AsLemmas.{as_own, mapped_as}
use Rattle.judge_pool.proofs.LayeringLemmas.{Grows, value_in, value_was}
use Rattle.judge_pool.proofs.NodeLemmas.{places_rise}
use Rattle.judge_pool.proofs.ShapeLemmas.{all_nodes, first_at, second_at, kept_at, kept_nodes, kept_are}

-- ---- what can stand

-- places of nodes that rise are nodes themselves
pub places_well : (all places nodes : List ℕ) → AreNodes all → AreNodes nodes → length places ≡ length nodes →
    ((k : ℕ) → k < length nodes → slice_index places k < length all) →
    ((k : ℕ) → k < length nodes → slice_index all (slice_index places k) ≡ slice_index nodes k) → AreNodes places
places_well all places nodes all_well well len within stands = record {
  rises = λ j k less k_in.
      let k_at : k < length nodes = omega (arith, k_in, len) in
      let j_at : j < length nodes = omega (arith, less, k_at) in
      let a : ℕ = slice_index places j in
      let b : ℕ = slice_index places k in
      let up = well.rises j k less k_at in
      let at_a = stands j j_at in
      let at_b = stands k k_at in
      elim (cases_lt a b) [
        | inl below ↦ below
        | inr more ↦ elim (cases_eq a b) [
          | inl e ↦ absurd (omega (arith, up, at_a, at_b, ap (slice_index all) e))
          | inr ne ↦
              let down = all_well.rises b a (omega (arith, more, ne)) (within j j_at) in
              absurd (omega (arith, up, at_a, at_b, down))
        ]
      ];
  small = λ k k_in. omega (arith, within k (omega (arith, k_in, len)), few_nodes all all_well);
}

pub fits_on : (p q : Pool) → Grows p q → (keep i : ℕ) (nodes kept : List ℕ) →
    slice_get q.keeps.items keep ≡ Some nodes → AreNodes nodes → length nodes ≡ length kept →
    (x : Answers) × (slice_get p.values.items i ≡ Some x) × (length kept ≡ length x.kept) → CanStand q keep i
fits_on p q g keep i nodes kept at are len (x, at_x, count) = record {
  x = x;
  nodes = nodes;
  listed = g.values i x at_x;
  at = at;
  are = are;
  count = len ∙ count;
}

-- letters that all keep the same nodes fit on as many
pub letters_fit : (p : Pool) (row second : List ℕ) →
    ((c i : ℕ) → slice_get row c ≡ Some i → i < length p.values.items) → AllKeepAs p.values.items row second →
    StatesFit p row second
letters_fit p row second row_in keep c i at =
    let values = p.values.items in
    let x : Answers = get_or values i no_answers in
    let at_x = slice_get-get_or values i no_answers (row_in c i at) in
    (x, at_x, ap length (sym (keep c i x at at_x)))

-- ---- what stands

module _ (p : Pool) (keep : ℕ) (ids ts : List ℕ) (on : AreOn p keep ids ts) (nodes : List ℕ)
    (at_nodes : slice_get p.keeps.items keep ≡ Some nodes) where
  -- the value that one of them is on these nodes
  stands_for : (k t : ℕ) → slice_get ts k ≡ Some t → (i : ℕ) × (slice_get ids k ≡ Some i) × IsOn p keep i t
  stands_for k t at =
      let i : ℕ = get_or ids k 0 in
      let at_i = slice_get-get_or ids k 0 (omega (arith, slice_get_within ts k t at, on.len)) in
      (i, at_i, on.each k i t at_i at)

  pub on_keeps : (k t : ℕ) (y : Answers) → slice_get ts k ≡ Some t → slice_get p.values.items t ≡ Some y →
      y.kept ≡ nodes
  on_keeps k t y at at_y =
      let (i, at_i, h) = stands_for k t at in
      let is : h.y ≡ y = same_Some h.y y (sym h.second ∙ at_y) in
      let there : h.nodes ≡ nodes = same_Some h.nodes nodes (sym h.at ∙ at_nodes) in
      ap (λ (a : Answers). a.kept) (sym is) ∙ (sym h.same.kept ∙ there)

  as_on_nodes : (i t : ℕ) (x y : Answers) → IsOn p keep i t → slice_get p.values.items i ≡ Some x →
      slice_get p.values.items t ≡ Some y → SameAs p.view (renamed nodes x) y
  as_on_nodes i t x y h at_x at_y =
      let one : h.x ≡ x = same_Some h.x x (sym h.first ∙ at_x) in
      let two : h.y ≡ y = same_Some h.y y (sym h.second ∙ at_y) in
      let there : h.nodes ≡ nodes = same_Some h.nodes nodes (sym h.at ∙ at_nodes) in
      subst (λ b. SameAs p.view (renamed nodes x) b) two
      (subst (λ a. SameAs p.view (renamed nodes a) h.y) one
      (subst (λ (ns : List ℕ). SameAs p.view (renamed ns h.x) h.y) there h.same))

  pub mapped_on : (to : ℕ → ℕ) (On : Answers → Answers) →
      ((k i : ℕ) (x : Answers) → slice_get ids k ≡ Some i → slice_get p.values.items i ≡ Some x →
      On x ≡ mapped to (renamed nodes x)) → AreMapped p to On ids ts
  mapped_on to On is = record {
    len = on.len;
    listed = λ k t at.
        let (i, at_i, h) = stands_for k t at in
        slice_get_within p.values.items t h.y h.second;
    same = λ k i t x y at_i at_t at_x at_y.
        subst (λ a. SameAs p.view a (mapped to y)) (sym (is k i x at_i at_x))
        (mapped_as to p.view (renamed nodes x) y (as_on_nodes i t x y (on.each k i t at_i at_t) at_x at_y));
  }

-- ---- what comes behind

pub behind_at : (to : ℕ → ℕ) (after kept : List ℕ) → Rises after → map to after ≡ kept → (ns : List ℕ) → Rises ns →
    ((n : ℕ) → Keeps ns n ↔ Contains after n) → map to ns ≡ kept
behind_at to after kept rises e ns ns_rise same =
    ap (map to) (rising_equal ns after ns_rise rises
    (λ n. (λ k. keeps_from_has after n ((same n).0 k), λ k. (same n).1 (has_from_keeps after n k)))) ∙ e

-- a place that is asked for is one of the nodes of the first or of the second list
pub place_in_either : (s : Selected) → ArePlaced s → (n : ℕ) → Contains s.places n →
    Keeps s.first_places n ⊎ Keeps s.second_places n
place_in_either s placed n has =
    let k = keeps_from_has s.places n has in
    let k_in = slice_get_within s.places k.place n k.at in
    let is = get_or_from_slice_get s.places k.place n 0 k.at in
    let n_in : n < length s.all = omega (arith, placed.asked.below k.place k_in, is) in
    elim (placed.merged.comes n n_in) [
      | inl (i, i_in, e) ↦ inl (record {
        place = i;
        at = slice_get-get_or s.first_places i 0 i_in ∙ ap Some e;
      })
      | inr (i, i_in, e) ↦ inr (record {
        place = i;
        at = slice_get-get_or s.second_places i 0 i_in ∙ ap Some e;
      })
    ]

keeps_there : (xs ys : List ℕ) → xs ≡ ys → (n : ℕ) → Keeps xs n → Keeps ys n
keeps_there xs ys e n k = subst (λ l. Keeps l n) e k

-- ---- a layer that lies in places

module _ (s : Selected) (placed : ArePlaced s) (first_well : AreNodes s.first) (second_well : AreNodes s.second)
    (inside : (n : ℕ) → Contains s.nodes n → Keeps s.first n ⊎ Keeps s.second n) where
  the_all : AreNodes s.all
  the_all = all_nodes s placed first_well second_well inside

  pub first_places_well : AreNodes s.first_places
  first_places_well =
      let m = placed.merged in
      places_well s.all s.first_places s.first the_all first_well m.first_len m.first_inside m.first_stands

  pub second_places_well : AreNodes s.second_places
  second_places_well =
      let m = placed.merged in
      places_well s.all s.second_places s.second the_all second_well m.second_len m.second_inside m.second_stands

  pub in_places : (p q : Pool) → Grows p q → (states row : List ℕ) (l : Lying) (first second : ℕ) →
      AllKeepAs p.values.items row s.second →
      ((c i : ℕ) → slice_get row c ≡ Some i → i < length p.values.items) →
      slice_get q.keeps.items first ≡ Some s.first_places → slice_get q.keeps.items second ≡ Some s.second_places →
      slice_get q.keeps.items l.keep ≡ Some s.places → AreOn q first states l.states.items →
      AreOn q second row l.letters.items → l.kept.items ≡ s.kept → IsLying q states s.first row s.nodes l
  in_places p q g states row l first second letters row_in at_first at_second at_keep on_first on_second is =
      let to : ℕ → ℕ = node_listed s.all in
      let at_kept = kept_at s placed first_well second_well inside in
      let kept_is = kept_are s placed first_well second_well inside in
      record {
        to = to;
        order = places_rise s.all the_all;
        states_lie =
            mapped_on q first states l.states.items on_first s.first_places at_first to (renamed s.first)
            (λ k i x at_i at_x.
            ap (λ (ns : List ℕ). renamed ns x) (sym (first_at s placed first_well second_well inside)));
        letters_lie =
            mapped_on q second row l.letters.items on_second s.second_places at_second to (λ x. x)
            (λ k i x at_i at_x.
            let was = value_was p q i x g (row_in k i at_i) at_x in
            ap (λ (ns : List ℕ). renamed ns x)
            (letters k i x at_i was ∙ sym (second_at s placed first_well second_well inside)));
        after = s.places;
        at_after = at_keep;
        either = λ t c t_in c_in k m at_t at_c x y nodes at_x at_y at_nodes n has.
            let same : nodes ≡ s.places = same_Some nodes s.places (sym at_nodes ∙ at_keep) in
            let one = on_keeps q first states l.states.items on_first s.first_places at_first k t x at_t at_x in
            let two = on_keeps q second row l.letters.items on_second s.second_places at_second m c y at_c at_y in
            elim (place_in_either s placed n (subst (λ (ns : List ℕ). Contains ns n) same has)) [
              | inl a ↦ inl (keeps_there s.first_places x.kept (sym one) n a)
              | inr b ↦ inr (keeps_there s.second_places y.kept (sym two) n b)
            ];
        behind = λ ns rises same.
            behind_at to s.places l.kept.items placed.asked.rises (at_kept ∙ sym is) ns rises same;
        are = subst AreNodes (sym is) (kept_nodes s placed first_well second_well inside);
        kept_is = λ n. (
          λ k. (kept_is n).0 (keeps_there l.kept.items s.kept is n k),
          λ has. keeps_there s.kept l.kept.items (sym is) n ((kept_is n).1 has),
        );
      }

  -- ---- a layer on its own nodes

  pub on_nodes : (p q : Pool) → Grows p q → (states row : List ℕ) (l : Lying) (first : ℕ) →
      ((c i : ℕ) → slice_get row c ≡ Some i → i < length p.values.items) →
      LettersReach p row s.first s.nodes → slice_get q.keeps.items first ≡ Some s.first →
      slice_get q.keeps.items l.keep ≡ Some s.nodes → AreOn q first states l.states.items →
      l.letters.items ≡ row → l.kept.items ≡ s.kept → IsLying q states s.first row s.nodes l
  on_nodes p q g states row l first row_in reach at_first at_keep on_first is_row is =
      let kept_is = kept_are s placed first_well second_well inside in
      let nodes_are = kept_nodes s placed first_well second_well inside in
      let in_row : (k t : ℕ) → slice_get l.letters.items k ≡ Some t → slice_get row k ≡ Some t =
      λ k t at. subst (λ (ts : List ℕ). slice_get ts k ≡ Some t) is_row at in
      record {
        to = λ n. n;
        order = λ a b less. less;
        states_lie =
            mapped_on q first states l.states.items on_first s.first at_first (λ n. n) (renamed s.first)
            (λ k i x at_i at_x. sym (mapped_self (renamed s.first x)));
        letters_lie = record {
          len = ap length is_row;
          listed = λ k t at. value_in p q t no_answers g (row_in k t (in_row k t at));
          same = λ k i t x y at_i at_t at_x at_y.
              let e : i ≡ t = same_Some i t (sym at_i ∙ in_row k t at_t) in
              let at_t_x = subst (λ j. slice_get q.values.items j ≡ Some x) e at_x in
              let same : x ≡ y = same_Some x y (sym at_t_x ∙ at_y) in
              subst (λ z. SameAs q.view x z) (same ∙ sym (mapped_self y)) (as_own q.view x);
        };
        after = s.nodes;
        at_after = at_keep;
        either = λ t c t_in c_in k m at_t at_c x y nodes at_x at_y at_nodes n has.
            let same : nodes ≡ s.nodes = same_Some nodes s.nodes (sym at_nodes ∙ at_keep) in
            let one = on_keeps q first states l.states.items on_first s.first at_first k t x at_t at_x in
            let at_row = in_row m c at_c in
            let was = value_was p q c y g (row_in m c at_row) at_y in
            elim (reach m c y at_row was n (subst (λ (ns : List ℕ). Contains ns n) same has)) [
              | inl a ↦ inl (keeps_there s.first x.kept (sym one) n a)
              | inr b ↦ inr b
            ];
        behind = λ ns rises same.
            map_self ns ∙ (rising_equal ns s.kept rises nodes_are.rises
            (λ n. (λ k. (kept_is n).1 ((same n).0 k), λ k. (same n).1 ((kept_is n).0 k))) ∙ sym is);
        are = subst AreNodes (sym is) nodes_are;
        kept_is = λ n. (
          λ k. (kept_is n).0 (keeps_there l.kept.items s.kept is n k),
          λ has. keeps_there s.kept l.kept.items (sym is) n ((kept_is n).1 has),
        );
      }

-- ---- the nodes of the list

-- what an index reads stands there
pub read_at : {X : Type 0} (xs : List X) (i : ℕ) (x : X) → i < length xs → x ≡ get_or xs i x → slice_get xs i ≡ Some x
read_at xs i x i_in is = slice_get-get_or xs i x i_in ∙ ap Some (sym is)

module _ (p : Pool) (keep : ℕ) (kept row first asked : List ℕ) (at : slice_get p.keeps.items keep ≡ Some asked)
    (is : first ≡ kept) where
  pub reach_in : ((nodes : List ℕ) → slice_get p.keeps.items keep ≡ Some nodes → LettersReach p row kept nodes) →
      LettersReach p row first asked
  reach_in reach c i y at_i at_y n has =
      subst (λ (f : List ℕ). Keeps f n ⊎ Keeps y.kept n) (sym is) (reach asked at c i y at_i at_y n has)

  -- the first letter keeps each node that is not kept
  pub inside_of : ((nodes : List ℕ) → slice_get p.keeps.items keep ≡ Some nodes → LettersReach p row kept nodes) →
      0 < length row → (second : List ℕ) (y : Answers) → slice_get p.values.items (get_or row 0 0) ≡ Some y →
      second ≡ y.kept → (n : ℕ) → Contains asked n → Keeps first n ⊎ Keeps second n
  inside_of reach some second y at_y is_y n has =
      subst (λ (ks : List ℕ). Keeps first n ⊎ Keeps ks n) (sym is_y)
      (reach_in reach 0 (get_or row 0 0) y (slice_get-get_or row 0 0 some) at_y n has)

  pub lies_before : {E : Type 0} (q : Pool) (states : List ℕ) (r : Result Lying E) →
      IfOk r (IsLying q states first row asked) →
      IfOk r (λ l. (nodes : List ℕ) → slice_get p.keeps.items keep ≡ Some nodes → IsLying q states kept row nodes l)
  lies_before q states r lies =
      IfOk-weaker r (IsLying q states first row asked)
      (λ l. (nodes : List ℕ) → slice_get p.keeps.items keep ≡ Some nodes → IsLying q states kept row nodes l)
      (λ l one nodes at_n.
      subst (λ (ns : List ℕ). IsLying q states kept row ns l) (same_Some asked nodes (sym at ∙ at_n))
      (subst (λ (f : List ℕ). IsLying q states f row asked l) is one)) lies
