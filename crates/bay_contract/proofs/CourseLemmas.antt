-- What is made of a course serves each part whose course is like it.
use Rattle.std.proofs.Common.{zero, suc, ◌≡◌, ℕ, ◌+◌, ◌/◌, ◌%◌, ◌<◌, ◌≤◌, ◌↔◌, ◌==◌, Bool, true, false, List, [], ◌∷◌}
use Rattle.std.proofs.Common.{◌++◌, length, map, slice_get, slice_index, Some, Contains, refl, sym, ◌∙◌, ap, subst}
use Rattle.std.proofs.Common.{inl, inr, arith, add-one}
use Rattle.std.proofs.lemmas.Option.{slice_get_within}
use Rattle.std.proofs.lemmas.List.{length-map, length_push}
use Rattle.station_graph.specs.Diagram.{Diagram}
use Rattle.station_graph.specs.Connection.{Item, a_switch, a_link, a_tap}
use Rattle.station_graph.specs.Nodes.{Rises}
use Rattle.station_graph.proofs.PathLemmas.{slice_get-push}
use Rattle.station_graph.specs.Sharing.{OfPart, Touches}
use Rattle.contraction.specs.Answers.{Answers, AreNodes, Keeps, SameGap, SameLoad}
use Rattle.contraction.specs.Stands.{StandsFor, Among}
use Rattle.contraction.specs.Renaming.{renamed}
use Rattle.contraction.proofs.PlaceLemmas.{keeps_from_has, has_from_keeps}
use Rattle.bay_contract.specs.declared.course.Turn.{Turn}
use Rattle.bay_contract.specs.declared.course.Course.{Course}
use Rattle.part_alphabets.specs.Layers.{OfLayer, IsLater, IsKept}
use Rattle.bay_contract.specs.Sorting.{KeepsAt, Continues, IsSorted}
use Rattle.bay_contract.specs.Turns.{KeepsThese, AreTogether, positioned, AreTurned}
use Rattle.bay_contract.specs.Courses.{IsTurn, AreTurns, IsCourse, turned, nodes_after, AtOnePlace, AreRelated}
use Rattle.bay_contract.specs.Courses.{IsLike, IsLikeTurn, IsLikeCourse}
use Rattle.bay_contract.proofs.NextLemmas.{some_at}
use Rattle.bay_contract.proofs.TableLemmas.{from_map}
use Rattle.bay_contract.proofs.LayerLemmas.{next_stands, switch_matters}
use Rattle.bay_contract.proofs.RenamedLemmas.{Back, ToOne, together_moved, gap_renamed, load_renamed, renamed_own}
use Rattle.contraction.proofs.RenamedLemmas.{renamed_well}
use Rattle.bay_contract.proofs.RenamedLemmas.{places_to_one, places_back, places_related}

-- the nodes after a turn
pub nodes_turned : (y : Course) (j : ℕ) (t : Turn) → slice_get y.turns.items j ≡ Some t → nodes_after y (j + 1) ≡ t.kept
nodes_turned y j t at = ap (nodes_after y) (add-one j) ∙ ap turned at

-- the nodes that matter are those of the course
module _ (d : Diagram) (part first count : ℕ) (y : Course) (is : IsCourse d part first count y) where
  pub first_kept : (n : ℕ) → Contains y.nodes n ↔ IsKept d part first n
  first_kept n = (
    λ h. (is.base.kept n).0 (subst (λ l. Keeps l n) (sym is.nodes) (keeps_from_has y.nodes n h)),
    λ k. has_from_keeps y.nodes n (subst (λ l. Keeps l n) is.nodes ((is.base.kept n).1 k)),
  )

  pub first_rises : Rises y.nodes
  first_rises = subst Rises is.nodes is.base.value.nodes.rises

  pub kept_after : (j : ℕ) → j ≤ count → (n : ℕ) → Keeps (nodes_after y j) n ↔ IsKept d part (first + j) n
  kept_after zero le n =
      let e : first ≡ first + 0 = omega arith in (
        λ k. subst (λ b. IsKept d part b n) e ((first_kept n).0 (has_from_keeps y.nodes n k)),
        λ k. keeps_from_has y.nodes n ((first_kept n).1 (subst (λ b. IsKept d part b n) (sym e) k)),
      )
  kept_after (suc j) le n =
      let (t, at) = some_at y.turns.items j (omega (arith, is.counted)) in
      let e : (first + j) + 1 ≡ first + suc j = omega arith in
      let same : nodes_after y (suc j) ≡ t.kept = ap turned at in
      let k = (is.turns j t at).kept n in (
        λ h. subst (λ b. IsKept d part b n) e (k.0 (has_from_keeps t.kept n (subst (λ l. Keeps l n) same h))),
        λ h. subst (λ l. Keeps l n) (sym same) (keeps_from_has t.kept n (k.1 (subst (λ b. IsKept d part b n)
            (sym e) h))),
      )

  pub own_turn : (j : ℕ) → j < count → OfPart d part (a_switch (first + j))
  own_turn j lt =
      let (x, at) = some_at d.switches (first + j) (omega (arith, is.switches.within)) in
      (x, at, (is.switches.those (first + j) x at).1 (omega arith, omega arith))

  later_first : (b : ℕ) → first ≤ b → (item : Item) → IsLater d part b item → IsLater d part first item
  later_first b le (a_switch i) h = (h.0, omega (arith, h.1))
  later_first b le (a_link i) h = absurd h
  later_first b le (a_tap i) h = absurd h

  pub matters_first : (b n : ℕ) → first ≤ b → IsKept d part b n → IsKept d part first n
  matters_first b n le (inl s) = inl s
  matters_first b n le (inr t) = inr (record {
    item = t.item;
    among = later_first b le t.item t.among;
    touches = t.touches;
  })

  -- a list of nodes that matter stands at its own places
  own_places : (xs : List ℕ) → ((n : ℕ) → Keeps xs n → IsKept d part first n) → AreRelated
      (AtOnePlace y.nodes y.nodes) xs xs
  own_places xs inside = record {
    len = refl;
    each = λ i n m at_n at_m.
        let here : n ≡ m = cc (at_n, at_m) in
        let k = keeps_from_has y.nodes n ((first_kept n).1 (inside n (record { place = i; at = at_n }))) in
        record { place = k.place; first = k.at; second = k.at ∙ ap Some here };
  }

  own_like : (x : Answers) → ((n : ℕ) → Keeps x.kept n → IsKept d part first n) → IsLike
      (AtOnePlace y.nodes y.nodes) x x
  own_like x inside = record { nodes = own_places x.kept inside; answers = refl }

  switch_first : (j n : ℕ) → j < count → Touches d (a_switch (first + j)) n → IsKept d part first n
  switch_first j n lt t = matters_first (first + j) n (omega arith) (switch_matters d part (first + j)
      (own_turn j lt) n t)

  -- a course is like itself
  pub like_self : IsLikeCourse y y
  like_self = record {
    nodes = refl;
    base = refl;
    count = refl;
    turns = λ j s t at_s at_t.
        let same : s ≡ t = cc (at_s, at_t) in
        let lt : j < count = omega (arith, slice_get_within y.turns.items j s at_s, is.counted) in
        let turn = is.turns j s at_s in
        subst (λ (u : Turn). IsLikeTurn (AtOnePlace y.nodes y.nodes) s u) same (record {
          off = own_like s.off (λ n k. switch_first j n lt ((turn.pair.off_kept n).0 k));
          on = own_like s.on (λ n k. switch_first j n lt ((turn.pair.on_kept n).0 k));
          kept = own_places s.kept (λ n k. matters_first ((first + j) + 1) n (omega arith) ((turn.kept n).0
              (has_from_keeps s.kept n k)));
        });
  }

-- a course that is like another
module _ (d : Diagram) (part first count : ℕ) (x y : Course) (is : IsCourse d part first count y)
    (like : IsLikeCourse x y) (rises : Rises x.nodes) where
  abbrev R : ℕ → ℕ → Type 0
  R = AtOnePlace x.nodes y.nodes

  one : ToOne R
  one = places_to_one x.nodes y.nodes rises

  back : ToOne (Back R)
  back = places_back x.nodes y.nodes (first_rises d part first count y is)

  pub related_after : (j : ℕ) → j ≤ count → AreRelated R (nodes_after x j) (nodes_after y j)
  related_after zero le = places_related x.nodes y.nodes like.nodes
  related_after (suc j) le =
      let (t, at_t) = some_at y.turns.items j (omega (arith, is.counted)) in
      let (s, at_s) = some_at x.turns.items j (omega (arith, is.counted, like.count)) in
      let es : nodes_after x (suc j) ≡ s.kept = ap turned at_s in
      let et : nodes_after y (suc j) ≡ t.kept = ap turned at_t in
      subst (λ l. AreRelated R l (nodes_after y (suc j))) (sym es) (subst (λ l. AreRelated R s.kept l) (sym et)
      (like.turns j s t at_s at_t).kept)

  module _ (j : ℕ) (s t : Turn) (at_s : slice_get x.turns.items j ≡ Some s)
      (at_t : slice_get y.turns.items j ≡ Some t) where
    in_count : j < count
    in_count = omega (arith, slice_get_within y.turns.items j t at_t, is.counted)

    turn : IsTurn d part (first + j) t
    turn = is.turns j t at_t

    like_turn : IsLikeTurn R s t
    like_turn = like.turns j s t at_s at_t

    touching : (v : List Bool) (a c : Answers) (closed : Bool) → StandsFor (OfLayer d part (first + j)) d v (renamed
        (nodes_after y j) a) → (e : Answers) → ((n : ℕ) → Keeps e.kept n ↔ Touches d (a_switch (first + j)) n)
        → StandsFor (Among (a_switch (first + j) ∷ [])) d v e → AreTogether (renamed (nodes_after y j) a) e c
        → StandsFor (OfLayer d part ((first + j) + 1)) d v c
    touching v a c closed stands e kept switch_stands are =
        next_stands d part (first + j) (own_turn d part first count y is j in_count) v (renamed (nodes_after y j) a) e c
        (λ n u. (kept_after d part first count y is j (omega (arith, in_count)) n).1 (switch_matters d part
        (first + j) (own_turn d part first count y is j in_count) n u))
        (λ n. ((kept n).1, (kept n).0)) stands switch_stands are

    -- what goes on from a value goes on from it on the nodes of this part
    like_continues : (a c : Answers) (closed : Bool) → a.kept ≡ nodes_after x j → c.kept ≡ s.kept
        → AreTogether a (positioned s.off s.on closed) c → Continues d part (first + j) (renamed
        (nodes_after y j) a) closed (renamed t.kept c)
    like_continues a c true ea ec are v stands at =
        let ra : AreRelated R a.kept (nodes_after y j) = subst (λ l. AreRelated R l (nodes_after y j)) (sym ea)
        (related_after j (omega (arith, in_count))) in
        let rc : AreRelated R c.kept t.kept = subst (λ l. AreRelated R l t.kept) (sym ec) like_turn.kept in
        let moved = together_moved R one back a s.on c
        (nodes_after y j) t.on.kept t.kept ra like_turn.on.nodes rc are in
        touching v a (renamed t.kept c) true stands t.on turn.pair.on_kept (turn.pair.on_stands v at) (subst (λ
        (e : Answers). AreTogether (renamed (nodes_after y j) a) e (renamed t.kept c))
        (sym like_turn.on.answers) moved)
    like_continues a c false ea ec are v stands at =
        let ra : AreRelated R a.kept (nodes_after y j) = subst (λ l. AreRelated R l (nodes_after y j)) (sym ea)
        (related_after j (omega (arith, in_count))) in
        let rc : AreRelated R c.kept t.kept = subst (λ l. AreRelated R l t.kept) (sym ec) like_turn.kept in
        let moved = together_moved R one back a s.off c
        (nodes_after y j) t.off.kept t.kept ra like_turn.off.nodes rc are in
        touching v a (renamed t.kept c) false stands t.off turn.pair.off_kept (turn.pair.off_stands v at) (subst (λ
        (e : Answers). AreTogether (renamed (nodes_after y j) a) e (renamed t.kept c))
        (sym like_turn.off.answers) moved)

    keeps_here : (c : Answers) → KeepsThese s.kept c → KeepsAt d part ((first + j) + 1) (renamed t.kept c)
    keeps_here c h = record {
      value = renamed_well t.kept c turn.nodes (sym like_turn.kept.len ∙ ap length (sym h.kept)) h.value;
      kept = λ n. (λ k. (turn.kept n).0 (has_from_keeps t.kept n k), λ k. keeps_from_has t.kept n ((turn.kept n).1 k));
    }

    -- WHAT IS SORTED FOR A COURSE IS SORTED FOR THE PART
    pub turned_sorted : (values news : List Answers) (targets origins : List ℕ) (places : ℕ) → ((i : ℕ) (c : Answers)
        → slice_get values i ≡ Some c → KeepsThese (nodes_after x j) c)
        → AreTurned s.kept s.off s.on values news targets origins places → IsSorted d part (first + j) (map (renamed
        (nodes_after y j)) values) (map (renamed t.kept) news) targets origins places
    turned_sorted values news targets origins places on h =
        let len = length-map news (renamed t.kept) in
        record {
          keep = λ i c at.
              let (c0, at0, e) = from_map (renamed t.kept) news i c at in
              subst (λ (z : Answers). KeepsAt d part ((first + j) + 1) z) e (keeps_here c0 (h.keep i c0 at0));
          apart = λ i k a b at_i at_k gap load.
              let (a0, at_a, ea) = from_map (renamed t.kept) news i a at_i in
              let (b0, at_b, eb) = from_map (renamed t.kept) news k b at_k in
              let ka = (h.keep i a0 at_a).kept in
              let kb = (h.keep k b0 at_b).kept in
              let gap1 : SameGap (renamed t.kept a0) (renamed t.kept b0) = subst (λ (z : Answers). SameGap z
              (renamed t.kept b0)) (sym ea) (subst (λ (z : Answers). SameGap a z) (sym eb) gap) in
              let load1 : SameLoad (renamed t.kept a0) (renamed t.kept b0) = subst (λ (z : Answers). SameLoad z
              (renamed t.kept b0)) (sym ea) (subst (λ (z : Answers). SameLoad a z) (sym eb) load) in
              let oa = renamed_own s.kept a0 ka in
              let ob = renamed_own s.kept b0 kb in
              let gap0 : SameGap a0 b0 = subst (λ (z : Answers). SameGap z b0) oa (subst (λ (z : Answers). SameGap
              (renamed s.kept a0) z) ob (gap_renamed R one back s.kept t.kept like_turn.kept a0 b0 ka kb gap1)) in
              let load0 : SameLoad a0 b0 = subst (λ (z : Answers). SameLoad z b0) oa (subst (λ (z : Answers). SameLoad
              (renamed s.kept a0) z) ob (load_renamed R one back s.kept t.kept like_turn.kept a0 b0 ka kb load1)) in
              h.apart i k a0 b0 at_a at_b gap0 load0;
          targets_count = h.targets_count;
          target_in = λ p lt. omega (arith, h.target_in p lt);
          continues = λ p c lt at a at_a.
              let (c0, at_c, ec) = from_map (renamed t.kept) news (slice_index targets p) c at in
              let (a0, at_0, ea) = from_map (renamed (nodes_after y j)) values (p / 2) a at_a in
              subst (λ (z : Answers). Continues d part (first + j) z (p % 2 == 1) c) ea
              (subst (λ (z : Answers). Continues d part (first + j) (renamed (nodes_after y j) a0) (p % 2 == 1) z) ec
              (like_continues a0 c0 (p % 2 == 1) (on (p / 2) a0 at_0).kept (h.keep
              (slice_index targets p) c0 at_c).kept (h.continues p c0 lt at_c a0 at_0)));
          origins_count = h.origins_count ∙ sym len;
          origin_in = λ n lt. h.origin_in n (omega arith);
          origin_leads = λ n lt. h.origin_leads n (omega arith);
          rises = h.rises;
          first = h.first;
        }

-- one more turn
pub turns_push : (d : Diagram) (part first j : ℕ) (old new : List Turn) (t : Turn) → length old ≡ j
    → AreTurns d part first old → new ≡ old ++ t ∷ [] → IsTurn d part (first + j) t
    → (length new ≡ j + 1) × AreTurns d part first new
turns_push d part first j old new t len are e is = (
  ap length e ∙ omega (arith, length_push old t),
  λ i u at. elim (slice_get-push old t u i (ap (λ (l : List Turn). slice_get l i) (sym e) ∙ at)) [
    | inl was ↦ are i u was
    | inr here ↦ subst (λ (z : Turn). IsTurn d part (first + i) z) here.1 (subst (λ n. IsTurn d part (first + n) t)
        (sym (here.0 ∙ len)) is)
  ],
)

-- the nodes after some turns are nodes
pub nodes_are : (d : Diagram) (part first count : ℕ) (y : Course) → IsCourse d part first count y → (j : ℕ)
    → j ≤ count → AreNodes (nodes_after y j)
nodes_are d part first count y is zero le = subst AreNodes is.nodes is.base.value.nodes
nodes_are d part first count y is (suc j) le =
    let (t, at) = some_at y.turns.items j (omega (arith, is.counted)) in
    let same : nodes_after y (suc j) ≡ t.kept = ap turned at in
    subst AreNodes (sym same) (is.turns j t at).nodes

-- and as many as those of a course that is like it
pub sizes_like : (x y : Course) → IsLikeCourse x y → (j : ℕ) → j ≤ length y.turns.items
    → length (nodes_after x j) ≡ length (nodes_after y j)
sizes_like x y like zero le = like.nodes
sizes_like x y like (suc j) le =
    let (t, at_t) = some_at y.turns.items j (omega arith) in
    let (s, at_s) = some_at x.turns.items j (omega (arith, like.count)) in
    let es : nodes_after x (suc j) ≡ s.kept = ap turned at_s in
    let et : nodes_after y (suc j) ≡ t.kept = ap turned at_t in
    ap length es ∙ ((like.turns j s t at_s at_t).kept.len ∙ sym (ap length et))
