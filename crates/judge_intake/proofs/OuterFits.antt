-- The outer graphs are exact.
use Rattle.std.proofs.Common.{◌≡◌, ◌≢◌, ℕ, ◌-◌, ◌<◌, ◌↔◌, zero, suc, Bool, List, [], ◌++◌, length, get_or, slice_get}
use Rattle.std.proofs.Common.{Some, refl, sym, ap, ◌∙◌, subst, inl, inr, arith}
use Rattle.std.specs.Prelude.{Contains}
use Rattle.std.proofs.lemmas.Bool.{cases_lt}
use Rattle.std.proofs.lemmas.Option.{slice_get_within, slice_get-get_or, get_or_from_slice_get, same_Some}
use Rattle.station_graph.specs.Diagram.{Diagram, IsStation, part_count}
use Rattle.station_graph.specs.Connection.{Item, a_switch, a_link, a_tap}
use Rattle.station_graph.specs.Sharing.{OfPart, IsShared}
use Rattle.station_graph.specs.Alike.{IsVector, SamePositions}
use Rattle.station_graph.proofs.MixLemmas.{mixed}
use Rattle.contraction.specs.Answers.{Answers, Keeps}
use Rattle.contraction.specs.Stands.{Among, IsItem, MeetsKept, StandsFor}
use Rattle.contraction.proofs.ItemSets.{among_first, among_second, gap_over, load_over}
use Rattle.judge_pool.specs.Lettered.{Lettered, letters_in, index_count}
use Rattle.decision_graphs.specs.Label.{Layer, layer_at}
use Rattle.judge_pool.specs.declared.view.View.{View}
use Rattle.judge_pool.specs.declared.view.View.TheVariants.{Gap, Load}
use Rattle.judge_pool.specs.declared.pool.Pool.{Pool}
use Rattle.judge_pool.specs.Seen.{SeenFor}
use Rattle.judge_pool.specs.Layering.{values_at, no_answers}
use Rattle.judge_intake.specs.Inputs.{HasNodes}
use Rattle.judge_pool.specs.Folding.{StandsIn, IsExact}
use Rattle.judge_pool.specs.Graphs.{other_of, OfOthers, PartChosen, IsOuter}
use Rattle.judge_pool.specs.Plans.{outer_plan, PlanFits, CanBoth, items_of}
use Rattle.judge_intake.specs.Ready.{IsOuterReady}
use Rattle.judge_pool.specs.Needing.{IsNeededOuter}
use Rattle.judge_pool.specs.Listing.{part_items, parts_before}
use Rattle.judge_pool.proofs.BridgeLemmas.{at_number, number_at}
use Rattle.judge_intake.proofs.OtherLemmas.{other_cases, other_in}
use Rattle.judge_intake.proofs.OuterLemmas.{part_has, has_part, before_has, outer_meets, others_apart, other_not}
use Rattle.judge_intake.proofs.MoveLemmas.{index_moves, seen_moves, part_stays}

-- a view over sets with the same items
pub seen_over : (view : View) (These Those : Item → Type 0) (d : Diagram) (v : List Bool) (c : Answers) →
    ((item : Item) → IsItem d item → These item ↔ Those item) → SeenFor view These d v c → SeenFor view Those d v c
seen_over Gap These Those d v c same s = gap_over These Those d v c same s
seen_over Load These Those d v c same s = load_over These Those d v c same s

-- a view of a value that stands
pub seen_of : (view : View) (These : Item → Type 0) (d : Diagram) (v : List Bool) (c : Answers) →
    StandsFor These d v c → SeenFor view These d v c
seen_of Gap These d v c s = s.gap
seen_of Load These d v c s = s.load

-- the nodes of a number are those of its kind
pub needed_at : (Kind : ℕ → Type 0) (p : Pool) (k : ℕ) (nodes : List ℕ) → HasNodes Kind p k →
    slice_get p.keeps.items k ≡ Some nodes → (n : ℕ) → Contains nodes n ↔ Kind n
needed_at Kind p k nodes h at n =
    subst (λ l. Contains l n ↔ Kind n) (same_Some h.nodes nodes (sym h.listed ∙ at)) (h.exact n)

pub outer_items : (a : Lettered) (b j : ℕ) → items_of (outer_plan a b) j ≡ parts_before a.diagram b j
outer_items a b zero = refl
outer_items a b (suc j) = ap (λ xs. xs ++ part_items a.diagram (other_of 0 b j)) (outer_items a b j)

module _ (a : Lettered) (b : ℕ) (p : Pool) (start : ℕ) (letters : List (List ℕ)) (keeps : List ℕ)
    (ready : IsOuterReady a b p start letters keeps) where
  letter_stands : (j c : ℕ) (ids : List ℕ) (v : List Bool) → slice_get letters j ≡ Some ids → PartChosen a b j c v →
      StandsIn p.view (Among (part_items a.diagram (other_of 0 b j))) a.diagram v (values_at p.values.items ids) c
  letter_stands j c ids v at_j has =
      let part = other_of 0 b j in
      let m = (ready.rows.each j ids at_j).each c has.letter has.listed in
      let over = seen_over p.view (OfPart a.diagram part) (Among (part_items a.diagram part)) a.diagram v has.letter
      (λ it is. (has_part a.diagram part it, part_has a.diagram part it))
      (seen_of p.view (OfPart a.diagram part) a.diagram v has.letter has.stands) in
      record {
        value = m.copy.value;
        listed = number_at p.values.items ids c m.id m.copy.value m.at m.copy.listed;
        stands = m.copy.stands (part_items a.diagram part) a.diagram v over;
      }

  pub letter_kept : (j c : ℕ) (ids : List ℕ) (y : Answers) → slice_get letters j ≡ Some ids →
      slice_get (values_at p.values.items ids) c ≡ Some y → (n : ℕ) → Keeps y.kept n ↔
      IsShared a.diagram (other_of 0 b j) n
  letter_kept j c ids y at_j at_c =
      let part = other_of 0 b j in
      let i = at_number p.values.items ids c y at_c in
      let c_in : c < length (letters_in a part) =
      omega (arith, slice_get_within ids c i.0 i.1, (ready.rows.each j ids at_j).len) in
      let x : Answers = get_or (letters_in a part) c no_answers in
      let at_x : slice_get (letters_in a part) c ≡ Some x = slice_get-get_or (letters_in a part) c no_answers c_in in
      let m = (ready.rows.each j ids at_j).each c x at_x in
      let same_id : m.id ≡ i.0 = same_Some m.id i.0 (sym m.at ∙ i.1) in
      let is : m.copy.value ≡ y =
      sym (get_or_from_slice_get p.values.items m.id m.copy.value no_answers m.copy.listed)
      ∙ (ap (λ k. get_or p.values.items k no_answers) same_id ∙ i.2) in
      let part_in : part < part_count a.diagram =
      omega (arith, (other_in 0 b (length letters) j (slice_get_within letters j ids at_j)).1, ready.count) in
      λ n.
      let here = ((ready.lettered.alphabets.each part part_in).letters c x at_x).kept n in
      let copied = subst (λ (z : Answers). Keeps z.kept n ↔ Keeps x.kept n) is (m.copy.kept n) in
      (λ h. here.0 (copied.0 h), λ h. copied.1 (here.1 h))

  part_there : (j : ℕ) (ids : List ℕ) → slice_get letters j ≡ Some ids → other_of 0 b j < part_count a.diagram
  part_there j ids at_j =
      omega (arith, (other_in 0 b (length letters) j (slice_get_within letters j ids at_j)).1, ready.count)

  -- the part can be moved to a position of the letter, and those before it stand as they stood
  outer_given : (j c : ℕ) (ids : List ℕ) (x y : Answers) (v : List Bool) → slice_get letters j ≡ Some ids →
      slice_get (values_at p.values.items ids) c ≡ Some y → IsVector a.diagram v →
      SeenFor p.view (Among (items_of (outer_plan a b) j)) a.diagram v x →
      CanBoth p.view a.diagram (Among (items_of (outer_plan a b) j)) (Among (part_items a.diagram (other_of 0 b j))) x y
  outer_given j c ids x y v at_j at_c whole seen =
      let part = other_of 0 b j in
      let al = ready.lettered.alphabets.each part (part_there j ids at_j) in
      let i = at_number p.values.items ids c y at_c in
      let c_in : c < length (letters_in a part) =
      omega (arith, slice_get_within ids c i.0 i.1, (ready.rows.each j ids at_j).len) in
      let (u, whole_u, at_example) = al.given c c_in in
      let has = (al.examples c c_in).has u whole_u at_example in
      let (w, whole_w, from_u, from_v) = mixed a.diagram part u v whole_u whole in
      let s = letter_stands j c ids w at_j (index_moves a part c u w from_u has) in
      let is : s.value ≡ y = same_Some s.value y (sym s.listed ∙ at_c) in
      let same : SamePositions (Among (items_of (outer_plan a b) j)) v w = λ k among.
      (let r = before_has a.diagram b j (a_switch k) (subst (λ xs. Among xs (a_switch k)) (outer_items a b j) among) in
      part_stays a.diagram (other_of 0 b r.0) part v w (others_apart b r.0 j r.1) from_v k r.2) in
      record {
        vector = w;
        whole = whole_w;
        first = seen_moves p.view (Among (items_of (outer_plan a b) j)) a.diagram v w same x seen;
        second = subst (λ z. SeenFor p.view (Among (part_items a.diagram part)) a.diagram w z) is s.stands;
      }

  outer_cover : (j : ℕ) (ids : List ℕ) (v : List Bool) → slice_get letters j ≡ Some ids → IsVector a.diagram v →
      (c : ℕ)
      × StandsIn p.view (Among (part_items a.diagram (other_of 0 b j))) a.diagram v (values_at p.values.items ids) c
  outer_cover j ids v at_j whole =
      let (i, has) = (ready.lettered.alphabets.each (other_of 0 b j) (part_there j ids at_j)).indexed v whole in
      (i, letter_stands j i ids v at_j has)

  pub outer_fits : PlanFits (outer_plan a b) p start letters keeps
  outer_fits = record {
    start_stands =
        λ x v at whole. subst (λ z. SeenFor p.view (Among []) a.diagram v z)
        (same_Some ready.begins.value x (sym ready.begins.listed ∙ at)) (ready.begins.stands a.diagram v);
    needed =
        λ j k nodes at_k at_nodes n. needed_at (IsNeededOuter a.diagram b j) p k nodes
        (ready.needed.each j k at_k) at_nodes n;
    letter = λ j c ids v at_j whole has. letter_stands j c ids v at_j has;
    meets = λ j c ids x y at_j kept_x at_y.
        subst (λ xs. MeetsKept (Among xs) (Among (part_items a.diagram (other_of 0 b j))) a.diagram x.kept y.kept)
        (sym (outer_items a b j))
        (outer_meets a.diagram b j x y kept_x (letter_kept j c ids y at_j at_y));
    given = outer_given;
    cover = outer_cover;
  }

-- ---- all other parts

-- the part of an item of a station is one of its parts
pub part_in : (d : Diagram) (p : ℕ) (it : Item) → IsStation d → OfPart d p it → p < part_count d
part_in d p (a_switch i) st (x, at, of_p) = subst (λ k. k < part_count d) of_p (st.items.switches_fit i x at).part_in
part_in d p (a_link i) st (x, at, of_p) = subst (λ k. k < part_count d) of_p (st.items.links_fit i x at).part_in
part_in d p (a_tap i) st (x, at, of_p) = subst (λ k. k < part_count d) of_p (st.items.taps_fit i x at).part_in

pub before_to : (d : Diagram) (b j i : ℕ) (it : Item) → i < j → OfPart d (other_of 0 b i) it →
    Among (parts_before d b j) it
before_to d b zero i it lt of_p = absurd (omega (arith, lt))
before_to d b (suc j) i it lt of_p = elim (cases_lt i j) [
  | inl less ↦ among_first (parts_before d b j) (part_items d (other_of 0 b j)) it (before_to d b j i it less of_p)
  | inr last ↦
      let e : i ≡ j = omega (arith, lt) in
      among_second (parts_before d b j) (part_items d (other_of 0 b j)) it
      (has_part d (other_of 0 b j) it (subst (λ k. OfPart d (other_of 0 b k) it) e of_p))
]

-- each other part has its place
pub place_of_part : (b p n : ℕ) → b < suc n → p ≢ b → p < suc n → (i : ℕ) × (i < n) × (other_of 0 b i ≡ p)
place_of_part b p n b_in ne lt = elim (cases_lt p b) [
  | inl less ↦ (
    p,
    omega (arith, less, b_in),
    elim (other_cases 0 b p) [ inl x ↦ x.1 ∙ omega arith | inr x ↦ absurd (omega (arith, less, x.0)) ],
  )
  | inr more ↦ (
    p - 1,
    omega (arith, lt, ne, more),
    elim (other_cases 0 b (p - 1)) [
      | inl x ↦ absurd (omega (arith, ne, more, x.0))
      | inr x ↦ x.1 ∙ omega (arith, ne, more)
    ],
  )
]

module _ (a : Lettered) (b n : ℕ) (station : IsStation a.diagram) (count : suc n ≡ part_count a.diagram)
    (b_in : b < part_count a.diagram) where
  pub others_all : (it : Item) → IsItem a.diagram it → Among (parts_before a.diagram b n) it ↔ OfOthers a.diagram b it
  others_all it is = (
    λ h. (let r = before_has a.diagram b n it h in
        record { part = other_of 0 b r.0; apart = other_not b r.0; of_part = r.2 }),
    λ o.
        let lt : o.part < suc n = omega (arith, part_in a.diagram o.part it station o.of_part, count) in
        let r = place_of_part b o.part n (omega (arith, b_in, count)) o.apart lt in
        before_to a.diagram b n r.0 it r.1 (subst (λ k. OfPart a.diagram k it) (sym r.2) o.of_part),
  )

  -- THE LABELS NAME THE VIEWS
  pub outer_named : (view : View) (ls : List Layer) (names : List Answers) →
      IsExact view a.diagram (PartChosen a b) (items_of (outer_plan a b)) (IsNeededOuter a.diagram b) n ls names
      → ((j : ℕ) → j < length ls → (layer_at ls j).choices ≡ index_count a (other_of 0 b j))
      → IsOuter view a b (record { labels = length names; layers = ls }) names
  outer_named view ls names exact choices = record {
    fits = exact.fits;
    count = omega (arith, exact.count, count);
    choices = choices;
    labels = refl;
    named = λ v cs whole len chosen.
        let s = exact.stands v cs whole (len ∙ exact.count) chosen in
        let before = subst (λ xs. SeenFor view (Among xs) a.diagram v s.value) (outer_items a b n) s.stands in
        record {
          value = s.value;
          listed = s.listed;
          stands =
              seen_over view (Among (parts_before a.diagram b n)) (OfOthers a.diagram b) a.diagram v s.value
              others_all before;
        };
  }
