-- The layers of a moved switch's graph take in what those of an outer graph of the spread diagram do.
use Rattle.std.proofs.Common.{◌≡◌, ℕ, ◌+◌, ◌<◌, ◌≤◌, ◌⊎◌, ◌↔◌, zero, suc, Bool, true, false, List, [], ◌∷◌, length, map}
use Rattle.std.proofs.Common.{get_or, eqb, slice_get, slice_set, Some, refl, sym, ap, ◌∙◌, subst, inl, inr, arith}
use Rattle.std.specs.Prelude.{Contains, option_map}
use Rattle.std.proofs.lemmas.Option.{slice_get_within, same_Some, slice_get-map, get_or_from_slice_get}
use Rattle.station_graph.specs.Diagram.{Diagram}
use Rattle.station_graph.specs.Connection.{Item, a_switch, a_link, a_tap}
use Rattle.station_graph.specs.Sharing.{OfPart, TouchedBy}
use Rattle.station_graph.specs.Alike.{IsVector, SamePositions}
use Rattle.station_graph.proofs.PositionLemmas.{slice_get-set_other}
use Rattle.contraction.specs.Answers.{Answers, Keeps}
use Rattle.contraction.specs.Stands.{Among, MeetsKept, StandsFor}
use Rattle.contraction.proofs.ItemSets.{stands_over}
use Rattle.part_alphabets.specs.PartAlphabets.{Alphabets, PartAlphabet, or_nothing}
use Rattle.judge_pool.specs.declared.pool.Pool.{Pool}
use Rattle.judge_pool.specs.Lettered.{Lettered, lettered, letters_in}
use Rattle.judge_pool.specs.Seen.{SeenFor}
use Rattle.judge_pool.specs.Layering.{values_at, no_answers}
use Rattle.judge_pool.specs.Folding.{StandsIn}
use Rattle.judge_pool.specs.Graphs.{other_of, PartChosen}
use Rattle.judge_pool.specs.Listing.{part_items, parts_before}
use Rattle.judge_pool.specs.Needing.{IsNeededOuter}
use Rattle.judge_pool.specs.Plans.{outer_plan, PlanFits, CanBoth, AreLinked, items_of}
use Rattle.judge_pool.proofs.BridgeLemmas.{at_number, number_at}
use Rattle.judge_intake.proofs.OtherLemmas.{element, other_in}
use Rattle.judge_intake.proofs.OuterLemmas.{part_has, has_part, before_has, outer_chain, others_apart}
use Rattle.judge_intake.proofs.OuterFits.{seen_over, seen_of, needed_at, outer_items}
use Rattle.judge_intake.proofs.MoveLemmas.{seen_moves}
use Rattle.step_graphs.specs.declared.step.Step.{Step}
use Rattle.step_graphs.specs.declared.step.Step.TheVariants.{OfSwitch, OfLink, OfTap, OfNothing}
use Rattle.step_graphs.specs.Steps.{items_in, StepFits, TakesIn, AreSteps, StepTouches, HasPosition}
use Rattle.step_graphs.specs.Letters.{IsStepRow, HasLetter}
use Rattle.step_graphs.specs.Needing.{IsNeeded}
use Rattle.step_graphs.specs.Ready.{IsStepReady}
use Rattle.step_graphs.proofs.Spread.{spread, spread_has, has_spread, spread_switches}
use Rattle.step_graphs.proofs.SpreadViews.{stands_on}
use Rattle.step_graphs.proofs.SpreadParts.{place_has, has_place, to_items, from_items, touch_part, needed_same}

-- an alphabet with these letters
abbrev with_letters : List Answers → PartAlphabet
with_letters xs = record { switches = 0; first = 0; count = 0; letters = xs; examples = []; forks = [] }

no_keep : (kept : List ℕ) (n : ℕ) → kept ≡ [] → Keeps kept n → ⊥
no_keep kept n e k = none k.place (ap (λ ks. slice_get ks k.place) (sym e) ∙ k.at)
  where
    none : (i : ℕ) → slice_get {X = ℕ} [] i ≡ Some n → ⊥
    none zero at = cc
    none (suc i) at = cc

-- a vector with the switch of the step in this position
abbrev moved_to : Step → Bool → List Bool → List Bool
moved_to (OfSwitch id) closed v = slice_set v id.0 closed
moved_to (OfLink k) closed v = v
moved_to (OfTap k) closed v = v
moved_to OfNothing closed v = v

set_length : (v : List Bool) (i : ℕ) (c : Bool) → length (slice_set v i c) ≡ length v
set_length [] i c = refl
set_length (x ∷ v) zero c = refl
set_length (x ∷ v) (suc i) c = ap suc (set_length v i c)

set_here : (v : List Bool) (i : ℕ) (c : Bool) → i < length v → slice_get (slice_set v i c) i ≡ Some c
set_here [] i c lt = absurd (omega (arith, lt))
set_here (x ∷ v) zero c lt = refl
set_here (x ∷ v) (suc i) c lt = set_here v i c (omega (arith, lt))

moved_length : (s : Step) (closed : Bool) (v : List Bool) → length (moved_to s closed v) ≡ length v
moved_length (OfSwitch id) closed v = set_length v id.0 closed
moved_length (OfLink k) closed v = refl
moved_length (OfTap k) closed v = refl
moved_length OfNothing closed v = refl

moved_has : (d : Diagram) (s : Step) (closed : Bool) (v : List Bool) → StepFits d s → IsVector d v →
    HasPosition s (moved_to s closed v) closed
moved_has d (OfSwitch id) closed v fit whole = set_here v id.0 closed (omega (arith, fit, whole))
moved_has d (OfLink k) closed v fit whole = tt
moved_has d (OfTap k) closed v fit whole = tt
moved_has d OfNothing closed v fit whole = tt

moved_other : (s : Step) (closed : Bool) (v : List Bool) (i : ℕ) → (Among (items_in s) (a_switch i) → ⊥) →
    slice_get v i ≡ slice_get (moved_to s closed v) i
moved_other (OfSwitch id) closed v i apart =
    sym (slice_get-set_other v id.0 i closed (λ e. apart (inl (ap a_switch e))))
moved_other (OfLink k) closed v i apart = refl
moved_other (OfTap k) closed v i apart = refl
moved_other OfNothing closed v i apart = refl

-- the position of the step's switch in a vector
position : (d : Diagram) (s : Step) (v : List Bool) → StepFits d s → IsVector d v →
    (closed : Bool) × HasPosition s v closed
position d (OfSwitch id) v fit whole = element v id.0 (omega (arith, fit, whole))
position d (OfLink k) v fit whole = (false, tt)
position d (OfTap k) v fit whole = (false, tt)
position d OfNothing v fit whole = (false, tt)

-- A place of a row has the letter of a position.
record LetterAt (p : Pool) (d : Diagram) (s : Step) (xs : List Answers) (ids : List ℕ) (c : ℕ) : Type 0 where
  closed : Bool
  letter : Answers
  id : ℕ
  at_letter : slice_get xs c ≡ Some letter
  at_id : slice_get ids c ≡ Some id
  has : HasLetter p d s closed letter id
  is : eqb c 1 ≡ closed

module _ (p : Pool) (d : Diagram) (s : Step) (xs : List Answers) (ids : List ℕ) (row : IsStepRow p d s xs ids) where
  at_open : LetterAt p d s xs ids 0
  at_open = record {
    closed = false;
    letter = row.open_letter;
    id = row.open_id;
    at_letter = ap (λ l. slice_get l 0) row.both;
    at_id = ap (λ l. slice_get l 0) row.two;
    has = row.open_has;
    is = refl;
  }

  at_closed : LetterAt p d s xs ids 1
  at_closed = record {
    closed = true;
    letter = row.closed_letter;
    id = row.closed_id;
    at_letter = ap (λ l. slice_get l 1) row.both;
    at_id = ap (λ l. slice_get l 1) row.two;
    has = row.closed_has;
    is = refl;
  }

  letter_at : (c : ℕ) → c < 2 → LetterAt p d s xs ids c
  letter_at zero lt = at_open
  letter_at (suc zero) lt = at_closed
  letter_at (suc (suc c)) lt = absurd (omega (arith, lt))

  -- a position has its place
  place_for : (closed : Bool) → (c : ℕ) × (c < 2) × (eqb c 1 ≡ closed)
  place_for true = (1, omega arith, refl)
  place_for false = (0, omega arith, refl)

module _ (d : Diagram) (steps : List Step) (are : AreSteps d steps) (b others : ℕ) (p : Pool) (start : ℕ)
    (letters : List (List ℕ)) (keeps : List ℕ) (ready : IsStepReady p d steps b others start letters keeps) where
  abbrev e : Diagram
  e = spread d steps

  abbrev pub step_letters : Lettered
  step_letters =
      lettered (spread d steps)
      (record { switches = length d.switches; parts = map with_letters ready.rows.letters })

  -- What the j-th other step takes in.
  record Here (j : ℕ) (ids : List ℕ) : Type 0 where
    step : Step
    xs : List Answers
    at_step : slice_get steps (other_of 0 b j) ≡ Some step
    at_xs : slice_get ready.rows.letters (other_of 0 b j) ≡ Some xs
    row : IsStepRow p d step xs ids

  other_below : (j : ℕ) (ids : List ℕ) → slice_get letters j ≡ Some ids → other_of 0 b j < length steps
  other_below j ids at =
      omega (
        arith,
        (other_in 0 b others j (omega (arith, slice_get_within letters j ids at, ready.letters_of.len))).1,
        ready.count,
      )

  here_at : (j : ℕ) (ids : List ℕ) → slice_get letters j ≡ Some ids → Here j ids
  here_at j ids at =
      let lt = other_below j ids at in
      let s = element steps (other_of 0 b j) lt in
      let x = element ready.rows.letters (other_of 0 b j) (omega (arith, lt, ready.rows.letters_len)) in
      record {
        step = s.0;
        xs = x.0;
        at_step = s.1;
        at_xs = x.1;
        row = ready.rows.each (other_of 0 b j) s.0 x.0 ids s.1 x.1 (ready.letters_of.each j ids at);
      }

  pub letters_are : (q : ℕ) (xs : List Answers) → slice_get ready.rows.letters q ≡ Some xs →
      letters_in step_letters q ≡ xs
  letters_are q xs at =
      ap (λ o. (or_nothing o).letters)
      (slice_get-map with_letters ready.rows.letters q ∙ ap (option_map with_letters) at)

  -- a letter of the part is that of a position
  letter_for : (j c : ℕ) (ids : List ℕ) (h : Here j ids) → c < length ids → LetterAt p d h.step h.xs ids c
  letter_for j c ids h lt = letter_at p d h.step h.xs ids h.row c (omega (arith, lt, ap length h.row.two))

  over_part : (j : ℕ) (ids : List ℕ) (h : Here j ids) (v : List Bool) (x : Answers) →
      StandsFor (Among (items_in h.step)) d v x →
      SeenFor p.view (Among (part_items e (other_of 0 b j))) e v x
  over_part j ids h v x s =
      seen_over p.view (Among (items_in h.step)) (Among (part_items e (other_of 0 b j))) e v x
      (λ it is. (
        λ a. to_items d steps are (other_of 0 b j) h.step it h.at_step a,
        λ a. from_items d steps are (other_of 0 b j) h.step it h.at_step a,
      )) (seen_of p.view (Among (items_in h.step)) e v x
      (stands_on d e (spread_has d steps) (has_spread d steps) (Among (items_in h.step)) v x s))

  -- the letter of a position stands where the switch has it
  stands_at : (j c : ℕ) (ids : List ℕ) (h : Here j ids) (l : LetterAt p d h.step h.xs ids c) (v : List Bool) →
      HasPosition h.step v l.closed →
      StandsIn p.view (Among (part_items e (other_of 0 b j))) e v (values_at p.values.items ids) c
  stands_at j c ids h l v has = record {
    value = l.has.copy.value;
    listed = number_at p.values.items ids c l.id l.has.copy.value l.at_id l.has.copy.listed;
    stands =
        l.has.copy.stands (part_items e (other_of 0 b j)) e v (over_part j ids h v l.letter (l.has.is.stands v has));
  }

  chosen_stands : (j c : ℕ) (ids : List ℕ) (v : List Bool) → slice_get letters j ≡ Some ids →
      PartChosen step_letters b j c v →
      StandsIn p.view (Among (part_items e (other_of 0 b j))) e v (values_at p.values.items ids) c
  chosen_stands j c ids v at has =
      let h = here_at j ids at in
      let listed : slice_get h.xs c ≡ Some has.letter =
      ap (λ l. slice_get l c) (sym (letters_are (other_of 0 b j) h.xs h.at_xs)) ∙ has.listed in
      let lt : c < length ids =
      omega (arith, slice_get_within h.xs c has.letter listed, ap length h.row.both, ap length h.row.two) in
      let l = letter_for j c ids h lt in
      let same : l.letter ≡ has.letter = same_Some l.letter has.letter (sym l.at_letter ∙ listed) in
      let over = seen_over p.view (OfPart e (other_of 0 b j)) (Among (part_items e (other_of 0 b j))) e v has.letter
      (λ it is. (has_part e (other_of 0 b j) it, part_has e (other_of 0 b j) it))
      (seen_of p.view (OfPart e (other_of 0 b j)) e v has.letter has.stands) in
      record {
        value = l.has.copy.value;
        listed = number_at p.values.items ids c l.id l.has.copy.value l.at_id l.has.copy.listed;
        stands =
            l.has.copy.stands (part_items e (other_of 0 b j)) e v
            (subst (λ x. SeenFor p.view (Among (part_items e (other_of 0 b j))) e v x) (sym same) over);
      }

  -- the value of a letter
  value_for : (j c : ℕ) (ids : List ℕ) (y : Answers) (h : Here j ids) →
      slice_get (values_at p.values.items ids) c ≡ Some y →
      (l : LetterAt p d h.step h.xs ids c) × (l.has.copy.value ≡ y)
  value_for j c ids y h at =
      let i = at_number p.values.items ids c y at in
      let l = letter_for j c ids h (slice_get_within ids c i.0 i.1) in
      let same : l.id ≡ i.0 = same_Some l.id i.0 (sym l.at_id ∙ i.1) in (
        l,
        sym (get_or_from_slice_get p.values.items l.id l.has.copy.value no_answers l.has.copy.listed)
            ∙ (ap (λ k. get_or p.values.items k no_answers) same ∙ i.2),
      )

  letter_kept : (j c : ℕ) (ids : List ℕ) (y : Answers) (h : Here j ids) →
      slice_get (values_at p.values.items ids) c ≡ Some y → (n : ℕ) → Keeps y.kept n ↔
      TouchedBy (Among (part_items e (other_of 0 b j))) e n
  letter_kept j c ids y h at n =
      let (l, is) = value_for j c ids y h at in
      let copied = subst (λ (z : Answers). Keeps z.kept n ↔ Keeps l.letter.kept n) is (l.has.copy.kept n) in
      let own = l.has.is.kept n in
      let part = touch_part d steps are (other_of 0 b j) n h.step h.at_step in
      (λ k. part.0 (own.0 (copied.0 k)), λ t. copied.1 (own.1 (part.1 t)))

  letter_meets : (j : ℕ) (x y : Answers) → ((n : ℕ) → Keeps x.kept n ↔ IsNeededOuter e b j n) →
      ((n : ℕ) → Keeps y.kept n ↔ TouchedBy (Among (part_items e (other_of 0 b j))) e n) →
      MeetsKept (Among (parts_before e b j)) (Among (part_items e (other_of 0 b j))) e x.kept y.kept
  letter_meets j x y kept_x kept_y = record {
    in_first = λ n before at. elim at [
      | inl t ↦ (kept_x n).1 (record { before = before; after = inr (j, omega arith, t) })
      | inr k ↦ (kept_x n).1 (record { before = before; after = inr (j, omega arith, (kept_y n).0 k) })
    ];
    in_second = λ n t at. (kept_y n).1 t;
  }

  -- the positions of the steps before stay where the switch of this one is moved
  before_stays : (j : ℕ) (ids : List ℕ) (h : Here j ids) (closed : Bool) (v : List Bool) →
      SamePositions (Among (items_of (outer_plan step_letters b) j)) v (moved_to h.step closed v)
  before_stays j ids h closed v i among =
      moved_other h.step closed v i (λ a.
      let r = before_has e b j (a_switch i)
      (subst (λ xs. Among xs (a_switch i)) (outer_items step_letters b j) among) in
      let t = place_has d steps are (other_of 0 b r.0) (a_switch i) r.2 in
      let now : TakesIn steps (other_of 0 b j) (a_switch i) =
      record { step = h.step; at = h.at_step; among = a } in
      others_apart b r.0 j r.1 (are.once (other_of 0 b r.0) (other_of 0 b j) (a_switch i) t now))

  step_given : (j c : ℕ) (ids : List ℕ) (x y : Answers) (v : List Bool) → slice_get letters j ≡ Some ids →
      slice_get (values_at p.values.items ids) c ≡ Some y → IsVector e v →
      SeenFor p.view (Among (items_of (outer_plan step_letters b) j)) e v x →
      CanBoth p.view e (Among (items_of (outer_plan step_letters b) j)) (Among (part_items e (other_of 0 b j))) x y
  step_given j c ids x y v at at_y whole seen =
      let h = here_at j ids at in
      let (l, is) = value_for j c ids y h at_y in
      let w : List Bool = moved_to h.step l.closed v in
      let in_d : IsVector d v = whole ∙ spread_switches d steps in
      let s = stands_at j c ids h l w (moved_has d h.step l.closed v (are.fit (other_of 0 b j) h.step h.at_step) in_d) in
      let same : s.value ≡ y = same_Some s.value y (sym s.listed ∙ at_y) in
      record {
        vector = w;
        whole = moved_length h.step l.closed v ∙ whole;
        first =
            seen_moves p.view (Among (items_of (outer_plan step_letters b) j)) e v w
            (before_stays j ids h l.closed v) x seen;
        second = subst (λ z. SeenFor p.view (Among (part_items e (other_of 0 b j))) e w z) same s.stands;
      }

  step_cover : (j : ℕ) (ids : List ℕ) (v : List Bool) → slice_get letters j ≡ Some ids → IsVector e v →
      (c : ℕ) × StandsIn p.view (Among (part_items e (other_of 0 b j))) e v (values_at p.values.items ids) c
  step_cover j ids v at whole =
      let h = here_at j ids at in
      let (closed, has) = position d h.step v (are.fit (other_of 0 b j) h.step h.at_step)
      (whole ∙ spread_switches d steps) in
      let (c, lt, is) = place_for p d h.step h.xs ids h.row closed in
      let l = letter_at p d h.step h.xs ids h.row c lt in
      let same : l.closed ≡ closed = sym l.is ∙ is in
      (c, stands_at j c ids h l v (subst (λ t. HasPosition h.step v t) (sym same) has))

  pub step_fits : PlanFits (outer_plan step_letters b) p start letters keeps
  step_fits = record {
    start_stands =
        λ x v at whole. subst (λ z. SeenFor p.view (Among []) e v z)
        (same_Some ready.begins.value x (sym ready.begins.listed ∙ at)) (ready.begins.stands e v);
    needed = λ j k nodes at_k at_nodes n.
        (let h = needed_at (IsNeeded d steps b j) p k nodes (ready.needed.each j k at_k) at_nodes n in
        let same = needed_same d steps are b j n in
        (λ i. same.0 (h.0 i), λ i. h.1 (same.1 i)));
    letter = λ j c ids v at whole has. chosen_stands j c ids v at has;
    meets = λ j c ids x y at kept_x at_y.
        subst (λ xs. MeetsKept (Among xs) (Among (part_items e (other_of 0 b j))) e x.kept y.kept)
        (sym (outer_items step_letters b j))
        (letter_meets j x y kept_x (letter_kept j c ids y (here_at j ids at) at_y));
    given = step_given;
    cover = step_cover;
  }

  -- ---- the numbers are those of the pool

  letter_id : (j c i : ℕ) (ids : List ℕ) → slice_get letters j ≡ Some ids → slice_get ids c ≡ Some i →
      i < length p.values.items
  letter_id j c i ids at at_c =
      let h = here_at j ids at in
      let l = letter_for j c ids h (slice_get_within ids c i at_c) in
      let same : l.id ≡ i = same_Some l.id i (sym l.at_id ∙ at_c) in
      subst (λ k. k < length p.values.items) same
      (slice_get_within p.values.items l.id l.has.copy.value l.has.copy.listed)

  chained : (j k h c i : ℕ) (ids nodes after : List ℕ) (y : Answers) → slice_get letters j ≡ Some ids →
      slice_get keeps j ≡ Some k → slice_get keeps (suc j) ≡ Some h → slice_get p.keeps.items k ≡ Some nodes →
      slice_get p.keeps.items h ≡ Some after → slice_get ids c ≡ Some i → slice_get p.values.items i ≡ Some y →
      (n : ℕ) → Contains after n → Contains nodes n ⊎ Keeps y.kept n
  chained j k h c i ids nodes after y at_j at_k at_h at_nodes at_after at_c at_y n n_in =
      let need = (needed_at (IsNeeded d steps b (suc j)) p h after (ready.needed.each (suc j) h at_h) at_after n).0 n_in in
      elim (outer_chain e b j n ((needed_same d steps are b (suc j) n).0 need)) [
        | inl before ↦
            inl ((needed_at (IsNeeded d steps b j) p k nodes (ready.needed.each j k at_k) at_nodes n).1
            ((needed_same d steps are b j n).1 before))
        | inr shared ↦
            inr ((letter_kept j c ids y (here_at j ids at_j) (number_at p.values.items ids c i y at_c at_y) n).1
            (record {
              item = shared.here.item;
              among = has_part e (other_of 0 b j) shared.here.item shared.here.among;
              touches = shared.here.touches;
            }))
      ]

  pub step_linked : AreLinked p start letters keeps
  step_linked = record {
    start_in = slice_get_within p.values.items start ready.begins.value ready.begins.listed;
    count = ready.needed.len ∙ ap suc (sym ready.letters_of.len);
    keeps_in = λ j k at. (let h = ready.needed.each j k at in slice_get_within p.keeps.items k h.nodes h.listed);
    letters_in = letter_id;
    some = λ j ids at. omega (arith, ap length (here_at j ids at).row.two);
    start_kept = λ x k nodes at at_k at_nodes n.
        let is : ready.begins.value ≡ x = same_Some ready.begins.value x (sym ready.begins.listed ∙ at) in
        let bare : x.kept ≡ [] = ap (λ (z : Answers). z.kept) (sym is) ∙ ready.begins.bare in
        let exact = needed_at (IsNeeded d steps b 0) p k nodes (ready.needed.each 0 k at_k) at_nodes n in
        (λ h. absurd (no_keep x.kept n bare h), λ h. absurd (omega (arith, (exact.0 h).before.1)));
    chain = chained;
  }

  pub two_each : (j : ℕ) (ids : List ℕ) → slice_get letters j ≡ Some ids → length ids ≡ 2
  two_each j ids at = ap length (here_at j ids at).row.two

  -- the choices that a vector gives are those of its parts
  pub given_chosen : (v : List Bool) (j c : ℕ) (s : Step) → j < others → c < 2 →
      slice_get steps (other_of 0 b j) ≡ Some s → HasPosition s v (eqb c 1) → PartChosen step_letters b j c v
  given_chosen v j c s lt small at has =
      let (ids, at_j) = element letters j (omega (arith, lt, ready.letters_of.len)) in
      let h = here_at j ids at_j in
      let l = letter_at p d h.step h.xs ids h.row c small in
      let same : s ≡ h.step = same_Some s h.step (sym at ∙ h.at_step) in
      let here : HasPosition h.step v l.closed =
      subst (λ t. HasPosition h.step v t) l.is (subst (λ (z : Step). HasPosition z v (eqb c 1)) same has) in
      record {
        letter = l.letter;
        listed = ap (λ xs. slice_get xs c) (letters_are (other_of 0 b j) h.xs h.at_xs) ∙ l.at_letter;
        stands =
            stands_over (Among (items_in h.step)) (OfPart e (other_of 0 b j)) e v l.letter
            (λ it is. (
              λ a. has_place d steps are (other_of 0 b j) it
                  (record { step = h.step; at = h.at_step; among = a }),
              λ of. (let t = place_has d steps are (other_of 0 b j) it of in
                  subst (λ (z : Step). Among (items_in z) it) (same_Some t.step h.step (sym t.at ∙ h.at_step)) t.among),
            )) (stands_on d e (spread_has d steps) (has_spread d steps) (Among (items_in h.step)) v l.letter
            (l.has.is.stands v here));
      }
