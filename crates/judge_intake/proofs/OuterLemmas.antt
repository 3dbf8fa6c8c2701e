-- The outer graphs: what the layers take in, and that each meets what came before on the nodes that are kept.
use Rattle.std.proofs.Common.{◌≡◌, ◌≢◌, ℕ, ◌+◌, ◌<◌, ◌⊎◌, ◌↔◌, zero, suc, Bool, true, false, cond, eqb, List, [], ◌∷◌}
use Rattle.std.proofs.Common.{slice_get, Some, refl, sym, ap, ◌∙◌, subst, inl, inr, arith}
use borrow.Author.Tests.{eqb-true}
use Rattle.std.proofs.lemmas.Bool.{eq-eqb}
use Rattle.std.proofs.lemmas.Option.{same_Some}
use Rattle.station_graph.specs.declared.items.Switch.{Switch}
use Rattle.station_graph.specs.declared.items.Link.{Link}
use Rattle.station_graph.specs.declared.items.Tap.{Tap}
use Rattle.station_graph.specs.Diagram.{Diagram}
use Rattle.station_graph.specs.Connection.{Item, a_switch, a_link, a_tap}
use Rattle.station_graph.specs.Sharing.{OfPart, TouchedBy, IsShared}
use Rattle.contraction.specs.Answers.{Answers, Keeps}
use Rattle.contraction.specs.Stands.{Among, MeetsKept}
use Rattle.contraction.proofs.ItemSets.{among_first, among_second, among_both}
use Rattle.judge_pool.specs.Graphs.{other_of}
use Rattle.judge_pool.specs.Needing.{IsNeededOuter}
use Rattle.judge_pool.specs.Listing.{listed, own_links, part_items, parts_before}
use Rattle.judge_intake.proofs.OtherLemmas.{other_cases}

-- ---- lists of items

module _ {X : Type 0} (item : ℕ → Item) (passes : X → Bool) where
  Found : ℕ → List X → Item → Type 0
  Found i xs it = (k : ℕ) × (x : X) × (slice_get xs k ≡ Some x) × (passes x ≡ true) × (it ≡ item (i + k))

  from_rest : (i : ℕ) (x : X) (xs : List X) (it : Item) → Found (suc i) xs it → Found i (x ∷ xs) it
  unfolding Found
  from_rest i x xs it r = (suc r.0, r.1, r.2, r.3, r.4 ∙ ap item (omega arith))

  from_step : (i : ℕ) (x : X) (xs : List X) (it : Item) →
      (Among (listed item passes (suc i) xs) it → Found (suc i) xs it) → (b : Bool) → passes x ≡ b →
      Among (cond b (item i ∷ listed item passes (suc i) xs) (listed item passes (suc i) xs)) it → Found i (x ∷ xs) it
  unfolding Found
  from_step i x xs it rest true e (inl is) = (0, x, refl, e, is ∙ ap item (omega arith))
  from_step i x xs it rest true e (inr a) = from_rest i x xs it (rest a)
  from_step i x xs it rest false e a = from_rest i x xs it (rest a)

  found : (i : ℕ) (xs : List X) (it : Item) → Among (listed item passes i xs) it → Found i xs it
  found i [] it h = absurd h
  found i (x ∷ xs) it h = from_step i x xs it (found (suc i) xs it) (passes x) refl h

  pub among_from : (i : ℕ) (xs : List X) (it : Item) → Among (listed item passes i xs) it →
      (k : ℕ) × (x : X) × (slice_get xs k ≡ Some x) × (passes x ≡ true) × (it ≡ item (i + k))
  unfolding Found
  among_from i xs it h = found i xs it h

  to_here : (i : ℕ) (y x : X) (ys : List X) → y ≡ x → passes x ≡ true → (b : Bool) → passes y ≡ b →
      Among (cond b (item i ∷ listed item passes (suc i) ys) (listed item passes (suc i) ys)) (item (i + 0))
  to_here i y x ys same pass true e = inl (ap item (omega arith))
  to_here i y x ys same pass false e = absurd (let no : false ≡ true = sym e ∙ (ap passes same ∙ pass) in cc)

  to_later : (i : ℕ) (ys : List X) (it : Item) → Among (listed item passes (suc i) ys) it → (b : Bool) →
      Among (cond b (item i ∷ listed item passes (suc i) ys) (listed item passes (suc i) ys)) it
  to_later i ys it h true = inr h
  to_later i ys it h false = h

  pub among_to : (i : ℕ) (xs : List X) (k : ℕ) (x : X) → slice_get xs k ≡ Some x → passes x ≡ true →
      Among (listed item passes i xs) (item (i + k))
  among_to i [] k x at pass = cc
  among_to i (y ∷ ys) zero x at pass = to_here i y x ys (same_Some y x at) pass (passes y) refl
  among_to i (y ∷ ys) (suc k) x at pass =
      let e : suc i + k ≡ i + suc k = omega arith in
      to_later i ys (item (i + suc k))
      (subst (λ n. Among (listed item passes (suc i) ys) (item n)) e (among_to (suc i) ys k x at pass)) (passes y)

-- the items of a part are those of its list
pub part_has : (d : Diagram) (p : ℕ) (it : Item) → Among (part_items d p) it → OfPart d p it
part_has d p it h =
    elim ((among_both (listed a_switch (λ (x : Switch). eqb x.bay.0 p) 0 d.switches) (own_links d p) it).1 h) [
      | inl s ↦
          let r = among_from a_switch (λ (x : Switch). eqb x.bay.0 p) 0 d.switches it s in
          let is : a_switch r.0 ≡ it = ap a_switch (omega arith) ∙ sym r.4 in
          subst (λ i. OfPart d p i) is (r.1, r.2, eqb-true r.1.bay.0 p r.3)
      | inr o ↦
          elim ((among_both (listed a_link (λ (x : Link). eqb x.part.0 p) 0 d.links)
          (listed a_tap (λ (x : Tap). eqb x.part.0 p) 0 d.taps) it).1 o) [
            | inl l ↦
                let r = among_from a_link (λ (x : Link). eqb x.part.0 p) 0 d.links it l in
                let is : a_link r.0 ≡ it = ap a_link (omega arith) ∙ sym r.4 in
                subst (λ i. OfPart d p i) is (r.1, r.2, eqb-true r.1.part.0 p r.3)
            | inr t ↦
                let r = among_from a_tap (λ (x : Tap). eqb x.part.0 p) 0 d.taps it t in
                let is : a_tap r.0 ≡ it = ap a_tap (omega arith) ∙ sym r.4 in
                subst (λ i. OfPart d p i) is (r.1, r.2, eqb-true r.1.part.0 p r.3)
          ]
    ]

pub has_part : (d : Diagram) (p : ℕ) (it : Item) → OfPart d p it → Among (part_items d p) it
has_part d p (a_switch i) (x, at, of_p) =
    let e : 0 + i ≡ i = omega arith in
    among_first (listed a_switch (λ (y : Switch). eqb y.bay.0 p) 0 d.switches) (own_links d p) (a_switch i)
    (subst (λ n. Among (listed a_switch (λ (y : Switch). eqb y.bay.0 p) 0 d.switches) (a_switch n)) e
    (among_to a_switch (λ (y : Switch). eqb y.bay.0 p) 0 d.switches i x at (eq-eqb x.bay.0 p of_p)))
has_part d p (a_link i) (x, at, of_p) =
    let e : 0 + i ≡ i = omega arith in
    among_second (listed a_switch (λ (y : Switch). eqb y.bay.0 p) 0 d.switches) (own_links d p) (a_link i)
    (among_first (listed a_link (λ (y : Link). eqb y.part.0 p) 0 d.links)
    (listed a_tap (λ (y : Tap). eqb y.part.0 p) 0 d.taps) (a_link i)
    (subst (λ n. Among (listed a_link (λ (y : Link). eqb y.part.0 p) 0 d.links) (a_link n)) e
    (among_to a_link (λ (y : Link). eqb y.part.0 p) 0 d.links i x at (eq-eqb x.part.0 p of_p))))
has_part d p (a_tap i) (x, at, of_p) =
    let e : 0 + i ≡ i = omega arith in
    among_second (listed a_switch (λ (y : Switch). eqb y.bay.0 p) 0 d.switches) (own_links d p) (a_tap i)
    (among_second (listed a_link (λ (y : Link). eqb y.part.0 p) 0 d.links)
    (listed a_tap (λ (y : Tap). eqb y.part.0 p) 0 d.taps) (a_tap i)
    (subst (λ n. Among (listed a_tap (λ (y : Tap). eqb y.part.0 p) 0 d.taps) (a_tap n)) e
    (among_to a_tap (λ (y : Tap). eqb y.part.0 p) 0 d.taps i x at (eq-eqb x.part.0 p of_p))))

touched_part : (d : Diagram) (p n : ℕ) → TouchedBy (Among (part_items d p)) d n → TouchedBy (OfPart d p) d n
touched_part d p n t = record { item = t.item; among = part_has d p t.item t.among; touches = t.touches }

touched_items : (d : Diagram) (p n : ℕ) → TouchedBy (OfPart d p) d n → TouchedBy (Among (part_items d p)) d n
touched_items d p n t = record { item = t.item; among = has_part d p t.item t.among; touches = t.touches }

-- an item of the first parts is of one of them
pub before_has : (d : Diagram) (b j : ℕ) (it : Item) → Among (parts_before d b j) it →
    (i : ℕ) × (i < j) × OfPart d (other_of 0 b i) it
before_has d b zero it h = absurd h
before_has d b (suc j) it h = elim ((among_both (parts_before d b j) (part_items d (other_of 0 b j)) it).1 h) [
  | inl early ↦ (let r = before_has d b j it early in (r.0, omega (arith, r.1), r.2))
  | inr last ↦ (j, omega arith, part_has d (other_of 0 b j) it last)
]

-- other parts are different, and none is the bay
pub others_apart : (b i j : ℕ) → i < j → other_of 0 b i ≢ other_of 0 b j
others_apart b i j lt e = elim (other_cases 0 b i) [
  | inl x ↦ elim (other_cases 0 b j) [ inl y ↦ omega (arith, lt, e, x.1, y.1) | inr y ↦ omega (arith, lt, e, x.1, y.1) ]
  | inr x ↦ elim (other_cases 0 b j) [
    | inl y ↦ omega (arith, lt, e, x.0, x.1, y.0, y.1)
    | inr y ↦ omega (arith, lt, e, x.1, y.1)
  ]
]

pub other_not : (b j : ℕ) → other_of 0 b j ≢ b
other_not b j e = elim (other_cases 0 b j) [ inl x ↦ omega (arith, e, x.0, x.1) | inr x ↦ omega (arith, e, x.0, x.1) ]

-- EACH OTHER PART MEETS THOSE BEFORE IT ON THE NODES THAT ARE KEPT
module _ (d : Diagram) (b j : ℕ) where
  abbrev here : ℕ
  here = other_of 0 b j

  shared_with_before : (n : ℕ) → TouchedBy (OfPart d here) d n → TouchedBy (Among (parts_before d b j)) d n →
      IsShared d here n
  shared_with_before n t before =
      let r = before_has d b j before.item before.among in
      record {
        here = t;
        other = other_of 0 b r.0;
        apart = others_apart b r.0 j r.1;
        there = record { item = before.item; among = r.2; touches = before.touches };
      }

  pub outer_meets : (x y : Answers) → ((n : ℕ) → Keeps x.kept n ↔ IsNeededOuter d b j n) →
      ((n : ℕ) → Keeps y.kept n ↔ IsShared d here n) →
      MeetsKept (Among (parts_before d b j)) (Among (part_items d here)) d x.kept y.kept
  outer_meets x y kept_x kept_y = record {
    in_first = λ n before at. elim at [
      | inl t ↦ (kept_x n).1 (record { before = before; after = inr (j, omega arith, t) })
      | inr k ↦
          (kept_x n).1 (record {
            before = before;
            after = inr (j, omega arith, touched_items d here n ((kept_y n).0 k).here);
          })
    ];
    in_second = λ n t at. elim at [
      | inl before ↦ (kept_y n).1 (shared_with_before n (touched_part d here n t) before)
      | inr k ↦ (kept_y n).1 (shared_with_before n (touched_part d here n t) ((kept_x n).0 k).before)
    ];
  }

  -- what is kept after a part was kept before it or is shared by it
  pub outer_chain : (n : ℕ) → IsNeededOuter d b (suc j) n → IsNeededOuter d b j n ⊎ IsShared d here n
  outer_chain n needed =
      elim ((among_both (parts_before d b j) (part_items d here) needed.before.item).1 needed.before.among) [
        | inl early ↦
            let before : TouchedBy (Among (parts_before d b j)) d n = record {
              item = needed.before.item;
              among = early;
              touches = needed.before.touches;
            } in
            elim needed.after [
              | inl own ↦ inl (record { before = before; after = inl own })
              | inr later ↦ inl (record { before = before; after = inr (later.0, omega (arith, later.1), later.2) })
            ]
        | inr now ↦
            let t : TouchedBy (OfPart d here) d n = record {
              item = needed.before.item;
              among = part_has d here needed.before.item now;
              touches = needed.before.touches;
            } in
            elim needed.after [
              | inl own ↦ inr (record { here = t; other = b; apart = λ e. other_not b j (sym e); there = own })
              | inr later ↦
                  inr (record {
                    here = t;
                    other = other_of 0 b later.0;
                    apart = λ e. others_apart b j later.0 (omega (arith, later.1)) (sym e);
                    there = touched_part d (other_of 0 b later.0) n later.2;
                  })
            ]
      ]
