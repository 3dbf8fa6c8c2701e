-- A diagram in which each item stands in a part of its own: the place of the step that takes it in.
use Rattle.std.proofs.Common.{◌≡◌, ℕ, ◌+◌, ◌<◌, zero, suc, Bool, true, false, cond, eqb, List, [], ◌∷◌, length, map}
use Rattle.std.proofs.Common.{slice_get, Some, refl, sym, ap, ◌∙◌, subst, inl, inr, arith}
use borrow.Author.Tests.{eqb-true}
use Rattle.std.proofs.lemmas.Bool.{eq-eqb}
use Rattle.std.proofs.lemmas.List.{length-map}
use Rattle.std.proofs.lemmas.Option.{same_Some}
use Rattle.ilk_base.specs.declared.words.BayId.{BayId}
use Rattle.station_graph.specs.declared.items.Switch.{Switch}
use Rattle.station_graph.specs.declared.items.Link.{Link}
use Rattle.station_graph.specs.declared.items.Tap.{Tap}
use Rattle.station_graph.specs.Diagram.{Diagram}
use Rattle.station_graph.specs.Connection.{Item, a_switch, a_link, a_tap, close_breakers, unless_breaker}
use Rattle.contraction.specs.Stands.{Among}
use Rattle.step_graphs.specs.declared.step.Step.{Step}
use Rattle.step_graphs.specs.declared.step.Step.TheVariants.{OfSwitch, OfLink, OfTap, OfNothing}
use Rattle.step_graphs.specs.Steps.{items_in, TakesIn}
use Rattle.step_graphs.proofs.SpreadViews.{HasItems}

-- ---- lists whose elements are mapped by their places

abbrev pub placed : {X Y : Type 0} → (ℕ → X → Y) → ℕ → List X → List Y
placed g i [] = []
placed g i (x ∷ xs) = g i x ∷ placed g (suc i) xs

pub placed_length : {X Y : Type 0} (g : ℕ → X → Y) (i : ℕ) (xs : List X) → length (placed g i xs) ≡ length xs
placed_length g i [] = refl
placed_length g i (x ∷ xs) = ap suc (placed_length g (suc i) xs)

pub placed_at : {X Y : Type 0} (g : ℕ → X → Y) (i : ℕ) (xs : List X) (k : ℕ) (x : X) → slice_get xs k ≡ Some x →
    slice_get (placed g i xs) k ≡ Some (g (i + k) x)
placed_at g i [] k x at = cc
placed_at g i (y ∷ ys) zero x at =
    ap Some (ap (λ z. g i z) (same_Some y x at) ∙ ap (λ n. g n x) (omega arith))
placed_at g i (y ∷ ys) (suc k) x at =
    placed_at g (suc i) ys k x at ∙ ap (λ n. Some (g n x)) (omega arith)

pub placed_of : {X Y : Type 0} (g : ℕ → X → Y) (i : ℕ) (xs : List X) (k : ℕ) (y : Y) →
    slice_get (placed g i xs) k ≡ Some y → (x : X) × (slice_get xs k ≡ Some x) × (g (i + k) x ≡ y)
placed_of g i [] k y at = cc
placed_of g i (x ∷ xs) zero y at =
    (x, refl, ap (λ n. g n x) (omega arith) ∙ same_Some (g i x) y at)
placed_of g i (x ∷ xs) (suc k) y at =
    let (z, there, is) = placed_of g (suc i) xs k y at in
    (z, there, ap (λ n. g n z) (omega arith) ∙ is)

-- ---- the place of an item

abbrev takes : Step → Item → Bool
takes (OfSwitch id) (a_switch i) = eqb id.0 i
takes (OfSwitch id) (a_link i) = false
takes (OfSwitch id) (a_tap i) = false
takes (OfLink k) (a_switch i) = false
takes (OfLink k) (a_link i) = eqb k i
takes (OfLink k) (a_tap i) = false
takes (OfTap k) (a_switch i) = false
takes (OfTap k) (a_link i) = false
takes (OfTap k) (a_tap i) = eqb k i
takes OfNothing item = false

takes_it : (s : Step) (item : Item) → takes s item ≡ true → Among (items_in s) item
takes_it (OfSwitch id) (a_switch i) e = inl (ap a_switch (sym (eqb-true id.0 i e)))
takes_it (OfSwitch id) (a_link i) e = cc
takes_it (OfSwitch id) (a_tap i) e = cc
takes_it (OfLink k) (a_switch i) e = cc
takes_it (OfLink k) (a_link i) e = inl (ap a_link (sym (eqb-true k i e)))
takes_it (OfLink k) (a_tap i) e = cc
takes_it (OfTap k) (a_switch i) e = cc
takes_it (OfTap k) (a_link i) e = cc
takes_it (OfTap k) (a_tap i) e = inl (ap a_tap (sym (eqb-true k i e)))
takes_it OfNothing item e = cc

abbrev number : Item → ℕ
number (a_switch i) = i
number (a_link i) = i
number (a_tap i) = i

it_takes : (s : Step) (item : Item) → Among (items_in s) item → takes s item ≡ true
it_takes (OfSwitch id) (a_switch i) (inl e) = eq-eqb id.0 i (sym (ap number e))
it_takes (OfSwitch id) (a_link i) (inl e) = cc
it_takes (OfSwitch id) (a_tap i) (inl e) = cc
it_takes (OfSwitch id) item (inr never) = absurd never
it_takes (OfLink k) (a_switch i) (inl e) = cc
it_takes (OfLink k) (a_link i) (inl e) = eq-eqb k i (sym (ap number e))
it_takes (OfLink k) (a_tap i) (inl e) = cc
it_takes (OfLink k) item (inr never) = absurd never
it_takes (OfTap k) (a_switch i) (inl e) = cc
it_takes (OfTap k) (a_link i) (inl e) = cc
it_takes (OfTap k) (a_tap i) (inl e) = eq-eqb k i (sym (ap number e))
it_takes (OfTap k) item (inr never) = absurd never
it_takes OfNothing item never = absurd never

abbrev pub place_of : List Step → Item → ℕ
place_of [] item = 0
place_of (s ∷ ss) item = cond (takes s item) 0 (suc (place_of ss item))

-- one step more
place_more : (s : Step) (ss : List Step) (item : Item) (q : ℕ) → TakesIn (s ∷ ss) q item →
    ((k : ℕ) → q ≡ suc k → TakesIn ss (place_of ss item) item) → TakesIn (s ∷ ss) (place_of (s ∷ ss) item) item
place_more s ss item q h rest = by (takes s item) refl
  where
    later : TakesIn ss (place_of ss item) item → TakesIn (s ∷ ss) (suc (place_of ss item)) item
    later t = record { step = t.step; at = t.at; among = t.among }

    not_here : takes s item ≡ false → q ≡ 0 → ⊥
    not_here off e =
        let at : slice_get (s ∷ ss) 0 ≡ Some h.step = ap (slice_get (s ∷ ss)) (sym e) ∙ h.at in
        let same : s ≡ h.step = same_Some s h.step at in
        let yes : takes s item ≡ true =
        it_takes s item (subst (λ (t : Step). Among (items_in t) item) (sym same) h.among) in
        let both : true ≡ false = sym yes ∙ off in
        cc

    after : (k : ℕ) → q ≡ k → takes s item ≡ false → TakesIn ss (place_of ss item) item
    after zero e off = absurd (not_here off e)
    after (suc k) e off = rest k e

    by : (t : Bool) → takes s item ≡ t → TakesIn (s ∷ ss) (place_of (s ∷ ss) item) item
    by true e =
        subst (λ k. TakesIn (s ∷ ss) k item) (sym (ap (λ t. cond t 0 (suc (place_of ss item))) e))
        (record { step = s; at = refl; among = takes_it s item e })
    by false e =
        subst (λ k. TakesIn (s ∷ ss) k item) (sym (ap (λ t. cond t 0 (suc (place_of ss item))) e))
        (later (after q refl e))

-- the step at the place takes the item in, if one does
pub place_takes : (steps : List Step) (item : Item) (q : ℕ) → TakesIn steps q item →
    TakesIn steps (place_of steps item) item
place_takes [] item q h = absurd (none q h.at)
  where
    none : (k : ℕ) → slice_get {X = Step} [] k ≡ Some h.step → ⊥
    none zero at = cc
    none (suc k) at = cc
place_takes (s ∷ ss) item q h =
    place_more s ss item q h (λ k e. place_takes ss item k (record {
      step = h.step;
      at = ap (slice_get (s ∷ ss)) (sym e) ∙ h.at;
      among = h.among;
    }))

-- ---- the diagram

abbrev pub switch_at : List Step → ℕ → Switch → Switch
switch_at steps i x = record {
  kind = x.kind;
  first = x.first;
  second = x.second;
  bay = record { 0 = place_of steps (a_switch i) };
}

abbrev pub link_at : List Step → ℕ → Link → Link
link_at steps i x = record {
  first = x.first;
  second = x.second;
  bond = x.bond;
  part = record { 0 = place_of steps (a_link i) };
}

abbrev pub tap_at : List Step → ℕ → Tap → Tap
tap_at steps i x = record { node = x.node; part = record { 0 = place_of steps (a_tap i) } }

abbrev pub spread : Diagram → List Step → Diagram
spread d steps = record {
  node_paths = d.node_paths;
  part_paths = map (λ (s : Step). []) steps;
  switch_paths = d.switch_paths;
  switches = placed (switch_at steps) 0 d.switches;
  links = placed (link_at steps) 0 d.links;
  taps = placed (tap_at steps) 0 d.taps;
}

close_same : (steps : List Step) (i : ℕ) (xs : List Switch) (v : List Bool) →
    close_breakers (placed (switch_at steps) i xs) v ≡ close_breakers xs v
close_same steps i [] v = refl
close_same steps i (x ∷ xs) [] = refl
close_same steps i (x ∷ xs) (c ∷ v) = ap (λ w. unless_breaker x.kind c ∷ w) (close_same steps (suc i) xs v)

pub spread_has : (d : Diagram) (steps : List Step) → HasItems d (spread d steps)
spread_has d steps = record {
  switches = λ i x at. (
    switch_at steps (0 + i) x,
    placed_at (switch_at steps) 0 d.switches i x at,
    record { kind = refl; first = refl; second = refl },
  );
  links = λ i x at. (
    link_at steps (0 + i) x,
    placed_at (link_at steps) 0 d.links i x at,
    record { first = refl; second = refl; bond = refl },
  );
  taps = λ i x at. (tap_at steps (0 + i) x, placed_at (tap_at steps) 0 d.taps i x at, refl);
  closed = λ v. close_same steps 0 d.switches v;
}

pub has_spread : (d : Diagram) (steps : List Step) → HasItems (spread d steps) d
has_spread d steps = record {
  switches = λ i x at.
      (let (y, there, is) = placed_of (switch_at steps) 0 d.switches i x at in (
        y,
        there,
        record {
          kind = ap (λ (z : Switch). z.kind) is;
          first = ap (λ (z : Switch). z.first) is;
          second = ap (λ (z : Switch). z.second) is;
        },
      ));
  links = λ i x at.
      (let (y, there, is) = placed_of (link_at steps) 0 d.links i x at in (
        y,
        there,
        record {
          first = ap (λ (z : Link). z.first) is;
          second = ap (λ (z : Link). z.second) is;
          bond = ap (λ (z : Link). z.bond) is;
        },
      ));
  taps = λ i x at.
      (let (y, there, is) = placed_of (tap_at steps) 0 d.taps i x at in (y, there, ap (λ (z : Tap). z.node) is));
  closed = λ v. sym (close_same steps 0 d.switches v);
}

pub spread_switches : (d : Diagram) (steps : List Step) → length (spread d steps).switches ≡ length d.switches
spread_switches d steps = placed_length (switch_at steps) 0 d.switches

pub spread_parts : (d : Diagram) (steps : List Step) → length (spread d steps).part_paths ≡ length steps
spread_parts d steps = length-map steps (λ (s : Step). [])
