-- The positions for which choices stand.
use Rattle.std.proofs.Common.{◌≡◌, ◌≢◌, ℕ, ◌+◌, ◌-◌, ◌<◌, ◌≤◌, zero, suc, Bool, true, false, eqb, ltb, List, [], ◌∷◌, ◌++◌}
use Rattle.std.proofs.Common.{take, length, map, get_or, slice_get, Some, refl, sym, ap, ◌∙◌, subst, inl, inr, arith, ne_eqb}
use Rattle.std.specs.Prelude.{if◌then◌else◌}
use borrow.Author.Tests.{lt-ltb, ltb-true}
use Rattle.std.proofs.lemmas.Bool.{cases_Bool}
use Rattle.std.proofs.lemmas.List.{length-map, map_more}
use Rattle.std.proofs.lemmas.Option.{slice_get_within, same_Some, get_or_from_slice_get}
use Rattle.ilk_base.specs.declared.words.SwitchId.{SwitchId}
use Rattle.station_graph.specs.Diagram.{Diagram}
use Rattle.station_graph.specs.Connection.{a_switch}
use Rattle.judge_pool.specs.Graphs.{other_of}
use Rattle.judge_intake.proofs.OtherLemmas.{other_cases, switch_not, element}
use Rattle.step_graphs.specs.declared.step.Step.{Step}
use Rattle.step_graphs.specs.declared.step.Step.TheVariants.{OfSwitch, OfLink, OfTap, OfNothing}
use Rattle.step_graphs.specs.Steps.{TakesIn, AreSteps, HasPosition}
use Rattle.step_graphs.specs.Moved.{AreGiven}
use Rattle.station_joints.specs.Together.{ArePlaces}
use Rattle.station_joints.specs.Chosen.{layer_of, closed_at}

-- one switch more
pub closed_more : (moved : ℕ) (choices places : List ℕ) (closed : List Bool) (i place : ℕ) (b : Bool) →
    slice_get places i ≡ Some place → closed ≡ map (closed_at moved choices) (take i places) →
    b ≡ closed_at moved choices place →
    closed ++ b ∷ [] ≡ map (closed_at moved choices) (take (i + 1) places)
closed_more moved choices places closed i place b at so is =
    ap (λ (x : Bool). closed ++ x ∷ []) (is ∙ ap (closed_at moved choices) (sym (get_or_from_slice_get places i place 0 at)))
    ∙ (ap (λ (xs : List Bool). xs ++ closed_at moved choices (get_or places i 0) ∷ []) so
    ∙ sym (map_more (closed_at moved choices) places i 0 (slice_get_within places i place at)))

-- ---- the layer of a place

test_is : (t : Bool) (p : ℕ) → t ≡ true → (if t then p else p - 1) ≡ p
test_is t p e = ap (λ (x : Bool). if x then p else p - 1) e

test_not : (t : Bool) (p : ℕ) → t ≡ false → (if t then p else p - 1) ≡ p - 1
test_not t p e = ap (λ (x : Bool). if x then p else p - 1) e

not_less : (p b : ℕ) → b ≤ p → ltb p b ≡ false
not_less p b le = elim (cases_Bool (ltb p b)) [
  | inl less ↦ absurd (omega (arith, ltb-true p b less, le))
  | inr more ↦ more
]

layer_back : (b j : ℕ) → layer_of b (other_of 0 b j) ≡ j
layer_back b j = elim (other_cases 0 b j) [
  | inl x ↦
      test_is (ltb (other_of 0 b j) b) (other_of 0 b j)
      (lt-ltb (other_of 0 b j) b (omega (arith, x.0, x.1)))
      ∙ omega (arith, x.1)
  | inr x ↦
      test_not (ltb (other_of 0 b j) b) (other_of 0 b j)
      (not_less (other_of 0 b j) b (omega (arith, x.0, x.1)))
      ∙ omega (arith, x.1)
]

closed_other : (b : ℕ) (cs : List ℕ) (p j c : ℕ) → other_of 0 b j ≡ p → slice_get cs j ≡ Some c →
    closed_at b cs p ≡ eqb c 1
closed_other b cs p j c is at =
    let apart : p ≢ b = λ e. switch_not 0 b j (is ∙ e) in
    let layer : layer_of b p ≡ j = ap (layer_of b) (sym is) ∙ layer_back b j in
    ap (λ (t : Bool). if t then false else eqb (get_or cs (layer_of b p) 0) 1) (ne_eqb p b apart)
    ∙ ap (λ k. eqb (get_or cs k 0) 1) layer
    ∙ ap (λ k. eqb k 1) (get_or_from_slice_get cs j c 0 at)

-- ---- the position

map-to : {X Y : Type 0} (f : X → Y) (xs : List X) (i : ℕ) (x : X) → slice_get xs i ≡ Some x →
    slice_get (map f xs) i ≡ Some (f x)
map-to f [] i x e = cc
map-to f (z ∷ zs) zero x e = ap (λ y. Some (f y)) (same_Some z x e)
map-to f (z ∷ zs) (suc i) x e = map-to f zs i x e

takes_switch : (steps : List Step) (p : ℕ) (id : SwitchId) → slice_get steps p ≡ Some (OfSwitch id) →
    TakesIn steps p (a_switch id.0)
takes_switch steps p id at = record { step = OfSwitch id; at = at; among = inl refl }

module _ (d : Diagram) (steps : List Step) (are : AreSteps d steps) (places : List ℕ)
    (placed : ArePlaces d steps places) (b : ℕ) (cs : List ℕ) where
  pub closed_long : length (map (closed_at b cs) places) ≡ length d.switches
  closed_long = length-map places (closed_at b cs) ∙ placed.len

  closed_there : (i p : ℕ) → TakesIn steps p (a_switch i) → i < length d.switches →
      slice_get (map (closed_at b cs) places) i ≡ Some (closed_at b cs p)
  closed_there i p t lt =
      let (q, at) = element places i (omega (arith, lt, placed.len)) in
      let same : q ≡ p = are.once q p (a_switch i) (placed.each i q at) t in
      map-to (closed_at b cs) places i q at ∙ ap (λ k. Some (closed_at b cs k)) same

  pub closed_given : suc (length cs) ≡ length steps → ((j c : ℕ) → slice_get cs j ≡ Some c → c < 2) →
      AreGiven steps b (map (closed_at b cs) places) cs
  closed_given count small = record { count = count; small = small; each = each }
    where
      each : (j c : ℕ) (s : Step) → slice_get cs j ≡ Some c → slice_get steps (other_of 0 b j) ≡ Some s →
          HasPosition s (map (closed_at b cs) places) (eqb c 1)
      each j c (OfSwitch id) at at_s =
          closed_there id.0 (other_of 0 b j) (takes_switch steps (other_of 0 b j) id at_s)
          (are.fit (other_of 0 b j) (OfSwitch id) at_s)
          ∙ ap Some (closed_other b cs (other_of 0 b j) j c refl at)
      each j c (OfLink k) at at_s = tt
      each j c (OfTap k) at at_s = tt
      each j c OfNothing at at_s = tt

-- each place is one of the layers or the moved one
pub places_within : (d : Diagram) (steps : List Step) (places cs : List ℕ) → ArePlaces d steps places →
    suc (length cs) ≡ length steps → (i p : ℕ) → slice_get places i ≡ Some p → p ≤ length cs
places_within d steps places cs placed count i p at =
    let t = placed.each i p at in
    omega (arith, slice_get_within steps p t.step t.at, count)
