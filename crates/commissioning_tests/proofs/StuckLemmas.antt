-- A controller that takes a switch for stuck differs from the tests where the switch turns a release.
use Rattle.std.proofs.Common.{◌≡◌, ◌≢◌, ◌⊎◌, ℕ, zero, suc, ◌+◌, ◌<◌, ◌≤◌, Bool, true, false, List, [], ◌∷◌, not, get_or, slice_get}
use Rattle.std.proofs.Common.{slice_set, Option, Some, None, refl, sym, ap, ◌∙◌, subst, inl, inr}
use Rattle.ilk_base.specs.declared.words.Op.{Op}
use Rattle.ilk_base.specs.declared.words.Rule.{Rule}
use Rattle.station_graph.specs.Diagram.{Diagram}
use Rattle.release_dependence.specs.Depends.{DependsOn}
use Rattle.dependence_search.specs.Turning.{moved}
use Rattle.dependence_search.specs.RuleWalks.{OneIsNone}
use Rattle.commissioning_tests.specs.declared.values.BayTests.{BayTests}
use Rattle.commissioning_tests.specs.Standing.{StandsFor}
use Rattle.commissioning_tests.specs.Covering.{TurnIsShown, AreTestsOf}
use Rattle.commissioning_tests.specs.Controllers.{Controller, is_released, Differs, IsStuck, FindsStuck}

set_twice : (v : List Bool) (s : ℕ) (b c : Bool) → slice_set (slice_set v s b) s c ≡ slice_set v s c
set_twice [] s b c = refl
set_twice (x ∷ v) zero b c = refl
set_twice (x ∷ v) (suc s) b c = ap (λ l. x ∷ l) (set_twice v s b c)

released_apart : (x y : Option Rule) → OneIsNone x y → is_released x ≢ is_released y
released_apart None None (inl t) e = t.1 refl
released_apart None None (inr t) e = t.0 refl
released_apart None (Some r) t e = cc e
released_apart (Some r) None t e = cc e
released_apart (Some r) (Some q) (inl t) e = cc (t.0)
released_apart (Some r) (Some q) (inr t) e = cc (t.1)

-- one word is not both of two that differ
one_of : (b x y : Bool) → x ≢ y → (b ≢ x) ⊎ (b ≢ y)
one_of true true true ne = absurd (ne refl)
one_of true true false ne = inr (λ e. cc e)
one_of true false y ne = inl (λ e. cc e)
one_of false false false ne = absurd (ne refl)
one_of false false true ne = inr (λ e. cc e)
one_of false true y ne = inl (λ e. cc e)

module _ (releases : Controller) (s : ℕ) (c : Bool) (stuck : IsStuck releases s c) where
  -- it says the same with the switch moved
  says_same : (op : Op) (v : List Bool) → releases op v ≡ releases op (moved s v)
  says_same op v =
      stuck op v
      ∙ (ap (releases op) (sym (set_twice v s (not (get_or v s false)) c)) ∙ sym (stuck op (moved s v)))

pub stuck_differs : (releases : Controller) (t : BayTests) (k s : ℕ) (op : Op) (c : Bool) →
    slice_get t.operations.items k ≡ Some op → TurnIsShown t.positions.items k s → IsStuck releases s c →
    Differs releases t
stuck_differs releases t k s op c at shown stuck =
    let p = shown.position in
    let m = shown.turn.move in
    let turns = shown.turn.turns in
    let other : List Bool = moved m.switch.0 p.closed.items in
    let same : releases op p.closed.items ≡ releases op other =
    subst (λ (x : ℕ). releases op p.closed.items ≡ releases op (moved x p.closed.items)) (sym shown.turn.switch)
    (says_same releases s c stuck op p.closed.items) in
    record {
      place = shown.place;
      position = p;
      at = shown.at;
      there = elim (one_of (releases op p.closed.items) (is_released turns.one) (is_released turns.other)
          (released_apart turns.one turns.other turns.turned)) [
            | inl before ↦ inl (record {
              number = k;
              op = op;
              answer = turns.one;
              at = at;
              answer_at = turns.one_at;
              differs = before;
            })
            | inr after ↦ inr (record {
              number = shown.turn.number;
              move = m;
              at = shown.turn.at;
              differs = record {
                number = k;
                op = op;
                answer = turns.other;
                at = at;
                answer_at = turns.other_at;
                differs = λ e. after (same ∙ e);
              };
            })
          ];
    }

-- a switch of the bay is stood for by itself
own_stands : (d : Diagram) (first count s stand : ℕ) → StandsFor d first count s stand → first ≤ s → s < first + count →
    s ≡ stand
own_stands d first count s stand (inl same) from to = same
own_stands d first count s stand (inr e) from to = sym (e.leaves s from to) ∙ e.carries

pub finds_stuck : (d : Diagram) (bay : ℕ) (t : BayTests) (are : AreTestsOf d bay t) (k s : ℕ) (op : Op) →
    slice_get t.operations.items k ≡ Some op → DependsOn d op s → FindsStuck d are.first are.count t s
finds_stuck d bay t are k s op at dep =
    let turn = are.tests.turns k s op at dep in
    record {
      stand = turn.stand;
      stands = turn.stands;
      own = own_stands d are.first are.count s turn.stand turn.stands;
      found = λ releases c stuck. stuck_differs releases t k turn.stand op c at turn.shown stuck;
    }
