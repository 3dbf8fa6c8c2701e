-- Which switches alternatives name, when one more condition or alternative is added.
use Rattle.std.proofs.Common.{◌≡◌, ◌∙◌, sym, ap, refl, ℕ, zero, suc, ◌<◌, ◌==◌, Bool, true, false, ◌||◌, List, [], ◌∷◌}
use Rattle.std.proofs.Common.{◌++◌, length, get_or, arith, eq-eqb}
use Rattle.std.proofs.lemmas.Bool.{eqb-true}
use Rattle.std.proofs.lemmas.List.Folds.{list_any-append}
use Rattle.ilk_base.specs.declared.words.SwitchId.{SwitchId}
use Rattle.equation_audit.specs.declared.condition.Condition.{Condition}
use Rattle.equation_audit.specs.Equations.{is_named, is_own, is_among, AllDiffer, AreOwn, OwnBelow}
use Rattle.equation_audit.specs.Positions.{AllAmong}

pub or_false : (a : Bool) → (a || false) ≡ a
or_false true = refl
or_false false = refl

or_left : (a b : Bool) → (a || b) ≡ false → a ≡ false
or_left true b none = absurd (cc)
or_left false b none = refl

or_right : (a b : Bool) → (a || b) ≡ false → b ≡ false
or_right true b none = absurd (cc)
or_right false b none = none

pub is_among-push : (ids : List SwitchId) (id : SwitchId) (i : ℕ) →
    is_among (ids ++ id ∷ []) i ≡ (is_among ids i || (id.0 == i))
is_among-push ids id i = list_any-append (λ (x : SwitchId). x.0 == i) ids (id ∷ []) ∙ ap (λ b. is_among ids i || b)
    (or_false (id.0 == i))

not_itself : (x y : ℕ) → (x == y) ≡ false → (y == x) ≡ false
not_itself x y differ = by_test (y == x) refl
  where
    by_test : (t : Bool) → (y == x) ≡ t → (y == x) ≡ false
    by_test false is = is
    by_test true is = absurd (let same : (x == y) ≡ true = eq-eqb x y (sym (eqb-true y x is)) in cc (same, differ))

-- a switch that is in no list before stands in it once
pub AllDiffer-push : (ids : List SwitchId) (id : SwitchId) → AllDiffer ids → is_among ids id.0 ≡ false →
    AllDiffer (ids ++ id ∷ [])
AllDiffer-push [] id differ none = (refl, tt)
AllDiffer-push (x ∷ ids) id differ none = (
  is_among-push ids id x.0 ∙ ap (λ b. b || (id.0 == x.0)) differ.0
      ∙ not_itself x.0 id.0 (or_left (x.0 == id.0) (is_among ids id.0) none),
  AllDiffer-push ids id differ.1 (or_right (x.0 == id.0) (is_among ids id.0) none),
)

itself : (a b : Bool) → a ≡ true → (a || b) ≡ true
itself true b is = refl
itself false b is = absurd (cc)

later : (a b : Bool) → b ≡ true → (a || b) ≡ true
later true b is = refl
later false b is = is

-- the switch at a place is in the list
pub among_at : (ids : List SwitchId) (k : ℕ) (d : SwitchId) → k < length ids → is_among ids (get_or ids k d).0 ≡ true
among_at [] k d lt = absurd (omega (arith, lt))
among_at (id ∷ ids) zero d lt = itself (id.0 == id.0) (is_among ids id.0) (eq-eqb id.0 id.0 refl)
among_at (id ∷ ids) (suc k) d lt = later (id.0 == (get_or ids k d).0) (is_among ids (get_or ids k d).0)
    (among_at ids k d (omega (arith, lt)))

-- the condition at a place names its switch
pub named_at : (cs : List Condition) (k : ℕ) (d : Condition) → k < length cs →
    is_named cs (get_or cs k d).switch.0 ≡ true
named_at [] k d lt = absurd (omega (arith, lt))
named_at (c ∷ cs) zero d lt = itself (c.switch.0 == c.switch.0) (is_named cs c.switch.0)
    (eq-eqb c.switch.0 c.switch.0 refl)
named_at (c ∷ cs) (suc k) d lt = later (c.switch.0 == (get_or cs k d).switch.0) (is_named cs (get_or cs k d).switch.0)
    (named_at cs k d (omega (arith, lt)))

-- what the alternative at a place names is own
pub own_at_place : (alts : List (List Condition)) (k : ℕ) (d : List Condition) (i : ℕ) → k < length alts →
    is_named (get_or alts k d) i ≡ true → is_own alts i ≡ true
own_at_place [] k d i lt named = absurd (omega (arith, lt))
own_at_place (cs ∷ alts) zero d i lt named = itself (is_named cs i) (is_own alts i) named
own_at_place (cs ∷ alts) (suc k) d i lt named = later (is_named cs i) (is_own alts i)
    (own_at_place alts k d i (omega (arith, lt)) named)

-- the own switches, as they are listed, are among those of the station
pub own_below : (n : ℕ) (alts : List (List Condition)) (own : List SwitchId) → AreOwn alts own → OwnBelow n alts →
    AllAmong n own
own_below n alts own are below = λ i among. below i (sym (are.each i) ∙ among)
