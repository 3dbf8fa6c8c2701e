-- What the answers of the judge say of an equation.
use Rattle.std.proofs.Common.{◌≡◌, ◌∙◌, sym, subst, refl, ℕ, ◌<◌, ◌^◌, ◌⊎◌, ◌||◌, Bool, true, false, List, [], ◌∷◌}
use Rattle.std.proofs.Common.{length, Some, None, Option, inl, inr}
use Rattle.std.specs.Prelude.{◌↔◌, is_some, MatchOption, replicate}
use Rattle.std.proofs.lemmas.List.{length-replicate}
use Rattle.ilk_base.specs.declared.words.SwitchId.{SwitchId}
use Rattle.ilk_base.specs.declared.words.Op.{Op}
use Rattle.ilk_base.specs.declared.words.Rule.{Rule}
use Rattle.ilk_base.specs.declared.words.Rule.TheVariants.{R1, R2, R3}
use Rattle.station_graph.specs.Diagram.{Diagram}
use Rattle.station_graph.specs.CentralRules.{Breaks}
use Rattle.station_graph.specs.Alike.{IsVector}
use Rattle.central_rules.specs.Readings.{Decides}
use Rattle.central_rules.specs.declared.verdict.Verdict.{Verdict}
use Rattle.central_rules.specs.declared.verdict.Verdict.TheVariants.{Denied}
use Rattle.equation_audit.specs.Equations.{Equation, is_released, is_own, AreOwn, OwnBelow}
use Rattle.equation_audit.specs.Positions.{placed, SharesPosition}
use Rattle.equation_audit.specs.Findings.{IsLoose, IsLooseIn, NoneLooseBy, Suffices, IsStrict, IsStrictAt, AreFindings}
use Rattle.equation_audit.specs.Findings.{SomeDiffers, is_different, some_differ}
use Rattle.equation_audit.specs.declared.finding.Loose.{Loose}
use Rattle.equation_audit.specs.declared.finding.Finding.{Finding}
use Rattle.equation_audit.proofs.PositionLemmas.{released_same, number_of, length-placed}

-- where it breaks no rule, it breaks none
breaks_none : (d : Diagram) (v : List Bool) (op : Op) → ((rule : Rule) → ¬ Breaks d v op (Some rule)) →
    Breaks d v op None
breaks_none d v op never = (
  never R1,
  λ second. never R2 (never R1, second),
  λ third. never R3
      (never R1, λ second. never R2 (never R1, second), third),
)

released_by : (d : Diagram) (e : Equation) (u v : List Bool) → SharesPosition d (is_own e.alternatives) u v →
    is_released e.alternatives v ≡ is_released e.alternatives u
released_by d e u v shares = released_same e.alternatives v u shares.same

-- where it does not release, it is not loose
pub not_released : (d : Diagram) (e : Equation) (u : List Bool) → is_released e.alternatives u ≡ false →
    NoneLooseBy d e u
not_released d e u denied = λ rule v shares loose. let released : is_released e.alternatives u ≡ true =
    sym (released_by d e u v shares) ∙ loose.released in cc (released, denied)

-- the vectors with the position of v are those with the position of u
shares_again : (d : Diagram) (e : Equation) (u v w : List Bool) → SharesPosition d (is_own e.alternatives) u v →
    SharesPosition d (is_own e.alternatives) v w → SharesPosition d (is_own e.alternatives) u w
shares_again d e u v w first second = record {
  whole = second.whole;
  same = λ i own. second.same i own
      ∙ first.same i own;
}

shares_back : (d : Diagram) (e : Equation) (u v : List Bool) → IsVector d u →
    SharesPosition d (is_own e.alternatives) u v → SharesPosition d (is_own e.alternatives) v u
shares_back d e u v whole shares = record { whole = whole; same = λ i own. sym (shares.same i own) }

-- to be strict is a matter of the position of the own switches
strict_same : (d : Diagram) (e : Equation) (u v : List Bool) → IsVector d u →
    SharesPosition d (is_own e.alternatives) u v → IsStrictAt d e v → IsStrictAt d e u
strict_same d e u v whole shares strict = record {
  whole = whole;
  denied = sym (released_by d e u v shares) ∙ strict.denied;
  suffices = λ w with_u. strict.suffices w (shares_again d e v u w (shares_back d e u v whole shares) with_u);
}

-- the same releases exactly where the position suffices
pub same_releases : (d : Diagram) (e : Equation) → ¬ IsLoose d e → (u : List Bool) →
    is_released e.alternatives u ≡ true → Suffices d e u
same_releases d e not_loose u released = λ v shares. breaks_none d v e.op (λ rule breaks. not_loose (
  rule,
  v,
  record {
    whole = shares.whole;
    released = released_by d e u v shares ∙ released;
    breaks = breaks;
  },
))

pub same_suffices : (d : Diagram) (e : Equation) → ¬ IsStrict d e → (u : List Bool) → IsVector d u → Suffices d e u →
    is_released e.alternatives u ≡ true
same_suffices d e not_strict u whole suffices = by_test (is_released e.alternatives u) refl
  where
    by_test : (t : Bool) → is_released e.alternatives u ≡ t → is_released e.alternatives u ≡ true
    by_test true is = is
    by_test false is = absurd (not_strict (u, record { whole = whole; denied = is; suffices = suffices }))

loose_found : (d : Diagram) (e : Equation) (o : Option Loose) →
    MatchOption o (¬ IsLoose d e) (λ l. IsLooseIn d e l.rule l.vector) → (is_some o ≡ true) ↔ IsLoose d e
loose_found d e None found = (λ some. absurd (cc), λ loose. absurd (found loose))
loose_found d e (Some l) found = (λ some. (l.rule, l.vector, found), λ loose. refl)

strict_found : (d : Diagram) (e : Equation) (o : Option (List Bool)) →
    MatchOption o (¬ IsStrict d e) (λ u. IsStrictAt d e u) → (is_some o ≡ true) ↔ IsStrict d e
strict_found d e None found = (λ some. absurd (cc), λ strict. absurd (found strict))
strict_found d e (Some u) found = (λ some. (u, found), λ strict. refl)

either : (a b : Bool) → (a || b) ≡ true → (a ≡ true) ⊎ (b ≡ true)
either true b is = inl refl
either false b is = inr is

left_or : (a b : Bool) → a ≡ true → (a || b) ≡ true
left_or true b is = refl
left_or false b is = absurd (cc)

right_or : (a b : Bool) → b ≡ true → (a || b) ≡ true
right_or true b is = refl
right_or false b is = is

-- the findings differ exactly where one of the equations is loose or strict
pub differ_exactly : (d : Diagram) (es : List Equation) (fs : List Finding) → AreFindings d es fs →
    (some_differ fs ≡ true) ↔ SomeDiffers d es
differ_exactly d [] [] found = (λ is. absurd (cc), λ none. absurd none)
differ_exactly d [] (f ∷ fs) found = absurd found
differ_exactly d (e ∷ es) [] found = absurd found
differ_exactly d (e ∷ es) (f ∷ fs) found =
    let loose = loose_found d e f.loose found.0.loose in
    let strict = strict_found d e f.strict found.0.strict in
    let rest = differ_exactly d es fs found.1 in (
      (λ is. elim (either (is_different f) (some_differ fs) is) [
        | inl here ↦ elim (either (is_some f.loose) (is_some f.strict) here) [
          | inl l ↦ inl (loose.0 l)
          | inr s ↦ inr
              (inl (strict.0 s))
        ]
        | inr later ↦ inr (inr (rest.0 later))
      ]),
      (λ some. elim some [
        | inl l ↦ left_or (is_different f) (some_differ fs) (left_or (is_some f.loose) (is_some f.strict) (loose.1 l))
        | inr more ↦ elim more [
          | inl s ↦ left_or (is_different f) (some_differ fs) (right_or (is_some f.loose) (is_some f.strict)
              (strict.1 s))
          | inr later ↦ right_or (is_different f) (some_differ fs) (rest.1 later)
        ]
      ]),
    )

-- each vector has the position of some number
shares_number : (d : Diagram) (e : Equation) (own : List SwitchId) (v : List Bool) → AreOwn e.alternatives own →
    OwnBelow (length d.switches) e.alternatives → IsVector d v
    → (k : ℕ) × (k < 2 ^ length own) × IsVector d (placed (replicate (length d.switches) false) own k)
    × SharesPosition d (is_own e.alternatives) (placed (replicate (length d.switches) false) own k) v
shares_number d e own v are below whole =
    let all_open : length (replicate (length d.switches) false) ≡ length d.switches =
    length-replicate (length d.switches) false in
    let number = number_of (replicate (length d.switches) false) own v are.differ (λ i among. subst (λ m. i < m)
    (sym all_open) (below i (sym (are.each i) ∙ among))) (whole ∙ sym all_open) in (
      number.number,
      number.below,
      length-placed (replicate (length d.switches) false) own number.number ∙ all_open,
      record { whole = whole; same = λ i is. number.same i (are.each i ∙ is) },
    )

-- where it is loose in no position, it is not loose
pub never_loose : (d : Diagram) (e : Equation) (own : List SwitchId) → AreOwn e.alternatives own →
    OwnBelow (length d.switches) e.alternatives
    → ((k : ℕ) → k < 2 ^ length own → NoneLooseBy d e (placed (replicate (length d.switches) false) own k)) →
    ¬ IsLoose d e
never_loose d e own are below none loose =
    let at = shares_number d e own loose.1 are below loose.2.whole in
    none at.0 at.1 loose.0 loose.1 at.3 loose.2

-- where it is strict in no position, it is not strict
pub never_strict : (d : Diagram) (e : Equation) (own : List SwitchId) → AreOwn e.alternatives own →
    OwnBelow (length d.switches) e.alternatives
    → ((k : ℕ) → k < 2 ^ length own → ¬ IsStrictAt d e (placed (replicate (length d.switches) false) own k)) →
    ¬ IsStrict d e
never_strict d e own are below none strict =
    let at = shares_number d e own strict.0 are below strict.1.whole in
    none at.0 at.1 (strict_same d e (placed (replicate (length d.switches) false) own at.0) strict.0 at.2 at.3 strict.1)

-- what the judge's verdict says of a position in which the equation releases
pub denied_loose : (d : Diagram) (e : Equation) (u : List Bool) (verdict : Verdict) (rule : Rule)
    (reading : List Bool) → is_released e.alternatives u ≡ true → Decides d (SharesPosition d (is_own e.alternatives) u)
    e.op verdict → verdict ≡ Denied rule reading → IsLooseIn d e rule reading
denied_loose d e u verdict rule reading released decides is =
    let here = subst (λ (x : Verdict). Decides d (SharesPosition d (is_own e.alternatives) u) e.op x) is decides in
    record { whole = here.0.whole; released = released_by d e u reading here.0 ∙ released; breaks = here.1 }
