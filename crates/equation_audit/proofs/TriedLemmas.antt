-- A position in which an earlier denial shows the operation denied.
use Rattle.std.proofs.Common.{◌≡◌, ◌∙◌, sym, ap, subst, refl, ℕ, zero, suc, ◌/◌, ◌%◌, ◌==◌, ◌||◌, Bool, true}
use Rattle.std.proofs.Common.{false, List, [], ◌∷◌, length, set, Some, None, arith}
use Rattle.std.specs.Prelude.{slice_get, replicate}
use Rattle.std.proofs.lemmas.Bool.{eqb-true}
use Rattle.std.proofs.lemmas.List.{length-set, length-replicate}
use Rattle.ilk_base.specs.declared.words.SwitchId.{SwitchId}
use Rattle.ilk_base.specs.declared.words.Op.{Op}
use Rattle.ilk_base.specs.declared.words.Rule.{Rule}
use Rattle.ilk_base.specs.declared.words.Rule.TheVariants.{R1, R2, R3}
use Rattle.station_graph.specs.Diagram.{Diagram}
use Rattle.station_graph.specs.CentralRules.{Breaks}
use Rattle.station_graph.specs.Alike.{IsVector}
use Rattle.equation_audit.specs.Equations.{Equation, is_among, AreOwn, OwnBelow}
use Rattle.equation_audit.specs.Positions.{placed}
use Rattle.equation_audit.specs.Findings.{IsStrictAt, IsDeniedAt}
use Rattle.equation_audit.proofs.PlaceLemmas.{set_other, not_equal}
use Rattle.equation_audit.proofs.PositionLemmas.{length-placed}

-- where it breaks a rule, it does not break none
breaks_some : (d : Diagram) (v : List Bool) (op : Op) (rule : Rule) → Breaks d v op (Some rule) →
    Breaks d v op None → ⊥
breaks_some d v op R1 h none = none.0 h
breaks_some d v op R2 h none = none.1 h.1
breaks_some d v op R3 h none = none.2 h.2

set_both : (v w : List Bool) (i : ℕ) (b : Bool) → length v ≡ length w → slice_get (set v i b) i ≡ slice_get (set w i b) i
set_both [] [] i b len = refl
set_both [] (y ∷ w) i b len = absurd (cc len)
set_both (x ∷ v) [] i b len = absurd (cc len)
set_both (x ∷ v) (y ∷ w) zero b len = refl
set_both (x ∷ v) (y ∷ w) (suc i) b len = set_both v w i b (omega (arith, len))

-- a write leaves what was alike alike
set_alike : (v w : List Bool) (at i : ℕ) (b : Bool) → length v ≡ length w → (t : Bool) → (at == i) ≡ t →
    ((at == i) ≡ false → slice_get v i ≡ slice_get w i) → slice_get (set v at b) i ≡ slice_get (set w at b) i
set_alike v w at i b len true is alike =
    subst (λ (k : ℕ). slice_get (set v at b) k ≡ slice_get (set w at b) k) (eqb-true at i is) (set_both v w at b len)
set_alike v w at i b len false is alike =
    set_other v at i b (not_equal at i is) ∙ (alike is ∙ sym (set_other w at i b (not_equal at i is)))

either : (a b : Bool) → (a || b) ≡ true → a ≡ false → b ≡ true
either true b some none = absurd (cc none)
either false b some none = some

mutual_alike : (v w : List Bool) (own : List SwitchId) (k i : ℕ) → length v ≡ length w → (t : Bool) →
    is_among own i ≡ t → (is_among own i ≡ false → slice_get v i ≡ slice_get w i) →
    slice_get (placed v own k) i ≡ slice_get (placed w own k) i
mutual_alike v w [] k i len t is alike = alike refl
mutual_alike v w (id ∷ own) k i len true is alike =
    let b = k % 2 == 1 in
    mutual_alike (set v id.0 b) (set w id.0 b) own (k / 2) i (length-set v id.0 b ∙ (len ∙ sym (length-set w id.0 b)))
    (is_among own i) refl
    (λ none. set_alike v w id.0 i b len (id.0 == i) refl (λ other. absurd (
    let there : is_among own i ≡ true = either (id.0 == i) (is_among own i) is other in cc (there, none))))
mutual_alike v w (id ∷ own) k i len false is alike =
    let b = k % 2 == 1 in
    mutual_alike (set v id.0 b) (set w id.0 b) own (k / 2) i (length-set v id.0 b ∙ (len ∙ sym (length-set w id.0 b)))
    (is_among own i) refl (λ none. set_alike v w id.0 i b len (id.0 == i) refl (λ other. alike is))

-- the switches have the position of the number in whichever vector they are put into it
placed_alike : (v w : List Bool) (own : List SwitchId) (k i : ℕ) → length v ≡ length w → is_among own i ≡ true →
    slice_get (placed v own k) i ≡ slice_get (placed w own k) i
placed_alike v w own k i len among = mutual_alike v w own k i len true among (λ none. absurd (cc (among, none)))

pub denied_at : (d : Diagram) (e : Equation) (own : List SwitchId) (k : ℕ) (v : List Bool) → AreOwn e.alternatives own →
    OwnBelow (length d.switches) e.alternatives → IsDeniedAt d e.op own k v →
    (¬ IsStrictAt d e (placed (replicate (length d.switches) false) own k)) × IsVector d v
denied_at d e own k v are inside h =
    let whole : IsVector d v = ap length h.placed_is ∙ (length-placed h.before own k ∙ h.whole) in
    let as_long : length h.before ≡ length (replicate (length d.switches) false) =
    h.whole ∙ sym (length-replicate (length d.switches) false) in (
      λ strict. breaks_some d v e.op h.rule h.breaks (strict.suffices v (record {
        whole = whole;
        same = λ i is. ap (λ (u : List Bool). slice_get u i) h.placed_is
            ∙ placed_alike h.before (replicate (length d.switches) false) own k i as_long (are.each i ∙ is);
      })),
      whole,
    )
