-- When an order is accepted, and what its ruling is.
use Rattle.std.proofs.Common.{◌≡◌, ◌≢◌, ◌∙◌, sym, ap, subst, refl, ℕ, zero, suc, ◌+◌, ◌≤◌, ◌<◌, Bool, List, [], ◌∷◌, length}
use Rattle.std.proofs.Common.{take, take_all, arith, Option, Some, None}
use Rattle.std.specs.Prelude.{slice_get, ◌↔◌}
use Rattle.std.proofs.lemmas.Option.{none-some, slice_get_past, slice_get_within, get_or_from_slice_get}
use Rattle.ilk_base.specs.declared.words.Rule.{Rule}
use Rattle.ilk_base.specs.declared.words.Rule.TheVariants.{R1, R2, R3}
use Rattle.ilk_base.specs.declared.words.Op.{Op}
use Rattle.station_graph.specs.Diagram.{Diagram}
use Rattle.station_graph.specs.CentralRules.{carried_out, Breaks}
use Rattle.switching_orders.specs.declared.ruling.Step.{Step}
use Rattle.switching_orders.specs.declared.ruling.Step.TheVariants as step
use Rattle.switching_orders.specs.declared.ruling.Ruling.{Ruling}
use Rattle.switching_orders.specs.OrderRuling.{after_all, Rules, IsAcceptedFrom, StopsAt, IsRuling, AreOperations}
use Rattle.switching_orders.proofs.Steps.{EachAfter, EachAfter-push, index-from_EachAfter, after_all-append, take-next}

-- each step is an operation of the station
pub is_operation : (d : Diagram) (ops : List Op) (k : ℕ) (op : Op) → AreOperations d ops → slice_get ops k ≡ Some op
    → op.switch.0 < length d.switches
is_operation d ops k op all at = subst (λ (o : Op). o.switch.0 < length d.switches)
    (get_or_from_slice_get ops k op op at) (all k op (slice_get_within ops k op at))

abbrev pub IsOk : Diagram → List Bool → Op → Type 0
IsOk d v op = Rules d v op step.Ok

-- after one more step that is ok
pub each-next : (d : Diagram) (v w : List Bool) (ops : List Op) (k : ℕ) (op : Op) → slice_get ops k ≡ Some op →
    w ≡ after_all v (take k ops) → EachAfter (IsOk d) v (take k ops) → Rules d w op step.Ok →
    EachAfter (IsOk d) v (take (k + 1) ops)
each-next d v w ops k op at is each ok =
    subst (EachAfter (IsOk d) v) (sym (take-next ops k op at))
    (EachAfter-push (IsOk d) v (take k ops) op each (subst (λ u. Rules d u op step.Ok) is ok))

pub after-next : (v w : List Bool) (ops : List Op) (k : ℕ) (op : Op) → slice_get ops k ≡ Some op →
    w ≡ after_all v (take k ops) → carried_out w op ≡ after_all v (take (k + 1) ops)
after-next v w ops k op at is = ap (λ u. carried_out u op) is ∙ sym (ap (after_all v) (take-next ops k op at)
    ∙ after_all-append v (take k ops) (op ∷ []))

pub stopped : (d : Diagram) (v w : List Bool) (ops : List Op) (k : ℕ) (op : Op) (s : Step) → k ≤ length ops →
    slice_get ops k ≡ Some op → w ≡ after_all v (take k ops) → EachAfter (IsOk d) v (take k ops) → Rules d w op s →
    s ≢ step.Ok → IsRuling d v ops (record { passed = k; stopped = Some s })
stopped d v w ops k op s within at is each rules stops = record {
  within = within;
  passed = index-from_EachAfter (IsOk d) v (take k ops) each;
  stopped = subst (λ o. StopsAt d (after_all v (take k ops)) o (Some s)) (sym at)
      (subst (λ u. Rules d u op s) is rules, stops);
}

pub all_passed : (d : Diagram) (v : List Bool) (ops : List Op) (n k : ℕ) → n ≡ length ops → k ≡ length ops →
    EachAfter (IsOk d) v (take k ops) → IsRuling d v ops (record { passed = n; stopped = None })
all_passed d v ops n k all last each =
    let same : k ≡ n = last ∙ sym all in
    record {
      within = omega arith;
      passed = index-from_EachAfter (IsOk d) v (take n ops) (subst (λ m. EachAfter (IsOk d) v (take m ops)) same each);
      stopped = subst (λ o. StopsAt d (after_all v (take n ops)) o None) (sym (slice_get_past ops n (omega arith))) tt;
    }

-- a step that breaks a rule does not break none
excludes : (d : Diagram) (v : List Bool) (op : Op) (rule : Rule) → Breaks d v op (Some rule) → Breaks d v op None → ⊥
excludes d v op R1 breaks none = none.0 breaks
excludes d v op R2 breaks none = none.1 breaks.1
excludes d v op R3 breaks none = none.2 breaks.2

is_ok : (d : Diagram) (v : List Bool) (op : Op) (s : Step) → Rules d v op s → Rules d v op step.Ok → s ≢ step.Ok → ⊥
is_ok d v op step.Ok rules ok other = other refl
is_ok d v op (step.Denied rule) rules ok other = excludes d v op rule rules.1 ok.1
is_ok d v op step.Idle rules ok other = ok.0 rules

never_stops : (d : Diagram) (v : List Bool) (o : Option Op) → StopsAt d v o None → o ≡ None
never_stops d v None stops = refl
never_stops d v (Some op) stops = absurd stops

past : (ops : List Op) (k : ℕ) → slice_get ops k ≡ None → length ops ≤ k
past [] k none = omega arith
past (op ∷ ops) zero none = absurd (none-some op (sym none))
past (op ∷ ops) (suc k) none = omega (arith, past ops k none)

accepts : (d : Diagram) (v : List Bool) (o : Option Op) (s : Option Step) → StopsAt d v o s →
    ((op : Op) → o ≡ Some op → Rules d v op step.Ok) → s ≡ None
accepts d v o None stops ok = refl
accepts d v None (Some s) stops ok = absurd stops
accepts d v (Some op) (Some s) stops ok = absurd (is_ok d v op s stops.0 (ok op refl) stops.1)

-- where nothing stops, the steps that are ok are all
pub all_of : (d : Diagram) (v : List Bool) (ops : List Op) (r : Ruling) → IsRuling d v ops r → r.stopped ≡ None →
    take r.passed ops ≡ ops
all_of d v ops r rules none =
    take_all r.passed ops (past ops r.passed
    (never_stops d _ _
    (subst (StopsAt d (after_all v (take r.passed ops)) (slice_get ops r.passed)) none rules.stopped)))

-- nothing stops exactly an order that is accepted
pub accepted : (d : Diagram) (v : List Bool) (ops : List Op) (r : Ruling) → IsRuling d v ops r → (r.stopped ≡ None)
    ↔ IsAcceptedFrom d v ops
accepted d v ops r rules = (
  (λ none. subst (IsAcceptedFrom d v) (all_of d v ops r rules none) rules.passed),
  (λ ok. accepts d _ _ r.stopped rules.stopped (λ op at. ok r.passed op at)),
)
