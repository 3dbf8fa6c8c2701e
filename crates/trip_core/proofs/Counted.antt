-- What a bay knows after a step, by the Answer that counts.
use Rattle.std.proofs.Common.{◌≡◌, ℕ, true, false, cond, ◌==◌, Option, Some, None, refl, sym, subst, ap}
use Rattle.std.specs.Prelude.{is_some}
use Rattle.central_rules.specs.Meaning.{Meaning}
use Rattle.bay_frames.specs.declared.frame.Frame.{Frame}
use Rattle.bay_protocol.specs.declared.values.Collection.{Collection}
use Rattle.bay_protocol.specs.declared.values.Grant.{Grant}
use Rattle.bay_protocol.specs.declared.values.NodeEvent.{NodeEvent}
use Rattle.bay_protocol.specs.declared.values.NodeEvent.TheVariants.{Command as Commanded, Sense as Sensing}
use Rattle.bay_protocol.specs.declared.values.NodeEvent.TheVariants.{Frame as Arrival, Tick as Ticking}
use Rattle.bay_protocol.specs.declared.values.NodeEvent.TheVariants.{Withdraw as Withdrawing, Restart as Restarting}
use Rattle.bay_protocol.specs.declared.values.NodeEvent.TheVariants.{Cut as Cutting}
use Rattle.bay_protocol.specs.Counts.{Counts}
use Rattle.bay_protocol.specs.State.{State}
use Rattle.reservation_core.proofs.StepEffect.{CountsAt}
use Rattle.reservation_core.proofs.Noting.{heard_of, known_of}
use Rattle.trip_core.specs.declared.values.Note.{Note}
use Rattle.trip_core.specs.Trips.{lost}
use Rattle.trip_core.specs.Learning.{CountsOf, heard_note, learned_note}

never_at : (m : Meaning) (s : State) (event : NodeEvent) → ((f : Frame) → event ≡ Arrival f
    → ¬ Counts m m.diagram s f) → ¬ CountsAt m s event
never_at m s (Arrival f) none counts = none f refl counts
never_at m s (Commanded op) none counts = counts
never_at m s (Sensing i word) none counts = counts
never_at m s Ticking none counts = counts
never_at m s Withdrawing none counts = counts
never_at m s Restarting none counts = counts
never_at m s (Cutting i) none counts = counts

pub counts_yes : (m : Meaning) (s : State) (event : NodeEvent) (from : Option ℕ) → CountsOf m s event from
    → is_some from ≡ true → CountsAt m s event
counts_yes m s event from (CountsOf.an_answer f is counts same) some = subst (CountsAt m s) (sym is) counts
counts_yes m s event from (CountsOf.nothing none same) some = absurd (cc (ap is_some same, some))

pub counts_none : (m : Meaning) (s : State) (event : NodeEvent) (from : Option ℕ) → CountsOf m s event from
    → is_some from ≡ false → ¬ CountsAt m s event
counts_none m s event from (CountsOf.an_answer f is counts same) none_from = absurd (cc (ap is_some same, none_from))
counts_none m s event from (CountsOf.nothing none same) none_from = never_at m s event none

heard_nobody : (z : Option Collection) (event : NodeEvent) (bay : ℕ) (beside known : Note)
    → heard_note None (is_some z) bay beside known ≡ heard_of Note lost z false event bay beside known
heard_nobody None event bay beside known = refl
heard_nobody (Some g) event bay beside known = refl

heard_one : (z : Option Collection) (f : Frame) (bay : ℕ) (beside known : Note) → heard_note (Some f.from.0)
    (is_some z) bay beside known ≡ heard_of Note lost z true (Arrival f) bay beside known
heard_one None f bay beside known = refl
heard_one (Some g) f bay beside known = refl

heard_is : (m : Meaning) (s : State) (event : NodeEvent) (from : Option ℕ) (z : Option Collection) (bay : ℕ)
    (beside known : Note) → CountsOf m s event from → heard_note from
    (is_some z) bay beside known ≡ heard_of Note lost z (is_some from) event bay beside known
heard_is m s event from z bay beside known (CountsOf.an_answer f is counts same) = rw (same, is)
    (heard_one z f bay beside known)
heard_is m s event from z bay beside known (CountsOf.nothing none same) = rw same
    (heard_nobody z event bay beside known)

pub learned_is : (m : Meaning) (s : State) (event : NodeEvent) (from : Option ℕ) (x : Option Collection)
    (y : Option Grant) (z : Option Collection) (bay b : ℕ) (own beside known : Note) → CountsOf m s event from
    → learned_note from (is_some z) (is_some y) (is_some x) bay b own beside known ≡ known_of Note x y bay b own
    (heard_of Note lost z (is_some from) event bay beside known) known
learned_is m s event from (Some g) y z bay b own beside known counts = heard_is m s event from z bay beside known counts
learned_is m s event from None (Some g) z bay b own beside known counts = refl
learned_is m s event from None None z bay b own beside known counts = ap (λ (n : Note). cond (bay == b) own n)
    (heard_is m s event from z bay beside known counts)
