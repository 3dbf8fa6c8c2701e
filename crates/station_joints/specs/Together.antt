-- The steps of two stations, side by side.
use Rattle.std.specs.Prelude.{◌≡◌, ℕ, Bool, List, length, slice_get, Some}
use Rattle.station_graph.specs.Diagram.{Diagram}
use Rattle.station_graph.specs.Connection.{a_switch}
use Rattle.station_changes.specs.Compare.{SameSwitch}
use Rattle.judge_pool.specs.Graphs.{other_of}
use Rattle.step_graphs.specs.declared.step.Step.{Step}
use Rattle.step_graphs.specs.declared.step.Step.TheVariants.{OfSwitch, OfLink, OfTap, OfNothing}
use Rattle.step_graphs.specs.Steps.{AreSteps, TakesIn}
use Rattle.step_graphs.specs.Moved.{AreGiven}

-- A step of the old station and one of the new: both the same switch, or one of them what only its station has. Links and
-- taps are never the same.
abbrev pub AreTogether : Diagram → Diagram → Step → Step → Type 0
AreTogether o n (OfSwitch i) (OfSwitch k) = SameSwitch o n i.0 k.0
AreTogether o n (OfSwitch i) OfNothing = (k : ℕ) → ¬ SameSwitch o n i.0 k
AreTogether o n (OfSwitch i) other = ⊥
AreTogether o n (OfLink i) OfNothing = Unit {0}
AreTogether o n (OfLink i) other = ⊥
AreTogether o n (OfTap i) OfNothing = Unit {0}
AreTogether o n (OfTap i) other = ⊥
AreTogether o n OfNothing (OfSwitch k) = (i : ℕ) → ¬ SameSwitch o n i k.0
AreTogether o n OfNothing (OfLink i) = Unit {0}
AreTogether o n OfNothing (OfTap i) = Unit {0}
AreTogether o n OfNothing OfNothing = ⊥

-- Of the two steps only one is a switch.
abbrev pub IsAlone : Step → Step → Type 0
IsAlone (OfSwitch i) OfNothing = Unit {0}
IsAlone OfNothing (OfSwitch k) = Unit {0}
IsAlone one other = ⊥

-- The steps of both stations, of which those at one place are taken together.
pub record AreJointSteps (o n : Diagram) (old_steps new_steps : List Step) : Type 0 where
  pub old_all : AreSteps o old_steps
  pub new_all : AreSteps n new_steps
  pub len : length old_steps ≡ length new_steps
  pub together : (p : ℕ) (s t : Step) → slice_get old_steps p ≡ Some s → slice_get new_steps p ≡ Some t →
      AreTogether o n s t

-- For each switch of a station the place of its step.
pub record ArePlaces (d : Diagram) (steps : List Step) (places : List ℕ) : Type 0 where
  pub len : length places ≡ length d.switches
  pub each : (i p : ℕ) → slice_get places i ≡ Some p → TakesIn steps p (a_switch i)

-- One choice for each place but b: 0 where the switch of its step is open in the vector of its station, 1 where it is
-- closed.
pub record AreJointlyGiven (old_steps new_steps : List Step) (b : ℕ) (u v : List Bool) (cs : List ℕ) : Type 0 where
  pub old_given : AreGiven old_steps b u cs
  pub new_given : AreGiven new_steps b v cs

-- At each place but b where only one of the stations has a switch the choice is 0.
abbrev pub AreIsolating : List Step → List Step → ℕ → List ℕ → Type 0
AreIsolating old_steps new_steps b cs = (j c : ℕ) (s t : Step) → slice_get cs j ≡ Some c →
    slice_get old_steps (other_of 0 b j) ≡ Some s → slice_get new_steps (other_of 0 b j) ≡ Some t → IsAlone s t →
    c ≡ 0
