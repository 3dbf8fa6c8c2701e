-- What is found of an operation, a change and a rule.
use Rattle.std.specs.Prelude.{◌≡◌, ◌↔◌, ℕ, suc, Bool, false, List, length, slice_get, Some}
use Rattle.station_changes.specs.Compare.{Witness}
use Rattle.decision_graphs.specs.Label.{AreAllowed}
use Rattle.graph_walks.specs.Walks.{AreTwos}
use Rattle.judge_pool.specs.Graphs.{other_of}
use Rattle.step_graphs.specs.declared.step.Step.{Step}
use Rattle.station_joints.specs.Together.{IsAlone, AreIsolating}
use Rattle.change_search.specs.declared.part.Shown.{Shown}

-- For each place but b whether its step is free: where only one of the stations has a switch it is not.
pub record AreFree (old_steps new_steps : List Step) (b : ℕ) (free : List Bool) : Type 0 where
  pub count : suc (length free) ≡ length old_steps
  pub each : (j : ℕ) (f : Bool) (s t : Step) → slice_get free j ≡ Some f →
      slice_get old_steps (other_of 0 b j) ≡ Some s → slice_get new_steps (other_of 0 b j) ≡ Some t →
      (f ≡ false) ↔ IsAlone s t

-- The position that is shown.
abbrev pub witness_of : Shown → Witness
witness_of s = record { old = s.old_closed.items; new = s.new_closed.items; isolated = s.isolated }

-- Exactly isolating choices are allowed, one of two at each place but b.
abbrev pub AllowIsolating : List Step → List Step → ℕ → List (List Bool) → Type 0
AllowIsolating old_steps new_steps b sets = (cs : List ℕ) → (n : ℕ) → suc n ≡ length old_steps →
    AreAllowed sets cs ↔ (AreTwos n cs × AreIsolating old_steps new_steps b cs)

-- All choices are allowed, one of two at each place but one.
abbrev pub AllowAll : List Step → List (List Bool) → Type 0
AllowAll old_steps sets = (cs : List ℕ) → (n : ℕ) → suc n ≡ length old_steps → AreAllowed sets cs ↔ AreTwos n cs
