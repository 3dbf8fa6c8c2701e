-- The lines of a text, group by group.
use Rattle.std.specs.Prelude.{◌≡◌, ◌≤◌, ◌++◌, suc, ℕ, List, [], ◌∷◌, length, map, slice_get, Some, codes}
use Rattle.ilk_base.specs.declared.words.Direction.TheVariants.{ToOff, ToOn}
use Rattle.station_graph.specs.Diagram.{Diagram}
use Rattle.part_alphabets.specs.declared.fork.PartStep.{PartStep}
use Rattle.part_alphabets.specs.declared.fork.Target.{Target}
use Rattle.station_equations.specs.declared.goal.SwitchGoals.{SwitchGoals}
use Rattle.station_equations.specs.declared.goal.TheConstants.{NUMBERS}
use Rattle.station_equations.specs.EquationLines.{PartLines, NodeLine}
use Rattle.station_equations.specs.EquationForm.{IsTarget, OpsFit}
use Rattle.station_equations.specs.EquationText.{then_number, then_word, target_text, switch_line, step_line, op_line}
use Rattle.station_equations.specs.EquationText.{node_line, numbered, text_of}
use Rattle.equation_text.specs.Beginnings.{MayBeStep, MayBeNode}

-- The lines before those of the parts, as a text.
abbrev pub front_text : Diagram → List ℕ
front_text d = text_of (codes "equations" ∷ numbered (λ s path. switch_line s path ∷ []) d.switch_paths)

-- The lines of parts that begin at these targets.
abbrev pub start_lines : List Target → List (List ℕ)
start_lines ts = numbered (λ p t. (codes "part" ++ then_number p ++ then_word (target_text t)) ∷ []) ts

-- The lines of a part's steps.
abbrev pub step_lines : ℕ → List PartStep → List (List ℕ)
step_lines part steps = numbered (λ m s. step_line part m s ∷ []) steps

-- The lines of the steps of all parts.
abbrev pub all_step_lines : List PartLines → List (List ℕ)
all_step_lines parts = numbered (λ p (x : PartLines). step_lines p x.steps) parts

-- The lines of all operations.
abbrev pub op_lines : List SwitchGoals → List (List ℕ)
op_lines ops = numbered (λ s x. op_line ToOff s x ∷ op_line ToOn s x ∷ []) ops

-- The lines of all nodes.
abbrev pub node_lines : List NodeLine → List (List ℕ)
node_lines nodes = numbered (λ n x. node_line n x ∷ []) nodes

-- The targets at which so many parts may begin.
pub record MayBeStarts (n : ℕ) (ts : List Target) : Type 0 where
  pub count : length ts ≡ n
  pub each : (p : ℕ) (t : Target) → slice_get ts p ≡ Some t → IsTarget NUMBERS t

-- The steps that a part may have.
pub record MayBeSteps (d : Diagram) (part : ℕ) (steps : List PartStep) : Type 0 where
  pub few : length steps ≤ NUMBERS
  pub each : (m : ℕ) (s : PartStep) → slice_get steps m ≡ Some s → MayBeStep d part m s

-- No line of this part's step m follows in the text.
abbrev pub NoStep : Diagram → ℕ → ℕ → List ℕ → Type 0
NoStep d part m text = (s : PartStep) (rest : List ℕ) → MayBeStep d part m s → text ≡ step_line part m s ++ 10 ∷ rest
    → ⊥

-- From this part on none has a step.
abbrev pub NoneFrom : ℕ → List PartLines → Type 0
NoneFrom part parts = (q : ℕ) (x : PartLines) → part ≤ q → slice_get parts q ≡ Some x → x.steps ≡ []

-- The old text begins with the lines of the steps of these parts, which begin at these targets, and no step of
-- a part follows in the new text where no later part has one.
pub record AreAllSteps (d : Diagram) (starts : List Target) (old new : List ℕ) (parts : List PartLines) : Type 0 where
  pub starts_are : map (λ (x : PartLines). x.start) parts ≡ starts
  pub steps : (part : ℕ) (x : PartLines) → slice_get parts part ≡ Some x → MayBeSteps d part x.steps
  pub text : old ≡ text_of (all_step_lines parts) ++ new
  pub last : (part : ℕ) (x : PartLines) → slice_get parts part ≡ Some x → NoneFrom (suc part) parts
      → NoStep d part (length x.steps) new

-- The goals that so many switches may have.
pub record MayBeOps (n : ℕ) (ops : List SwitchGoals) : Type 0 where
  pub count : length ops ≡ n
  pub fit : OpsFit NUMBERS ops

-- The nodes that there may be.
pub record MayBeNodes (switches : ℕ) (counts : List ℕ) (nodes : List NodeLine) : Type 0 where
  pub few : length nodes ≤ NUMBERS
  pub each : (n : ℕ) (x : NodeLine) → slice_get nodes n ≡ Some x → MayBeNode switches counts n x
