-- The nodes that are kept before each layer, where one step is left out.
use Rattle.std.specs.Prelude.{◌≡◌, ℕ, ◌<◌, ◌≤◌, ◌⊎◌, ◌↔◌, Bool, true, List, length, slice_get, Some}
use Rattle.station_graph.specs.Diagram.{Diagram}
use Rattle.judge_pool.specs.Graphs.{other_of}
use Rattle.step_graphs.specs.declared.step.Step.{Step}
use Rattle.step_graphs.specs.declared.spans.Span.{Span}
use Rattle.step_graphs.specs.Steps.{StepTouches}

-- The item of the step at this place touches the node.
abbrev pub TouchedAt : Diagram → List Step → ℕ → ℕ → Type 0
TouchedAt d steps p n = (s : Step) × (slice_get steps p ≡ Some s) × StepTouches d s n

-- One of the first j other steps touches the node.
abbrev pub TouchedBefore : Diagram → List Step → ℕ → ℕ → ℕ → Type 0
TouchedBefore d steps b j n = (i : ℕ) × (i < j) × TouchedAt d steps (other_of 0 b i) n

-- One of the other steps from the j-th on touches the node.
abbrev pub TouchedFrom : Diagram → List Step → ℕ → ℕ → ℕ → Type 0
TouchedFrom d steps b j n = (i : ℕ) × (j ≤ i) × TouchedAt d steps (other_of 0 b i) n

-- One of the first j other steps touches the node, and so does the left out one or one from the j-th on.
pub record IsNeeded (d : Diagram) (steps : List Step) (b j n : ℕ) : Type 0 where
  pub before : TouchedBefore d steps b j n
  pub after : TouchedAt d steps b n ⊎ TouchedFrom d steps b j n

-- From which of the other steps on, and up to which, the node is touched, and whether the left out step touches it.
pub record IsSpan (d : Diagram) (steps : List Step) (b others n : ℕ) (s : Span) : Type 0 where
  pub begins : (j : ℕ) → j ≤ others → TouchedBefore d steps b j n ↔ (s.first < j)
  pub ends : (j : ℕ) → TouchedFrom d steps b j n ↔ (j < s.after)
  pub own : (s.own ≡ true) ↔ TouchedAt d steps b n

-- The spans of the first n nodes.
pub record AreSpans (d : Diagram) (steps : List Step) (b others : ℕ) (spans : List Span) (n : ℕ) : Type 0 where
  pub len : length spans ≡ n
  pub each : (k : ℕ) (s : Span) → slice_get spans k ≡ Some s → IsSpan d steps b others k s

-- The span reaches over the place before the j-th other step.
abbrev pub Spans : ℕ → Span → Type 0
Spans j s = (s.first < j) × ((s.own ≡ true) ⊎ (j < s.after))

-- So does that of this node.
abbrev pub SpannedAt : List Span → ℕ → ℕ → Type 0
SpannedAt spans j n = (s : Span) × (slice_get spans n ≡ Some s) × Spans j s
