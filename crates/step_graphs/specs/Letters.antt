-- The values of a step, by their numbers in a pool.
use Rattle.std.specs.Prelude.{◌≡◌, ℕ, ◌↔◌, Bool, true, false, List, [], ◌∷◌, length, slice_get, Some}
use Rattle.station_graph.specs.Diagram.{Diagram}
use Rattle.contraction.specs.Answers.{Answers, Keeps}
use Rattle.contraction.specs.Stands.{Among, StandsFor}
use Rattle.judge_pool.specs.declared.pool.Pool.{Pool}
use Rattle.judge_pool.specs.Pooling.{HasCopy}
use Rattle.step_graphs.specs.declared.step.Step.{Step}
use Rattle.step_graphs.specs.Steps.{items_in, StepTouches, HasPosition}

-- The value is that of the step where its switch has this position, on the nodes that its item touches.
pub record IsLetterOf (d : Diagram) (s : Step) (closed : Bool) (letter : Answers) : Type 0 where
  pub stands : (v : List Bool) → HasPosition s v closed → StandsFor (Among (items_in s)) d v letter
  pub kept : (n : ℕ) → Keeps letter.kept n ↔ StepTouches d s n

-- The number is that of a copy of this letter.
pub record HasLetter (p : Pool) (d : Diagram) (s : Step) (closed : Bool) (letter : Answers) (id : ℕ) : Type 0 where
  pub is : IsLetterOf d s closed letter
  pub copy : HasCopy p letter id

-- The two letters of the step, for open and for closed, have these two numbers.
pub record IsStepRow (p : Pool) (d : Diagram) (s : Step) (letters : List Answers) (ids : List ℕ) : Type 0 where
  pub open_letter : Answers
  pub closed_letter : Answers
  pub open_id : ℕ
  pub closed_id : ℕ
  pub both : letters ≡ open_letter ∷ closed_letter ∷ []
  pub two : ids ≡ open_id ∷ closed_id ∷ []
  pub open_has : HasLetter p d s false open_letter open_id
  pub closed_has : HasLetter p d s true closed_letter closed_id

-- The first n rows are those of the first n steps.
pub record AreStepRows (p : Pool) (d : Diagram) (steps : List Step) (rows : List (List ℕ)) (n : ℕ) : Type 0 where
  pub letters : List (List Answers)
  pub len : length rows ≡ n
  pub letters_len : length letters ≡ n
  pub each : (k : ℕ) (s : Step) (xs : List Answers) (ids : List ℕ) → slice_get steps k ≡ Some s →
      slice_get letters k ≡ Some xs → slice_get rows k ≡ Some ids → IsStepRow p d s xs ids
