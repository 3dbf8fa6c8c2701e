-- Choices that show a change.
use Rattle.std.specs.Prelude.{◌≡◌, ℕ, List, Bool, Option, MatchOption, slice_get, Some}
use Rattle.ilk_base.specs.declared.words.Direction.{Direction}
use Rattle.ilk_base.specs.declared.words.Rule.{Rule}
use Rattle.station_changes.specs.declared.change.Change.{Change}
use Rattle.decision_graphs.specs.Label.{Layered, label_of, AreAllowed}
use Rattle.decision_graphs.specs.Marked.{Marking, AreMarksOf, PathsLead}
use Rattle.decision_graphs.specs.Reaching.{MarksReached}
use Rattle.graph_walks.specs.declared.codes.Codes.{Codes}
use Rattle.change_search.specs.Telling.{Tells}

-- The choices lead to labels that tell this change by this rule.
pub record LeadsToChange (g : Layered) (codes : List Codes) (direction : Direction) (change : Change) (rule : Rule)
    (cs : List ℕ) : Type 0 where
  pub labels : Codes
  pub there : slice_get codes (label_of g cs) ≡ Some labels
  pub tells : Tells direction change rule labels

-- Allowed choices that do so, wherever there are any.
abbrev pub IsFound : Layered → List Codes → List (List Bool) → Direction → Change → Rule → Option (List ℕ) → Type 0
IsFound g codes sets direction change rule found =
    MatchOption found ((cs : List ℕ) → AreAllowed sets cs → ¬ LeadsToChange g codes direction change rule cs)
    (λ cs. AreAllowed sets cs × LeadsToChange g codes direction change rule cs)

-- The marks are those of what the allowed choices reach.
pub record HaveReached (g : Layered) (sets : List (List Bool)) (marks : Marking) : Type 0 where
  pub fit : AreMarksOf g marks
  pub exact : MarksReached g sets marks.labels
  pub paths : PathsLead g sets marks
