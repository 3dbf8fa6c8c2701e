-- What is found of an operation, view by view.
use Rattle.std.specs.Prelude.{◌≡◌, ℕ, suc, ◌<◌, Bool, List, length, drop, slice_get, Some, None}
use Rattle.ilk_base.specs.declared.words.Dbpos.{Dbpos}
use Rattle.ilk_base.specs.declared.words.Op.{Op}
use Rattle.station_graph.specs.CentralRules.{Breaks, GapBreaks}
use Rattle.decision_graphs.specs.Label.{AreAllowed}
use Rattle.judge_pool.specs.declared.view.View.{View}
use Rattle.judge_pool.specs.Graphs.{LabelSays}
use Rattle.judge_pool.specs.Lettered.{Lettered}
use Rattle.release_compile.specs.Allowed.{Within, GivesChoices}
use Rattle.release_compile.specs.declared.search.Found.{Found}

-- The operation breaks neither of the first two rules in any allowed vector.
abbrev pub IsGapFree : Lettered → ℕ → List Dbpos → List (List Bool) → Op → Type 0
IsGapFree a b words sets op = (v : List Bool) → Within a b words sets v → GapBreaks a.diagram v op None

-- The operation breaks no rule in any allowed vector.
abbrev pub IsFree : Lettered → ℕ → List Dbpos → List (List Bool) → Op → Type 0
IsFree a b words sets op = (v : List Bool) → Within a b words sets v → Breaks a.diagram v op None

-- In each allowed vector the first label holds of the switch, which says no rule of the view.
abbrev pub SaysNoRule : View → Lettered → ℕ → ℕ → List Dbpos → List (List Bool) → Type 0
SaysNoRule view a b m words sets = (v : List Bool) → Within a b words sets v → LabelSays view a.diagram m v 0

-- The choices are allowed, and each vector that gives them is, and in it the operation breaks the rule that was found.
pub record IsDenial (a : Lettered) (b m first others : ℕ) (words : List Dbpos) (sets : List (List Bool)) (op : Op)
    (f : Found) : Type 0 where
  pub allows : AreAllowed sets f.choices.outer
  pub count : length f.choices.inner ≡ suc others
  pub small : (i c : ℕ) → slice_get (drop 1 f.choices.inner) i ≡ Some c → c < 2
  pub denies : (v : List Bool) → GivesChoices a b m first words f.choices.outer (drop 1 f.choices.inner) v →
      Within a b words sets v × Breaks a.diagram v op (Some f.rule)
