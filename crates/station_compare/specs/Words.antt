-- The words of operations that two stations have.
use Rattle.std.specs.Prelude.{◌≢◌, if◌then◌else◌, Bool, List, Option, Some, None}
use Rattle.ilk_base.specs.declared.words.Op.{Op}
use Rattle.ilk_base.specs.declared.words.Rule.{Rule}
use Rattle.station_graph.specs.Diagram.{Diagram}
use Rattle.station_changes.specs.declared.change.Change.{Change}
use Rattle.station_changes.specs.Compare.{IsJoint, IsIsolated, IsChange, Witness}
use Rattle.change_search.specs.declared.part.Shown.{Shown}
use Rattle.station_compare.specs.declared.found.RuleChanges.{RuleChanges}
use Rattle.station_compare.specs.declared.found.OperationChanges.{OperationChanges}
use Rattle.station_compare.specs.declared.found.SwitchChanges.{SwitchChanges}
use Rattle.station_compare.specs.declared.found.Found.{Found}
use Rattle.station_compare.specs.declared.found.Found.TheVariants.{OnlyNew, InBoth}
use Rattle.station_compare.specs.declared.word.Word.{Word}
use Rattle.station_compare.specs.declared.word.Word.TheVariants.{Same, Kept, Changed}

-- The position of all switches of both shows some change of the operation.
pub record ShowsSome (o n : Diagram) (a b : Op) (u v : List Bool) : Type 0 where
  pub change : Change
  pub rule : Rule
  pub joint : IsJoint o n u v
  pub shows : IsChange o n a b change rule u v

-- Some position shows a change, and none that is isolated.
pub record IsKept (o n : Diagram) (a b : Op) : Type 0 where
  pub old : List Bool
  pub new : List Bool
  pub shows : ShowsSome o n a b old new
  pub none_isolated : (u v : List Bool) → ShowsSome o n a b u v → ¬ IsIsolated o n u v

-- An isolated position shows a change.
pub record IsChanged (o n : Diagram) (a b : Op) : Type 0 where
  pub old : List Bool
  pub new : List Bool
  pub shows : ShowsSome o n a b old new
  pub isolated : IsIsolated o n old new

-- The word of an operation that both stations have: same where no position shows a change, kept where some does but no
-- isolated one, changed where an isolated one does.
abbrev pub IsWord : Diagram → Diagram → Op → Op → Word → Type 0
IsWord o n a b Same = (u v : List Bool) → ¬ ShowsSome o n a b u v
IsWord o n a b Kept = IsKept o n a b
IsWord o n a b Changed = IsChanged o n a b

-- The position, seen from the other station.
abbrev pub turned : Witness → Witness
turned w = record { old = w.new; new = w.old; isolated = w.isolated }

-- The worse of two words.
abbrev pub worse : Word → Word → Word
worse Changed other = Changed
worse Kept Changed = Changed
worse Kept Kept = Kept
worse Kept Same = Kept
worse Same other = other

-- The word of a change by a rule, of which this is found.
abbrev pub part_word : Option Shown → Word
part_word None = Same
part_word (Some s) = if s.isolated then Changed else Kept

-- The worst of those of the three rules.
abbrev pub rule_word : RuleChanges → Word
rule_word c = worse (worse (part_word c.by_r1) (part_word c.by_r2)) (part_word c.by_r3)

-- The worst of those of both changes.
abbrev pub word_of : OperationChanges → Word
word_of c = worse (rule_word c.stricter) (rule_word c.looser)

-- The worse of the words of a switch's two operations.
abbrev pub switch_word : SwitchChanges → Word
switch_word c = worse (word_of c.opening) (word_of c.closing)

-- No operation of the switch is changed.
abbrev pub IsUnchanged : Found → Type 0
IsUnchanged OnlyNew = Unit {0}
IsUnchanged (InBoth c) = switch_word c ≢ Changed

-- The word of a switch of the new station, if the old one has it too.
abbrev pub found_word : Found → Option Word
found_word OnlyNew = None
found_word (InBoth c) = Some (switch_word c)

-- The worse of two words, if there are any.
abbrev pub worst : Option Word → Option Word → Option Word
worst None other = other
worst (Some w) None = Some w
worst (Some w) (Some x) = Some (worse w x)
