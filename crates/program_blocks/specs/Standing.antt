-- Programs of blocks that stand for lines.
use Rattle.std.specs.Prelude.{◌≡◌, ◌⊎◌, ◌<◌, ◌^◌, ℕ, true, List, [], Option, Some, None, length, slice_get, map}
use Rattle.std.specs.List.{Contains}
use Rattle.station_graph.specs.Diagram.{Diagram, part_count}
use Rattle.structured_text.specs.declared.name.Name.{Name}
use Rattle.structured_text.specs.declared.line.Line.{Line}
use Rattle.structured_text.specs.Order.{IsRelease}
use Rattle.structured_text.specs.Sides.{AreSided}
use Rattle.structured_text.specs.Within.{NameWithin, HeadingWithin, LineWithin, LinesWithin}
use Rattle.program_blocks.specs.declared.block.Block.{Block}
use Rattle.program_blocks.specs.declared.block.BlockCall.{BlockCall}
use Rattle.program_blocks.specs.declared.block.Step.{Step}
use Rattle.program_blocks.specs.declared.block.Step.TheVariants.{Assign, Call}
use Rattle.program_blocks.specs.Renaming.{outer}
use Rattle.program_blocks.specs.Calls.{bare, unfolded}
use Rattle.program_blocks.specs.Wiring.{IsGiven, AreWired, known_after}

-- Each release that these lines set is known.
abbrev pub AreReleased : List Name → List Line → Type 0
AreReleased known lines =
    (k : ℕ) (x : Line) → slice_get lines k ≡ Some x → IsRelease x.name → IsGiven true known x.name

-- The variables are those of switches that there are, and of formulas; so are those for which they stand at a call.
abbrev pub AreNamesWithin : ℕ → List Name → Type 0
AreNamesWithin count names = (k : ℕ) (n : Name) → slice_get names k ≡ Some n → NameWithin count n

abbrev pub AreWiresWithin : ℕ → BlockCall → List Name → Type 0
AreWiresWithin count c names = (k : ℕ) (n : Name) → slice_get names k ≡ Some n → NameWithin count (outer c n)

-- Each variable that the block sets is one of its outputs, or one of its other variables.
abbrev pub AreDeclared : Block → Type 0
AreDeclared b =
    (k : ℕ) (x : Line) → slice_get b.lines.items k ≡ Some x →
    Contains b.outputs.items x.name ⊎ Contains b.locals.items x.name

-- Each variable that is known is a release, or one of these.
abbrev pub AreVariables : List Name → List Name → Type 0
AreVariables known variables = (k : ℕ) (n : Name) → slice_get known k ≡ Some n → IsRelease n ⊎ Contains variables n

-- Blocks and steps name parts and switches of the station alone.
pub record BlockWithin (d : Diagram) (b : Block) : Type 0 where
  pub heading : HeadingWithin (part_count d) b.heading
  pub inputs : AreNamesWithin (length d.switches) b.inputs.items
  pub outputs : AreNamesWithin (length d.switches) b.outputs.items
  pub locals : AreNamesWithin (length d.switches) b.locals.items
  pub lines : LinesWithin d b.lines.items
  pub declared : AreDeclared b

abbrev pub BlocksWithin : Diagram → List Block → Type 0
BlocksWithin d bs = (k : ℕ) (b : Block) → slice_get bs k ≡ Some b → BlockWithin d b

-- So do the inputs and outputs of a call's block, if there is such a block, in the variables of the program.
abbrev pub WiresWithin : Diagram → BlockCall → Option Block → Type 0
WiresWithin d c None = Unit {0}
WiresWithin d c (Some b) =
    AreWiresWithin (length d.switches) c b.inputs.items × AreWiresWithin (length d.switches) c b.outputs.items

abbrev pub StepWithin : Diagram → List Block → Step → Type 0
StepWithin d bs (Assign x) = LineWithin d x
StepWithin d bs (Call c) =
    (c.block < 2 ^ 64) × HeadingWithin (part_count d) c.heading × WiresWithin d c (slice_get bs c.block)

abbrev pub StepsWithin : Diagram → List Block → List Step → Type 0
StepsWithin d bs steps = (k : ℕ) (x : Step) → slice_get steps k ≡ Some x → StepWithin d bs x

-- The lines of each block are on the side of denial.
abbrev pub AreBlocksSided : List Block → Type 0
AreBlocksSided bs = (k : ℕ) (b : Block) → slice_get bs k ≡ Some b → AreSided b.lines.items

-- The steps stand for the lines, and each variable is set once and before it is read; the releases are set in the program,
-- and what else is set there is one of these variables; the blocks are on the side of denial.
pub record StandFor (d : Diagram) (lines : List Line) (bs : List Block) (steps : List Step) (variables : List Name) : Type 0 where
  pub wired : AreWired bs [] steps
  pub same : unfolded bs steps ≡ map (λ (x : Line). bare x) lines
  pub released : AreReleased (known_after bs [] steps) lines
  pub declared : AreVariables (known_after bs [] steps) variables
  pub sided : AreBlocksSided bs
  pub few_blocks : length bs < 2 ^ 64
  pub few_steps : length steps < 2 ^ 64
  pub blocks_within : BlocksWithin d bs
  pub steps_within : StepsWithin d bs steps
  pub names_within : AreNamesWithin (length d.switches) variables
