-- The text of one bay: the blocks that its calls name.
use Rattle.std.specs.Prelude.{◌≡◌, ◌++◌, ◌+◌, ◌==◌, ◌&&◌, ◌||◌, ℕ, Bool, true, false, List, [], ◌∷◌, codes, decimal}
use Rattle.std.specs.Prelude.{if◌then◌else◌}
use Rattle.station_graph.specs.Diagram.{Diagram}
use Rattle.structured_text.specs.Width.{AreLinesShort}
use Rattle.program_blocks.specs.declared.block.Block.{Block}
use Rattle.program_blocks.specs.declared.block.Step.{Step}
use Rattle.program_blocks.specs.declared.block.Step.TheVariants.{Assign, Call}
use Rattle.program_text.specs.declared.block_program.BlockProgram.{BlockProgram}
use Rattle.program_text.specs.ProgramText.{block_text, IsWholeText}
use Rattle.program_text.specs.BayCalls.{is_of_bay}
use Rattle.program_text.specs.BayExchange.{ArePassed}

-- Whether a step calls block k for bay p; whether one of the steps does.
abbrev pub calls_for : ℕ → ℕ → Step → Bool
calls_for p k (Assign x) = false
calls_for p k (Call c) = (c.block == k) && is_of_bay p c.heading

abbrev pub is_called_for : ℕ → ℕ → List Step → Bool
is_called_for p k [] = false
is_called_for p k (x ∷ xs) = calls_for p k x || is_called_for p k xs

-- The blocks, from number k on, that are called for bay p.
abbrev pub bay_blocks_text : Diagram → List Step → ℕ → ℕ → List Block → List ℕ
bay_blocks_text d steps p k [] = []
bay_blocks_text d steps p k (b ∷ bs) =
    (if is_called_for p k steps then block_text d k b else []) ++ bay_blocks_text d steps p (k + 1) bs

-- A comment: how many BOOLs the bay has to be told by others, and how many to tell them.
abbrev pub bay_exchange_text : ℕ → ℕ → List ℕ
bay_exchange_text told tells =
    codes "(* from other bays " ++ (decimal told ++ (codes " BOOLs, to other bays " ++ (decimal tells ++ codes " *)\n")))

-- The text says how many variables the calls for bay p read that other steps of this program set, and how many they set that
-- others read; then it has the blocks that are called for the bay, each as the whole text of this program has it, in the
-- order there. No line has more than 200 characters.
pub record IsBayText (d : Diagram) (b : BlockProgram) (p : ℕ) (text : List ℕ) : Type 0 where
  pub told : ℕ
  pub tells : ℕ
  pub is_told : ArePassed b.blocks.items p false b.steps.items told
  pub is_telling : ArePassed b.blocks.items p true b.steps.items tells
  pub spelled : text ≡ bay_exchange_text told tells ++ bay_blocks_text d b.steps.items p 0 b.blocks.items
  pub short : AreLinesShort text

-- The text is that of bay p in a program of the station, which has a whole text.
pub record IsBayProgramText (d : Diagram) (p : ℕ) (text : List ℕ) : Type 0 where
  pub program : BlockProgram
  pub whole : List ℕ
  pub within : IsWholeText d program whole
  pub of_bay : IsBayText d program p text
