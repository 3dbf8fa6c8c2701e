-- What a bay has to be told by others, and to tell them.
use Rattle.std.specs.Prelude.{◌≡◌, ◌⊎◌, ℕ, suc, Bool, true, false, List, [], ◌∷◌, Option, Some, None, slice_get, map, not, if◌then◌else◌}
use Rattle.std.specs.List.{Contains, flat_map}
use Rattle.structured_text.specs.declared.name.Name.{Name}
use Rattle.program_blocks.specs.declared.block.Block.{Block}
use Rattle.program_blocks.specs.declared.block.BlockCall.{BlockCall}
use Rattle.program_blocks.specs.declared.block.Step.{Step}
use Rattle.program_blocks.specs.declared.block.Step.TheVariants.{Assign, Call}
use Rattle.program_blocks.specs.Renaming.{outer}
use Rattle.program_text.specs.ReadNames.{formula_names}
use Rattle.program_text.specs.Unblocked.{step_variables}
use Rattle.program_text.specs.BayCalls.{is_for}

-- Whether the step is one of the bay's own calls; or whether it is none of them.
abbrev pub is_picked : ℕ → Bool → Step → Bool
is_picked p true x = is_for p x
is_picked p false x = not (is_for p x)

-- What a call reads of the program; what a step does.
abbrev pub call_reads : BlockCall → Option Block → List Name
call_reads c None = []
call_reads c (Some b) = map (λ (n : Name). outer c n) b.inputs.items

abbrev pub step_reads : List Block → Step → List Name
step_reads bs (Assign x) = formula_names x.formula
step_reads bs (Call c) = call_reads c (slice_get bs c.block)

-- What the bay's own calls, or all other steps, read of the program; and what they set in it beside the releases.
abbrev pub all_reads : List Block → ℕ → Bool → List Step → List Name
all_reads bs p own steps = flat_map (λ (x : Step). if is_picked p own x then step_reads bs x else []) steps

abbrev pub all_gives : List Block → ℕ → Bool → List Step → List Name
all_gives bs p own steps = flat_map (λ (x : Step). if is_picked p own x then step_variables bs x else []) steps

-- So many of the variables are of the kind.
abbrev pub IsCount : (Name → Type 0) → List Name → ℕ → Type 0
IsCount P [] k = k ≡ 0
IsCount P (n ∷ ns) k = (P n × ((j : ℕ) × (k ≡ suc j) × IsCount P ns j)) ⊎ (¬ P n × IsCount P ns k)

-- So many variables are set by the bay's own calls and read by another step; or are set by another step and read by them.
abbrev pub ArePassed : List Block → ℕ → Bool → List Step → ℕ → Type 0
ArePassed bs p own steps = IsCount (λ (n : Name). Contains (all_reads bs p (not own) steps) n) (all_gives bs p own steps)
