-- The variables of a program, and lines as a program without blocks.
use Rattle.std.specs.Prelude.{List, [], ◌∷◌, Option, Some, None, slice_get, map}
use Rattle.std.specs.List.{flat_map}
use Rattle.structured_text.specs.declared.name.Name.{Name}
use Rattle.structured_text.specs.declared.name.Name.TheVariants.{Off, On, May, Sure, Opens, Closes}
use Rattle.structured_text.specs.declared.line.Line.{Line}
use Rattle.program_blocks.specs.declared.block.Block.{Block}
use Rattle.program_blocks.specs.declared.block.BlockCall.{BlockCall}
use Rattle.program_blocks.specs.declared.block.Step.{Step}
use Rattle.program_blocks.specs.declared.block.Step.TheVariants.{Assign, Call}
use Rattle.program_blocks.specs.Renaming.{outer}

-- Each line is a step.
abbrev pub assigned : List Line → List Step
assigned lines = map (λ (x : Line). Assign x) lines

-- The variable, unless it is a release.
abbrev pub unless_release : Name → List Name
unless_release (Off i) = Off i ∷ []
unless_release (On i) = On i ∷ []
unless_release (May k) = May k ∷ []
unless_release (Sure k) = Sure k ∷ []
unless_release (Opens i) = []
unless_release (Closes i) = []

-- What a call sets in the program beside the releases; what a step does; what steps do.
abbrev pub call_variables : BlockCall → Option Block → List Name
call_variables c None = []
call_variables c (Some b) = flat_map (λ (n : Name). unless_release (outer c n)) b.outputs.items

abbrev pub step_variables : List Block → Step → List Name
step_variables bs (Assign x) = unless_release x.name
step_variables bs (Call c) = call_variables c (slice_get bs c.block)

abbrev pub set_variables : List Block → List Step → List Name
set_variables bs steps = flat_map (λ (x : Step). step_variables bs x) steps
