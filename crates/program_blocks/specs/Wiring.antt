-- Programs in which each variable is set once, and before it is read: by the program, and in each block.
use Rattle.std.specs.Prelude.{◌≡◌, ◌≢◌, ◌⊎◌, ◌++◌, ℕ, Bool, true, false, List, [], ◌∷◌, Option, Some, None, slice_get, map}
use Rattle.std.specs.List.{Contains}
use Rattle.structured_text.specs.declared.name.Name.{Name}
use Rattle.structured_text.specs.declared.line.Line.{Line}
use Rattle.structured_text.specs.Reads.{FormulaReads}
use Rattle.structured_text.specs.Order.{IsInput, IsSetIn}
use Rattle.program_blocks.specs.declared.block.Block.{Block}
use Rattle.program_blocks.specs.declared.block.BlockCall.{BlockCall}
use Rattle.program_blocks.specs.declared.block.Step.{Step}
use Rattle.program_blocks.specs.declared.block.Step.TheVariants.{Assign, Call}
use Rattle.program_blocks.specs.Renaming.{outer}

-- The variable can be read: it is one of these, or, in a program, a contact.
abbrev pub IsGiven : Bool → List Name → Name → Type 0
IsGiven true names m = IsInput m ⊎ Contains names m
IsGiven false names m = Contains names m

-- A line of a block reads what is given in it, and sets what is not; nor does it, in the program, set what is known there.
pub record IsLineWired (known : List Name) (c : BlockCall) (inner : List Name) (x : Line) : Type 0 where
  pub reads : FormulaReads (IsGiven false inner) x.formula
  pub fresh : ¬ IsGiven true known (outer c x.name)
  pub once : (k : ℕ) (n : Name) → slice_get inner k ≡ Some n → outer c n ≢ outer c x.name

-- So do these lines, one after another.
abbrev pub AreLinesWired : List Name → BlockCall → List Name → List Line → Type 0
AreLinesWired known c inner [] = Unit {0}
AreLinesWired known c inner (x ∷ xs) = IsLineWired known c inner x × AreLinesWired known c (inner ++ x.name ∷ []) xs

-- A call gives its block what is known, and the outputs are variables that the block sets.
pub record IsBlockWired (known : List Name) (c : BlockCall) (b : Block) : Type 0 where
  pub inputs : (k : ℕ) (n : Name) → slice_get b.inputs.items k ≡ Some n → IsGiven true known (outer c n)
  pub lines : AreLinesWired known c b.inputs.items b.lines.items
  pub outputs : (k : ℕ) (n : Name) → slice_get b.outputs.items k ≡ Some n → IsSetIn b.lines.items n

abbrev pub IsCallWired : List Name → BlockCall → Option Block → Type 0
IsCallWired known c None = ⊥
IsCallWired known c (Some b) = IsBlockWired known c b

-- A step reads what is known, and sets what is not.
abbrev pub IsStepWired : List Block → List Name → Step → Type 0
IsStepWired bs known (Assign x) = FormulaReads (IsGiven true known) x.formula × (¬ IsGiven true known x.name)
IsStepWired bs known (Call c) = IsCallWired known c (slice_get bs c.block)

-- The variables that a step sets in the program.
abbrev pub call_names : BlockCall → Option Block → List Name
call_names c None = []
call_names c (Some b) = map (λ (n : Name). outer c n) b.outputs.items

abbrev pub step_names : List Block → Step → List Name
step_names bs (Assign x) = x.name ∷ []
step_names bs (Call c) = call_names c (slice_get bs c.block)

-- So do these steps, one after another.
abbrev pub AreWired : List Block → List Name → List Step → Type 0
AreWired bs known [] = Unit {0}
AreWired bs known (x ∷ xs) = IsStepWired bs known x × AreWired bs (known ++ step_names bs x) xs

-- What is known behind them.
abbrev pub known_after : List Block → List Name → List Step → List Name
known_after bs known [] = known
known_after bs known (x ∷ xs) = known_after bs (known ++ step_names bs x) xs
