-- What a program of assignments and calls of function blocks means.
use Rattle.std.specs.Prelude.{◌==◌, ℕ, suc, List, [], ◌∷◌, Option, Some, None, slice_get, map, if◌then◌else◌}
use Rattle.std.specs.List.{flat_map}
use Rattle.structured_text.specs.declared.name.Name.{Name}
use Rattle.structured_text.specs.declared.line.Line.{Line}
use Rattle.structured_text.specs.Meaning.{Store, value, assign, after}
use Rattle.program_blocks.specs.declared.block.Block.{Block}
use Rattle.program_blocks.specs.declared.block.BlockCall.{BlockCall}
use Rattle.program_blocks.specs.declared.block.Step.{Step}
use Rattle.program_blocks.specs.declared.block.Step.TheVariants.{Assign, Call}
use Rattle.program_blocks.specs.Renaming.{outer, outer_line}

-- A value for each variable of the program, and for each variable of each instance of a block.
pub record State : Type 0 where
  pub variables : Store
  pub instances : ℕ → Store

-- The store of an instance once its inputs have the values that the program has for them.
abbrev pub filled : BlockCall → List Name → Store → Store → Store
filled c [] s t = t
filled c (n ∷ ns) s t = filled c ns s (assign t n (s (outer c n)))

-- The store of the program once it has read the outputs of an instance.
abbrev pub drawn : BlockCall → List Name → Store → Store → Store
drawn c [] t s = s
drawn c (n ∷ ns) t s = drawn c ns t (assign s (outer c n) (t n))

-- Instance k has this store, and the others are as they were.
abbrev pub kept : (ℕ → Store) → ℕ → Store → (ℕ → Store)
kept stores k t j = if k == j then t else stores j

-- The store of instance k behind a call: its inputs are given, and its lines are done.
abbrev pub instance_after : BlockCall → Block → ℕ → State → Store
instance_after c b k st = after b.lines.items (filled c b.inputs.items st.variables (st.instances k))

-- The state behind a call of the block; where there is none it does nothing.
abbrev pub call_after : BlockCall → Option Block → ℕ → State → State
call_after c None k st = st
call_after c (Some b) k st = record {
  variables = drawn c b.outputs.items (instance_after c b k st) st.variables;
  instances = kept st.instances k (instance_after c b k st);
}

-- The state behind a step, whose instance, if it is a call, has number k; and which number the next instance has.
abbrev pub step_after : List Block → ℕ → Step → State → State
step_after bs k (Assign x) st =
    record { variables = assign st.variables x.name (value st.variables x.formula); instances = st.instances }
step_after bs k (Call c) st = call_after c (slice_get bs c.block) k st

abbrev pub next_instance : ℕ → Step → ℕ
next_instance k (Assign x) = k
next_instance k (Call c) = suc k

-- The state behind these steps, one after another.
abbrev pub state_after : List Block → ℕ → List Step → State → State
state_after bs k [] st = st
state_after bs k (x ∷ xs) st = state_after bs (next_instance k x) xs (step_after bs k x st)

-- What a program sets, whatever its instances keep from before.
abbrev pub program_after : List Block → List Step → (ℕ → Store) → Store → Store
program_after bs steps stores s = (state_after bs 0 steps (record { variables = s; instances = stores })).variables

-- A line without its comment.
abbrev pub bare : Line → Line
bare x = record { heading = None; name = x.name; formula = x.formula }

-- The lines for which a call stands: those of the block, in the variables of the program.
abbrev pub call_lines : BlockCall → Option Block → List Line
call_lines c None = []
call_lines c (Some b) = map (λ (x : Line). outer_line c x) b.lines.items

-- Those for which a step stands, and those for which steps stand.
abbrev pub step_lines : List Block → Step → List Line
step_lines bs (Assign x) = bare x ∷ []
step_lines bs (Call c) = call_lines c (slice_get bs c.block)

abbrev pub unfolded : List Block → List Step → List Line
unfolded bs steps = flat_map (λ (x : Step). step_lines bs x) steps
