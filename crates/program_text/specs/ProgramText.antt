-- The text of an interlocking: function blocks of IEC 61131-3, and a program that calls them.
use Rattle.std.specs.Prelude.{◌≡◌, ◌++◌, ◌+◌, ℕ, zero, suc, List, [], ◌∷◌, length, codes, decimal, Option, Some, None, slice_get}
use Rattle.std.specs.List.{flat_map}
use Rattle.station_graph.specs.Diagram.{Diagram}
use Rattle.structured_text.specs.declared.name.Name.{Name}
use Rattle.structured_text.specs.declared.name.Name.TheVariants.{Off, On, May, Sure, Opens, Closes}
use Rattle.structured_text.specs.declared.line.Line.{Line}
use Rattle.structured_text.specs.Meaning.{Store, after}
use Rattle.structured_text.specs.Sides.{IsCautious}
use Rattle.structured_text.specs.Width.{AreLinesShort}
use Rattle.structured_text.specs.Spelling.{input_text, output_text, names_text, true_names_text, name_text, pair_text, line_text}
use Rattle.structured_text.specs.Spelling.{heading_text}
use Rattle.program_blocks.specs.declared.block.Block.{Block}
use Rattle.program_blocks.specs.declared.block.BlockCall.{BlockCall}
use Rattle.program_blocks.specs.declared.block.Step.{Step}
use Rattle.program_blocks.specs.declared.block.Step.TheVariants.{Assign, Call}
use Rattle.program_blocks.specs.Renaming.{outer}
use Rattle.program_blocks.specs.Calls.{next_instance, program_after}
use Rattle.program_blocks.specs.Standing.{StandFor}
use Rattle.program_text.specs.declared.text.TheConstants.{HEAD}
use Rattle.program_text.specs.declared.block_program.BlockProgram.{BlockProgram}
use Rattle.program_text.specs.Interlocking.{IsInterlocking}

-- The declarations of the contacts of n switches from number k on.
abbrev pub inputs_text : List (List ℕ) → ℕ → ℕ → List ℕ
inputs_text paths k zero = []
inputs_text paths k (suc n) = input_text paths (record { 0 = k }) ++ inputs_text paths (suc k) n

-- The declarations of their releases.
abbrev pub outputs_text : List (List ℕ) → ℕ → ℕ → List ℕ
outputs_text paths k zero = []
outputs_text paths k (suc n) = output_text paths (record { 0 = k }) ++ outputs_text paths (suc k) n

-- The lines.
abbrev pub lines_text : Diagram → List Line → List ℕ
lines_text d lines = flat_map (λ (x : Line). line_text d x) lines

-- A section of declarations of this kind; none where nothing is declared.
abbrev pub section_text : List ℕ → List ℕ → List ℕ
section_text kind [] = []
section_text kind (b ∷ bs) = kind ++ ((b ∷ bs) ++ codes "END_VAR\n")

-- The variable, if it is one of what may be; and unless it is.
abbrev pub if_may : Name → List Name
if_may (Off i) = []
if_may (On i) = []
if_may (May k) = May k ∷ []
if_may (Sure k) = []
if_may (Opens i) = []
if_may (Closes i) = []

abbrev pub unless_may : Name → List Name
unless_may (Off i) = Off i ∷ []
unless_may (On i) = On i ∷ []
unless_may (May k) = []
unless_may (Sure k) = Sure k ∷ []
unless_may (Opens i) = Opens i ∷ []
unless_may (Closes i) = Closes i ∷ []

-- The inputs of a block: what may be is TRUE as long as nothing sets it, and all else FALSE.
abbrev pub block_inputs : List (List ℕ) → List Name → List ℕ
block_inputs paths names =
    names_text paths (flat_map (λ (n : Name). unless_may n) names)
    ++ true_names_text paths (flat_map (λ (n : Name). if_may n) names)

-- The variable, if it is one of a formula; and how many of these are.
abbrev pub if_formula : Name → List Name
if_formula (Off i) = []
if_formula (On i) = []
if_formula (May k) = May k ∷ []
if_formula (Sure k) = Sure k ∷ []
if_formula (Opens i) = []
if_formula (Closes i) = []

abbrev pub formula_count : List Name → ℕ
formula_count names = length (flat_map (λ (n : Name). if_formula n) names)

-- A comment: how many BOOLs of formulas a block reads that are set outside of it, and how many it gives.
abbrev pub exchange_text : Block → List ℕ
exchange_text b =
    codes "  (* from outside of the block "
    ++ (decimal (formula_count b.inputs.items)
    ++ (codes " BOOLs, to the outside " ++ (decimal (formula_count b.outputs.items) ++ codes " *)\n")))

-- Block k: what it is, what it exchanges, its inputs, its outputs, its other variables, its lines.
abbrev pub block_head : Diagram → ℕ → Block → List ℕ
block_head d k b =
    heading_text d b.heading ++ (exchange_text b ++ (codes "FUNCTION_BLOCK BLOCK_" ++ (decimal k ++ codes "\n")))

abbrev pub block_names : Diagram → Block → List ℕ
block_names d b =
    section_text (codes "VAR_INPUT\n") (block_inputs d.switch_paths b.inputs.items)
    ++ (section_text (codes "VAR_OUTPUT\n") (names_text d.switch_paths b.outputs.items)
    ++ section_text (codes "VAR\n") (names_text d.switch_paths b.locals.items))

abbrev pub block_text : Diagram → ℕ → Block → List ℕ
block_text d k b =
    block_head d k b ++ (block_names d b ++ (lines_text d b.lines.items ++ codes "END_FUNCTION_BLOCK\n"))

-- Blocks from number k on.
abbrev pub blocks_text : Diagram → ℕ → List Block → List ℕ
blocks_text d k [] = []
blocks_text d k (b ∷ bs) = block_text d k b ++ blocks_text d (k + 1) bs

-- What a call gives to the inputs of its block, each on a line.
abbrev pub wire_text : List (List ℕ) → BlockCall → Name → List ℕ
wire_text paths c n = pair_text paths n (codes " := ") (outer c n)

abbrev pub more_wires : List (List ℕ) → BlockCall → List Name → List ℕ
more_wires paths c [] = codes ");\n"
more_wires paths c (n ∷ ns) = codes ",\n    " ++ (wire_text paths c n ++ more_wires paths c ns)

abbrev pub wires_text : List (List ℕ) → BlockCall → List Name → List ℕ
wires_text paths c [] = codes ");\n"
wires_text paths c (n ∷ ns) = wire_text paths c n ++ more_wires paths c ns

-- What the program reads of instance k.
abbrev pub drawn_text : List (List ℕ) → ℕ → BlockCall → Name → List ℕ
drawn_text paths k c n =
    codes "  " ++ (name_text paths (outer c n) ++ (codes " := b" ++ (decimal k ++ (codes "." ++ (name_text paths n ++ codes ";\n")))))

abbrev pub draws_text : List (List ℕ) → ℕ → BlockCall → List Name → List ℕ
draws_text paths k c names = flat_map (λ (n : Name). drawn_text paths k c n) names

-- A call of instance k.
abbrev pub block_call_text : Diagram → ℕ → BlockCall → Block → List ℕ
block_call_text d k c b =
    heading_text d c.heading
    ++ (codes "  b"
    ++ (decimal k
    ++ (codes "(" ++ (wires_text d.switch_paths c b.inputs.items ++ draws_text d.switch_paths k c b.outputs.items))))

abbrev pub call_text : Diagram → ℕ → BlockCall → Option Block → List ℕ
call_text d k c None = []
call_text d k c (Some b) = block_call_text d k c b

abbrev pub step_text : Diagram → List Block → ℕ → Step → List ℕ
step_text d bs k (Assign x) = line_text d x
step_text d bs k (Call c) = call_text d k c (slice_get bs c.block)

abbrev pub steps_text : Diagram → List Block → ℕ → List Step → List ℕ
steps_text d bs k [] = []
steps_text d bs k (x ∷ xs) = step_text d bs k x ++ steps_text d bs (next_instance k x) xs

-- The declarations of the instances.
abbrev pub instance_text : ℕ → Step → List ℕ
instance_text k (Assign x) = []
instance_text k (Call c) = codes "  b" ++ (decimal k ++ (codes " : BLOCK_" ++ (decimal c.block ++ codes ";\n")))

abbrev pub instances_text : ℕ → List Step → List ℕ
instances_text k [] = []
instances_text k (x ∷ xs) = instance_text k x ++ instances_text (next_instance k x) xs

-- The program: its inputs and outputs, its instances and variables, its steps.
abbrev pub contacts_text : Diagram → List ℕ
contacts_text d =
    codes "\nPROGRAM INTERLOCKING\n"
    ++ (section_text (codes "VAR_INPUT\n") (inputs_text d.switch_paths 0 (length d.switches))
    ++ section_text (codes "VAR_OUTPUT\n") (outputs_text d.switch_paths 0 (length d.switches)))

abbrev pub variables_text : Diagram → List Step → List Name → List ℕ
variables_text d steps variables =
    section_text (codes "VAR\n") (instances_text 0 steps ++ names_text d.switch_paths variables)

abbrev pub wiring_text : Diagram → List Block → List Step → List Name → List ℕ
wiring_text d bs steps variables =
    contacts_text d ++ (variables_text d steps variables ++ (steps_text d bs 0 steps ++ codes "END_PROGRAM\n"))

-- The whole text.
abbrev pub whole_text : Diagram → List Block → List Step → List Name → List ℕ
whole_text d bs steps variables = HEAD.now ++ (blocks_text d 0 bs ++ wiring_text d bs steps variables)

-- The blocks and steps of a program stand for lines, with each variable set once and before it is read; what they set,
-- whatever the instances keep from before, is an interlocking of the station; and where signals to a block do not come, it
-- releases nothing that it does not release with them.
pub record IsProgram (d : Diagram) (p : BlockProgram) : Type 0 where
  pub lines : List Line
  pub stand : StandFor d lines p.blocks.items p.steps.items p.variables.items
  pub interlocks : (stores : ℕ → Store) → IsInterlocking d (program_after p.blocks.items p.steps.items stores)
  pub cautious : (k : ℕ) (b : Block) → slice_get p.blocks.items k ≡ Some b → IsCautious (after b.lines.items)

-- The text is that of this program of the station, and no line has more than 200 characters.
pub record IsWholeText (d : Diagram) (p : BlockProgram) (text : List ℕ) : Type 0 where
  pub program : IsProgram d p
  pub spelled : text ≡ whole_text d p.blocks.items p.steps.items p.variables.items
  pub short : AreLinesShort text

-- The text is that of a program of the station.
pub record IsProgramText (d : Diagram) (text : List ℕ) : Type 0 where
  pub program : BlockProgram
  pub whole : IsWholeText d program text
