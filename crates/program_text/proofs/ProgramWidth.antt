-- The text has no long line.
use Rattle.std.proofs.Common.{◌≡◌, ◌++◌, ◌≤◌, ◌<◌, ◌+◌, ◌^◌, ℕ, zero, suc, List, [], ◌∷◌, length, slice_get, Option, Some, None, refl, arith}
use Rattle.std.specs.Prelude.{Bool, true, false, codes, decimal, if◌then◌else◌}
use Rattle.std.specs.List.{flat_map}
use Rattle.std.proofs.lemmas.Fmt.{length-decimal-le}
use Rattle.station_graph.specs.Diagram.{Diagram}
use Rattle.structured_text.specs.declared.name.Name.{Name}
use Rattle.structured_text.specs.Spelling.{input_text, output_text, names_text, true_names_text, name_text, heading_text}
use Rattle.structured_text.specs.Within.{NameWithin}
use Rattle.structured_text.specs.Width.{AreLinesShort}
use Rattle.structured_text.proofs.WidthLemmas.{Fits, tested, goes_on, short_lines, piece, later, earlier}
use Rattle.structured_text.proofs.LineWidths.{input_fits, output_fits, names_fit, true_names_fit, name_fits, line_fits, lines_fit, heading_fits}
use Rattle.program_blocks.specs.declared.block.Block.{Block}
use Rattle.program_blocks.specs.declared.block.BlockCall.{BlockCall}
use Rattle.program_blocks.specs.declared.block.Step.{Step}
use Rattle.program_blocks.specs.declared.block.Step.TheVariants.{Assign, Call}
use Rattle.program_blocks.specs.Renaming.{outer}
use Rattle.program_blocks.specs.Calls.{next_instance}
use Rattle.program_blocks.specs.Standing.{AreNamesWithin, AreWiresWithin, BlockWithin, BlocksWithin, WiresWithin, StepWithin, StepsWithin}
use Rattle.program_text.specs.declared.text.TheConstants.{HEAD}
use Rattle.program_text.specs.ProgramText.{inputs_text, outputs_text, lines_text, block_head, block_names, block_text, blocks_text}
use Rattle.program_text.specs.ProgramText.{section_text, if_may, unless_may, block_inputs, formula_count, exchange_text}
use Rattle.program_text.specs.ProgramText.{wire_text, more_wires, wires_text, drawn_text, draws_text, call_text}
use Rattle.program_text.specs.ProgramText.{step_text, steps_text, instance_text, instances_text, contacts_text}
use Rattle.program_text.specs.ProgramText.{variables_text, wiring_text, whole_text}
use Rattle.program_text.specs.BayText.{is_called_for, bay_blocks_text, bay_exchange_text}
use Rattle.program_text.proofs.KeptNames.{may_within, others_within, formula_count_low}

number_fits : (c n : ℕ) → n < 2 ^ 64 → c + 20 ≤ 200 → Fits c (decimal n) (c + 20)
number_fits c n small room =
    piece c (decimal n) 20 (length-decimal-le 20 n (omega arith) (omega (arith, small)) small) room

instance_fits : (k : ℕ) (x : Step) → k < 2 ^ 64 → (d : Diagram) (bs : List Block) → StepWithin d bs x →
    Fits 0 (instance_text k x) 0
instance_fits k (Assign x) small d bs h = omega arith
instance_fits k (Call c) small d bs h =
    goes_on 0 (codes "  b") 3 (decimal k ++ (codes " : BLOCK_" ++ (decimal c.block ++ codes ";\n"))) 0
    (tested 0 (codes "  b") 3 refl)
    (goes_on 3 (decimal k) 23 (codes " : BLOCK_" ++ (decimal c.block ++ codes ";\n")) 0 (number_fits 3 k small (omega arith))
    (goes_on 23 (codes " : BLOCK_") 32 (decimal c.block ++ codes ";\n") 0 (tested 23 (codes " : BLOCK_") 32 refl)
    (goes_on 32 (decimal c.block) 52 (codes ";\n") 0 (number_fits 32 c.block h.0 (omega arith))
    (tested 52 (codes ";\n") 0 refl))))

next_small : (k : ℕ) (x : Step) (n : ℕ) → k + suc n ≤ 2 ^ 64 → next_instance k x + n ≤ 2 ^ 64
next_small k (Assign x) n h = omega (arith, h)
next_small k (Call c) n h = omega (arith, h)

instances_fit : (k : ℕ) (xs : List Step) → k + length xs ≤ 2 ^ 64 → (d : Diagram) (bs : List Block) → StepsWithin d bs xs →
    Fits 0 (instances_text k xs) 0
instances_fit k [] few d bs h = omega arith
instances_fit k (x ∷ xs) few d bs h =
    goes_on 0 (instance_text k x) 0 (instances_text (next_instance k x) xs) 0
    (instance_fits k x (omega (arith, few)) d bs (h 0 x refl))
    (instances_fit (next_instance k x) xs (next_small k x (length xs) few) d bs (λ i y at. h (suc i) y at))

module _ (d : Diagram) (few : length d.switches ≤ 2 ^ 64) where
  abbrev paths : List (List ℕ)
  paths = d.switch_paths

  inputs_fit : (k n : ℕ) → k + n ≤ length d.switches → Fits 0 (inputs_text paths k n) 0
  inputs_fit k zero within = omega arith
  inputs_fit k (suc n) within =
      goes_on 0 (input_text paths (record { 0 = k })) 0 (inputs_text paths (suc k) n) 0
      (input_fits d few (record { 0 = k }) (omega (arith, within))) (inputs_fit (suc k) n (omega (arith, within)))

  outputs_fit : (k n : ℕ) → k + n ≤ length d.switches → Fits 0 (outputs_text paths k n) 0
  outputs_fit k zero within = omega arith
  outputs_fit k (suc n) within =
      goes_on 0 (output_text paths (record { 0 = k })) 0 (outputs_text paths (suc k) n) 0
      (output_fits d few (record { 0 = k }) (omega (arith, within))) (outputs_fit (suc k) n (omega (arith, within)))

  -- a section of what fits
  section_fits : (kind declared : List ℕ) → Fits 0 kind 0 → Fits 0 declared 0 → Fits 0 (section_text kind declared) 0
  section_fits kind [] k h = omega arith
  section_fits kind (b ∷ bs) k h =
      goes_on 0 kind 0 ((b ∷ bs) ++ codes "END_VAR\n") 0 k
      (goes_on 0 (b ∷ bs) 0 (codes "END_VAR\n") 0 h (tested 0 (codes "END_VAR\n") 0 refl))

  contacts_fit : Fits 0 (contacts_text d) 0
  contacts_fit =
      let count = length d.switches in
      let begin = codes "\nPROGRAM INTERLOCKING\n" in
      let ins = section_text (codes "VAR_INPUT\n") (inputs_text paths 0 count) in
      let outs = section_text (codes "VAR_OUTPUT\n") (outputs_text paths 0 count) in
      goes_on 0 begin 0 (ins ++ outs) 0 (tested 0 begin 0 refl)
      (goes_on 0 ins 0 outs 0
      (section_fits (codes "VAR_INPUT\n") (inputs_text paths 0 count) (tested 0 (codes "VAR_INPUT\n") 0 refl)
      (inputs_fit 0 count (omega arith)))
      (section_fits (codes "VAR_OUTPUT\n") (outputs_text paths 0 count) (tested 0 (codes "VAR_OUTPUT\n") 0 refl)
      (outputs_fit 0 count (omega arith))))

  -- ---- blocks
  block_inputs_fit : (names : List Name) → AreNamesWithin (length d.switches) names → Fits 0 (block_inputs paths names) 0
  block_inputs_fit names h =
      let others = flat_map (λ (n : Name). unless_may n) names in
      let may = flat_map (λ (n : Name). if_may n) names in
      goes_on 0 (names_text paths others) 0 (true_names_text paths may) 0
      (names_fit d few others (others_within (length d.switches) names h))
      (true_names_fit d few may (may_within (length d.switches) names h))

  block_names_fit : (b : Block) → BlockWithin d b → Fits 0 (block_names d b) 0
  block_names_fit b h =
      let ins = section_text (codes "VAR_INPUT\n") (block_inputs paths b.inputs.items) in
      let outs = section_text (codes "VAR_OUTPUT\n") (names_text paths b.outputs.items) in
      let own = section_text (codes "VAR\n") (names_text paths b.locals.items) in
      goes_on 0 ins 0 (outs ++ own) 0
      (section_fits (codes "VAR_INPUT\n") (block_inputs paths b.inputs.items) (tested 0 (codes "VAR_INPUT\n") 0 refl)
      (block_inputs_fit b.inputs.items h.inputs))
      (goes_on 0 outs 0 own 0
      (section_fits (codes "VAR_OUTPUT\n") (names_text paths b.outputs.items) (tested 0 (codes "VAR_OUTPUT\n") 0 refl)
      (names_fit d few b.outputs.items h.outputs))
      (section_fits (codes "VAR\n") (names_text paths b.locals.items) (tested 0 (codes "VAR\n") 0 refl)
      (names_fit d few b.locals.items h.locals)))

  exchange_fits : (b : Block) → Fits 0 (exchange_text b) 0
  exchange_fits b =
      let read = formula_count b.inputs.items in
      let given = formula_count b.outputs.items in
      let low = formula_count_low b.inputs.items in
      let held = b.inputs.ok in
      let small = b.inputs.small in
      let low_given = formula_count_low b.outputs.items in
      let held_given = b.outputs.ok in
      let small_given = b.outputs.small in
      let begin = codes "  (* from outside of the block " in
      let between = codes " BOOLs, to the outside " in
      goes_on 0 begin 31 (decimal read ++ (between ++ (decimal given ++ codes " *)\n"))) 0 (tested 0 begin 31 refl)
      (goes_on 31 (decimal read) 51 (between ++ (decimal given ++ codes " *)\n")) 0
      (number_fits 31 read (omega (arith, low, held.0, held.1, small)) (omega arith))
      (goes_on 51 between 74 (decimal given ++ codes " *)\n") 0 (tested 51 between 74 refl)
      (goes_on 74 (decimal given) 94 (codes " *)\n") 0
      (number_fits 74 given (omega (arith, low_given, held_given.0, held_given.1, small_given)) (omega arith))
      (tested 94 (codes " *)\n") 0 refl))))

  block_fits : (k : ℕ) (b : Block) → k < 2 ^ 64 → BlockWithin d b → Fits 0 (block_text d k b) 0
  block_fits k b small h =
      let body = lines_text d b.lines.items in
      let name = codes "FUNCTION_BLOCK BLOCK_" in
      let head : Fits 0 (block_head d k b) 0 =
      goes_on 0 (heading_text d b.heading) 0 (exchange_text b ++ (name ++ (decimal k ++ codes "\n"))) 0
      (heading_fits d b.heading)
      (goes_on 0 (exchange_text b) 0 (name ++ (decimal k ++ codes "\n")) 0 (exchange_fits b)
      (goes_on 0 name 21 (decimal k ++ codes "\n") 0 (tested 0 name 21 refl)
      (goes_on 21 (decimal k) 41 (codes "\n") 0 (number_fits 21 k small (omega arith)) (tested 41 (codes "\n") 0 refl)))) in
      goes_on 0 (block_head d k b) 0 (block_names d b ++ (body ++ codes "END_FUNCTION_BLOCK\n")) 0 head
      (goes_on 0 (block_names d b) 0 (body ++ codes "END_FUNCTION_BLOCK\n") 0 (block_names_fit b h)
      (goes_on 0 body 0 (codes "END_FUNCTION_BLOCK\n") 0 (lines_fit d few b.lines.items h.lines)
      (tested 0 (codes "END_FUNCTION_BLOCK\n") 0 refl)))

  blocks_fit : (k : ℕ) (bs : List Block) → k + length bs ≤ 2 ^ 64 → BlocksWithin d bs → Fits 0 (blocks_text d k bs) 0
  blocks_fit k [] small h = omega arith
  blocks_fit k (b ∷ bs) small h =
      goes_on 0 (block_text d k b) 0 (blocks_text d (k + 1) bs) 0 (block_fits k b (omega (arith, small)) (h 0 b refl))
      (blocks_fit (k + 1) bs (omega (arith, small)) (λ i y at. h (suc i) y at))

  -- ---- calls
  module _ (c : BlockCall) where
    abbrev Two : Name → Type 0
    Two n = NameWithin (length d.switches) n × NameWithin (length d.switches) (outer c n)

    wire_fits : (col : ℕ) (n : Name) → Two n → col + 90 ≤ 200 → Fits col (wire_text paths c n) (col + 90)
    wire_fits col n h room =
        goes_on col (name_text paths n) (col + 43) (codes " := " ++ name_text paths (outer c n)) (col + 90)
        (name_fits d few col n h.0 (omega (arith, room)))
        (goes_on (col + 43) (codes " := ") ((col + 43) + 4) (name_text paths (outer c n)) (col + 90)
        (piece (col + 43) (codes " := ") 4 (omega arith) (omega (arith, room)))
        (later ((col + 43) + 4) (name_text paths (outer c n)) (((col + 43) + 4) + 43) (col + 90) (omega arith)
        (name_fits d few ((col + 43) + 4) (outer c n) h.1 (omega (arith, room)))))

    more_fit : (names : List Name) → AreNamesWithin (length d.switches) names →
        AreWiresWithin (length d.switches) c names → Fits 150 (more_wires paths c names) 0
    more_fit [] h k = tested 150 (codes ");\n") 0 refl
    more_fit (n ∷ ns) h k =
        goes_on 150 (codes ",\n    ") 4 (wire_text paths c n ++ more_wires paths c ns) 0 (tested 150 (codes ",\n    ") 4 refl)
        (goes_on 4 (wire_text paths c n) 94 (more_wires paths c ns) 0 (wire_fits 4 n (h 0 n refl, k 0 n refl) (omega arith))
        (earlier 94 150 (more_wires paths c ns) 0 (omega arith)
        (more_fit ns (λ i y at. h (suc i) y at) (λ i y at. k (suc i) y at))))

    wires_fit : (names : List Name) → AreNamesWithin (length d.switches) names →
        AreWiresWithin (length d.switches) c names → Fits 24 (wires_text paths c names) 0
    wires_fit [] h k = tested 24 (codes ");\n") 0 refl
    wires_fit (n ∷ ns) h k =
        goes_on 24 (wire_text paths c n) 114 (more_wires paths c ns) 0 (wire_fits 24 n (h 0 n refl, k 0 n refl) (omega arith))
        (earlier 114 150 (more_wires paths c ns) 0 (omega arith)
        (more_fit ns (λ i y at. h (suc i) y at) (λ i y at. k (suc i) y at)))

    drawn_fits : (k : ℕ) → k < 2 ^ 64 → (n : Name) → Two n → Fits 0 (drawn_text paths k c n) 0
    drawn_fits k small n h =
        let one = name_text paths (outer c n) in
        let two = name_text paths n in
        goes_on 0 (codes "  ") 2 (one ++ (codes " := b" ++ (decimal k ++ (codes "." ++ (two ++ codes ";\n"))))) 0
        (tested 0 (codes "  ") 2 refl)
        (goes_on 2 one 45 (codes " := b" ++ (decimal k ++ (codes "." ++ (two ++ codes ";\n")))) 0
        (name_fits d few 2 (outer c n) h.1 (omega arith))
        (goes_on 45 (codes " := b") 50 (decimal k ++ (codes "." ++ (two ++ codes ";\n"))) 0 (tested 45 (codes " := b") 50 refl)
        (goes_on 50 (decimal k) 70 (codes "." ++ (two ++ codes ";\n")) 0 (number_fits 50 k small (omega arith))
        (goes_on 70 (codes ".") 71 (two ++ codes ";\n") 0 (tested 70 (codes ".") 71 refl)
        (goes_on 71 two 114 (codes ";\n") 0 (name_fits d few 71 n h.0 (omega arith)) (tested 114 (codes ";\n") 0 refl))))))

    draws_fit : (k : ℕ) → k < 2 ^ 64 → (names : List Name) → AreNamesWithin (length d.switches) names →
        AreWiresWithin (length d.switches) c names → Fits 0 (draws_text paths k c names) 0
    draws_fit k small [] h w = omega arith
    draws_fit k small (n ∷ ns) h w =
        goes_on 0 (drawn_text paths k c n) 0 (draws_text paths k c ns) 0 (drawn_fits k small n (h 0 n refl, w 0 n refl))
        (draws_fit k small ns (λ i y at. h (suc i) y at) (λ i y at. w (suc i) y at))

    call_fits : (k : ℕ) → k < 2 ^ 64 → (o : Option Block) → ((b : Block) → o ≡ Some b → BlockWithin d b) → WiresWithin d c o →
        Fits 0 (call_text d k c o) 0
    call_fits k small None h w = omega arith
    call_fits k small (Some b) h w =
        let wires = wires_text paths c b.inputs.items in
        let draws = draws_text paths k c b.outputs.items in
        let within = h b refl in
        goes_on 0 (heading_text d c.heading) 0 (codes "  b" ++ (decimal k ++ (codes "(" ++ (wires ++ draws)))) 0
        (heading_fits d c.heading)
        (goes_on 0 (codes "  b") 3 (decimal k ++ (codes "(" ++ (wires ++ draws))) 0 (tested 0 (codes "  b") 3 refl)
        (goes_on 3 (decimal k) 23 (codes "(" ++ (wires ++ draws)) 0 (number_fits 3 k small (omega arith))
        (goes_on 23 (codes "(") 24 (wires ++ draws) 0 (tested 23 (codes "(") 24 refl)
        (goes_on 24 wires 0 draws 0 (wires_fit b.inputs.items within.inputs w.0)
        (draws_fit k small b.outputs.items within.outputs w.1)))))

  step_fits : (bs : List Block) (k : ℕ) (x : Step) → k < 2 ^ 64 → BlocksWithin d bs → StepWithin d bs x →
      Fits 0 (step_text d bs k x) 0
  step_fits bs k (Assign x) small blocks h = line_fits d few x h
  step_fits bs k (Call c) small blocks h = call_fits c k small (slice_get bs c.block) (λ b at. blocks c.block b at) h.2

  steps_fit : (bs : List Block) (k : ℕ) (xs : List Step) → k + length xs ≤ 2 ^ 64 → BlocksWithin d bs → StepsWithin d bs xs →
      Fits 0 (steps_text d bs k xs) 0
  steps_fit bs k [] small blocks h = omega arith
  steps_fit bs k (x ∷ xs) small blocks h =
      goes_on 0 (step_text d bs k x) 0 (steps_text d bs (next_instance k x) xs) 0
      (step_fits bs k x (omega (arith, small)) blocks (h 0 x refl))
      (steps_fit bs (next_instance k x) xs (next_small k x (length xs) small) blocks (λ i y at. h (suc i) y at))

  variables_fit : (bs : List Block) (steps : List Step) (variables : List Name) → length steps < 2 ^ 64 →
      StepsWithin d bs steps → AreNamesWithin (length d.switches) variables → Fits 0 (variables_text d steps variables) 0
  variables_fit bs steps variables few_steps h names =
      section_fits (codes "VAR\n") (instances_text 0 steps ++ names_text paths variables) (tested 0 (codes "VAR\n") 0 refl)
      (goes_on 0 (instances_text 0 steps) 0 (names_text paths variables) 0
      (instances_fit 0 steps (omega (arith, few_steps)) d bs h) (names_fit d few variables names))

  pub whole_short : (bs : List Block) (steps : List Step) (variables : List Name) → length bs < 2 ^ 64 →
      length steps < 2 ^ 64 → BlocksWithin d bs → StepsWithin d bs steps → AreNamesWithin (length d.switches) variables →
      AreLinesShort (whole_text d bs steps variables)
  whole_short bs steps variables few_bs few_steps blocks h names =
      let rest = steps_text d bs 0 steps ++ codes "END_PROGRAM\n" in
      short_lines (whole_text d bs steps variables) 0
      (goes_on 0 HEAD.now 0 (blocks_text d 0 bs ++ wiring_text d bs steps variables) 0 (tested 0 HEAD.now 0 refl)
      (goes_on 0 (blocks_text d 0 bs) 0 (wiring_text d bs steps variables) 0 (blocks_fit 0 bs (omega (arith, few_bs)) blocks)
      (goes_on 0 (contacts_text d) 0 (variables_text d steps variables ++ rest) 0 contacts_fit
      (goes_on 0 (variables_text d steps variables) 0 rest 0 (variables_fit bs steps variables few_steps h names)
      (goes_on 0 (steps_text d bs 0 steps) 0 (codes "END_PROGRAM\n") 0
      (steps_fit bs 0 steps (omega (arith, few_steps)) blocks h) (tested 0 (codes "END_PROGRAM\n") 0 refl))))))

  chosen_fits : (q : Bool) (text : List ℕ) → Fits 0 text 0 → Fits 0 (if q then text else []) 0
  chosen_fits true text h = h
  chosen_fits false text h = omega arith

  bay_blocks_fit : (steps : List Step) (p k : ℕ) (bs : List Block) → k + length bs ≤ 2 ^ 64 → BlocksWithin d bs →
      Fits 0 (bay_blocks_text d steps p k bs) 0
  bay_blocks_fit steps p k [] small h = omega arith
  bay_blocks_fit steps p k (b ∷ bs) small h =
      goes_on 0 (if is_called_for p k steps then block_text d k b else []) 0 (bay_blocks_text d steps p (k + 1) bs) 0
      (chosen_fits (is_called_for p k steps) (block_text d k b) (block_fits k b (omega (arith, small)) (h 0 b refl)))
      (bay_blocks_fit steps p (k + 1) bs (omega (arith, small)) (λ i y at. h (suc i) y at))

  bay_exchange_fits : (told tells : ℕ) → told < 2 ^ 64 → tells < 2 ^ 64 → Fits 0 (bay_exchange_text told tells) 0
  bay_exchange_fits told tells few_told few_tells =
      let begin = codes "(* from other bays " in
      let between = codes " BOOLs, to other bays " in
      goes_on 0 begin 19 (decimal told ++ (between ++ (decimal tells ++ codes " *)\n"))) 0 (tested 0 begin 19 refl)
      (goes_on 19 (decimal told) 39 (between ++ (decimal tells ++ codes " *)\n")) 0 (number_fits 19 told few_told (omega arith))
      (goes_on 39 between 61 (decimal tells ++ codes " *)\n") 0 (tested 39 between 61 refl)
      (goes_on 61 (decimal tells) 81 (codes " *)\n") 0 (number_fits 61 tells few_tells (omega arith))
      (tested 81 (codes " *)\n") 0 refl))))

  pub bay_short : (told tells : ℕ) → told < 2 ^ 64 → tells < 2 ^ 64 → (steps : List Step) (p : ℕ) (bs : List Block) →
      length bs < 2 ^ 64 → BlocksWithin d bs →
      AreLinesShort (bay_exchange_text told tells ++ bay_blocks_text d steps p 0 bs)
  bay_short told tells few_told few_tells steps p bs few_bs blocks =
      short_lines (bay_exchange_text told tells ++ bay_blocks_text d steps p 0 bs) 0
      (goes_on 0 (bay_exchange_text told tells) 0 (bay_blocks_text d steps p 0 bs) 0
      (bay_exchange_fits told tells few_told few_tells) (bay_blocks_fit steps p 0 bs (omega (arith, few_bs)) blocks))
