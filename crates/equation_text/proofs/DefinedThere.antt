-- What the lines of a text define is there.
use Rattle.std.proofs.Common.{◌≡◌, ◌≢◌, ◌∙◌, ◌⊎◌, ℕ, ◌+◌, ◌<◌, ◌≤◌, ◌^◌, zero, suc, List, [], ◌∷◌, ◌++◌, length, map}
use Rattle.std.proofs.Common.{refl, sym, ap, subst, inl, inr, arith, Some}
use Rattle.std.specs.Prelude.{codes, decimal, slice_get}
use Rattle.std.proofs.lemmas.List.{append_cancel_left, length-map}
use Rattle.std.proofs.lemmas.Option.{slice_get_within}
use Rattle.ilk_base.specs.declared.words.Direction.TheVariants.{ToOff, ToOn}
use Rattle.station_graph.specs.Diagram.{Diagram, IsStation, part_count}
use Rattle.part_alphabets.specs.declared.fork.PartStep.{PartStep}
use Rattle.part_alphabets.specs.declared.fork.Target.{Target}
use Rattle.station_equations.specs.declared.goal.SwitchGoals.{SwitchGoals}
use Rattle.station_equations.specs.declared.goal.TheConstants.{NUMBERS}
use Rattle.station_equations.specs.EquationLines.{PartLines, NodeLine, part_node, switch_node, EquationLines}
use Rattle.station_equations.specs.EquationLines.{goal_count}
use Rattle.station_equations.specs.EquationForm.{IsGoal}
use Rattle.station_equations.specs.EquationText.{part_line, step_line, op_line, node_line, lines_of, text_of}
use Rattle.equation_text.specs.Words.{Lacks}
use Rattle.equation_text.specs.Beginnings.{test_text, goals_text}
use Rattle.equation_text.specs.Reading.{start_lines, all_step_lines, op_lines, node_lines}
use Rattle.equation_text.specs.Faults.{Entry, step_of, node_of, head_of, IsDefined, AreFormed}
use Rattle.equation_text.specs.Entries.{IsEntry32}
use Rattle.equation_text.proofs.WordLemmas.{lacks_by}
use Rattle.equation_text.proofs.OnceLemmas.{part_lacks, op_lacks, node_lacks}
use Rattle.equation_text.proofs.SaidLemmas.{step_parts, part_node_parts, choice_text, switch_node_parts}
use Rattle.equation_text.proofs.StepFits.{may_lacks}
use Rattle.equation_text.proofs.ReadLemmas.{start_of, ops_of, node_of as lines_of_node}
use Rattle.equation_text.proofs.ReadLoops.{part_of, writable}
use Rattle.equation_text.proofs.StepsLemmas.{part_steps}
use Rattle.equation_text.proofs.FormedLemmas.{starts, at_starts, at_steps, at_ops, at_end, starts_may}
use Rattle.equation_text.proofs.EntryLemmas.{step_head, node_head, head_lacks, first_number}
use Rattle.equation_text.proofs.LineLemmas.{last_only, line_split}
use Rattle.equation_text.proofs.AmongLemmas.{Among, entry_of, only_one, among_or_later}

abbrev first_byte : List ℕ → ℕ
first_byte [] = 0
first_byte (b ∷ bs) = b

-- the number with which the line of a node begins
node_begins : (k : ℕ) (y : NodeLine) → (rest : List ℕ) × (node_line k y ≡ codes "node " ++ (decimal k ++ 32 ∷ rest))
node_begins k (part_node part goals) =
    (codes "part " ++ (decimal part ++ goals_text goals), part_node_parts k part goals)
node_begins k (switch_node switch off on) = (
  codes "switch " ++ choice_text switch off on,
  switch_node_parts k switch off
      on,
)

-- ---- what is small

module _ {d : Diagram} (station : IsStation d) {e : EquationLines} (formed : AreFormed d e) where
  few_parts : part_count d ≤ 256
  few_parts = omega (arith, station.items.parts_few)

  pub few_switches : length d.switches ≤ 65536
  few_switches = omega (arith, station.items.switches_few)

  pub few_counts : length (map goal_count e.parts) ≤ 256
  few_counts = omega (arith, length-map e.parts goal_count, formed.parts.count, few_parts)

  pub part_small : (p : ℕ) (x : PartLines) → slice_get e.parts p ≡ Some x → p < 256
  part_small p x at = omega (arith, slice_get_within e.parts p x at, formed.parts.count, few_parts)

  pub step_small : (p m : ℕ) (x : PartLines) (s : PartStep) → slice_get e.parts p ≡ Some x →
      slice_get x.steps m ≡ Some s
      → m < 2 ^ 32
  step_small p m x s at at_step = omega (arith, slice_get_within x.steps m s at_step, (formed.parts.steps p x at).few)

  pub node_small : (n : ℕ) (x : NodeLine) → slice_get e.nodes n ≡ Some x → n < 2 ^ 32
  node_small n x at = omega (arith, slice_get_within e.nodes n x at, formed.nodes.few)

  pub switch_small : (s : ℕ) (x : SwitchGoals) → slice_get e.ops s ≡ Some x → s < 65536
  switch_small s x at = omega (arith, slice_get_within e.ops s x at, formed.ops.count, few_switches)

module _ {d : Diagram} (station : IsStation d) {e : EquationLines} (formed : AreFormed d e) {text : List ℕ}
    (is : text ≡ text_of (lines_of d e)) where
  abbrev body : List ℕ
  body = at_starts d station e formed text is

  abbrev body_steps : List ℕ
  body_steps = at_steps d station e formed text is

  abbrev body_ops : List ℕ
  body_ops = at_ops d station e formed text is

  abbrev body_end : List ℕ
  body_end = at_end d station e formed text is

  abbrev targets : List Target
  targets = starts d station e formed text is

  -- ---- what lines define is there

  abbrev pub IsThere : Entry → Type 0
  IsThere (step_of p m) = (x : PartLines) × (slice_get e.parts p ≡ Some x) × (m < length x.steps)
  IsThere (node_of n) = n < length e.nodes

  -- a line without LF that defines nothing that is not there
  record IsPlain (l : List ℕ) : Type 0 where
    pub lacks : Lacks 10 l
    pub told : (x : Entry) (more : List ℕ) → IsEntry32 x → l ≡ head_of x ++ more → IsThere x

  past : (ls : List (List ℕ)) (tail : List ℕ) (x : Entry) → ((l : List ℕ) → Among l ls → IsPlain l) → IsEntry32 x
      → IsDefined (text_of ls ++ tail) x → IsThere x ⊎ IsDefined tail x
  past ls tail x plain small has =
      elim (among_or_later ls tail (head_of x) (λ l a. (plain l a).lacks) (head_lacks x small)
      has) [
        | inl found ↦ inl ((plain found.0 found.2).told x found.1 small found.3)
        | inr later ↦ inr later
      ]

  other_byte : (x : Entry) (l more : List ℕ) → first_byte l ≢ 115 → first_byte l ≢ 110 → l ≡ head_of x ++ more → ⊥
  other_byte (step_of p m) l more no_step no_node same = no_step (ap first_byte same)
  other_byte (node_of n) l more no_step no_node same = no_node (ap first_byte same)

  plain_start : (l : List ℕ) → Among l (start_lines targets) → IsPlain l
  plain_start l a =
      let f = entry_of start_of 0 targets l a in
      let same = only_one l (part_line (0 + f.place) (part_of f.entry)) f.among in
      let may = starts_may d station e formed text is in
      let small : 0 + f.place < NUMBERS = omega (
        arith,
        slice_get_within targets f.place f.entry f.at,
        may.count,
        few_parts station formed,
      ) in
      subst IsPlain same (record {
        lacks = part_lacks (0 + f.place) (part_of f.entry) small (may.each f.place f.entry f.at);
        told = λ x more small_x begins. absurd (other_byte x (part_line (0 + f.place) (part_of f.entry)) more
            (λ b. omega (arith, b)) (λ b. omega (arith, b)) begins);
      })

  step_told : (p m : ℕ) (y : PartLines) (s : PartStep) (x : Entry) (more : List ℕ) → slice_get e.parts p ≡ Some y
      → slice_get y.steps m ≡ Some s → IsEntry32 x → step_line p m s ≡ head_of x ++ more → IsThere x
  step_told p m y s (step_of q k) more at at_step small begins =
      let words = append_cancel_left (codes "step ") (decimal p ++ 32 ∷ (decimal m ++ 32 ∷ test_text s))
      (decimal q ++ 32 ∷ (decimal k ++ 32 ∷ more)) (sym (step_parts p m s) ∙ begins ∙ step_head q k more) in
      let first = first_number p q (decimal m ++ 32 ∷ test_text s) (decimal k ++ 32 ∷ more) (omega (
        arith,
        part_small station formed p y at,
      )) small.0 words in
      let second = first_number m k (test_text s) more (step_small station formed p m y s at at_step) small.1 first.1
      in (
        y,
        subst (λ i. slice_get e.parts i ≡ Some y) first.0 at,
        omega (arith, second.0, slice_get_within y.steps m s at_step),
      )
  step_told p m y s (node_of n) more at at_step small begins = absurd (let b : 115 ≡ 110 = ap first_byte begins in omega
      (arith, b))

  plain_step : (l : List ℕ) → Among l (all_step_lines e.parts) → IsPlain l
  plain_step l a =
      let f = entry_of part_steps 0 e.parts l a in
      let g = entry_of (λ m (s : PartStep). step_line (0 + f.place) m s ∷ []) 0 f.entry.steps l f.among in
      let same = only_one l (step_line (0 + f.place) (0 + g.place) g.entry) g.among in
      let number_p : f.place ≡ 0 + f.place = omega arith in
      let number_m : g.place ≡ 0 + g.place = omega arith in
      let line : step_line f.place g.place g.entry ≡ l = ap (λ k. step_line k g.place g.entry) number_p ∙ ap (λ
      k. step_line (0 + f.place) k g.entry) number_m ∙ same in
      let few = (formed.parts.steps f.place f.entry f.at).few in
      let within = slice_get_within f.entry.steps g.place g.entry g.at in
      subst IsPlain line (record {
        lacks = may_lacks d f.place g.place g.entry (omega (arith, few, within)) station
            ((formed.parts.steps f.place f.entry f.at).each g.place g.entry g.at);
        told = λ x more small begins. step_told f.place g.place f.entry g.entry x more f.at g.at small begins;
      })

  plain_op : (l : List ℕ) → Among l (op_lines e.ops) → IsPlain l
  plain_op l a =
      let f = entry_of ops_of 0 e.ops l a in
      let fits = formed.ops.fit f.place f.entry f.at in
      let small : 0 + f.place < NUMBERS = omega (arith, switch_small station formed f.place f.entry f.at) in
      by (0 + f.place) f.entry f.among.place small fits.opening fits.closing f.among.at
    where
      by : (s : ℕ) (g : SwitchGoals) (i : ℕ) → s < NUMBERS → IsGoal NUMBERS g.opening → IsGoal NUMBERS g.closing
          → slice_get (op_line ToOff s g ∷ op_line ToOn s g ∷ []) i ≡ Some l → IsPlain l
      by s g zero small opening closing at =
          let same : op_line ToOff s g ≡ l = cc at in
          subst IsPlain same (record {
            lacks = op_lacks ToOff s g small opening;
            told = λ x more small_x begins. absurd (other_byte x (op_line ToOff s g) more (λ b. omega (arith, b))
                (λ b. omega (arith, b)) begins);
          })
      by s g (suc zero) small opening closing at =
          let same : op_line ToOn s g ≡ l = cc at in
          subst IsPlain same (record {
            lacks = op_lacks ToOn s g small closing;
            told = λ x more small_x begins. absurd (other_byte x (op_line ToOn s g) more (λ b. omega (arith, b))
                (λ b. omega (arith, b)) begins);
          })
      by s g (suc (suc i)) small opening closing at = absurd (cc at)

  node_told : (k : ℕ) (y : NodeLine) (x : Entry) (more : List ℕ) → slice_get e.nodes k ≡ Some y → IsEntry32 x
      → node_line k y ≡ head_of x ++ more → IsThere x
  node_told k y (step_of p m) more at small begins =
      let b : 110 ≡ 115 = ap first_byte (sym (node_begins k y).1 ∙ begins) in
      absurd (omega (arith, b))
  node_told k y (node_of n) more at small begins =
      let f = node_begins k y in
      let words = append_cancel_left (codes "node ") (decimal k ++ 32 ∷ f.0) (decimal n ++ 32 ∷ more)
      (sym f.1 ∙ begins ∙ node_head n more) in
      let first = first_number k n f.0 more (node_small station formed k y at) small words in
      omega (arith, first.0, slice_get_within e.nodes k y at)

  plain_node : (l : List ℕ) → Among l (node_lines e.nodes) → IsPlain l
  plain_node l a =
      let f = entry_of lines_of_node 0 e.nodes l a in
      let same = only_one l (node_line (0 + f.place) f.entry) f.among in
      let number : f.place ≡ 0 + f.place = omega arith in
      let line : node_line f.place f.entry ≡ l = ap (λ k. node_line k f.entry) number ∙ same in
      subst IsPlain line (record {
        lacks =
            node_lacks f.place f.entry (omega (arith, node_small station formed f.place f.entry f.at))
            (writable (length d.switches) f.place (map goal_count e.parts) f.entry (few_switches station formed)
            (few_counts station formed) (formed.nodes.each f.place f.entry f.at));
        told = λ x more small begins. node_told f.place f.entry x more f.at small begins;
      })

  end_defines : (x : Entry) → IsEntry32 x → IsDefined (codes "end\n") x → ⊥
  end_defines x small has = elim (line_split (codes "end") [] (head_of x) (lacks_by 10
      (codes "end") refl) (head_lacks x small) has) [
        | inl begins ↦ other_byte x (codes "end") begins.0 (λ b. omega (arith, b)) (λ b. omega (arith, b)) begins.1
        | inr later ↦
            let begins = last_only [] (head_of x) tt later in
            other_byte x [] begins.0 (λ b. omega (arith, b)) (λ b. omega (arith, b)) begins.1
      ]

  pub there_of : (x : Entry) → IsEntry32 x → IsDefined body x → IsThere x
  there_of x small has = elim (past (start_lines targets) body_steps x plain_start small has) [
    | inl there ↦ there
    | inr behind ↦ elim (past (all_step_lines e.parts) body_ops x plain_step small behind) [
      | inl there ↦ there
      | inr later ↦ elim (past (op_lines e.ops) body_end x plain_op small later) [
        | inl there ↦ there
        | inr last ↦ elim (past (node_lines e.nodes) (codes "end\n") x plain_node small last) [
          | inl there ↦ there
          | inr end ↦ absurd (end_defines x small end)
        ]
      ]
    ]
  ]
