-- Where no line names what none defines, each number is that of a step or node that is there.
use Rattle.std.proofs.Common.{◌≡◌, ◌∙◌, ℕ, ◌+◌, ◌<◌, ◌^◌, zero, suc, List, [], ◌∷◌, ◌++◌, length, map, refl, sym, ap}
use Rattle.std.proofs.Common.{subst, inl, inr, arith, Some}
use Rattle.std.specs.Prelude.{codes, slice_get}
use Rattle.std.proofs.lemmas.Bool.{cases_lt}
use Rattle.std.proofs.lemmas.Option.{same_Some, slice_get_within}
use Rattle.ilk_base.specs.declared.words.Direction.TheVariants.{ToOff, ToOn}
use Rattle.station_graph.specs.Diagram.{Diagram, IsStation}
use Rattle.part_alphabets.specs.declared.fork.PartStep.{PartStep}
use Rattle.part_alphabets.specs.declared.fork.Target.{Target}
use Rattle.part_alphabets.specs.declared.fork.Target.TheVariants.{Step, Index}
use Rattle.station_equations.specs.declared.goal.Goal.{Goal}
use Rattle.station_equations.specs.declared.goal.Goal.TheVariants.{Node, Answer}
use Rattle.station_equations.specs.declared.goal.SwitchGoals.{SwitchGoals}
use Rattle.station_equations.specs.declared.goal.TheConstants.{NUMBERS}
use Rattle.station_equations.specs.EquationLines.{PartLines, NodeLine, part_node, switch_node, EquationLines}
use Rattle.station_equations.specs.EquationLines.{goal_count}
use Rattle.station_equations.specs.EquationForm.{IsTarget, IsLaterGoal, IsGoal, goals_of}
use Rattle.station_equations.specs.EquationText.{part_line, step_line, op_line, node_line, lines_of, text_of}
use Rattle.equation_text.specs.Words.{Lacks}
use Rattle.equation_text.specs.Beginnings.{MayBeNode}
use Rattle.equation_text.specs.Reading.{front_text, start_lines, all_step_lines, op_lines, node_lines}
use Rattle.equation_text.specs.Defined.{AreThere}
use Rattle.equation_text.specs.Faults.{Entry, step_of, node_of, IsDefined, Names, AreFormed, feeds}
use Rattle.equation_text.specs.Entries.{NoneWithout}
use Rattle.station_equations.proofs.TurnLemmas.{mapped}
use Rattle.equation_text.proofs.OnceLemmas.{any_target, part_lacks, op_lacks, node_lacks}
use Rattle.equation_text.proofs.StepFits.{may_lacks}
use Rattle.equation_text.proofs.ReadLemmas.{start_of, ops_of, node_of as lines_of_node}
use Rattle.equation_text.proofs.ReadLoops.{writable}
use Rattle.equation_text.proofs.StepsLemmas.{part_steps}
use Rattle.equation_text.proofs.FormedLemmas.{groups, starts, at_starts, at_steps, at_ops, at_end}
use Rattle.equation_text.proofs.WholeText.{whole_line, whole_text}
use Rattle.equation_text.proofs.AmongLemmas.{Stands, stands_after, stands_before, stands_line, stands_first, stands_in}
use Rattle.equation_text.proofs.NamedLemmas.{start_names, off_names, on_names, goal_names, part_node_names}
use Rattle.equation_text.proofs.NamedLemmas.{switch_node_names}
use Rattle.equation_text.proofs.DefinedThere.{few_switches, few_counts, part_small, step_small, node_small}
use Rattle.equation_text.proofs.DefinedThere.{switch_small, there_of}

target_there : (n : ℕ) (t : Target) → IsTarget NUMBERS t → ((m : ℕ) → t ≡ Step m → m < n) → IsTarget n t
target_there n (Step m) may named = named m refl
target_there n (Index i) may named = may

goal_there : (n : ℕ) (g : Goal) → ((k : ℕ) → g ≡ Node k → k < n) → IsGoal n g
goal_there n (Node k) named = named k refl
goal_there n (Answer a) named = tt

small_target : (t : Target) (m : ℕ) → IsTarget NUMBERS t → t ≡ Step m → m < 2 ^ 32
small_target t m may is = by (subst (λ u. IsTarget NUMBERS u) is may)
  where
    by : m < NUMBERS → m < 2 ^ 32
    by small = omega (arith, small)

small_goal : (g : Goal) (k : ℕ) → IsGoal NUMBERS g → g ≡ Node k → k < 2 ^ 32
small_goal g k may is = by (subst (λ h. IsGoal NUMBERS h) is may)
  where
    by : k < NUMBERS → k < 2 ^ 32
    by small = omega (arith, small)

later_goal : (n : ℕ) (g : Goal) → IsLaterGoal NUMBERS n g → IsGoal NUMBERS g
later_goal n (Node k) later = later.1
later_goal n (Answer a) later = tt

module _ (d : Diagram) (station : IsStation d) (e : EquationLines) (formed : AreFormed d e) (text : List ℕ)
    (is : text ≡ text_of (lines_of d e)) where
  abbrev body : List ℕ
  body = at_starts d station e formed text is

  abbrev body_steps : List ℕ
  body_steps = at_steps d station e formed text is

  abbrev body_ops : List ℕ
  body_ops = at_ops d station e formed text is

  abbrev body_end : List ℕ
  body_end = at_end d station e formed text is

  abbrev targets : List Target
  targets = starts d station e formed text is

  -- ---- what lines name is there

  module _ (none : NoneWithout d text) where
    undefined : (x : Entry) (l : List ℕ) → Lacks 10 l → Stands body l → Names l x → (IsDefined body x → ⊥) → ⊥
    undefined x l lacks s named lost = none (suc (feeds (front_text d ++ s.before))) (record {
      body = body;
      is = groups d station e formed text is;
      before = s.before;
      line = l;
      stands = stands_line body l lacks s;
      names = record { entry = x; named = named; undefined = lost };
      number = refl;
    })

    step_there : (p m : ℕ) (y : PartLines) (l : List ℕ) → slice_get e.parts p ≡ Some y → m < 2 ^ 32 → Lacks 10 l
        → Stands body l → Names l (step_of p m) → m < length y.steps
    step_there p m y l at small lacks s named = elim (cases_lt m (length y.steps)) [
      | inl less ↦ less
      | inr past ↦ absurd (undefined (step_of p m) l lacks s named (λ has.
          let there = there_of station formed is (step_of p m) (omega (arith, part_small station formed p y at), small)
          has in
          let same = same_Some there.0 y (sym there.1 ∙ at) in
          omega (arith, past, there.2, ap (λ (z : PartLines). length z.steps) same)))
    ]

    node_there : (n : ℕ) (l : List ℕ) → n < 2 ^ 32 → Lacks 10 l → Stands body l → Names l (node_of n)
        → n < length e.nodes
    node_there n l small lacks s named = elim (cases_lt n (length e.nodes)) [
      | inl less ↦ less
      | inr past ↦ absurd (undefined (node_of n) l lacks s named (λ has.
          let there : n < length e.nodes = there_of station formed is (node_of n) small has in
          omega (arith, past, there)))
    ]

    -- where the lines stand
    start_stands : (p : ℕ) (x : PartLines) → slice_get e.parts p ≡ Some x → Stands body (part_line p x)
    start_stands p x at =
        let number : 0 + p ≡ p = omega arith in
        let there = mapped (λ (y : PartLines). y.start) e.parts p x at in
        let s = stands_in start_of 0 targets p x.start (part_line (0 + p) x) there (stands_first (part_line (0 + p) x)
        []) in
        stands_before (text_of (start_lines targets)) (part_line p x) body_steps (subst (λ k. Stands (text_of
        (start_lines targets)) (part_line k x)) number s)

    step_stands : (p m : ℕ) (x : PartLines) (s : PartStep) → slice_get e.parts p ≡ Some x
        → slice_get x.steps m ≡ Some s → Stands body (step_line p m s)
    step_stands p m x s at at_step =
        let number : 0 + p ≡ p = omega arith in
        let count : 0 + m ≡ m = omega arith in
        let inner = stands_in (λ k (t : PartStep). step_line (0 + p) k t ∷ []) 0 x.steps m s (step_line (0 + p) (0 + m)
        s) at_step (stands_first (step_line (0 + p) (0 + m) s) []) in
        let all = stands_in part_steps 0 e.parts p x (step_line (0 + p) (0 + m) s) at inner in
        let here = stands_before (text_of (all_step_lines e.parts)) (step_line (0 + p) (0 + m) s) body_ops all in
        let moved = stands_after (text_of (start_lines targets)) body_steps (step_line (0 + p) (0 + m) s) (whole_text
        (start_lines targets)) here in
        subst (λ k. Stands body (step_line k m s)) number (subst (λ k. Stands body (step_line (0 + p) k s)) count moved)

    behind_steps : (l : List ℕ) → Stands body_ops l → Stands body l
    behind_steps l s = stands_after (text_of (start_lines targets)) body_steps l (whole_text (start_lines targets))
        (stands_after (text_of (all_step_lines e.parts)) body_ops l (whole_text (all_step_lines e.parts)) s)

    opening_stands : (s : ℕ) (x : SwitchGoals) → slice_get e.ops s ≡ Some x → Stands body (op_line ToOff s x)
    opening_stands s x at =
        let number : 0 + s ≡ s = omega arith in
        let here = stands_in ops_of 0 e.ops s x (op_line ToOff (0 + s) x) at (stands_first (op_line ToOff (0 + s) x)
        (op_line ToOn (0 + s) x ∷ [])) in
        subst (λ k. Stands body (op_line ToOff k x)) number (behind_steps (op_line ToOff (0 + s) x) (stands_before
        (text_of (op_lines e.ops)) (op_line ToOff (0 + s) x) body_end here))

    closing_stands : (s : ℕ) (x : SwitchGoals) → slice_get e.ops s ≡ Some x → Stands body (op_line ToOn s x)
    closing_stands s x at =
        let number : 0 + s ≡ s = omega arith in
        let second = stands_after (op_line ToOff (0 + s) x ++ codes "\n") (text_of (op_line ToOn (0 + s) x ∷ []))
        (op_line ToOn (0 + s) x) (whole_line (op_line ToOff (0 + s) x))
        (stands_first (op_line ToOn (0 + s) x) []) in
        let here = stands_in ops_of 0 e.ops s x (op_line ToOn (0 + s) x) at second in
        subst (λ k. Stands body (op_line ToOn k x)) number (behind_steps (op_line ToOn (0 + s) x) (stands_before
        (text_of (op_lines e.ops)) (op_line ToOn (0 + s) x) body_end here))

    node_stands : (n : ℕ) (x : NodeLine) → slice_get e.nodes n ≡ Some x → Stands body (node_line n x)
    node_stands n x at =
        let number : 0 + n ≡ n = omega arith in
        let here = stands_in lines_of_node 0 e.nodes n x (node_line (0 + n) x) at (stands_first (node_line (0 + n) x)
        []) in
        let ended = stands_before (text_of (node_lines e.nodes)) (node_line (0 + n) x) (codes "end\n") here in
        subst (λ k. Stands body (node_line k x)) number (behind_steps (node_line (0 + n) x) (stands_after (text_of
        (op_lines e.ops)) body_end (node_line (0 + n) x) (whole_text (op_lines e.ops)) ended))

    -- ---- all are there

    start_there : (p : ℕ) (x : PartLines) → slice_get e.parts p ≡ Some x → IsTarget (length x.steps) x.start
    start_there p x at = target_there (length x.steps) x.start (formed.parts.starts p x at) (λ m named.
        let small = small_target x.start m (formed.parts.starts p x at) named in
        let number = part_small station formed p x at in
        step_there p m x (part_line p x) at small (part_lacks p x (omega (arith, number)) (formed.parts.starts p x at))
        (start_stands p x at) (start_names p m x named (omega (arith, number)) small))

    steps_there : (p k : ℕ) (x : PartLines) (s : PartStep) → slice_get e.parts p ≡ Some x → slice_get x.steps k ≡ Some s
        → IsTarget (length x.steps) s.off × IsTarget (length x.steps) s.on
    steps_there p k x s at at_step =
        let may = (formed.parts.steps p x at).each k s at_step in
        let number : p < 2 ^ 32 = omega (arith, part_small station formed p x at) in
        let count = step_small station formed p k x s at at_step in
        let switch : s.switch.0 < 2 ^ 32 = omega (arith, may.fits.switch, few_switches station formed) in
        let lacks = may_lacks d p k s (omega (arith, count)) station may in
        let off_may = any_target k s.off may.fits.off in
        let on_may = any_target k s.on may.fits.on in (
          target_there (length x.steps) s.off off_may (λ m named.
              let small = small_target s.off m off_may named in
              step_there p m x (step_line p k s) at small lacks (step_stands p k x s at at_step)
              (off_names p k m s named
              number count switch small)),
          target_there (length x.steps) s.on on_may (λ m named.
              let small = small_target s.on m on_may named in
              step_there p m x (step_line p k s) at small lacks (step_stands p k x s at at_step) (on_names p k m s named
              number count switch small)),
        )

    opening_there : (s : ℕ) (x : SwitchGoals) → slice_get e.ops s ≡ Some x → IsGoal (length e.nodes) x.opening
    opening_there s x at =
        let fits = (formed.ops.fit s x at).opening in
        let number = switch_small station formed s x at in
        goal_there (length e.nodes) x.opening (λ n named.
        let small = small_goal x.opening n fits named in
        node_there n (op_line ToOff s x) small (op_lacks ToOff s x (omega (arith, number)) fits) (opening_stands s x at)
        (goal_names ToOff s n x named (omega (arith, number)) small))

    closing_there : (s : ℕ) (x : SwitchGoals) → slice_get e.ops s ≡ Some x → IsGoal (length e.nodes) x.closing
    closing_there s x at =
        let fits = (formed.ops.fit s x at).closing in
        let number = switch_small station formed s x at in
        goal_there (length e.nodes) x.closing (λ n named.
        let small = small_goal x.closing n fits named in
        node_there n (op_line ToOn s x) small (op_lacks ToOn s x (omega (arith, number)) fits) (closing_stands s x at)
        (goal_names ToOn s n x named (omega (arith, number)) small))

    names_goal : (k i n : ℕ) (y : NodeLine) → MayBeNode (length d.switches) (map goal_count e.parts) k y
        → slice_get (goals_of y) i ≡ Some (Node n) → k < 2 ^ 32 → n < 2 ^ 32 → Names (node_line k y) (node_of n)
    names_goal k i n (part_node part goals) may at small_k small_n =
        let within = slice_get_within (map goal_count e.parts) part (length goals) may.0 in
        part_node_names k part i n goals at small_k (omega (arith, within, few_counts station formed)) small_n
    names_goal k i n (switch_node switch off on) may at small_k small_n =
        switch_node_names k switch i n off on at small_k (omega (arith, may.0, few_switches station formed)) small_n

    may_goal : (k i : ℕ) (y : NodeLine) (g : Goal) → MayBeNode (length d.switches) (map goal_count e.parts) k y
        → slice_get (goals_of y) i ≡ Some g → IsGoal NUMBERS g
    may_goal k i (part_node part goals) g may at = later_goal k g (may.1 i g at)
    may_goal k zero (switch_node switch off on) g may at =
        let same : off ≡ g = cc at in
        subst (λ h. IsGoal NUMBERS h) same (later_goal k off may.1)
    may_goal k (suc zero) (switch_node switch off on) g may at =
        let same : on ≡ g = cc at in
        subst (λ h. IsGoal NUMBERS h) same (later_goal k on may.2)
    may_goal k (suc (suc i)) (switch_node switch off on) g may at = absurd (cc at)

    goals_there : (k i : ℕ) (y : NodeLine) (g : Goal) → slice_get e.nodes k ≡ Some y
        → slice_get (goals_of y) i ≡ Some g → IsGoal (length e.nodes) g
    goals_there k i y g at at_goal =
        let may = formed.nodes.each k y at in
        let number = node_small station formed k y at in
        goal_there (length e.nodes) g (λ n named.
        let small = small_goal g n (may_goal k i y g may at_goal) named in
        node_there n (node_line k y) small (node_lacks k y (omega (arith, number)) (writable (length d.switches) k
        (map goal_count e.parts) y (few_switches station formed) (few_counts station formed) may)) (node_stands k y at)
        (names_goal k i n y may (at_goal ∙ ap Some named) number small))

    pub all_there : AreThere e.parts e.ops e.nodes
    all_there = record {
      parts_there = λ p x at. (start_there p x at, λ k s at_step. steps_there p k x s at at_step);
      ops_there = λ s x at. record { opening = opening_there s x at; closing = closing_there s x at };
      nodes_there = λ k y at i g at_goal. goals_there k i y g at at_goal;
    }
