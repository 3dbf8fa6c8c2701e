-- Lines that were read can be followed by others up to the end of a text.
use Rattle.std.proofs.Common.{◌≡◌, ◌∙◌, ◌⊎◌, ℕ, ◌+◌, ◌-◌, ◌≤◌, zero, suc, List, [], ◌∷◌, ◌++◌, length, map}
use Rattle.std.proofs.Common.{refl, sym, ap, subst, arith, inl, inr, Some, None, append-nil, append_assoc}
use Rattle.std.specs.Prelude.{codes, slice_get}
use Rattle.std.proofs.lemmas.List.{length-map, length-append}
use Rattle.station_graph.specs.Diagram.{Diagram, part_count}
use Rattle.part_alphabets.specs.declared.fork.Target.{Target}
use Rattle.part_alphabets.specs.declared.fork.Target.TheVariants.{Index}
use Rattle.station_equations.specs.declared.goal.Goal.TheVariants.{Answer}
use Rattle.station_equations.specs.declared.goal.SwitchGoals.{SwitchGoals}
use Rattle.station_equations.specs.declared.goal.TheConstants.{NUMBERS}
use Rattle.station_equations.specs.EquationLines.{PartLines, EquationLines, goal_count}
use Rattle.station_equations.specs.EquationForm.{IsTarget, SwitchGoalsFit}
use Rattle.station_equations.specs.EquationText.{text_of}
use Rattle.equation_text.specs.Reading.{front_text, start_lines, all_step_lines, op_lines, node_lines}
use Rattle.equation_text.specs.Reading.{MayBeStarts, MayBeSteps, MayBeOps, MayBeNodes}
use Rattle.equation_text.specs.ReadText.{MayBeParts}
use Rattle.equation_text.specs.Faults.{AreFormed, BeginsText}
use Rattle.station_equations.proofs.TextLemmas.{text_of-append}
use Rattle.station_equations.proofs.TurnLemmas.{unmapped}
use Rattle.equation_text.proofs.GroupLemmas.{lines_from}
use Rattle.equation_text.proofs.ReadLemmas.{start_of, ops_of, whole_groups}

-- ---- lists with more entries

-- so many times this
abbrev pub fill : {X : Type 0} → ℕ → X → List X
fill zero x = []
fill (suc n) x = x ∷ fill n x

length_fill : {X : Type 0} (n : ℕ) (x : X) → length (fill n x) ≡ n
length_fill zero x = refl
length_fill (suc n) x = ap suc (length_fill n x)

filled_at : {X : Type 0} (n i : ℕ) (x y : X) → slice_get (fill n x) i ≡ Some y → x ≡ y
filled_at zero i x y at = absurd (cc at)
filled_at (suc n) zero x y at = cc at
filled_at (suc n) (suc i) x y at = filled_at n i x y at

pub at_either : {X : Type 0} (xs ys : List X) (i : ℕ) (x : X) → slice_get (xs ++ ys) i ≡ Some x
    → (slice_get xs i ≡ Some x) ⊎ ((k : ℕ) × (slice_get ys k ≡ Some x))
at_either [] ys i x at = inr (i, at)
at_either (y ∷ xs) ys zero x at = inl at
at_either (y ∷ xs) ys (suc i) x at = at_either xs ys i x at

-- each entry has a property where each old one has, and the new one
pub all_filled : {X : Type 0} (P : X → Type 0) (xs : List X) (n : ℕ) (y : X) → ((i : ℕ) (x : X)
    → slice_get xs i ≡ Some x → P x) → P y → (i : ℕ) (x : X) → slice_get (xs ++ fill n y) i ≡ Some x → P x
all_filled {X} P xs n y old new i x at = elim (at_either xs (fill n y) i x at) [
  | inl there ↦ old i x there
  | inr there ↦ subst (λ (z : X). P z) (filled_at n there.0 y x there.1) new
]

count_filled : {X : Type 0} (xs : List X) (n : ℕ) (y : X) → length xs ≤ n → length (xs ++ fill (n - length xs) y) ≡ n
count_filled xs n y few = omega (arith, few, length-append xs (fill (n - length xs) y), length_fill (n - length xs) y)

-- the text of a group with more entries begins with that of the first ones
pub lines_more : {X : Type 0} (lines : ℕ → X → List (List ℕ)) (n : ℕ) (xs ys : List X) → lines_from lines n (xs ++ ys)
    ≡ lines_from lines n xs ++ lines_from lines (n + length xs) ys
lines_more {X} lines n [] ys = let number : n ≡ n + 0 = omega arith in ap (λ k. lines_from lines k ys) number
lines_more {X} lines n (x ∷ xs) ys =
    let number : n + 1 + length xs ≡ n + suc (length xs) = omega arith in
    ap (λ (ls : List (List ℕ)). lines n x ++ ls) (lines_more lines (n + 1) xs ys ∙ ap (λ
    k. lines_from lines (n + 1) xs ++ lines_from lines k ys) number)
    ∙ sym (append_assoc (lines n x) (lines_from lines (n + 1) xs) (lines_from lines (n + suc (length xs)) ys))

pub text_more : {X : Type 0} (lines : ℕ → X → List (List ℕ)) (xs ys : List X) → text_of (lines_from lines 0 (xs ++ ys))
    ≡ text_of (lines_from lines 0 xs) ++ text_of (lines_from lines (0 + length xs) ys)
text_more lines xs ys = ap text_of (lines_more lines 0 xs ys) ∙ text_of-append (lines_from lines 0 xs)
    (lines_from lines (0 + length xs) ys)

-- ---- parts without steps

abbrev part_of : Target → PartLines
part_of t = record { start = t; steps = [] }

starts_of_parts : (ts : List Target) → map (λ (x : PartLines). x.start) (map part_of ts) ≡ ts
starts_of_parts [] = refl
starts_of_parts (t ∷ ts) = ap (λ (us : List Target). t ∷ us) (starts_of_parts ts)

no_steps : (d : Diagram) (p : ℕ) → MayBeSteps d p []
no_steps d p = record { few = omega arith; each = λ m s at. absurd (cc at) }

-- ---- texts that begin so

nest_two : (f a b r : List ℕ) → (f ++ (a ++ b)) ++ r ≡ f ++ (a ++ (b ++ r))
nest_two f a b r = append_assoc f (a ++ b) r ∙ ap (λ (z : List ℕ). f ++ z) (append_assoc a b r)

pub nest_three : (f a b c r : List ℕ) → (f ++ (a ++ (b ++ c))) ++ r ≡ f ++ (a ++ (b ++ (c ++ r)))
nest_three f a b c r = append_assoc f (a ++ (b ++ c)) r ∙ ap (λ (z : List ℕ). f ++ z) (nest_two a b c r)

pub nest_four : (f a b c e r : List ℕ) → (f ++ (a ++ (b ++ (c ++ e)))) ++ r ≡ f ++ (a ++ (b ++ (c ++ (e ++ r))))
nest_four f a b c e r = append_assoc f (a ++ (b ++ (c ++ e))) r ∙ ap (λ (z : List ℕ). f ++ z) (nest_three a b c e r)

module _ (d : Diagram) where
  pub begins_prefix : (before more : List ℕ) → BeginsText d (before ++ more) → BeginsText d before
  begins_prefix before more b = record {
    lines = b.lines;
    formed = b.formed;
    rest = more ++ b.rest;
    is = b.is ∙ append_assoc before more b.rest;
  }

  abbrev ok_goals : SwitchGoals
  ok_goals = record { opening = Answer None; closing = Answer None }

  abbrev filled_ops : List SwitchGoals → List SwitchGoals
  filled_ops ops = ops ++ fill (length d.switches - length ops) ok_goals

  ops_filled : (ops : List SwitchGoals) → length ops ≤ length d.switches → MayBeOps (length ops) ops
      → MayBeOps (length d.switches) (filled_ops ops)
  ops_filled ops few may = record {
    count = count_filled ops (length d.switches) ok_goals few;
    fit = all_filled (SwitchGoalsFit NUMBERS) ops (length d.switches - length ops) ok_goals may.fit (record {
      opening = tt;
      closing = tt;
    });
  }

  no_nodes : (counts : List ℕ) → MayBeNodes (length d.switches) counts []
  no_nodes counts = record { few = omega arith; each = λ n x at. absurd (cc at) }

  no_ops : MayBeOps 0 []
  no_ops = record { count = refl; fit = λ s x at. absurd (cc at) }

  abbrev filled_starts : List Target → List Target
  filled_starts ts = ts ++ fill (part_count d - length ts) (Index 0)

  parts_filled : (ts : List Target) → length ts ≤ part_count d → MayBeStarts (length ts) ts
      → MayBeParts d (map part_of (filled_starts ts))
  parts_filled ts few may = record {
    count = length-map (filled_starts ts) part_of ∙ count_filled ts (part_count d) (Index 0) few;
    starts = λ p x at.
        let t = unmapped part_of (filled_starts ts) p x at in
        subst (λ (y : PartLines). IsTarget NUMBERS y.start) t.2 (all_filled (IsTarget NUMBERS) ts
        (part_count d - length ts) (Index 0) may.each (omega arith) p t.0 t.1);
    steps = λ p x at.
        let t = unmapped part_of (filled_starts ts) p x at in
        subst (λ (y : PartLines). MayBeSteps d p y.steps) t.2 (no_steps d p);
  }

  -- the lines of some starts
  pub begins_starts : (ts : List Target) → length ts ≤ part_count d → MayBeStarts (length ts) ts
      → BeginsText d (front_text d ++ text_of (start_lines ts))
  begins_starts ts few may =
      let parts = map part_of (filled_starts ts) in
      let e : EquationLines = record { parts = parts; ops = filled_ops []; nodes = [] } in
      let behind : List ℕ = text_of (all_step_lines parts) ++ (text_of (op_lines (filled_ops [])) ++ (text_of
      (node_lines []) ++ codes "end\n")) in
      let first = text_of (start_lines ts) in
      let more = text_of (lines_from start_of (0 + length ts) (fill (part_count d - length ts) (Index 0))) in
      record {
        lines = e;
        formed = record {
          parts = parts_filled ts few may;
          ops = ops_filled [] (omega arith) no_ops;
          nodes = no_nodes (map goal_count parts);
        };
        rest = more ++ behind;
        is = whole_groups d e
            ∙ ap (λ (us : List Target). front_text d ++ (text_of (start_lines us) ++ behind))
            (starts_of_parts (filled_starts ts))
            ∙ ap (λ (z : List ℕ). front_text d ++ (z ++ behind)) (text_more start_of ts
            (fill (part_count d - length ts) (Index 0)))
            ∙ ap (λ (z : List ℕ). front_text d ++ z) (append_assoc first more behind)
            ∙ sym (append_assoc (front_text d) first (more ++ behind));
      }

  abbrev starts : List PartLines → List ℕ
  starts parts = text_of (start_lines (map (λ (x : PartLines). x.start) parts))

  -- the lines of all parts and of some operations
  pub begins_ops : (parts : List PartLines) (ops : List SwitchGoals) → MayBeParts d parts
      → length ops ≤ length d.switches → MayBeOps (length ops) ops
      → BeginsText d (front_text d ++ (starts parts ++ (text_of (all_step_lines parts) ++ text_of (op_lines ops))))
  begins_ops parts ops parts_may few may =
      let e : EquationLines = record { parts = parts; ops = filled_ops ops; nodes = [] } in
      let first = text_of (op_lines ops) in
      let more = text_of (lines_from ops_of (0 + length ops) (fill (length d.switches - length ops) ok_goals)) in
      let end : List ℕ = text_of (node_lines []) ++ codes "end\n" in
      record {
        lines = e;
        formed = record {
          parts = parts_may;
          ops = ops_filled ops few may;
          nodes = no_nodes (map goal_count parts);
        };
        rest = more ++ end;
        is = whole_groups d e
            ∙ ap (λ (z : List ℕ). front_text d ++ (starts parts ++ (text_of (all_step_lines parts) ++ (z ++ end))))
            (text_more ops_of ops (fill (length d.switches - length ops) ok_goals))
            ∙ ap (λ (z : List ℕ). front_text d ++ (starts parts ++ (text_of (all_step_lines parts) ++ z)))
            (append_assoc first more end)
            ∙ sym (nest_three (front_text d) (starts parts) (text_of (all_step_lines parts)) first (more ++ end));
      }

  -- all lines
  pub begins_all : (e : EquationLines) → AreFormed d e → BeginsText d (front_text d ++ (starts e.parts ++ (text_of
      (all_step_lines e.parts) ++ (text_of (op_lines e.ops) ++ (text_of (node_lines e.nodes) ++ codes "end\n")))))
  begins_all e formed = record {
    lines = e;
    formed = formed;
    rest = [];
    is = whole_groups d e ∙ sym (append-nil (front_text d ++ (starts e.parts ++ (text_of (all_step_lines e.parts) ++
        (text_of (op_lines e.ops) ++ (text_of (node_lines e.nodes) ++ codes "end\n"))))));
  }

  pub begins_nodes : (e : EquationLines) → AreFormed d e → BeginsText d (front_text d ++ (starts e.parts ++ (text_of
      (all_step_lines e.parts) ++ (text_of (op_lines e.ops) ++ text_of (node_lines e.nodes)))))
  begins_nodes e formed = record {
    lines = e;
    formed = formed;
    rest = codes "end\n";
    is = whole_groups d e ∙ sym (nest_four (front_text d) (starts e.parts) (text_of (all_step_lines e.parts)) (text_of
        (op_lines e.ops)) (text_of (node_lines e.nodes)) (codes "end\n"));
  }

  -- some of the lines before those of the parts
  pub begins_front : (before more : List ℕ) → front_text d ≡ before ++ more → BeginsText d before
  begins_front before more is =
      let b = begins_starts [] (omega arith) (record { count = refl; each = λ p t at. absurd (cc at) }) in
      begins_prefix before more (subst (λ (z : List ℕ). BeginsText d z) is (begins_prefix (front_text d) (text_of
      (start_lines [])) b))
