-- The groups of lines of a text are read in one way.
use Rattle.std.proofs.Common.{◌≡◌, ◌∙◌, ℕ, ◌+◌, ◌<◌, List, [], ◌∷◌, ◌++◌, map}
use Rattle.std.proofs.Common.{refl, sym, ap, arith, append_assoc}
use Rattle.std.specs.Prelude.{codes}
use Rattle.ilk_base.specs.declared.words.Direction.TheVariants.{ToOff, ToOn}
use Rattle.station_graph.specs.Diagram.{Diagram}
use Rattle.part_alphabets.specs.declared.fork.PartStep.{PartStep}
use Rattle.part_alphabets.specs.declared.fork.Target.{Target}
use Rattle.station_equations.specs.declared.goal.SwitchGoals.{SwitchGoals}
use Rattle.station_equations.specs.declared.goal.TheConstants.{NUMBERS}
use Rattle.station_equations.specs.EquationLines.{PartLines, NodeLine, EquationLines}
use Rattle.station_equations.specs.EquationForm.{IsTarget, SwitchGoalsFit}
use Rattle.station_equations.specs.EquationText.{then_number, then_word, target_text, switch_line, part_line, step_line}
use Rattle.station_equations.specs.EquationText.{op_line, node_line, numbered, lines_of, text_of}
use Rattle.equation_text.specs.Reading.{front_text, start_lines, all_step_lines, op_lines, node_lines}
use Rattle.station_equations.proofs.TextLemmas.{text_of-append}
use Rattle.equation_text.proofs.WordLemmas.{cut_once}
use Rattle.equation_text.proofs.GroupLemmas.{text_cons, text_one, lines_from}
use Rattle.equation_text.proofs.OnceLemmas.{part_lacks, part_once, step_lacks, step_once, op_lacks}
use Rattle.equation_text.proofs.OnceLemmas.{op_once, IsWritable, node_lacks, node_once}

-- two texts that begin with a line
line_once : (l k r s : List ℕ) → (ls ks : List (List ℕ)) → ls ≡ l ∷ [] → ks ≡ k ∷ []
    → text_of ls ++ r ≡ text_of ks ++ s → l ++ 10 ∷ r ≡ k ++ 10 ∷ s
line_once l k r s ls ks is_l is_k same = sym (text_one l r) ∙ ap (λ (xs : List (List ℕ)). text_of xs ++ r) (sym is_l)
    ∙ same ∙ ap (λ (xs : List (List ℕ)). text_of xs ++ s) is_k ∙ text_one k s

-- ---- parts

abbrev pub start_of : ℕ → Target → List (List ℕ)
start_of p t = (codes "part" ++ then_number p ++ then_word (target_text t)) ∷ []

pub record StartFits (p : ℕ) (t : Target) : Type 0 where
  pub number : p < NUMBERS
  pub target : IsTarget NUMBERS t

abbrev part_of : Target → PartLines
part_of t = record { start = t; steps = [] }

pub start_one : (p : ℕ) (t u : Target) (r s : List ℕ) → StartFits p t → StartFits p u
    → text_of (start_of p t) ++ r ≡ text_of (start_of p u) ++ s → (t ≡ u) × (r ≡ s)
start_one p t u r s fits_t fits_u same =
    let cut = cut_once 10 (part_line p (part_of t)) (part_line p (part_of u)) r s (part_lacks p
    (part_of t) fits_t.number fits_t.target) (part_lacks p (part_of u) fits_u.number fits_u.target) (line_once
    (part_line p (part_of t)) (part_line p (part_of u)) r s (start_of p t) (start_of p u) refl refl same) in
    (part_once p (part_of t) (part_of u) fits_t.target fits_u.target cut.0, cut.1)

-- ---- steps

pub record StepFits (part m : ℕ) (s : PartStep) : Type 0 where
  pub part_number : part < NUMBERS
  pub number : m < NUMBERS
  pub switch : s.switch.0 < NUMBERS
  pub off : IsTarget NUMBERS s.off
  pub on : IsTarget NUMBERS s.on

abbrev pub step_of : ℕ → ℕ → PartStep → List (List ℕ)
step_of part m s = step_line part m s ∷ []

pub step_one : (part m : ℕ) (x y : PartStep) (r s : List ℕ) → StepFits part m x → StepFits part m y
    → text_of (step_of part m x) ++ r ≡ text_of (step_of part m y) ++ s → (x ≡ y) × (r ≡ s)
step_one part m x y r s fx fy same =
    let cut = cut_once 10 (step_line part m x) (step_line part m y) r s
    (step_lacks part m x fx.part_number (omega (arith, fx.number)) fx.switch fx.off fx.on)
    (step_lacks part m y fy.part_number (omega (arith, fy.number)) fy.switch fy.off fy.on)
    (line_once (step_line part m x)
    (step_line part m y) r s (step_of part m x) (step_of part m y) refl refl same) in
    (step_once part m x y fx.switch fy.switch fx.off fy.off fx.on fy.on cut.0, cut.1)

-- ---- operations

pub record OpFits (s : ℕ) (x : SwitchGoals) : Type 0 where
  pub number : s < NUMBERS
  pub fit : SwitchGoalsFit NUMBERS x

abbrev pub ops_of : ℕ → SwitchGoals → List (List ℕ)
ops_of s x = op_line ToOff s x ∷ op_line ToOn s x ∷ []

pub text_two : (a b r : List ℕ) → text_of (a ∷ b ∷ []) ++ r ≡ a ++ 10 ∷ (b ++ 10 ∷ r)
text_two a b r = text_cons a (b ∷ []) r ∙ ap (λ (z : List ℕ). a ++ 10 ∷ z) (text_one b r)

same_goals : (x y : SwitchGoals) → x.opening ≡ y.opening → x.closing ≡ y.closing → x ≡ y
same_goals x y p q = λ i. record { opening = p i; closing = q i }

pub op_one : (n : ℕ) (x y : SwitchGoals) (r s : List ℕ) → OpFits n x → OpFits n y
    → text_of (ops_of n x) ++ r ≡ text_of (ops_of n y) ++ s → (x ≡ y) × (r ≡ s)
op_one n x y r s fx fy same =
    let lines = sym (text_two (op_line ToOff n x) (op_line ToOn n x) r) ∙ same ∙ text_two (op_line ToOff n y)
    (op_line ToOn n y) s in
    let first = cut_once 10 (op_line ToOff n x) (op_line ToOff n y) (op_line ToOn n x ++ 10 ∷ r)
    (op_line ToOn n y ++ 10 ∷ s) (op_lacks ToOff n x fx.number fx.fit.opening)
    (op_lacks ToOff n y fy.number fy.fit.opening) lines in
    let second = cut_once 10 (op_line ToOn n x) (op_line ToOn n y) r s (op_lacks ToOn n x fx.number fx.fit.closing)
    (op_lacks ToOn n y fy.number fy.fit.closing) first.1 in (
      same_goals x y (op_once ToOff n x y fx.fit.opening fy.fit.opening first.0)
          (op_once ToOn n x y fx.fit.closing fy.fit.closing second.0),
      second.1,
    )

-- ---- nodes

pub record NodeFits (n : ℕ) (x : NodeLine) : Type 0 where
  pub number : n < NUMBERS
  pub writable : IsWritable n x

abbrev pub node_of : ℕ → NodeLine → List (List ℕ)
node_of n x = node_line n x ∷ []

pub node_one : (n : ℕ) (x y : NodeLine) (r s : List ℕ) → NodeFits n x → NodeFits n y
    → text_of (node_of n x) ++ r ≡ text_of (node_of n y) ++ s → (x ≡ y) × (r ≡ s)
node_one n x y r s fx fy same =
    let cut = cut_once 10 (node_line n x) (node_line n y) r s (node_lacks n x fx.number fx.writable)
    (node_lacks n y fy.number fy.writable) (line_once (node_line n x) (node_line n y) r s (node_of n x)
    (node_of n y) refl refl same) in
    (node_once n x y fx.writable fy.writable cut.0, cut.1)

-- ---- the whole text

starts_from : (n : ℕ) (parts : List PartLines) → lines_from (λ p
    (x : PartLines). part_line p x ∷ []) n parts ≡ lines_from start_of n (map (λ (x : PartLines). x.start) parts)
starts_from n [] = refl
starts_from n (x ∷ parts) = ap (λ (ls : List (List ℕ)). part_line n x ∷ ls) (starts_from (n + 1) parts)

abbrev parts_of : EquationLines → List (List ℕ)
parts_of e = numbered (λ p (x : PartLines). part_line p x ∷ []) e.parts

abbrev switches_of : Diagram → List (List ℕ)
switches_of d = numbered (λ s path. switch_line s path ∷ []) d.switch_paths

-- the lines of a text, one group after another
lines_split : (d : Diagram) (e : EquationLines) → lines_of d e ≡ (codes "equations" ∷ switches_of d) ++ (parts_of e ++
    (all_step_lines e.parts ++ (op_lines e.ops ++ (node_lines e.nodes ++ (codes "end" ∷ [])))))
lines_split d e =
    append_assoc (codes "equations" ∷ switches_of d ++ parts_of e ++ all_step_lines e.parts ++ op_lines e.ops)
    (node_lines e.nodes) (codes "end" ∷ [])
    ∙ append_assoc (codes "equations" ∷ switches_of d ++ parts_of e ++ all_step_lines e.parts) (op_lines e.ops)
    (node_lines e.nodes ++ codes "end" ∷ [])
    ∙ append_assoc (codes "equations" ∷ switches_of d ++ parts_of e) (all_step_lines e.parts) (op_lines e.ops ++
    (node_lines e.nodes ++ codes "end" ∷ []))
    ∙ append_assoc (codes "equations" ∷ switches_of d) (parts_of e) (all_step_lines e.parts ++ (op_lines e.ops ++
    (node_lines e.nodes ++ codes "end" ∷ [])))

-- a text, as its groups
pub whole_groups : (d : Diagram) (e : EquationLines) → text_of (lines_of d e) ≡ front_text d ++ (text_of (start_lines
    (map (λ (x : PartLines). x.start) e.parts)) ++ (text_of (all_step_lines e.parts) ++ (text_of (op_lines e.ops) ++
    (text_of (node_lines e.nodes) ++ codes "end\n"))))
whole_groups d e =
    ap text_of (lines_split d e)
    ∙ text_of-append (codes "equations" ∷ switches_of d) (parts_of e ++ (all_step_lines e.parts ++ (op_lines e.ops ++
    (node_lines e.nodes ++ (codes "end" ∷ [])))))
    ∙ ap (λ (z : List ℕ). front_text d ++ z)
    (text_of-append (parts_of e) (all_step_lines e.parts ++ (op_lines e.ops ++ (node_lines e.nodes ++
    (codes "end" ∷ []))))
    ∙ ap (λ (ls : List (List ℕ)). text_of ls ++ text_of (all_step_lines e.parts ++ (op_lines e.ops ++
    (node_lines e.nodes ++ (codes "end" ∷ []))))) (starts_from 0 e.parts)
    ∙ ap (λ (z : List ℕ). text_of (start_lines (map (λ (x : PartLines). x.start) e.parts)) ++ z)
    (text_of-append (all_step_lines e.parts) (op_lines e.ops ++ (node_lines e.nodes ++ (codes "end" ∷ [])))
    ∙ ap (λ (z : List ℕ). text_of (all_step_lines e.parts) ++ z)
    (text_of-append (op_lines e.ops) (node_lines e.nodes ++ (codes "end" ∷ []))
    ∙ ap (λ (z : List ℕ). text_of (op_lines e.ops) ++ z) (text_of-append (node_lines e.nodes)
    (codes "end" ∷ [])))))
