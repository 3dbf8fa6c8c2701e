-- The lines, as a head with a number and the words behind it.
use Rattle.std.proofs.Common.{◌≡◌, ◌∙◌, ℕ, List, [], ◌++◌, sym, ap}
use Rattle.std.proofs.Common.{append_assoc}
use Rattle.std.specs.Prelude.{codes, decimal}
use Rattle.ilk_base.specs.declared.words.Direction.{Direction}
use Rattle.central_rules.specs.Names.{direction_name}
use Rattle.part_alphabets.specs.declared.fork.PartStep.{PartStep}
use Rattle.station_equations.specs.declared.goal.Goal.{Goal}
use Rattle.station_equations.specs.declared.goal.SwitchGoals.{SwitchGoals}
use Rattle.station_equations.specs.EquationLines.{PartLines, part_node, switch_node, goal_towards}
use Rattle.station_equations.specs.EquationText.{then_number, then_word, target_text, goal_text, part_line, step_line}
use Rattle.station_equations.specs.EquationText.{op_line, node_line, lead_text}
use Rattle.equation_text.specs.Words.{numbered_head}
use Rattle.equation_text.specs.Beginnings.{test_text, goals_text}

four : (a b c d : List ℕ) → a ++ b ++ c ++ d ≡ a ++ (b ++ (c ++ d))
four a b c d = append_assoc (a ++ b) c d ∙ append_assoc a b (c ++ d)

six : (a b c d e f : List ℕ) → a ++ b ++ c ++ d ++ e ++ f ≡ a ++ (b ++ (c ++ (d ++ (e ++ f))))
six a b c d e f = append_assoc (a ++ b ++ c ++ d) e f ∙ append_assoc (a ++ b ++ c) d (e ++ f) ∙ four a b c (d ++
    (e ++ f))

pub head_text : (head rest : List ℕ) (n : ℕ) → head ++ (decimal n ++ (codes " " ++ rest)) ≡ numbered_head head n ++ rest
head_text head rest n =
    ap (λ (z : List ℕ). head ++ z) (sym (append_assoc (decimal n) (codes " ") rest))
    ∙ sym (append_assoc head (decimal n ++ codes " ") rest)

pub head_parts : (head : List ℕ) (n : ℕ) (rest : List ℕ) → numbered_head head n ++ rest ≡ head ++ (decimal n ++
    (codes " " ++ rest))
head_parts head n rest = sym (head_text head rest n)

pub part_said : (p : ℕ) (x : PartLines) → part_line p x ≡ numbered_head (codes "part ") p ++ target_text x.start
part_said p x = append_assoc (codes "part") (then_number p) (then_word (target_text x.start)) ∙ head_text
    (codes "part ") (target_text x.start) p

pub step_parts : (p m : ℕ) (s : PartStep) → step_line p m s ≡ codes "step " ++ (decimal p ++ (codes " " ++
    (decimal m ++ (codes " " ++ test_text s))))
step_parts p m s = six (codes "step") (then_number p) (then_number m) (then_number s.switch.0) (then_word
    (target_text s.off)) (then_word (target_text s.on))

pub step_said : (p m : ℕ) (s : PartStep) → step_line p m s ≡ numbered_head (codes "step ") p ++
    (numbered_head [] m ++ test_text s)
step_said p m s =
    step_parts p m s
    ∙ head_text (codes "step ") (decimal m ++ (codes " " ++ test_text s)) p
    ∙ ap (λ (z : List ℕ). numbered_head (codes "step ") p ++ z) (head_text [] (test_text s) m)

pub op_parts : (direction : Direction) (s : ℕ) (x : SwitchGoals) → op_line direction s x ≡ codes "op " ++
    (decimal s ++ (codes " " ++ (direction_name direction ++ (codes " " ++ goal_text (goal_towards x direction)))))
op_parts direction s x = four (codes "op") (then_number s) (then_word (direction_name direction)) (then_word
    (goal_text (goal_towards x direction)))

pub op_said : (direction : Direction) (s : ℕ) (x : SwitchGoals) → op_line direction s x ≡ numbered_head
    (codes "op ") s ++ (direction_name direction ++ (codes " " ++ goal_text (goal_towards x direction)))
op_said direction s x = op_parts direction s x ∙ head_text (codes "op ") (direction_name direction ++
    (codes " " ++ goal_text (goal_towards x direction))) s

pub part_node_parts : (n part : ℕ) (goals : List Goal) → node_line n (part_node part goals) ≡ codes "node " ++
    (decimal n ++ (codes " " ++ (codes "part " ++ (decimal part ++ goals_text goals))))
part_node_parts n part goals =
    append_assoc (codes "node") (then_number n) (lead_text (part_node part goals))
    ∙ ap (λ (z : List ℕ). codes "node" ++ (then_number n ++ z)) (append_assoc (codes " part") (then_number part)
    (goals_text goals))

pub part_node_said : (n part : ℕ) (goals : List Goal) → node_line n (part_node part goals) ≡ numbered_head
    (codes "node ") n ++ (codes "part " ++ (decimal part ++ goals_text goals))
part_node_said n part goals = part_node_parts n part goals ∙ head_text (codes "node ") (codes "part " ++
    (decimal part ++ goals_text goals)) n

abbrev pub choice_text : ℕ → Goal → Goal → List ℕ
choice_text switch off on = decimal switch ++ (codes " " ++ (goal_text off ++ (codes " " ++ goal_text on)))

pub switch_node_parts : (n switch : ℕ) (off on : Goal) → node_line n (switch_node switch off on) ≡ codes "node " ++
    (decimal n ++ (codes " " ++ (codes "switch " ++ choice_text switch off on)))
switch_node_parts n switch off on =
    append_assoc (codes "node") (then_number n) (lead_text (switch_node switch off on))
    ∙ ap (λ (z : List ℕ). codes "node" ++ (then_number n ++ z)) (four (codes " switch") (then_number switch)
    (then_word (goal_text off)) (then_word (goal_text on)))

pub switch_node_said : (n switch : ℕ) (off on : Goal) → node_line n (switch_node switch off on) ≡ numbered_head
    (codes "node ") n ++ (codes "switch " ++ choice_text switch off on)
switch_node_said n switch off on = switch_node_parts n switch off on ∙ head_text (codes "node ")
    (codes "switch " ++ choice_text switch off on) n
