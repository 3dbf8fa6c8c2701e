-- The words behind a node's number.
use Rattle.std.proofs.Common.{◌≡◌, ◌⊎◌, ℕ, List, [], ◌∷◌, ◌++◌, refl, ap, inl, inr, arith}
use Rattle.std.specs.Prelude.{codes, decimal}
use Rattle.station_equations.specs.EquationLines.{NodeLine, part_node, switch_node}
use Rattle.station_equations.specs.EquationText.{node_line}
use Rattle.equation_text.specs.Words.{numbered_head}
use Rattle.equation_text.specs.Beginnings.{goals_text, IsPartNode, IsSwitchNode, MayBeNode}
use Rattle.std.proofs.lemmas.List.{append_cancel_left}
use Rattle.equation_text.proofs.SaidLemmas.{part_node_said, switch_node_said, choice_text}

abbrev pub words_of : NodeLine → List ℕ
words_of (part_node part goals) = codes "part " ++ (decimal part ++ goals_text goals)
words_of (switch_node switch off on) = codes "switch " ++ choice_text switch off on

pub node_said : (n : ℕ) (x : NodeLine) → node_line n x ≡ numbered_head (codes "node ") n ++ words_of x
node_said n (part_node part goals) = part_node_said n part goals
node_said n (switch_node switch off on) = switch_node_said n switch off on

pub part_or_switch : (x : NodeLine) → ((rest : List ℕ) × (words_of x ≡ codes "part " ++ rest)) ⊎ ((rest : List ℕ)
    × (words_of x ≡ codes "switch " ++ rest))
part_or_switch (part_node part goals) = inl (decimal part ++ goals_text goals, refl)
part_or_switch (switch_node switch off on) = inr (choice_text switch off on, refl)

abbrev first_byte : List ℕ → ℕ
first_byte [] = 0
first_byte (b ∷ bs) = b

pub of_part : (switches : ℕ) (counts : List ℕ) (n : ℕ) (x : NodeLine) (words : List ℕ) → MayBeNode switches counts n x
    → codes "part " ++ words ≡ words_of x → IsPartNode counts n words x
of_part switches counts n (part_node part goals) words may is = record {
  part = part;
  goals = goals;
  node = refl;
  indices = may.0;
  later = may.1;
  are = append_cancel_left (codes "part ") words (decimal part ++ goals_text goals) is;
}
of_part switches counts n (switch_node switch off on) words may is = let e : 112 ≡ 115 = ap first_byte is in
    absurd (omega (arith, e))

pub of_switch : (switches : ℕ) (counts : List ℕ) (n : ℕ) (x : NodeLine) (words : List ℕ)
    → MayBeNode switches counts n x → codes "switch " ++ words ≡ words_of x → IsSwitchNode switches n words x
of_switch switches counts n (part_node part goals) words may is = let e : 115 ≡ 112 = ap first_byte is in
    absurd (omega (arith, e))
of_switch switches counts n (switch_node switch off on) words may is = record {
  switch = switch;
  off = off;
  on = on;
  node = refl;
  within = may.0;
  later_off = may.1;
  later_on = may.2;
  are = append_cancel_left (codes "switch ") words (choice_text switch off on) is;
}
