-- What the lines of a form name.
use Rattle.std.proofs.Common.{◌≡◌, ◌∙◌, ℕ, ◌<◌, ◌^◌, zero, suc, List, [], ◌∷◌, ◌++◌, refl, sym, ap, arith, Some, inl}
use Rattle.std.proofs.Common.{inr}
use Rattle.std.proofs.Common.{append_assoc, append-nil}
use Rattle.std.specs.Prelude.{codes, decimal, slice_get}
use Rattle.ilk_base.specs.declared.words.Direction.{Direction}
use Rattle.ilk_base.specs.declared.words.Direction.TheVariants.{ToOff, ToOn}
use Rattle.central_rules.specs.Names.{direction_name}
use Rattle.part_alphabets.specs.declared.fork.PartStep.{PartStep}
use Rattle.part_alphabets.specs.declared.fork.Target.TheVariants.{Step}
use Rattle.station_equations.specs.declared.goal.Goal.{Goal}
use Rattle.station_equations.specs.declared.goal.Goal.TheVariants.{Node}
use Rattle.station_equations.specs.declared.goal.SwitchGoals.{SwitchGoals}
use Rattle.station_equations.specs.EquationLines.{PartLines, part_node, switch_node, goal_towards}
use Rattle.station_equations.specs.EquationText.{then_word, then_number, target_text, goal_text, part_line, step_line}
use Rattle.station_equations.specs.EquationText.{op_line, node_line}
use Rattle.equation_text.specs.Words.{Lacks}
use Rattle.equation_text.specs.Beginnings.{goals_text}
use Rattle.equation_text.specs.Faults.{step_of, node_of, HasNumber, Names, IsNextWord}
use Rattle.equation_text.proofs.WordLemmas.{lacks_decimal, lacks_by}
use Rattle.equation_text.proofs.SaidLemmas.{step_parts, op_parts, part_node_parts, switch_node_parts}
use Rattle.equation_text.proofs.OnceLemmas.{goals_end}

digits_lack : (n : ℕ) → n < 2 ^ 32 → Lacks 32 (decimal n)
digits_lack n small = lacks_decimal 32 n (omega arith) (omega (arith, small))

-- the first of some words, and the last
first_number : (text after : List ℕ) (m : ℕ) → m < 2 ^ 32 → text ≡ 32 ∷ (decimal m ++ 32 ∷ after) → HasNumber text m
first_number text after m small is = record {
  before = [];
  after = 32 ∷ after;
  word = decimal m;
  is = is;
  first = digits_lack m small;
  ends = refl;
  number = record { small = small; written = refl };
}

last_number : (text before : List ℕ) (m : ℕ) → m < 2 ^ 32 → text ≡ before ++ 32 ∷ decimal m → HasNumber text m
last_number text before m small is = record {
  before = before;
  after = [];
  word = decimal m;
  is = is ∙ ap (λ (z : List ℕ). before ++ 32 ∷ z) (sym (append-nil (decimal m)));
  first = digits_lack m small;
  ends = tt;
  number = record { small = small; written = refl };
}

number_next : (n : ℕ) (rest : List ℕ) → n < 2 ^ 32 → IsNextWord (32 ∷ (decimal n ++ 32 ∷ rest)) (decimal n) (32 ∷ rest)
number_next n rest small = record { is = refl; first = digits_lack n small; ends = refl }

-- ---- parts

pub start_names : (p m : ℕ) (x : PartLines) → x.start ≡ Step m → p < 2 ^ 32 → m < 2 ^ 32 →
    Names (part_line p x) (step_of p m)
start_names p m x start small_p small_m =
    let words : List ℕ = 32 ∷ decimal m in (
      words,
      inl (record {
        rest = 32 ∷ (decimal p ++ words);
        word = decimal p;
        more = words;
        is = append_assoc (codes "part") (then_number p) (then_word (target_text x.start)) ∙ ap (λ
            t. codes "part" ++ (then_number p ++ then_word (target_text t))) start;
        next = number_next p (decimal m) small_p;
        number = record { small = small_p; written = refl };
        behind = refl;
      }),
      last_number words [] m small_m refl,
    )

-- ---- steps

step_words : (p k m : ℕ) (s : PartStep) → p < 2 ^ 32 → k < 2 ^ 32 → s.switch.0 < 2 ^ 32
    → HasNumber (32 ∷ (target_text s.off ++ 32 ∷ target_text s.on)) m → Names (step_line p k s) (step_of p m)
step_words p k m s small_p small_k small_s named =
    let words : List ℕ = 32 ∷ (target_text s.off ++ 32 ∷ target_text s.on) in
    let behind : List ℕ = 32 ∷ (decimal k ++ 32 ∷ (decimal s.switch.0 ++ words)) in (
      words,
      inr (record {
        rest = 32 ∷ (decimal p ++ behind);
        word = decimal p;
        more = behind;
        is = step_parts p k s;
        next = number_next p (decimal k ++ 32 ∷ (decimal s.switch.0 ++ words)) small_p;
        number = record { small = small_p; written = refl };
        behind = (
          decimal k,
          32 ∷ (decimal s.switch.0 ++ words),
          number_next k (decimal s.switch.0 ++ words) small_k,
          (
            decimal s.switch.0,
            words,
            number_next s.switch.0 (target_text s.off ++ 32 ∷ target_text s.on) small_s,
            refl,
          ),
        );
      }),
      named,
    )

pub off_names : (p k m : ℕ) (s : PartStep) → s.off ≡ Step m → p < 2 ^ 32 → k < 2 ^ 32 → s.switch.0 < 2 ^ 32 → m < 2 ^ 32
    → Names (step_line p k s) (step_of p m)
off_names p k m s off small_p small_k small_s small_m = step_words p k m s small_p small_k small_s (first_number
    (32 ∷ (target_text s.off ++ 32 ∷ target_text s.on)) (target_text s.on) m small_m
    (ap (λ t. 32 ∷ (target_text t ++ 32 ∷ target_text s.on)) off))

pub on_names : (p k m : ℕ) (s : PartStep) → s.on ≡ Step m → p < 2 ^ 32 → k < 2 ^ 32 → s.switch.0 < 2 ^ 32 → m < 2 ^ 32
    → Names (step_line p k s) (step_of p m)
on_names p k m s on small_p small_k small_s small_m = step_words p k m s small_p small_k small_s (last_number
    (32 ∷ (target_text s.off ++ 32 ∷ target_text s.on)) (32 ∷ target_text s.off) m small_m
    (ap (λ t. 32 ∷ (target_text s.off ++ 32 ∷ target_text t)) on))

-- ---- operations

direction_next : (way : Direction) (rest : List ℕ) → IsNextWord (32 ∷ (direction_name way ++ 32 ∷ rest)) (direction_name
    way) (32 ∷ rest)
direction_next ToOff rest = record { is = refl; first = lacks_by 32 (codes "open") refl; ends = refl }
direction_next ToOn rest = record { is = refl; first = lacks_by 32 (codes "close") refl; ends = refl }

pub goal_names : (way : Direction) (s n : ℕ) (x : SwitchGoals) → goal_towards x way ≡ Node n → s < 2 ^ 32 → n < 2 ^ 32
    → Names (op_line way s x) (node_of n)
goal_names way s n x goal small_s small_n =
    let words : List ℕ = 32 ∷ decimal n in
    let between : List ℕ = 32 ∷ (direction_name way ++ words) in (
      words,
      inl (record {
        rest = 32 ∷ (decimal s ++ between);
        is = op_parts way s x ∙ ap (λ g. codes "op " ++ (decimal s ++ (codes " " ++ (direction_name way ++
            (codes " " ++ goal_text g))))) goal;
        behind = (
          decimal s,
          between,
          number_next s (direction_name way ++ words) small_s,
          (direction_name way, words, direction_next way (decimal n), refl),
        );
      }),
      last_number words [] n small_n refl,
    )

-- ---- nodes

goals_number : (goals : List Goal) (i n : ℕ) → slice_get goals i ≡ Some (Node n) → n < 2 ^ 32
    → HasNumber (goals_text goals) n
goals_number [] i n at small = absurd (cc at)
goals_number (g ∷ goals) zero n at small =
    let same : g ≡ Node n = cc at in
    record {
      before = [];
      after = goals_text goals;
      word = decimal n;
      is = ap (λ h. then_word (goal_text h) ++ goals_text goals) same;
      first = digits_lack n small;
      ends = goals_end goals;
      number = record { small = small; written = refl };
    }
goals_number (g ∷ goals) (suc i) n at small =
    let found = goals_number goals i n at small in
    record {
      before = then_word (goal_text g) ++ found.before;
      after = found.after;
      word = found.word;
      is = ap (λ (z : List ℕ). then_word (goal_text g) ++ z) found.is ∙ sym (append_assoc (then_word (goal_text g))
          found.before (32 ∷ (found.word ++ found.after)));
      first = found.first;
      ends = found.ends;
      number = found.number;
    }

pub part_node_names : (k part i n : ℕ) (goals : List Goal) → slice_get goals i ≡ Some (Node n) → k < 2 ^ 32
    → part < 2 ^ 32 → n < 2 ^ 32 → Names (node_line k (part_node part goals)) (node_of n)
part_node_names k part i n goals at small_k small_p small_n =
    let words : List ℕ = goals_text goals in
    let third : List ℕ = 32 ∷ (decimal part ++ words) in
    let second : List ℕ = 32 ∷ (codes "part" ++ third) in (
      words,
      inr (record {
        rest = 32 ∷ (decimal k ++ second);
        is = part_node_parts k part goals;
        behind = (
          decimal k,
          second,
          number_next k (codes "part" ++ third) small_k,
          (
            codes "part",
            third,
            record { is = refl; first = lacks_by 32 (codes "part") refl; ends = refl },
            (
              decimal part,
              words,
              record { is = refl; first = digits_lack part small_p; ends = goals_end goals },
              refl,
            ),
          ),
        );
      }),
      goals_number goals i n at small_n,
    )

switch_words : (k switch n : ℕ) (off on : Goal) → k < 2 ^ 32 → switch < 2 ^ 32 → HasNumber (32 ∷ (goal_text off ++ 32 ∷
    goal_text on)) n → Names (node_line k (switch_node switch off on)) (node_of n)
switch_words k switch n off on small_k small_s named =
    let words : List ℕ = 32 ∷ (goal_text off ++ 32 ∷ goal_text on) in
    let third : List ℕ = 32 ∷ (decimal switch ++ words) in
    let second : List ℕ = 32 ∷ (codes "switch" ++ third) in (
      words,
      inr (record {
        rest = 32 ∷ (decimal k ++ second);
        is = switch_node_parts k switch off on;
        behind = (
          decimal k,
          second,
          number_next k (codes "switch" ++ third) small_k,
          (
            codes "switch",
            third,
            record { is = refl; first = lacks_by 32 (codes "switch") refl; ends = refl },
            (
              decimal switch,
              words,
              number_next switch (goal_text off ++ 32 ∷ goal_text on) small_s,
              refl,
            ),
          ),
        );
      }),
      named,
    )

pub switch_node_names : (k switch i n : ℕ) (off on : Goal) → slice_get (off ∷ on ∷ []) i ≡ Some (Node n) → k < 2 ^ 32
    → switch < 2 ^ 32 → n < 2 ^ 32 → Names (node_line k (switch_node switch off on)) (node_of n)
switch_node_names k switch zero n off on at small_k small_s small_n =
    let same : off ≡ Node n = cc at in
    switch_words k switch n off on small_k small_s (first_number (32 ∷ (goal_text off ++ 32 ∷ goal_text on))
    (goal_text on) n small_n (ap (λ g. 32 ∷ (goal_text g ++ 32 ∷ goal_text on)) same))
switch_node_names k switch (suc zero) n off on at small_k small_s small_n =
    let same : on ≡ Node n = cc at in
    switch_words k switch n off on small_k small_s (last_number (32 ∷ (goal_text off ++ 32 ∷ goal_text on))
    (32 ∷ goal_text off) n small_n (ap (λ g. 32 ∷ (goal_text off ++ 32 ∷ goal_text g)) same))
switch_node_names k switch (suc (suc i)) n off on at small_k small_s small_n = absurd (cc at)
