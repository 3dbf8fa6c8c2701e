-- The words of a node.
use Rattle.std.proofs.Common.{◌≡◌, ◌≢◌, ◌∙◌, ℕ, ◌<◌, ◌^◌, suc, Bool, true, false, nat_eq, List, []}
use Rattle.std.proofs.Common.{◌∷◌, ◌++◌, length, refl, sym, ap, subst, inl, inr, arith, Some, append_assoc}
use Rattle.std.proofs.Common.{append-nil}
use Rattle.std.specs.Prelude.{codes, decimal, slice_get}
use Rattle.std.proofs.lemmas.Grind.{flat_map-append}
use Rattle.std.proofs.lemmas.Bool.Decides.{nat_tests}
use Rattle.station_equations.specs.declared.goal.Goal.{Goal}
use Rattle.station_equations.specs.declared.goal.TheConstants.{NUMBERS}
use Rattle.station_equations.specs.EquationForm.{IsLaterGoal, AreLaterGoals}
use Rattle.station_equations.specs.EquationText.{goal_text, then_word}
use Rattle.equation_text.specs.Words.{IsFirstWord}
use Rattle.equation_text.specs.Beginnings.{goals_text}
use Rattle.station_equations.proofs.GrowingLemmas.{get_push}
use Rattle.equation_text.proofs.WordLemmas.{lacks_goal, lacks_decimal, word_once}
use Rattle.equation_text.proofs.OnceLemmas.{any_goal, goals_end}

-- the first goal of a text of goals
pub record FirstGoal (n : ℕ) (word rest : List ℕ) : Type 0 where
  pub goal : Goal
  pub later : IsLaterGoal NUMBERS n goal
  pub is : word ≡ goal_text goal
  pub more : List Goal
  pub all_later : AreLaterGoals NUMBERS n more
  pub rest_is : rest ≡ goals_text more

pub first_goal : (n : ℕ) (left behind word rest : List ℕ) (goals : List Goal) → left ≡ 32 ∷ behind
    → IsFirstWord behind word rest → AreLaterGoals NUMBERS n goals → left ≡ goals_text goals → FirstGoal n word rest
first_goal n left behind word rest [] blank first later is = absurd (let e : 32 ∷ behind ≡ [] = sym blank ∙ is in cc e)
first_goal n left behind word rest (g ∷ goals) blank first later is =
    let both : 32 ∷ behind ≡ 32 ∷ (goal_text g ++ goals_text goals) = sym blank ∙ is in
    let words : behind ≡ goal_text g ++ goals_text goals = cc both in
    let here = later 0 g refl in
    let same = word_once word (goal_text g) rest (goals_text goals) first.first (lacks_goal 32 g (omega arith)
    (any_goal n g here)) first.ends (goals_end goals) (sym first.is ∙ words) in
    record {
      goal = g;
      later = here;
      is = same.0;
      more = goals;
      all_later = λ i h at. later (suc i) h at;
      rest_is = same.1;
    }

-- a text of goals that is not empty begins with a blank
pub goals_begin : (n : ℕ) (left : List ℕ) (goals : List Goal) → left ≢ [] → left ≡ goals_text goals
    → (rest : List ℕ) × (left ≡ codes " " ++ rest)
goals_begin n left [] some is = absurd (some is)
goals_begin n left (g ∷ goals) some is = (goal_text g ++ goals_text goals, is)

-- one goal more
pub goals_grow : (old behind word rest left : List ℕ) (goals more : List Goal) (g : Goal)
    → old ≡ goals_text goals ++ left → left ≡ codes " " ++ behind → behind ≡ word ++ rest → word ≡ goal_text g
    → more ≡ goals ++ g ∷ [] → old ≡ goals_text more ++ rest
goals_grow old behind word rest left goals more g is blank words named pushed =
    let here : left ≡ then_word (goal_text g) ++ rest = blank ∙ ap (λ (z : List ℕ). codes " " ++ z) (words ∙ ap (λ
    (z : List ℕ). z ++ rest) named) in
    let all : goals_text more ≡ goals_text goals ++ then_word (goal_text g) =
    ap (λ (gs : List Goal). goals_text gs) pushed ∙ flat_map-append (λ (x : Goal). then_word (goal_text x)) goals
    (g ∷ []) ∙ ap (λ (z : List ℕ). goals_text goals ++ z) (append-nil (then_word (goal_text g))) in
    is ∙ ap (λ (z : List ℕ). goals_text goals ++ z) here ∙ sym (append_assoc (goals_text goals) (then_word
    (goal_text g)) rest) ∙ ap (λ (z : List ℕ). z ++ rest) (sym all)

pub later_push : (n : ℕ) (goals more : List Goal) (g : Goal) → more ≡ goals ++ g ∷ [] → AreLaterGoals NUMBERS n goals
    → IsLaterGoal NUMBERS n g → AreLaterGoals NUMBERS n more
later_push n goals more g same are is = λ i x at.
    elim (get_push goals g x i (subst (λ (zs : List Goal). slice_get zs i ≡ Some x) same at)) [
      | inl old ↦ are i x old
      | inr last ↦ subst (λ (z : Goal). IsLaterGoal NUMBERS n z) last.1 is
    ]

-- the part and the goals of a node's words
pub part_words : (words word rest : List ℕ) (part : ℕ) (goals : List Goal) → IsFirstWord words word rest
    → part < 2 ^ 64 → words ≡ decimal part ++ goals_text goals → (word ≡ decimal part) × (rest ≡ goals_text goals)
part_words words word rest part goals first small is =
    word_once word (decimal part) rest (goals_text goals) first.first (lacks_decimal 32 part
    (omega arith) small) first.ends (goals_end goals) (sym first.is ∙ is)

pub not_empty : (xs : List ℕ) (empty : Bool) → empty ≡ nat_eq (length xs) 0 → empty ≡ false → xs ≢ []
not_empty xs empty is not none = grind (arith, nat_tests, is, not, ap length none)

pub is_empty : (xs : List ℕ) (empty : Bool) → empty ≡ nat_eq (length xs) 0 → empty ≡ true → xs ≡ []
is_empty [] empty is yields = refl
is_empty (x ∷ xs) empty is yields = absurd (none (sym is ∙ yields))
  where
    none : nat_eq (length (x ∷ xs)) 0 ≡ true → ⊥
    none e = grind (arith, nat_tests, e)
