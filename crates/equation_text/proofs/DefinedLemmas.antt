-- Whether goals are there.
use Rattle.std.proofs.Common.{◌≡◌, ◌∙◌, ◌↔◌, ℕ, zero, suc, Bool, true, false, [], ◌∷◌, refl, sym}
use Rattle.std.proofs.Common.{subst}
use Rattle.std.specs.Prelude.{IsTrue}
use Rattle.std.proofs.lemmas.Option.{same_Some}
use Rattle.station_equations.specs.declared.goal.Goal.{Goal}
use Rattle.station_equations.specs.EquationForm.{IsGoal}
use Rattle.equation_text.specs.Defined.{GoalsThere}

pub both_there : (n : ℕ) (off on : Goal) → IsGoal n off → IsGoal n on → GoalsThere n (off ∷ on ∷ [])
both_there n off on p q zero g at = subst (λ (h : Goal). IsGoal n h) (same_Some off g at) p
both_there n off on p q (suc zero) g at = subst (λ (h : Goal). IsGoal n h) (same_Some on g at) q
both_there n off on p q (suc (suc i)) g at = absurd (cc at)

pub second_there : (n : ℕ) (off on : Goal) (r : Bool) → IsGoal n off → IsTrue r ↔ IsGoal n on
    → IsTrue r ↔ GoalsThere n (off ∷ on ∷ [])
second_there n off on r p q = (λ t. both_there n off on p (q.0 t), λ all. q.1 (all 1 on refl))

pub first_not : (n : ℕ) (off on : Goal) (r : Bool) → r ≡ false → IsTrue r ↔ IsGoal n off
    → IsTrue r ↔ GoalsThere n (off ∷ on ∷ [])
first_not n off on r none p = (λ t. absurd (let e : true ≡ false = sym t ∙ none in cc e), λ all. p.1 (all 0 off refl))
