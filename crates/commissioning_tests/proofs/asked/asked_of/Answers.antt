use Rattle.std.proofs.Common.{◌≡◌, ◌⊎◌, ℕ, ◌+◌, ◌<◌, Bool, List, ap, sym, ◌∙◌, subst, inl, inr, arith, length}
use Rattle.std.proofs.lemmas.List.{length_push}
use Rattle.decision_graphs.specs.Reaching.{IsSet}
use Rattle.commissioning_tests.proofs.ListLemmas.{set_still, set_last}
use Rattle.commissioning_tests.proofs.asked.asked_of.Goals as goal

cases : (a b : ℕ) → a < b + 1 → (a < b) ⊎ (a ≡ b)
cases a b less = grind arith

pub loop-s-preserved : goal.loop-s-preserved
loop-s-preserved c =
    let items = c.in_ok-push.ensures.items in
    let xs : List Bool = c.loop-s.asked.items in
    let here : Bool = c.is_asked.result in (
      omega (arith, ap length items, length_push xs here, c.loop-s.invariant.0),
      λ id kept lt. subst (λ (l : List Bool). IsSet l id.0) (sym items) (elim (cases id.0 c.loop-s.s lt) [
        | inl less ↦ set_still xs here id.0 (c.loop-s.invariant.1 id kept less)
        | inr equal ↦
            set_last xs here id.0 (equal ∙ sym c.loop-s.invariant.0) (c.is_asked.ensures id kept (sym equal))
      ]),
    )

pub returns-clause-kept : goal.returns-clause-kept
returns-clause-kept c id kept lt =
    c.loop-s.invariant.1 id kept (omega (arith, lt, c.loop-s-test.false, c.switch_count-s-end.ensures.count))
