use Rattle.std.proofs.Common.{◌≡◌, ◌∷◌, ℕ, List, Vec, Global, map, ap, ◌∙◌, subst}
use Rattle.judge_intake.specs.Inputs.{AreOtherRows}
use Rattle.judge_intake.proofs.inputs.inner_letters.Goals as goal

pub returns : goal.returns
returns c =
    let rows : List (List ℕ) = map (λ (v : Vec ℕ Global). v.items) c.in_ok-rows.rows.items in
    let names : c.in_ok-names.names.items ≡ c.args.own.now.names.items =
    c.in_ok-names.ensures.items ∙ c.deref.ensures.value in (
      rows,
      ap (map (λ (v : Vec ℕ Global). v.items)) c.in_ok-insert.ensures.items ∙ ap (λ ids. ids ∷ rows) names,
      subst (λ (ps : List (Vec ℕ Global)).
          AreOtherRows c.args.place (map (λ (v : Vec ℕ Global). v.items) ps) rows c.args.others) c.deref-2.ensures.value
          c.in_ok-rows.ensures,
    )
