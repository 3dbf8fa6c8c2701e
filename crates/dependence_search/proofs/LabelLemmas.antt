-- What is reached by all choices.
use Rattle.std.proofs.Common.{◌≡◌, ℕ, ◌<◌, suc, Bool, true, List, length, map, replicate, refl, sym, ap, ◌∙◌, subst, arith}
use Rattle.std.specs.Prelude.{◌↔◌}
use Rattle.std.proofs.lemmas.List.{length-replicate}
use Rattle.decision_graphs.specs.Label.{Layered, label_of, AreAllowed}
use Rattle.decision_graphs.specs.Marked.{Marking, path_to, PathsLead}
use Rattle.decision_graphs.specs.Reaching.{IsSet, MarksReached}
use Rattle.graph_walks.specs.Walks.{set_for, AreTwos}
use Rattle.step_graphs.specs.declared.step.Step.{Step}
use Rattle.step_graphs.specs.declared.step.Step.TheVariants.{OfNothing}
use Rattle.change_search.proofs.AllowLemmas.{all_allowed}
use Rattle.dependence_search.proofs.WantedLemmas.{set_within}

-- all choices are allowed
allowed : (n : ℕ) (cs : List ℕ) → AreAllowed (map set_for (replicate n true)) cs ↔ AreTwos n cs
allowed n cs =
    let steps : List Step = replicate (suc n) OfNothing in
    let long : suc n ≡ length steps = sym (length-replicate (suc n) OfNothing) in
    all_allowed steps n long cs n long

module _ (g : Layered) (sets : List (List Bool)) (m : Marking) (wanted : List Bool) (n : ℕ)
    (are : sets ≡ map set_for (replicate n true)) where
  pub led_some : (label : ℕ) (path : List ℕ) → PathsLead g sets m → label < g.labels → IsSet m.labels label →
      IsSet wanted label → path ≡ path_to m label → AreTwos n path × IsSet wanted (label_of g path)
  led_some label path leads lt marked want is =
      let to = leads label lt marked in (
        subst (λ p. AreTwos n p) (sym is)
            ((allowed n (path_to m label)).0 (subst (λ s. AreAllowed s (path_to m label)) are to.allows)),
        subst (λ (k : ℕ). IsSet wanted k) (sym (ap (label_of g) is ∙ to.led)) want,
      )

  pub led_none : MarksReached g sets m.labels → length wanted ≡ g.labels →
      ((t : ℕ) → IsSet wanted t → ¬ IsSet m.labels t) → (cs : List ℕ) → AreTwos n cs → ¬ IsSet wanted (label_of g cs)
  led_none reached long none cs two want =
      none (label_of g cs) want
      ((reached (label_of g cs) (omega (arith, set_within wanted (label_of g cs) want, long))).1 (
        cs,
        (subst (λ s. AreAllowed s cs) (sym are) ((allowed n cs).1 two), refl),
      ))
