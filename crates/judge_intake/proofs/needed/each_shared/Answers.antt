use Rattle.std.proofs.Common.{◌≡◌, ◌++◌, ◌∷◌, [], ℕ, List, length, slice_get, sym, ap, ◌∙◌, subst, inl, inr, arith}
use Rattle.std.proofs.lemmas.List.{length_push}
use Rattle.std.specs.Prelude.{Contains, ◌↔◌}
use Rattle.station_graph.specs.Sharing.{IsShared}
use Rattle.station_graph.proofs.PathLemmas.{slice_get-push}
use Rattle.judge_intake.proofs.needed.each_shared.Goals as goal

pub loop-part-preserved : goal.loop-part-preserved
loop-part-preserved c =
    let lists : List (List ℕ) = c.loop-part.lists.items in
    let new : List ℕ = c.in_ok-nodes.nodes in
    let items : c.push.new.self.items ≡ lists ++ new ∷ [] = c.in_ok-push.ensures.items in
    record {
      count = omega (arith, ap length items, length_push lists new, c.loop-part.invariant.count);
      each = λ p nodes at. elim (slice_get-push lists new nodes p (ap (λ l. slice_get l p) (sym items) ∙ at)) [
        | inl before ↦ c.loop-part.invariant.each p nodes before
        | inr here ↦
            let e : c.loop-part.part ≡ p = sym (here.0 ∙ c.loop-part.invariant.count) in
            subst (λ l. (n : ℕ) → Contains l n ↔ IsShared c.args.station.now p n) here.1
            (subst (λ k. (n : ℕ) → Contains new n ↔ IsShared c.args.station.now k n) e c.in_ok-nodes.ensures.exact)
      ];
    }
