use Rattle.std.proofs.Common.{◌≡◌, ℕ, ◌+◌, ◌-◌, ◌++◌, [], ◌∷◌, suc, Bool, List, Vec, Global, length, map, sym, ap, ◌∙◌, subst, arith}
use Rattle.std.proofs.lemmas.List.{map-append, length_push, length-map}
use Rattle.decision_graphs.specs.Label.{layer_at}
use Rattle.dependence_search.specs.Parting.{AreParting, ArePartingBack}
use Rattle.dependence_search.proofs.PartingLemmas.{marks_at, back_more}
use Rattle.dependence_search.proofs.parting.parting_marks.Goals as goal

pub nodes_before-requires-clause-after : goal.nodes_before-requires-clause-after
nodes_before-requires-clause-after c =
    let ls = c.args.graph.now.layers in
    let i : ℕ = c.loop-i.i in
    let are = marks_at ls c.args.layer c.loop-i.all.items i c.from.result c.index-after.result.now
    c.loop-i.invariant.back c.from.ensures c.index-after.ensures (omega (arith, c.loop-i.invariant.len)) in
    let e : c.args.layer - i ≡ suc (c.args.layer - 1 - i) = omega (arith, c.loop-i-test.true) in
    ap length c.deref.ensures.value ∙ (are.len ∙ ap (λ (j : ℕ). length (layer_at ls j).rows) e)

pub loop-i-preserved : goal.loop-i-preserved
loop-i-preserved c =
    let ls = c.args.graph.now.layers in
    let i : ℕ = c.loop-i.i in
    let all : List (Vec Bool Global) = c.loop-i.all.items in
    let marks : Vec Bool Global = c.in_ok-marks.marks in
    let items = (λ (m : Vec Bool Global). m.items) in
    let are = marks_at ls c.args.layer all i c.from.result c.index-after.result.now
    c.loop-i.invariant.back c.from.ensures c.index-after.ensures (omega (arith, c.loop-i.invariant.len)) in
    let e : c.args.layer - i ≡ suc (c.args.layer - 1 - i) = omega (arith, c.loop-i-test.true) in
    let there : AreParting ls (suc (c.args.layer - 1 - i)) i c.deref.result.now =
    subst (λ (l : List Bool). AreParting ls (suc (c.args.layer - 1 - i)) i l) (sym c.deref.ensures.value)
    (subst (λ (j : ℕ). AreParting ls j i c.index-after.result.now.items) e are) in
    let before : c.args.layer - 1 - i ≡ c.args.layer - suc i = omega (arith, c.loop-i-test.true) in
    let made : AreParting ls (c.args.layer - suc i) (suc i) marks.items =
    subst (λ (j : ℕ). AreParting ls j (suc i) marks.items) before (c.in_ok-marks.ensures i there) in
    record {
      len = omega (arith, ap length c.in_ok-push-2.ensures.items, length_push all marks, c.loop-i.invariant.len);
      back =
          subst (λ (l : List (Vec Bool Global)). ArePartingBack ls c.args.layer (map items l))
          (sym c.in_ok-push-2.ensures.items)
          (subst (λ (l : List (List Bool)). ArePartingBack ls c.args.layer l) (sym (map-append items all (marks ∷ [])))
          (back_more ls c.args.layer (suc i) (map items all) marks.items
          (length-map all items ∙ c.loop-i.invariant.len) c.loop-i.invariant.back made));
    }
