use Rattle.std.proofs.Common.{◌≡◌, ◌<◌, ◌-◌, ℕ, suc, Bool, List, Vec, Global, drop, length, sym, ap, ◌∙◌, subst, add-one, arith}
use Rattle.decision_graphs.specs.Label.{layer_at, step}
use Rattle.dependence_search.specs.Parting.{AreParting, PartsFrom}
use Rattle.dependence_search.proofs.PartingLemmas.{marks_at, next_in}
use Rattle.dependence_search.proofs.TellingLemmas.{IsOnWay, on_way, arrived}
use Rattle.dependence_search.proofs.telling.approach.Goals as goal

pub choice_on-choice-requires-clause-after : goal.choice_on-choice-requires-clause-after
choice_on-choice-requires-clause-after c =
    let ls = c.args.graph.now.layers in
    let i : ℕ = c.args.layer - 1 - c.loop-j.j in
    let are = marks_at ls c.args.layer c.args.marks.now i c.from.result c.index-marks-from.result c.requires.marks
    c.from.ensures c.index-marks-from.is (omega (arith, c.requires.len, c.loop-j-test.true)) in
    let e : c.args.layer - i ≡ suc c.loop-j.j = omega (arith, c.loop-j-test.true) in
    ap length c.deref.ensures.value ∙ (are.len ∙ ap (λ (k : ℕ). length (layer_at ls k).rows) e)

pub loop-j-preserved : goal.loop-j-preserved
loop-j-preserved c =
    let g = c.args.graph.now in
    let layer : ℕ = c.args.layer in
    let j : ℕ = c.loop-j.j in
    let i : ℕ = layer - 1 - j in
    let node : ℕ = c.loop-j.node in
    let choice : ℕ = c.choice_on-choice.result in
    let next : ℕ = c.next_place-node.result in
    let lt : j < layer = c.loop-j-test.true in
    let are = marks_at g.layers layer c.args.marks.now i c.from.result c.index-marks-from.result c.requires.marks
    c.from.ensures c.index-marks-from.is (omega (arith, c.requires.len, lt)) in
    let e : layer - i ≡ suc j = omega (arith, lt) in
    let there : AreParting g.layers (suc j) i c.deref.result.now =
    subst (λ (l : List Bool). AreParting g.layers (suc j) i l) (sym c.deref.ensures.value)
    (subst (λ (k : ℕ). AreParting g.layers k i c.index-marks-from.result.items) e are) in
    let left : layer - j ≡ suc i = omega (arith, lt) in
    let less : i ≡ layer - suc j = omega (arith, lt) in
    let on : PartsFrom (drop (suc j) g.layers) i (step (layer_at g.layers j) node choice) =
    c.choice_on-choice.ensures.on i there
    (subst (λ (n : ℕ). PartsFrom (drop j g.layers) n node) left c.loop-j.invariant.parts) in
    let parts : PartsFrom (drop (suc j) g.layers) (layer - suc j) next =
    subst (λ (n : ℕ). PartsFrom (drop (suc j) g.layers) n next) less
    (subst (λ (k : ℕ). PartsFrom (drop (suc j) g.layers) i k) (sym c.next_place-node.ensures) on) in
    let two = c.requires.twos.choices j (omega (arith, lt, c.requires.layer)) in
    let in_next = next_in g j node choice c.labels-fits.ensures.layered (omega (arith, lt, c.requires.layer))
    c.loop-j.invariant.within (omega (arith, two, c.choice_on-choice.ensures.small)) in
    let within : next < length (layer_at g.layers (suc j)).rows = omega (arith, c.next_place-node.ensures, in_next) in
    let way = on_way g layer j c.loop-j.choices.items node choice next c.loop-j.invariant lt c.requires.layer
    c.choice_on-choice.ensures.small c.next_place-node.ensures within parts in
    subst (λ (n : ℕ). IsOnWay g layer n c.push.new.self.items next) (sym (add-one j))
    (subst (λ (l : List ℕ). IsOnWay g layer (suc j) l next) (sym c.in_ok-push.ensures.items) way)

pub returns : goal.returns
returns c =
    arrived c.args.graph.now c.args.layer c.loop-j.j c.loop-j.choices.items c.loop-j.node c.requires.layer
    (omega (arith, c.loop-j-test.false, c.loop-j.auto.j-end)) c.loop-j.invariant
