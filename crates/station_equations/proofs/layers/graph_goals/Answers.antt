use Rattle.std.proofs.Common.{◌≡◌, ◌∙◌, ◌<◌, ◌-◌, ℕ, suc, List, length, sym, ap, subst, refl, arith}
use Rattle.decision_graphs.specs.Label.{size_at, first_at, layer_at}
use Rattle.station_equations.specs.declared.goal.Goal.{Goal}
use Rattle.station_equations.specs.Subjects.{HasChoices}
use Rattle.station_equations.specs.Growing.{AreGoals, AllLead}
use Rattle.station_equations.specs.Apart.{AreFrom}
use Rattle.station_equations.proofs.GraphFacts.{size_last, size_within, first_more}
use Rattle.station_equations.proofs.GrowingLemmas.{extends_same, extends_all, graph_none, graph_step}
use Rattle.station_equations.proofs.ApartLemmas.{longer}
use Rattle.station_equations.proofs.layers.graph_goals.Goals as goal

pub loop-layer-init : goal.loop-layer-init
loop-layer-init c =
    let g = c.args.graph.now in
    let n = c.layers-layer.ensures.count in
    record {
      low = omega (arith, n, c.requires.from);
      high = omega (arith, n);
      extends = extends_same c.args.nodes.now.items c.args.nodes.now.items refl;
      count = c.requires.ends ∙ sym (ap (size_at g.labels g.layers) n ∙ size_last g.labels g.layers);
      leads =
          subst (λ (k : ℕ). AllLead c.args.nodes.now.items c.args.subjects g k c.args.ends.items c.args.ends.items)
          (sym n) (graph_none c.args.nodes.now.items c.args.subjects g c.args.ends.items);
      grew = λ switches parts has fit grew. (grew, fit);
      apart = λ lo le goals all. (all, goals);
      few = omega (arith, ap (first_at g.layers) n);
    }

pub loop-layer-preserved : goal.loop-layer-preserved
loop-layer-preserved c =
    let g = c.args.graph.now in
    let inv = c.loop-layer.invariant in
    let j = c.loop-layer.layer - 1 in
    let above : suc (c.loop-layer.layer - 1) ≡ c.loop-layer.layer = omega (arith, c.loop-layer-test.true) in
    let j_in : c.loop-layer.layer - 1 < length g.layers = omega (arith, c.loop-layer-test.true, inv.high) in
    let old = c.loop-layer.nodes.items in
    let now = c.layer_goals.new.nodes.items in
    let made = c.in_ok-before.ensures in
    let same = c.deref.ensures.value in
    record {
      low = omega (arith, c.loop-layer-test.true);
      high = omega (arith, inv.high);
      extends = extends_all c.args.nodes.now.items old now inv.extends made.extends;
      count = made.count ∙ sym (size_within g.labels g.layers (c.loop-layer.layer - 1) j_in);
      leads =
          graph_step old now c.args.subjects g c.loop-layer.layer (c.loop-layer.layer - 1) c.loop-layer.goals.items
          c.in_ok-before.before.items c.args.ends.items c.deref.result.now c.at-subject.result above inv.high same
          c.at-subject.ensures made.extends inv.leads made.leads;
      grew = λ switches parts has fit grew.
          let before = inv.grew switches parts has fit grew in
          let here = subst (λ s. HasChoices switches parts s (layer_at g.layers (c.loop-layer.layer - 1)).choices)
          (sym c.at-subject.ensures) (has (c.loop-layer.layer - 1) (omega (arith, c.loop-layer-test.true)) j_in) in
          made.grew switches parts here (subst (λ (goals : List Goal). AreGoals (length old) goals) (sym same) before.1)
          before.0;
      apart = λ lo le goals all.
          let before = inv.apart lo le goals all in
          made.apart lo (omega (arith, le, longer c.args.nodes.now.items old inv.extends))
          (subst (λ (goals : List Goal). AreFrom lo goals) (sym same) before.1) before.0;
      few =
          let more = first_more g.layers (c.loop-layer.layer - 1) j_in in
          omega (arith, inv.few, made.few, more, ap (first_at g.layers) above);
    }

pub returns-clause-leads : goal.returns-clause-leads
returns-clause-leads c =
    let inv = c.loop-layer.invariant in
    let same : c.loop-layer.layer ≡ c.args.from = omega (arith, inv.low, c.loop-layer-test.false) in
    subst (λ (k : ℕ). AllLead c.loop-layer.nodes.items c.args.subjects c.args.graph.now k c.loop-layer.goals.items
    c.args.ends.items) same inv.leads
