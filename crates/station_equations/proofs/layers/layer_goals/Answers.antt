use Rattle.std.proofs.Common.{◌∙◌, ◌+◌, length, sym, ap, subst, arith}
use Rattle.std.proofs.lemmas.List.{length_push}
use Rattle.decision_graphs.specs.Label.{layer_at}
use Rattle.station_equations.specs.Subjects.{HasChoices}
use Rattle.station_equations.proofs.GrowingLemmas.{extends_all, layer_more, goals_push, goals_stay, row_goals_fit}
use Rattle.station_equations.proofs.ApartLemmas.{longer, row_from, from_push}
use Rattle.station_equations.proofs.layers.layer_goals.Goals as goal

pub loop-node-preserved : goal.loop-node-preserved
loop-node-preserved c =
    let inv = c.loop-node.invariant in
    let old = c.loop-node.nodes.items in
    let now = c.goal_by.new.nodes.items in
    let layer = layer_at c.args.graph.now.layers c.args.layer in
    let row = c.in_ok-row.row.items in
    let is = c.in_ok-row.ensures in
    let by = c.in_ok-goal.ensures in
    let pushed = c.in_ok-push.ensures.items in
    record {
      extends = extends_all c.args.nodes.now.items old now inv.extends by.extends;
      count = ap length pushed ∙ length_push c.loop-node.goals.items c.in_ok-goal.goal ∙ ap (λ n. n + 1) inv.count;
      leads =
          layer_more old now c.args.subject layer c.args.next.now c.loop-node.goals.items _ row c.in_ok-goal.goal
          c.loop-node.node by.extends inv.count pushed is.count is.each by.leads inv.leads;
      grew = λ switches parts has next_fit old_fit.
          let before = inv.grew switches parts has next_fit old_fit in
          let row_fit = row_goals_fit c.args.nodes.now.items old c.args.graph.now c.args.layer c.loop-node.node
          c.args.next.now row inv.extends is next_fit in
          let row_has = subst (λ n. HasChoices switches parts c.args.subject n) (sym is.count) has in
          let after = by.grew switches parts row_has row_fit before.0 in (
            after.0,
            goals_push (length now) c.loop-node.goals.items _ c.in_ok-goal.goal pushed
                (goals_stay old now c.loop-node.goals.items by.extends before.1) after.1,
          );
      apart = λ lo le goals all.
          let before = inv.apart lo le goals all in
          let after = by.apart lo (omega (arith, le, longer c.args.nodes.now.items old inv.extends))
          (row_from lo c.args.graph.now c.args.layer c.loop-node.node c.args.next.now row is goals) before.0 in
          (after.0, from_push lo c.loop-node.goals.items _ c.in_ok-goal.goal pushed before.1 after.1);
      few = omega (arith, inv.few, by.few);
    }
