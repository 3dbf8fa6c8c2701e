use Rattle.std.proofs.Common.{◌∙◌, ◌-◌, List, length, sym, ap, subst, Some, None, arith}
use Rattle.ilk_base.specs.declared.words.Rule.TheVariants.{R3}
use Rattle.judge_pool.specs.declared.view.View.TheVariants.{Load}
use Rattle.decision_graphs.specs.Reaching.{node_total}
use Rattle.judge_pool.specs.Lettered.{AreLettered}
use Rattle.release_compile.specs.Judging.{ground, bay_at}
use Rattle.station_equations.specs.declared.goal.Goal.{Goal}
use Rattle.station_equations.specs.Growing.{AreGoals}
use Rattle.station_equations.specs.Apart.{AreFrom}
use Rattle.station_equations.specs.Compiling.{ViewLeads, inner_total}
use Rattle.station_equations.proofs.GrowingLemmas.{pair_fits}
use Rattle.station_equations.proofs.ApartLemmas.{pair_from}
use Rattle.station_equations.proofs.ReadyLemmas.{load_ready, own_bay_of, is_bay, bay_in, switch_in, view_fits, view_has}
use Rattle.station_equations.proofs.ReadyLemmas.{view_leads}
use Rattle.station_equations.proofs.compile.load_goal.Goals as goal

pub outer_load-outer-requires : goal.outer_load-outer-requires
outer_load-outer-requires c =
    is_bay c.args.judge.now.diagram c.args.id.0 c.args.own.bay.0 c.args.own.first.0 c.args.own.count c.requires

pub inner_load-inner-requires : goal.inner_load-inner-requires
inner_load-inner-requires c =
    switch_in c.args.judge.now.diagram c.args.id.0 c.args.own.bay.0 c.args.own.first.0 c.args.own.count c.requires

pub view_goal-requires : goal.view_goal-requires
view_goal-requires c =
    let j = c.args.judge.now in
    let own = c.requires in
    let are : AreLettered (ground j) = record {
      station = own.station;
      alphabets = c.parts-alphabets.ensures.alphabets;
    } in
    let r = load_ready j c.args.own.bay.0 c.args.id.0 c.args.own.first.0 c.args.own.count c.outer_load-outer.result.now
    c.inner_load-inner.result.now own c.outer_load-outer.ensures.graphs c.outer_load-outer.ensures.value
    c.inner_load-inner.ensures.value in
    let fits = view_fits Load (ground j) c.args.own.bay.0 c.args.id.0 c.args.own.first.0 (c.args.own.count - 1) _ _ are
    (bay_in j.diagram c.args.id.0 c.args.own.bay.0 c.args.own.first.0 c.args.own.count own) r in
    record {
      row = fits.row;
      ends = ap length c.in_ok-ends.ensures ∙ sym r.labels;
      others = fits.others;
      own = fits.own;
    }

pub returns-clause-leads : goal.returns-clause-leads
returns-clause-leads c = λ parts v exact whole.
    let j = c.args.judge.now in
    let own = c.requires in
    let are : AreLettered (ground j) = record {
      station = own.station;
      alphabets = c.parts-alphabets.ensures.alphabets;
    } in
    let r = load_ready j c.args.own.bay.0 c.args.id.0 c.args.own.first.0 c.args.own.count c.outer_load-outer.result.now
    c.inner_load-inner.result.now own c.outer_load-outer.ensures.graphs c.outer_load-outer.ensures.value
    c.inner_load-inner.ensures.value in
    subst (λ (ends : List Goal). ViewLeads Load j.diagram parts c.view_goal.new.nodes.items v c.args.id.0
    c.in_ok-goal.goal ends) c.in_ok-ends.ensures
    (view_leads Load (ground j) c.args.own.bay.0 c.args.id.0 c.args.own.first.0 (c.args.own.count - 1) _ _ are
    (bay_in j.diagram c.args.id.0 c.args.own.bay.0 c.args.own.first.0 c.args.own.count own) r parts v exact whole
    c.view_goal.new.nodes.items c.in_ok-goal.goal c.in_ok-ends.ends.items
    (λ cs ds count_cs chosen_cs count_ds chosen_ds. c.in_ok-goal.ensures.leads parts v cs ds count_cs chosen_cs
    count_ds chosen_ds))

pub returns-clause-grew : goal.returns-clause-grew
returns-clause-grew c = λ parts exact grew.
    let j = c.args.judge.now in
    let own = c.requires in
    let are : AreLettered (ground j) = record {
      station = own.station;
      alphabets = c.parts-alphabets.ensures.alphabets;
    } in
    let r = load_ready j c.args.own.bay.0 c.args.id.0 c.args.own.first.0 c.args.own.count c.outer_load-outer.result.now
    c.inner_load-inner.result.now own c.outer_load-outer.ensures.graphs c.outer_load-outer.ensures.value
    c.inner_load-inner.ensures.value in
    let has = view_has Load (ground j) c.args.own.bay.0 c.args.id.0 c.args.own.first.0 (c.args.own.count - 1) _ _ are
    (bay_in j.diagram c.args.id.0 c.args.own.bay.0 c.args.own.first.0 c.args.own.count own) r parts exact in
    let fit = subst (λ (ends : List Goal). AreGoals (length c.args.nodes.now.items) ends) (sym c.in_ok-ends.ensures)
    (pair_fits (length c.args.nodes.now.items) None (Some R3)) in
    c.in_ok-goal.ensures.grew (length j.diagram.switches) parts has.others has.own fit grew

pub returns-clause-apart : goal.returns-clause-apart
returns-clause-apart c =
    λ lo le all. c.in_ok-goal.ensures.apart lo le
    (subst (λ (ends : List Goal). AreFrom lo ends) (sym c.in_ok-ends.ensures) (pair_from lo None (Some R3))) all

pub returns-clause-few : goal.returns-clause-few
returns-clause-few c =
    let j = c.args.judge.now in
    let here = own_bay_of j.diagram c.args.id.0 c.args.own.bay.0 c.args.own.first.0 c.args.own.count c.requires in
    let inner = ap inner_total c.inner_load-inner.ensures.value in
    let outer = ap node_total (c.outer_load-outer.ensures.value ∙ ap (λ n. (bay_at j n).load.outer) (sym here)) in
    omega (arith, c.in_ok-goal.ensures.few, inner, outer)
