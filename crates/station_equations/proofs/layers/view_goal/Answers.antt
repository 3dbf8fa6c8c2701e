use Rattle.std.proofs.Common.{◌<◌, List, length, refl, subst, arith}
use Rattle.std.proofs.lemmas.Option.{slice_get_read}
use Rattle.station_equations.specs.declared.goal.Goal.{Goal}
use Rattle.station_equations.specs.Growing.{LeadToGoals}
use Rattle.station_equations.proofs.GraphFacts.{size_some}
use Rattle.station_equations.proofs.GrowingLemmas.{extends_same, row_goals_fit, leads_through}
use Rattle.station_equations.proofs.ApartLemmas.{longer, row_from}
use Rattle.station_equations.proofs.layers.view_goal.Goals as goal

pub index-requires : goal.index-requires
index-requires c = omega (
  arith,
  c.in_ok-goals.ensures.count,
  size_some c.args.outer.now.labels c.args.outer.now.layers c.labels-outer_fits.ensures.layered,
  c.in_ok-goals.goals.ok.0,
)

pub returns-clause-leads : goal.returns-clause-leads
returns-clause-leads c = λ parts v cs ds count_cs chosen_cs count_ds chosen_ds.
    let goals = c.in_ok-goals.goals.items in
    let some : 0 < length goals = omega (
      arith,
      c.in_ok-goals.ensures.count,
      size_some c.args.outer.now.labels c.args.outer.now.layers c.labels-outer_fits.ensures.layered,
    ) in
    let row = subst (λ (next : List Goal). LeadToGoals c.args.inner.now 0 0 next c.in_ok-entries.entries.items)
    c.deref.ensures.value c.in_ok-entries.ensures in
    leads_through parts c.graph_goals.new.nodes.items c.graph_goals-2.new.nodes.items c.args.others c.args.own
    c.args.outer.now c.args.inner.now v c.in_ok-entries.entries.items goals c.in_ok-inner_goals.inner_goals.items
    c.args.ends.items c.index.result.now cs ds
    c.in_ok-goals.ensures.extends c.in_ok-goals.ensures.leads c.in_ok-inner_goals.ensures.leads row c.requires.row.some
    (slice_get_read goals (length goals) 0 c.index.result.now refl some c.index.ensures) count_cs chosen_cs
    count_ds chosen_ds

pub returns-clause-apart : goal.returns-clause-apart
returns-clause-apart c = λ lo le ends all.
    let goals = c.in_ok-goals.goals.items in
    let now = c.graph_goals.new.nodes.items in
    let some : 0 < length goals = omega (
      arith,
      c.in_ok-goals.ensures.count,
      size_some c.args.outer.now.labels c.args.outer.now.layers c.labels-outer_fits.ensures.layered,
    ) in
    let row = subst (λ (next : List Goal). LeadToGoals c.args.inner.now 0 0 next c.in_ok-entries.entries.items)
    c.deref.ensures.value c.in_ok-entries.ensures in
    let inner = c.in_ok-inner_goals.ensures.apart lo le ends all in
    let row_is = row_from lo c.args.inner.now 0 0 c.in_ok-inner_goals.inner_goals.items c.in_ok-entries.entries.items
    row inner.1 in
    let outer = c.in_ok-goals.ensures.apart lo
    (omega (arith, le, longer c.args.nodes.now.items now c.in_ok-inner_goals.ensures.extends)) row_is inner.0 in (
      outer.0,
      outer.1 0 c.index.result.now (slice_get_read goals (length goals) 0 c.index.result.now refl some c.index.ensures),
    )

pub returns-clause-few : goal.returns-clause-few
returns-clause-few c = omega (arith, c.in_ok-inner_goals.ensures.few, c.in_ok-goals.ensures.few)

pub returns-clause-grew : goal.returns-clause-grew
returns-clause-grew c = λ switches parts has_others has_own fit grew.
    let goals = c.in_ok-goals.goals.items in
    let now = c.graph_goals.new.nodes.items in
    let some : 0 < length goals = omega (
      arith,
      c.in_ok-goals.ensures.count,
      size_some c.args.outer.now.labels c.args.outer.now.layers c.labels-outer_fits.ensures.layered,
    ) in
    let row = subst (λ (next : List Goal). LeadToGoals c.args.inner.now 0 0 next c.in_ok-entries.entries.items)
    c.deref.ensures.value c.in_ok-entries.ensures in
    let inner = c.in_ok-inner_goals.ensures.grew switches parts has_own fit grew in
    let row_fit = row_goals_fit now now c.args.inner.now 0 0 c.in_ok-inner_goals.inner_goals.items
    c.in_ok-entries.entries.items (extends_same now now refl) row inner.1 in
    let outer = c.in_ok-goals.ensures.grew switches parts has_others row_fit inner.0 in (
      outer.0,
      outer.1 0 c.index.result.now (slice_get_read goals (length goals) 0 c.index.result.now refl some c.index.ensures),
    )
