use Rattle.std.proofs.Common.{length, List, sym, subst, ◌∙◌}
use Rattle.judge_pool.proofs.ErrorLemmas.{passed_on}
use Rattle.ilk_base.specs.declared.words.Direction.TheVariants.{ToOff, ToOn}
use Rattle.station_graph.specs.Connection.{a_switch}
use Rattle.step_graphs.specs.declared.step.Step.{Step}
use Rattle.step_graphs.specs.Steps.{TakesIn}
use Rattle.change_search.specs.Passing.{IsWideSwitchWalk, KeepsSwitchWalk}
use Rattle.dependence_search.specs.RuleWalks.{IsRuleWalk}
use Rattle.dependence_search.proofs.DependLemmas.{listed}
use Rattle.dependence_search.proofs.ReleasedLemmas.{walk_has}
use Rattle.commissioning_tests.proofs.ListLemmas.{place_within}
use Rattle.commissioning_tests.proofs.switch_paths.switch_paths.Goals as goal

pub index-place-requires : goal.index-place-requires
index-place-requires c =
    place_within _ _ _ _ _ c.from.ensures c.requires.switch c.requires.steps.old_at.len
    c.args.steps.now.old_places.ok.0

pub rule_walk-requires-clause-moved : goal.rule_walk-requires-clause-moved
rule_walk-requires-clause-moved c =
    let m = c.args.switch.0 in
    let place = c.index-place.result.now in
    subst (λ (xs : List Step). TakesIn xs place (a_switch m)) (sym c.deref.ensures.value)
    (c.requires.steps.old_at.each m place
    (listed c.args.steps.now.old_places.items m c.from.result place (length c.args.station.now.switches)
    c.from.ensures c.index-place.ensures c.requires.switch c.requires.steps.old_at.len))

pub returns-in_err-walk-clause-wide : goal.returns-in_err-walk-clause-wide
returns-in_err-walk-clause-wide c =
    let d = c.args.station.now in
    let m = c.args.switch.0 in
    let place = c.index-place.result.now in
    passed_on _ _ c.from_residual.result c.from_residual.ensures.1 (λ trouble same is. record {
      place = place;
      at =
          c.requires.steps.old_at.each m place
          (listed c.args.steps.now.old_places.items m c.from.result place (length d.switches) c.from.ensures
          c.index-place.ensures c.requires.switch c.requires.steps.old_at.len);
      wide =
          subst (λ (xs : List Step). IsWideSwitchWalk d d xs xs place m m c.args.limit) c.deref.ensures.value
          (c.in_err-walk.ensures.wide (sym same ∙ is));
    })

pub returns-clause-narrow : goal.returns-clause-narrow
returns-clause-narrow c =
    let d = c.args.station.now in
    let m = c.args.switch.0 in
    let place = c.index-place.result.now in
    record {
      place = place;
      at =
          c.requires.steps.old_at.each m place
          (listed c.args.steps.now.old_places.items m c.from.result place (length d.switches) c.from.ensures
          c.index-place.ensures c.requires.switch c.requires.steps.old_at.len);
      keeps =
          subst (λ (xs : List Step). KeepsSwitchWalk d d xs xs place m m c.args.limit) c.deref.ensures.value
          c.in_ok-walk.ensures.keeps;
    }

pub released_graph-requires : goal.released_graph-requires
released_graph-requires c = walk_has _ _ _ _ _ _ c.in_ok-walk.ensures.walk

pub released_graph-requires-2 : goal.released_graph-requires-2
released_graph-requires-2 c = walk_has _ _ _ _ _ _ c.in_ok-walk.ensures.walk

pub returns-clause-held : goal.returns-clause-held
returns-clause-held c =
    let m = c.args.switch.0 in
    let place = c.index-place.result.now in
    let walk = c.in_ok-walk.walk.graph in
    let codes = c.in_ok-walk.walk.codes.items in
    record {
      moved =
          c.requires.steps.old_at.each m place
          (listed c.args.steps.now.old_places.items m c.from.result place (length c.args.station.now.switches)
          c.from.ensures c.index-place.ensures c.requires.switch c.requires.steps.old_at.len);
      walk =
          subst (λ (xs : List Step). IsRuleWalk c.args.station.now xs place m walk codes) c.deref.ensures.value
          c.in_ok-walk.ensures.walk;
      opened = c.in_ok-opened.ensures;
      closed = c.in_ok-closed.ensures;
      opening_layers = c.in_ok-turns_opening.ensures walk codes ToOff c.in_ok-opened.ensures;
      closing_layers = c.in_ok-turns_closing.ensures walk codes ToOn c.in_ok-closed.ensures;
    }
