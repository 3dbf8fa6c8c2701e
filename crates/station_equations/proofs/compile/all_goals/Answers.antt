use Rattle.std.proofs.Common.{◌≡◌, length, refl, ap, subst, arith}
use Rattle.station_graph.specs.Diagram.{Diagram}
use Rattle.station_equations.specs.Compiling.{AreGoalsOf}
use Rattle.station_equations.specs.Apart.{StandApart}
use Rattle.station_equations.proofs.ApartLemmas.{apart_none, apart_more}
use Rattle.station_equations.proofs.CompileLemmas.{goals_none, goals_more}
use Rattle.station_equations.proofs.compile.all_goals.Goals as goal

pub loop-i-init : goal.loop-i-init
loop-i-init c = record {
  goals =
      λ parts exact. goals_none c.args.judge.now.diagram parts c.args.nodes.now.items _ c.requires
      c.new-ops.ensures.items;
  apart = λ parts exact. apart_none c.args.judge.now _ c.args.nodes.now.items c.new-ops.ensures.items c.requires;
}

pub loop-i-preserved : goal.loop-i-preserved
loop-i-preserved c =
    let made = c.in_ok-goals.ensures in
    record {
      goals = λ parts exact.
          let before = c.loop-i.invariant.goals parts exact in
          goals_more c.args.judge.now.diagram parts c.loop-i.nodes.items c.switch_goals.new.nodes.items c.loop-i.i _
          c.loop-i.ops.items c.push.new.self.items c.in_ok-goals.goals refl c.in_ok-push.ensures.items made.extends
          (λ v whole. made.exact parts v exact whole) (made.grew parts exact before.grew) before;
      apart = λ parts exact.
          let before = c.loop-i.invariant.goals parts exact in
          apart_more c.args.judge.now c.loop-i.i _ c.loop-i.ops.items c.push.new.self.items c.loop-i.nodes.items
          c.switch_goals.new.nodes.items c.in_ok-goals.goals refl c.in_ok-push.ensures.items before.count made.extends
          made.apart made.few made.graphs (made.grew parts exact before.grew).1 (c.loop-i.invariant.apart parts exact);
    }

pub returns-clause-goals : goal.returns-clause-goals
returns-clause-goals c = λ parts exact.
    let count = ap (λ (d : Diagram). length d.switches) c.station-station.ensures.value in
    let same : c.loop-i.i ≡ length c.args.judge.now.diagram.switches =
    omega (arith, c.loop-i-test.false, c.loop-i.auto.i-end, c.switch_count-i-end.ensures.count, count) in
    subst (λ n. AreGoalsOf c.args.judge.now.diagram parts c.loop-i.nodes.items n c.loop-i.ops.items) same
    (c.loop-i.invariant.goals parts exact)

pub returns-clause-apart : goal.returns-clause-apart
returns-clause-apart c = λ parts exact.
    let count = ap (λ (d : Diagram). length d.switches) c.station-station.ensures.value in
    let same : c.loop-i.i ≡ length c.args.judge.now.diagram.switches =
    omega (arith, c.loop-i-test.false, c.loop-i.auto.i-end, c.switch_count-i-end.ensures.count, count) in
    subst (λ n. StandApart c.args.judge.now n c.loop-i.ops.items c.loop-i.nodes.items) same
    (c.loop-i.invariant.apart parts exact)
