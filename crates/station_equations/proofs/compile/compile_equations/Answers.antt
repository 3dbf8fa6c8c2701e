use Rattle.std.proofs.Common.{◌∙◌, List, length, map, refl, sym, ap, subst}
use Rattle.station_equations.specs.EquationLines.{NodeLine}
use Rattle.station_equations.specs.EquationForm.{OpsFit}
use Rattle.station_equations.specs.Growing.{turned_goals}
use Rattle.station_equations.specs.NodeCount.{HaveFewNodes}
use Rattle.station_equations.proofs.CompileLemmas.{parts_exact, parts_of, goals_within, compiled}
use Rattle.station_equations.proofs.ReachedLemmas.{few_nodes, few_lines}
use Rattle.station_equations.proofs.compile.compile_equations.Goals as goal

pub turned_ops-ops-requires : goal.turned_ops-ops-requires
turned_ops-ops-requires c =
    let d = c.args.judge.now.diagram in
    let a = c.args.judge.now.alphabets in
    let parts = c.in_ok-parts.parts.items in
    let are = parts_of d c.station.result.now a c.parts.result.now parts c.station.ensures.value c.parts.ensures.value
    c.in_ok-parts.ensures in
    let goals = c.in_ok-goals.ensures.goals parts (parts_exact d a parts c.parts.ensures.alphabets are) in
    let total = ap (λ (ns : List NodeLine). length ns) (sym c.deref.ensures.value) ∙ c.in_ok-total.ensures in
    subst (λ n. OpsFit n c.in_ok-goals.goals.items) total goals.fit

pub turned_nodes-requires-clause-total : goal.turned_nodes-requires-clause-total
turned_nodes-requires-clause-total c =
    ap (λ (ns : List NodeLine). length ns) (sym c.deref.ensures.value) ∙ c.in_ok-total.ensures

pub turned_nodes-requires-clause-goals : goal.turned_nodes-requires-clause-goals
turned_nodes-requires-clause-goals c =
    let d = c.args.judge.now.diagram in
    let a = c.args.judge.now.alphabets in
    let parts = c.in_ok-parts.parts.items in
    let are = parts_of d c.station.result.now a c.parts.result.now parts c.station.ensures.value c.parts.ensures.value
    c.in_ok-parts.ensures in
    let goals = c.in_ok-goals.ensures.goals parts (parts_exact d a parts c.parts.ensures.alphabets are) in
    let total = ap (λ (ns : List NodeLine). length ns) (sym c.deref.ensures.value) ∙ c.in_ok-total.ensures in
    goals_within d parts c.all_goals.new.nodes.items (length d.switches) c.in_ok-total.total
    c.in_ok-goals.goals.items goals total

pub invariant_of-result : goal.invariant_of-result
invariant_of-result c =
    let d = c.args.judge.now.diagram in
    let a = c.args.judge.now.alphabets in
    let parts = c.in_ok-parts.parts.items in
    let are = parts_of d c.station.result.now a c.parts.result.now parts c.station.ensures.value c.parts.ensures.value
    c.in_ok-parts.ensures in
    let goals = c.in_ok-goals.ensures.goals parts (parts_exact d a parts c.parts.ensures.alphabets are) in
    let total = ap (λ (ns : List NodeLine). length ns) (sym c.deref.ensures.value) ∙ c.in_ok-total.ensures in
    let apart = c.in_ok-goals.ensures.apart parts (parts_exact d a parts c.parts.ensures.alphabets are) in
    let few : HaveFewNodes d (record {
      parts = parts;
      ops = map (turned_goals (length c.all_goals.new.nodes.items)) c.in_ok-goals.goals.items;
      nodes = c.in_ok-lines.lines.items;
    }) =
    λ b edges has. few_nodes c.args.judge.now c.in_ok-goals.goals.items c.all_goals.new.nodes.items
    c.in_ok-lines.lines.items (length d.switches) apart goals.count (length d.switches) parts goals.grew
    c.in_ok-lines.ensures refl b edges has in
    let all = few_lines c.args.judge.now c.in_ok-goals.goals.items c.all_goals.new.nodes.items
    c.in_ok-lines.lines.items (length d.switches) parts
    (map (turned_goals (length c.all_goals.new.nodes.items)) c.in_ok-goals.goals.items) apart goals.count goals.grew
    c.in_ok-lines.ensures in
    (compiled d a parts c.all_goals.new.nodes.items c.in_ok-lines.lines.items c.in_ok-goals.goals.items
    c.turned_ops-ops.result.items c.in_ok-total.total c.parts.ensures.alphabets are goals c.in_ok-lines.ensures total
    c.turned_ops-ops.ensures few all).whole

pub returns : goal.returns
returns c =
    let d = c.args.judge.now.diagram in
    let a = c.args.judge.now.alphabets in
    let parts = c.in_ok-parts.parts.items in
    let are = parts_of d c.station.result.now a c.parts.result.now parts c.station.ensures.value c.parts.ensures.value
    c.in_ok-parts.ensures in
    let goals = c.in_ok-goals.ensures.goals parts (parts_exact d a parts c.parts.ensures.alphabets are) in
    let total = ap (λ (ns : List NodeLine). length ns) (sym c.deref.ensures.value) ∙ c.in_ok-total.ensures in
    let apart = c.in_ok-goals.ensures.apart parts (parts_exact d a parts c.parts.ensures.alphabets are) in
    let few : HaveFewNodes d (record {
      parts = parts;
      ops = map (turned_goals (length c.all_goals.new.nodes.items)) c.in_ok-goals.goals.items;
      nodes = c.in_ok-lines.lines.items;
    }) =
    λ b edges has. few_nodes c.args.judge.now c.in_ok-goals.goals.items c.all_goals.new.nodes.items
    c.in_ok-lines.lines.items (length d.switches) apart goals.count (length d.switches) parts goals.grew
    c.in_ok-lines.ensures refl b edges has in
    let all = few_lines c.args.judge.now c.in_ok-goals.goals.items c.all_goals.new.nodes.items
    c.in_ok-lines.lines.items (length d.switches) parts
    (map (turned_goals (length c.all_goals.new.nodes.items)) c.in_ok-goals.goals.items) apart goals.count goals.grew
    c.in_ok-lines.ensures in
    let x = compiled d a parts c.all_goals.new.nodes.items c.in_ok-lines.lines.items c.in_ok-goals.goals.items
    c.turned_ops-ops.result.items c.in_ok-total.total c.parts.ensures.alphabets are goals c.in_ok-lines.ensures total
    c.turned_ops-ops.ensures few all in
    record { of_station = x.equations; exact = x.exact; steps = x.steps; nodes = x.nodes; all = x.all }
