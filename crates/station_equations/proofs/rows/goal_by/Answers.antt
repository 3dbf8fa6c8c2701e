use Rattle.std.proofs.Common.{◌∙◌, List, length, sym, ap, inr, arith}
use Rattle.std.specs.Prelude.{slice_get}
use Rattle.station_equations.specs.declared.goal.Goal.{Goal}
use Rattle.station_equations.specs.EquationLines.{NodeLine}
use Rattle.station_equations.proofs.GrowingLemmas.{extends_push, new_leads, new_within, grew_push}
use Rattle.station_equations.proofs.ApartLemmas.{nodes_push}
use Rattle.station_equations.proofs.rows.goal_by.Goals as goal

pub returns-in-Some-clause-grew : goal.returns-in-Some-clause-grew
returns-in-Some-clause-grew c = λ switches parts has fit grew. (
  grew,
  fit 0 c.in-Some.goal (ap (λ
      (goals : List Goal). slice_get goals 0) (sym c.deref.ensures.value) ∙ c.in-Some.ensures.first),
)

pub returns-in-Some-clause-apart : goal.returns-in-Some-clause-apart
returns-in-Some-clause-apart c = λ lo le goals all. (
  all,
  goals 0 c.in-Some.goal (ap (λ
      (goals : List Goal). slice_get goals 0) (sym c.deref.ensures.value) ∙ c.in-Some.ensures.first),
)

pub returns-clause-apart : goal.returns-clause-apart
returns-clause-apart c = λ lo le goals all. (
  nodes_push lo c.args.nodes.now.items c.push.new.self.items c.node_of.result c.in_ok-push.ensures.items all
      (c.node_of.ensures.apart lo goals),
  omega (arith, le, c.in_ok-number.ensures.number ∙ ap (λ (ns : List NodeLine). length ns) c.deref-2.ensures.value),
)

pub returns-clause-extends : goal.returns-clause-extends
returns-clause-extends c =
    extends_push c.args.nodes.now.items c.push.new.self.items c.node_of.result c.in_ok-push.ensures.items

pub returns-clause-leads : goal.returns-clause-leads
returns-clause-leads c = λ parts v i g chosen at. inr
    (new_leads parts c.args.nodes.now.items c.push.new.self.items c.node_of.result v c.in_ok-number.number g
    c.in_ok-push.ensures.items (c.in_ok-number.ensures.number ∙ ap (λ
    (ns : List NodeLine). length ns) c.deref-2.ensures.value) (c.node_of.ensures.leads parts v i g chosen at))

pub returns-clause-grew : goal.returns-clause-grew
returns-clause-grew c = λ switches parts has fit grew. (
  grew_push switches parts c.args.nodes.now.items c.push.new.self.items c.node_of.result c.in_ok-push.ensures.items
      grew (c.node_of.ensures.grew switches (length c.args.nodes.now.items) parts has fit),
  new_within c.args.nodes.now.items c.push.new.self.items c.node_of.result c.in_ok-number.number
      c.in_ok-push.ensures.items (c.in_ok-number.ensures.number ∙ ap (λ
      (ns : List NodeLine). length ns) c.deref-2.ensures.value),
)
