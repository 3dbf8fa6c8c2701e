use Rattle.std.proofs.Common.{arith}
use Rattle.judge_graphs.proofs.PartnerNaming.{index_skip, index_more}
use Rattle.judge_graphs.proofs.label_names.name_of.Goals as goal

pub returns-in-Some : goal.returns-in-Some
returns-in-Some c rows index here =
    let known = index.found c.args.row c.in-Some.name c.in-Some.ensures in (
      omega (arith, known.0),
      known.1,
      index_skip rows c.args.label c.in-Some.name c.args.index.now c.args.row index here c.in-Some.ensures,
    )

pub returns-in_ok-insert-in-None : goal.returns-in_ok-insert-in-None
returns-in_ok-insert-in-None c rows index here = (
  omega arith,
  record { same = here; first = index.missing c.args.row c.in-None.ensures },
  index_more rows c.args.label c.args.index.now c.insert.new.self c.args.row index here c.in-None.ensures
      c.in_ok-insert-in-None.ensures.updates,
)
