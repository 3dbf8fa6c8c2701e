use Rattle.std.proofs.Common.{sym, ◌∙◌}
use Rattle.judge_pool.proofs.ErrorLemmas.{passed_on}
use Rattle.station_compare.proofs.StockLemmas.{rows_held, stock_grew}
use Rattle.station_compare.proofs.WideLemmas.{moved_here, passes_here, keeps_here}
use Rattle.station_compare.proofs.moved.new_graph.Goals as goal

pub moved_graph_in-requires-clause-rows : goal.moved_graph_in-requires-clause-rows
moved_graph_in-requires-clause-rows c =
    rows_held c.args.stock.now.pool c.args.moved.now.new.now c.args.moved.now.steps.now.new_steps.items c.deref-2.result.now
    c.args.stock.now.new_rows.items c.deref.result.now c.deref-2.ensures.value c.deref.ensures.value
    c.requires.stock.new_rows

pub returns-clause-stock : goal.returns-clause-stock
returns-clause-stock c =
    stock_grew c.args.view c.args.moved.now.old.now c.args.moved.now.new.now c.args.moved.now.steps.now.old_steps.items
    c.args.moved.now.steps.now.new_steps.items c.args.stock.now c.moved_graph_in.new.pool c.requires.stock
    c.in_ok-graph.ensures.grew

pub returns-clause-graph : goal.returns-clause-graph
returns-clause-graph c =
    moved_here c.args.view c.args.stock.now.pool.view c.args.moved.now.new.now c.args.moved.now.steps.now.new_steps.items
    c.deref-2.result.now c.args.moved.now.place c.args.moved.now.new_id.0 c.in_ok-graph.graph c.requires.stock.seen
    c.deref-2.ensures.value c.in_ok-graph.ensures.graph

pub returns-clause-room : goal.returns-clause-room
returns-clause-room c =
    keeps_here c.args.view c.args.stock.now.pool.view c.args.moved.now.new.now c.args.moved.now.steps.now.new_steps.items
    c.deref-2.result.now c.args.moved.now.place c.args.moved.now.limit c.requires.stock.seen c.deref-2.ensures.value
    c.in_ok-graph.ensures.room

pub returns-in_err-graph-clause-wide : goal.returns-in_err-graph-clause-wide
returns-in_err-graph-clause-wide c =
    passed_on _ _ c.from_residual.result c.from_residual.ensures.1 (λ trouble same is.
    passes_here c.args.view c.args.stock.now.pool.view c.args.moved.now.new.now c.args.moved.now.steps.now.new_steps.items
    c.deref-2.result.now c.args.moved.now.place c.args.moved.now.limit c.requires.stock.seen c.deref-2.ensures.value
    (c.in_err-graph.ensures.wide (sym same ∙ is)))
