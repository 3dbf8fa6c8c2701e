use Rattle.graph_products.proofs.ReachLemmas.{is_reached, reaches}
use Rattle.graph_products.proofs.law.pairs_are_reached.Goals as goal

pub returns : goal.returns
returns c g h p rss pairs sets a b product fits = (
  is_reached g h p rss pairs sets product fits a b,
  reaches g h p rss pairs sets product fits a b,
)
