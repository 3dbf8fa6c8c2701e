use Rattle.short_equations.proofs.OtherNodes.{seen_grew}
use Rattle.short_equations.proofs.pair.read_load.Goals as goal

pub returns-clause-reads : goal.returns-clause-reads
returns-clause-reads c = (
  seen_grew _ _ c.args.edges.now c.args.first.0 c.args.second.0 _ c.in_ok-live.live c.in_ok-both.ensures.grew
      c.in_ok-live.ensures.means,
  c.in_ok-both.ensures.means,
)
