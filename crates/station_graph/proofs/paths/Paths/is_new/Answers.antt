use Rattle.station_graph.proofs.PathLemmas.{Contains-from_slice_get}
use Rattle.station_graph.proofs.paths.Paths.is_new.Goals as goal

pub returns-in-Some : goal.returns-in-Some
returns-in-Some c = (
  λ e. cc,
  λ new. absurd (new (Contains-from_slice_get c.args.self.now c.in-Some.field-0 c.args.path.now
      c.in-Some.ensures.found)),
)
