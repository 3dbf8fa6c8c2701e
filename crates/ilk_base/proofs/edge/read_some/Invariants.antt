use Rattle.std.proofs.Common.{◌≡◌, length}
use Rattle.std.specs.Io.KnownBytes.{Keeps}
use Rattle.ilk_base.proofs.edge.read_some.Given as goal

abbrev pub invariant-loop : goal.invariant-loop
invariant-loop g l = record {
  room : length l.into ≡ length l.initial.into;
  kept : Keeps (g.R.Read.remaining l.initial.stream) (g.R.Read.remaining l.stream);
}
