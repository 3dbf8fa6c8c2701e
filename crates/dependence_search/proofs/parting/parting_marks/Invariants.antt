use Rattle.std.proofs.Common.{◌≡◌, suc, length, map}
use Rattle.dependence_search.specs.Parting.{ArePartingBack}
use Rattle.dependence_search.proofs.parting.parting_marks.Given as goal

abbrev pub invariant-loop-i : goal.invariant-loop-i
invariant-loop-i l = record {
  len : length l.all.items ≡ suc l.i;
  back : ArePartingBack l.graph.layers l.layer (map (λ m. m.items) l.all.items);
}
