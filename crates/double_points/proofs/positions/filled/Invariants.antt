use Rattle.std.proofs.Common.{◌≡◌, map, take, unwrap_or}
use Rattle.ilk_base.specs.declared.words.Dbpos.TheVariants.{Lost}
use Rattle.double_points.proofs.positions.filled.Given as goal

abbrev pub invariant-loop-o : goal.invariant-loop-o
invariant-loop-o l = l.words.items ≡ map (λ o. unwrap_or o Lost) (take l.o-index l.found)
