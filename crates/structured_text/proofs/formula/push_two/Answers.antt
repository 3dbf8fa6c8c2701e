use Rattle.std.proofs.Common.{length}
use Rattle.structured_text.proofs.FormulaNames.{formula_within}
use Rattle.structured_text.proofs.formula.push_two.Goals as goal

pub push_pair-requires : goal.push_pair-requires
push_pair-requires c = record {
  first = formula_within (length c.args.station.now.switches) c.args.first c.requires.first;
  second = formula_within (length c.args.station.now.switches) c.args.second c.requires.second;
}
