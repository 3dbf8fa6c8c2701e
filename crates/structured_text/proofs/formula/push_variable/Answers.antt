use Rattle.std.proofs.Common.{length}
use Rattle.structured_text.proofs.FormulaNames.{formula_within}
use Rattle.structured_text.proofs.formula.push_variable.Goals as goal

pub push_name-requires : goal.push_name-requires
push_name-requires c = formula_within (length c.args.station.now.switches) c.args.name c.requires
