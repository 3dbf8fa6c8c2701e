use Rattle.std.proofs.Common.{arith}
use Rattle.ilk_base.specs.declared.words.Dbpos.TheVariants.{Lost}
use Rattle.station_graph.specs.declared.limits.TheConstants.{BAY_SWITCHES}
use Rattle.double_points.proofs.BayLemmas.{overwritten}
use Rattle.double_points.proofs.bay_words.BayWords.new.Goals as goal

pub invariant_of-result : goal.invariant_of-result
invariant_of-result c = overwritten Lost BAY_SWITCHES c.args.words.now c.copy_from_slice.new.self (omega arith)
    c.copy_from_slice.ensures.after
