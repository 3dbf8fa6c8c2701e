use Rattle.std.proofs.Common.{◌≡◌, ◌++◌, take}
use Rattle.station_equations.specs.EquationLines.{index_in, past_greatest}
use Rattle.equation_text.proofs.PastLemmas.{written}
use Rattle.equation_text.proofs.defined.index_count.Given as goal

abbrev pub invariant-loop-step : goal.invariant-loop-step
invariant-loop-step l = l.count ≡ past_greatest (index_in l.part.start ++ written (take l.step-index l.part.steps))
