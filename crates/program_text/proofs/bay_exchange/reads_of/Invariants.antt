use Rattle.std.proofs.Common.{◌≡◌, take}
use Rattle.program_text.specs.BayExchange.{all_reads}
use Rattle.program_text.proofs.bay_exchange.reads_of.Given as goal

abbrev pub invariant-loop-step : goal.invariant-loop-step
invariant-loop-step l = l.names.items ≡ all_reads l.blocks l.bay.0 l.own (take l.step-index l.steps)
