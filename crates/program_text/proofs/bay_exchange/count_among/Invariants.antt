use Rattle.std.proofs.Common.{◌≤◌, take}
use Rattle.std.specs.List.{Contains}
use Rattle.structured_text.specs.declared.name.Name.{Name}
use Rattle.program_text.specs.BayExchange.{IsCount}
use Rattle.program_text.proofs.bay_exchange.count_among.Given as goal

abbrev pub invariant-loop-name : goal.invariant-loop-name
invariant-loop-name l =
    IsCount (λ (n : Name). Contains l.others n) (take l.name-index l.names) l.count × (l.count ≤ l.name-index)
