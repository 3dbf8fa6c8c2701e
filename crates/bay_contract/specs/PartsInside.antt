-- How the alphabets of the parts are seen.
use Rattle.part_alphabets.specs.PartAlphabets.{Alphabets}
use Rattle.bay_contract.specs.declared.parts.Parts.TheInside.{Inside}

-- The alphabets that the struct holds.
abbrev pub alphabets_in : Inside → Alphabets
alphabets_in p = record { switches = p.switches; parts = p.alphabets.items }
