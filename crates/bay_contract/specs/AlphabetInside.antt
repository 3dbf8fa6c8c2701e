-- How the fields of an alphabet are seen.
use Rattle.part_alphabets.specs.PartAlphabets.{PartAlphabet}
use Rattle.bay_contract.specs.declared.alphabet.Alphabet.TheInside.{Inside}

-- The alphabet that the struct holds.
abbrev pub seen_as : Inside → PartAlphabet
seen_as a = record {
  switches = a.switches;
  first = a.first;
  count = a.count;
  letters = a.letters.items;
  examples = a.examples.items;
  forks = a.forks.items;
}
