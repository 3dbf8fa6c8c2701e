use Rattle.std.proofs.Common.{◌≡◌, length, take}
use Rattle.equation_audit.specs.Positions.{AreOwnWords}
use Rattle.equation_audit.proofs.question.own_words.Given as goal

abbrev pub invariant-loop-id : goal.invariant-loop-id
invariant-loop-id l =
    record {
      count : length l.words ≡ length l.station.switches;
      those : AreOwnWords (take l.id-index l.own) l.vector l.words;
    }
