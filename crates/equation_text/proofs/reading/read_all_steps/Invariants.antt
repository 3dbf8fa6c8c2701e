use Rattle.std.proofs.Common.{◌≡◌, length, take}
use Rattle.equation_text.specs.Reading.{AreAllSteps}
use Rattle.equation_text.proofs.reading.read_all_steps.Given as goal

abbrev pub invariant-loop-part : goal.invariant-loop-part
invariant-loop-part l = record {
  count : length l.parts.items ≡ l.part;
  are : AreAllSteps l.station
      (take l.part l.starts) l.fn.left.text.now l.left.text.now l.parts.items;
}
