use Rattle.std.proofs.Common.{◌≡◌, ◌++◌}
use Rattle.central_rules.specs.Names.{texts_below}
use Rattle.denial_explain.specs.ExplanationText.{position_at}
use Rattle.release_texts.specs.CheckText.{reading_head}
use Rattle.release_texts.proofs.check.push_reading.Given as goal

abbrev pub invariant-loop-i : goal.invariant-loop-i
invariant-loop-i l = record {
  text : l.text.text
      ≡ l.initial.text.text ++ texts_below (position_at (reading_head l.op.direction) l.op.switch.0 l.readings l.reading
      l.station) l.i;
  names : l.text.names ≡ l.station.switch_paths;
  same : l.text.names ≡ l.initial.text.names;
}
