use Rattle.std.proofs.Common.{◌≡◌, ◌++◌}
use Rattle.central_rules.specs.Names.{texts_below}
use Rattle.denial_explain.specs.ExplanationText.{position_at}
use Rattle.denial_explain.proofs.text.push_positions.Given as goal

abbrev pub invariant-loop-i : goal.invariant-loop-i
invariant-loop-i l = l.text ≡ l.initial.text ++ texts_below (position_at l.head l.moved.0 l.readings l.reading
    l.station) l.i
