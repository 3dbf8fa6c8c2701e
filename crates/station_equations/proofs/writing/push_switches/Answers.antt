use Rattle.std.proofs.Common.{List, ℕ}
use Rattle.station_equations.specs.EquationText.{switch_line}
use Rattle.station_equations.proofs.TextLemmas.{line_more}
use Rattle.station_equations.proofs.writing.push_switches.Goals as goal

pub loop-i-preserved : goal.loop-i-preserved
loop-i-preserved c =
    line_more (λ s (path : List ℕ). switch_line s path) c.args.station.now.switch_paths c.loop-i.i
    c.switch_path.result.now _ _ _ c.switch_path.ensures.value c.loop-i.invariant c.in_ok-push_switch.ensures
