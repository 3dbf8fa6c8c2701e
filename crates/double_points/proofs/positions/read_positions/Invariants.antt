use Rattle.std.proofs.Common.{◌≡◌, ◌<◌, ◌≤◌, ℕ, length, map, take, drop, None}
use Rattle.ilk_base.specs.declared.limits.TheConstants.{FILE_BYTES}
use Rattle.double_points.specs.Rows.{rows_of}
use Rattle.double_points.specs.Positions.{given, fault_at}
use Rattle.double_points.proofs.Records.{HaveWords}
use Rattle.double_points.proofs.positions.read_positions.Given as goal

abbrev pub invariant-loop-found : goal.invariant-loop-found
invariant-loop-found l =
    let all = rows_of l.bytes in
    record {
      short : length l.bytes ≤ FILE_BYTES;
      few : length all ≤ length l.bytes;
      within : l.line ≤ length all;
      rest : l.rows ≡ drop l.line all;
      found : l.found.items ≡ map (given (take l.line all)) l.station.switch_paths;
      words : HaveWords (take l.line all);
      before : (k : ℕ) → k < l.line → fault_at l.station.switch_paths all k ≡ None;
    }

abbrev pub decreases-loop-found : goal.decreases-loop-found
decreases-loop-found l = length l.rows
