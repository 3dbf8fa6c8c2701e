use Rattle.std.proofs.Common.{◌≡◌, ◌≤◌, ◌+◌, ◌-◌, ℕ, suc, length, take, Some}
use Rattle.std.specs.Prelude.{slice_get, vec_len}
use Rattle.station_equations.specs.EquationLines.{NodeLine}
use Rattle.station_equations.specs.Growing.{turned_line}
use Rattle.station_equations.proofs.turning.turned_nodes.Given as goal

abbrev pub invariant-loop-node : goal.invariant-loop-node
invariant-loop-node l =
    record {
      left : l.left.items ≡ take (length l.left.items) l.fn.nodes.items;
      few : length l.left.items + length l.out.items ≡ l.total;
      each : (n : ℕ) (x : NodeLine) → length l.left.items ≤ n → slice_get l.fn.nodes.items n ≡ Some x →
          slice_get l.out.items (l.total - suc n) ≡ Some (turned_line l.total x);
    }

abbrev pub decreases-loop-node : goal.decreases-loop-node
decreases-loop-node l = vec_len l.left
