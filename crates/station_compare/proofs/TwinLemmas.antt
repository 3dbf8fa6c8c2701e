-- A switch is the same as one switch alone.
use Rattle.std.proofs.Common.{◌≡◌, ℕ, ◌<◌, [], length, slice_get, Some, sym, ap, ◌∙◌, arith}
use Rattle.std.proofs.lemmas.Option.{slice_get_within, slice_get-get_or}
use Rattle.station_graph.specs.Diagram.{Diagram, IsStation, switch_path}
use Rattle.station_changes.specs.Compare.{SameSwitch}

path_at : (d : Diagram) (i : ℕ) → IsStation d → i < length d.switches →
    slice_get d.switch_paths i ≡ Some (switch_path d i)
path_at d i is lt = slice_get-get_or d.switch_paths i [] (omega (arith, is.items.paths))

pub one_same : (o n : Diagram) (i j k : ℕ) → IsStation o → SameSwitch o n i k → SameSwitch o n j k → i ≡ j
one_same o n i j k is a b =
    is.paths_differ.switches i j (switch_path o i) (path_at o i is (slice_get_within o.switches i a.old a.old_at))
    (path_at o j is (slice_get_within o.switches j b.old b.old_at) ∙ ap Some (b.path ∙ sym a.path))
