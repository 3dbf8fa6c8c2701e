use Rattle.std.proofs.Common.{◌≡◌, ℕ, List, Option, Some, None, slice_get}
use Rattle.std.specs.Prelude.{IfSome, IfNone, Contains}
use Rattle.ilk_base.specs.declared.words.SwitchId.{SwitchId}
use Rattle.station_graph.specs.Diagram.{Differ}
use Rattle.double_points.specs.Paths.{place_of}
use Rattle.double_points.proofs.Places.{place_of-there, place_of-nowhere}
use Rattle.double_points.proofs.positions.switch_named.Goals as goal

found : (paths : List (List ℕ)) (path : List ℕ) (o : Option SwitchId) → Differ paths →
    IfSome o (λ id. slice_get paths id.0 ≡ Some path) → IfSome o (λ id. place_of path paths ≡ Some id.0)
found paths path None differ h = h
found paths path (Some id) differ h = place_of-there paths id.0 path differ h

missed : (paths : List (List ℕ)) (path : List ℕ) (o : Option SwitchId) → IfNone o (¬ Contains paths path) →
    IfNone o (place_of path paths ≡ None)
missed paths path None h = place_of-nowhere paths path h
missed paths path (Some id) h = h

pub returns-clause-place : goal.returns-clause-place
returns-clause-place c =
    let e = c.find_switch.ensures in
    found c.args.station.now.switch_paths c.args.path.now c.find_switch.result e.station.paths_differ.switches e.found

pub returns-clause-none : goal.returns-clause-none
returns-clause-none c = missed c.args.station.now.switch_paths c.args.path.now c.find_switch.result
    c.find_switch.ensures.none
