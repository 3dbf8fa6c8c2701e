use Rattle.std.proofs.Common.{◌≡◌, ◌∙◌, refl, ℕ, ◌+◌, ◌*◌, List, ◌++◌, length, map, arith}
use Rattle.std.specs.List.{range_with_len}
use Rattle.std.proofs.lemmas.List.FromFn.{length-range_with_len}
use Rattle.std.proofs.lemmas.List.{length-append, length-map}
use Rattle.station_make.specs.declared.equipment.Switch.{Switch}
use Rattle.station_make.specs.Layout.{nodes_of, switches_of, switches}
use Rattle.station_make.specs.EventsText.{at_record, sense_record, deliver_record}
use Rattle.station_make.proofs.Numbers.{length-flat_map_feeders}
use Rattle.station_make.proofs.laws.made_counts.Goals as goal

pub returns-clause-nodes : goal.returns-clause-nodes
returns-clause-nodes c = λ n. omega (arith, length-flat_map_feeders nodes_of 3 (λ i. refl) 1 n)

count_of_switches : (n : ℕ) → length (switches n) ≡ 6 * n + 3
count_of_switches n = omega (arith, length-flat_map_feeders switches_of 6 (λ i. refl) 1 n)

pub returns-clause-switches : goal.returns-clause-switches
returns-clause-switches c = count_of_switches

-- two records for each switch, one for each of three messages for a feeder, and four more
count_of_records : (n : ℕ) (s : List Switch) (a b : List ℕ) (command : List (List ℕ)) (drive : List (List ℕ))
    → length (map at_record s ++ map sense_record s ++ command ++ map deliver_record a ++ drive ++ map deliver_record b)
    ≡ 2 * length s + length command + length drive + length a + length b
count_of_records n s a b command drive =
    simp (length-append, length-map) (omega arith)

pub returns-clause-records : goal.returns-clause-records
returns-clause-records c = λ n.
    count_of_records n (switches n) (range_with_len 1 (2 * n)) (range_with_len (2 * n + 1) n) _ _
    ∙ omega (arith, count_of_switches n, length-range_with_len 1 (2 * n), length-range_with_len (2 * n + 1) n)
