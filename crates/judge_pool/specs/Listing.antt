-- The items of parts, as lists.
use Rattle.std.specs.Prelude.{ℕ, zero, suc, ◌==◌, Bool, List, [], ◌∷◌, ◌++◌, if◌then◌else◌}
use Rattle.station_graph.specs.declared.items.Switch.{Switch}
use Rattle.station_graph.specs.declared.items.Link.{Link}
use Rattle.station_graph.specs.declared.items.Tap.{Tap}
use Rattle.station_graph.specs.Diagram.{Diagram}
use Rattle.station_graph.specs.Connection.{Item, a_switch, a_link, a_tap}
use Rattle.judge_pool.specs.Graphs.{other_of}

-- The items of a list that pass, by their numbers from one on.
abbrev pub listed : {X : Type 0} → (ℕ → Item) → (X → Bool) → ℕ → List X → List Item
listed item passes i [] = []
listed item passes i (x ∷ xs) =
    if passes x then item i ∷ listed item passes (suc i) xs else listed item passes (suc i) xs

-- The links and taps of a part.
abbrev pub own_links : Diagram → ℕ → List Item
own_links d p =
    listed a_link (λ (x : Link). x.part.0 == p) 0 d.links ++ listed a_tap (λ (x : Tap). x.part.0 == p) 0 d.taps

-- The items of a part: its switches and its links.
abbrev pub part_items : Diagram → ℕ → List Item
part_items d p = listed a_switch (λ (x : Switch). x.bay.0 == p) 0 d.switches ++ own_links d p

-- The items of the first j other parts.
abbrev pub parts_before : Diagram → ℕ → ℕ → List Item
parts_before d b zero = []
parts_before d b (suc j) = parts_before d b j ++ part_items d (other_of 0 b j)
