-- A drawing stands for the station of its elements.
use Rattle.std.proofs.Common.{◌≡◌, ℕ, List, Ok, Err, ap, ◌∙◌, sym, inr}
use Rattle.std.specs.Option.{option_map_or}
use Rattle.ssd_read.specs.Elements.{Element, elements_of}
use Rattle.ssd_read.specs.StandsFor.{Stands, station_of, outcome_of}
use Rattle.ssd_read.specs.Whole.{IsDrawing}

pub drawing_stands : (text : List ℕ) (all : List Element) (p : IsDrawing text all) →
    Stands text (Ok p.reads.station.diagram)
drawing_stands text all p =
    let of_tree : station_of (elements_of p.tree) ≡ Ok p.reads.station.diagram =
    ap station_of (sym p.reads.elements) ∙ p.reads.station.stands in
    let outcome : outcome_of p.tree ≡ Ok p.reads.station.diagram =
    ap (λ o. option_map_or Err o (station_of (elements_of p.tree))) p.reads.root ∙ of_tree in
    inr (p.few, Ok p.tree, p.spells, sym outcome)
