-- A drawing that is read whole: its elements, the ends of each, and its station.
use Rattle.std.specs.Prelude.{◌≡◌, ℕ, ◌<◌, ◌≤◌, List, [], length, slice_index_or, None, Ok}
use Rattle.ilk_base.specs.declared.limits.TheConstants.{FILE_BYTES}
use Rattle.station_graph.specs.Diagram.{Diagram, IsStation}
use Rattle.ssd_text.specs.Nesting.{Entry, Spells}
use Rattle.ssd_read.specs.declared.terminal_place.TerminalPlace.{TerminalPlace}
use Rattle.ssd_read.specs.Elements.{Element, elements_of}
use Rattle.ssd_read.specs.Names.{root_fault}
use Rattle.ssd_read.specs.Ends.{ends_of}
use Rattle.ssd_read.specs.Steps.{winding_ends_of}
use Rattle.ssd_read.specs.StandsFor.{station_of}
use Rattle.ssd_read.specs.Drawn.{IsDrawn}

-- There is a list for each element, and each is this.
pub record AreEndsBy (all : List Element) (ends : ℕ → List TerminalPlace) (lists : List (List TerminalPlace))
    : Type 0 where
  pub len : length lists ≡ length all
  pub each : (j : ℕ) → j < length all → slice_index_or lists j [] ≡ ends j

-- The elements are those of a tree; these are the ends of each and those of its windings, and this is the
-- station of the elements.
pub record IsWhole (all : List Element) (own windings : List (List TerminalPlace)) (d : Diagram) : Type 0 where
  pub drawn : IsDrawn all
  pub own_ends : AreEndsBy all (ends_of all) own
  pub winding_ends : AreEndsBy all (winding_ends_of all) windings
  pub stands : station_of all ≡ Ok d
  pub station : IsStation d

-- The elements stand for a station.
pub record HasStation (all : List Element) : Type 0 where
  pub diagram : Diagram
  pub stands : station_of all ≡ Ok diagram
  pub station : IsStation diagram

-- The tree, whose root is right, has these elements, and they stand for a station.
pub record ReadsTree (tree : List Entry) (all : List Element) : Type 0 where
  pub root : root_fault tree ≡ None
  pub elements : all ≡ elements_of tree
  pub station : HasStation all

-- The text is a drawing with these elements, and without a fault.
pub record IsDrawing (text : List ℕ) (all : List Element) : Type 0 where
  pub few : length text ≤ FILE_BYTES
  pub tree : List Entry
  pub spells : Spells text (Ok tree)
  pub reads : ReadsTree tree all
