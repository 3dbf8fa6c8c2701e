-- The elements of a tree in document order.
use Rattle.std.specs.Prelude.{◌≡◌, List}
use Rattle.ssd_text.specs.Nesting.{Entry, IsInOrder}
use Rattle.ssd_read.specs.Elements.{Element, elements_of}

-- These are the elements of a tree.
abbrev pub IsDrawn : List Element → Type 0
IsDrawn all = (tree : List Entry) × IsInOrder tree × (all ≡ elements_of tree)
