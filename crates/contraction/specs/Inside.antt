-- How the fields of a contraction and of a selection are seen.
use Rattle.contraction.specs.Answers.{Answers}
use Rattle.contraction.specs.Selecting.{Selected, IsLayout}
use Rattle.contraction.specs.declared.value.Contraction.TheInside.{Inside}
use Rattle.contraction.specs.declared.selection.Selection.TheInside.{Inside as Chosen}

-- The answers that the struct holds.
abbrev pub answers_of : Inside → Answers
answers_of c = record {
  kept = c.kept;
  coupled = c.gap.labels;
  joined = c.load.labels;
  bonded = c.bonded;
  energisable = c.gap.first.items;
  earthable = c.gap.second.items;
  fed = c.load.first.items;
  loaded = c.load.second.items;
}

-- The lists that a selection was made of, and what they are together.
abbrev pub selected_of : Chosen → Selected
selected_of s = record {
  first = s.first.items;
  second = s.second.items;
  nodes = s.nodes.items;
  all = s.layout.union.kept.items;
  first_places = s.layout.union.first.items;
  second_places = s.layout.union.second.items;
  places = s.layout.places.items;
  kept = s.layout.kept.items;
}

-- The layout is that of these lists.
abbrev pub IsLaid : Chosen → Type 0
IsLaid s = IsLayout s.first.items s.second.items s.nodes.items s.layout
