-- One of the two views of a contraction.
use Rattle.std.specs.Prelude.{ℕ, ◌++◌, Bool, List}
use Rattle.station_graph.specs.Diagram.{Diagram}
use Rattle.station_graph.specs.Connection.{Item}
use Rattle.station_graph.specs.Views.{SameGapView, SameLoadView}
use Rattle.contraction.specs.Answers.{Answers, SameGap, SameLoad}
use Rattle.contraction.specs.Rows.{gap_row, load_row}
use Rattle.contraction.specs.Stands.{Among, MeetsKept, GapStandsFor, LoadStandsFor}
use Rattle.contraction.specs.Composing.{ComposesGap, ComposesLoad}
use Rattle.judge_pool.specs.declared.view.View.{View}
use Rattle.judge_pool.specs.declared.view.View.TheVariants.{Gap, Load}

-- The value answers this view of these items in v.
abbrev pub SeenFor : View → (Item → Type 0) → Diagram → List Bool → Answers → Type 0
SeenFor Gap These d v c = GapStandsFor These d v c
SeenFor Load These d v c = LoadStandsFor These d v c

-- The values keep the same nodes and have this view in common.
abbrev pub SameSeen : View → Answers → Answers → Type 0
SameSeen Gap x y = SameGap x y
SameSeen Load x y = SameLoad x y

-- The row of this view.
abbrev pub seen_row : View → Answers → List ℕ
seen_row Gap c = gap_row c
seen_row Load c = load_row c

-- In v and w these items have this view in common on the kept nodes.
abbrev pub SameView : View → (ℕ → Type 0) → (Item → Type 0) → Diagram → List Bool → List Bool → Type 0
SameView Gap Kept These d v w = SameGapView Kept These d v w
SameView Load Kept These d v w = SameLoadView Kept These d v w

-- In this view the third value is the first two together, on some of the nodes that they keep.
abbrev pub ComposesIn : View → Answers → Answers → Answers → Type 0
ComposesIn Gap x y r = ComposesGap x y r
ComposesIn Load x y r = ComposesLoad x y r

-- Wherever the first value answers for some items and the second for others, the third answers for both.
abbrev pub Carries : View → Answers → Answers → Answers → Type 0
Carries view x y r =
    (items others : List Item) (d : Diagram) (v : List Bool) → MeetsKept (Among items) (Among others) d x.kept y.kept →
    SeenFor view (Among items) d v x → SeenFor view (Among others) d v y → SeenFor view (Among (items ++ others)) d v r
