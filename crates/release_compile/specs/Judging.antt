-- How a graph judge is seen, and why a station has none.
use Rattle.std.specs.Prelude.{◌≡◌, ℕ, ◌<◌, ◌≤◌, ◌-◌, ◌⊎◌, List, [], length, slice_get, slice_index_or, sum, Option}
use Rattle.std.specs.Prelude.{Some, None, ⊤}
use Rattle.station_graph.specs.Diagram.{Diagram, part_count}
use Rattle.decision_graphs.specs.Label.{Layered}
use Rattle.part_alphabets.specs.PartAlphabets.{Alphabets}
use Rattle.part_alphabets.specs.Counting.{AreSoMany, PartFits, PartIsPast}
use Rattle.central_rules.specs.Meaning.{IsBay}
use Rattle.judge_pool.specs.Counted.{BayHas, Passes}
use Rattle.judge_pool.specs.declared.limits.TheConstants.{BAY_EDGES, ALL_EDGES}
use Rattle.judge_pool.specs.Lettered.{Lettered, AreLettered, lettered}
use Rattle.judge_graphs.specs.Built.{ViewOf, BayOf, AreBays}
use Rattle.release_compile.specs.declared.refusal.BuildRefusal.{BuildRefusal}
use Rattle.release_compile.specs.declared.refusal.BuildRefusal.TheVariants.{Memory, Many, Wide}

-- A station, the alphabets of its parts, and the graphs of its bays.
pub record Judging : Type 0 where
  pub diagram : Diagram
  pub alphabets : Alphabets
  pub bays : List (Option BayOf)

-- The station and its alphabets.
abbrev pub ground : Judging → Lettered
ground j = lettered j.diagram j.alphabets

-- It is a station, each of its parts has its alphabet, and each of its bays its graphs.
pub record IsJudging (j : Judging) : Type 0 where
  pub lettered : AreLettered (ground j)
  pub bays : AreBays (ground j) j.bays (part_count j.diagram)

-- The graph of no part.
abbrev pub no_graph : Layered
no_graph = record { labels = 0; layers = [] }

-- The graphs of a part that is no bay.
abbrev pub no_bay : BayOf
no_bay = record {
  first = 0;
  count = 0;
  gap = record { outer = no_graph; inner = []; merged = no_graph };
  load = record { outer = no_graph; inner = []; merged = no_graph };
  told = [];
}

-- The graphs of a part, or those of no bay.
abbrev pub or_no_bay : Option (Option BayOf) → BayOf
or_no_bay (Some (Some g)) = g
or_no_bay (Some None) = no_bay
or_no_bay None = no_bay

-- The graphs of a bay.
abbrev pub bay_at : Judging → ℕ → BayOf
bay_at j b = or_no_bay (slice_get j.bays b)

-- The inner graph of a switch of a bay, of one of its views.
abbrev pub inner_at : BayOf → ViewOf → ℕ → Layered
inner_at bay view m = slice_index_or view.inner (m - bay.first) no_graph

-- Each part keeps the limits of its contractions.
abbrev pub AllFit : Diagram → Type 0
AllFit d = (part : ℕ) → part < part_count d → PartFits d part

-- The counted edges of a part are so many: those of its graphs, and none where it has no switch.
pub record PartHasEdges (d : Diagram) (part edges : ℕ) : Type 0 where
  pub bay : IsBay d part → BayHas d part (AreSoMany d) edges
  pub other : ¬ IsBay d part → edges ≡ 0

-- The first n parts have so many counted edges, and keep the limits.
pub record KeepEdges (d : Diagram) (n edges : ℕ) : Type 0 where
  pub each : List ℕ
  pub len : length each ≡ n
  pub counted : (part size : ℕ) → slice_get each part ≡ Some size → PartHasEdges d part size × (size ≤ BAY_EDGES)
  pub all : sum each ≡ edges
  pub few : edges ≤ ALL_EDGES

-- The station keeps the limits of contractions and of counted edges.
abbrev pub KeepsLimits : Diagram → Type 0
KeepsLimits d = AllFit d × (edges : ℕ) × KeepEdges d (part_count d) edges

-- The bay is the first whose counted edges pass the limit of a bay, or with those of the parts before it that of all.
pub record IsFirstWide (d : Diagram) (b : ℕ) : Type 0 where
  pub bay : IsBay d b
  pub spent : ℕ
  pub before : KeepEdges d b spent
  pub past : Passes (BayHas d b) d BAY_EDGES ⊎ Passes (BayHas d b) d (ALL_EDGES - spent)

-- Why a station is refused: a part passes a limit of its contractions, the first such part and its first such step; or
-- all parts keep these limits, and a bay is the first that passes a limit of counted edges.
abbrev pub IsBuildRefusal : Diagram → BuildRefusal → Type 0
IsBuildRefusal d Memory = ⊤
IsBuildRefusal d (Many p step) = PartIsPast d p.0 step × ((part : ℕ) → part < p.0 → PartFits d part)
IsBuildRefusal d (Wide bay) = AllFit d × IsFirstWide d bay.0

-- A bay is the first that passes a limit of counted edges, or memory was wanting.
abbrev pub IsTooWide : Diagram → BuildRefusal → Type 0
IsTooWide d Memory = ⊤
IsTooWide d (Many p step) = ⊥
IsTooWide d (Wide bay) = IsFirstWide d bay.0
