-- What a drawing is taken as, and why it is refused.
use Rattle.std.specs.Prelude.{◌≡◌, ◌⊎◌, ℕ, List, Ok, Err, unwrap_or}
use Rattle.station_graph.specs.Diagram.{Diagram, IsStation}
use Rattle.ssd_read.specs.StandsFor.{Stands}
use Rattle.ssd_read.specs.Shown as shown
use Rattle.ssd_read.specs.declared.refusal.SsdRefusal.{SsdRefusal}
use Rattle.release_compile.specs.Judging.{KeepsLimits, IsBuildRefusal}
use Rattle.release_compile.specs.declared.refusal.BuildRefusal.{BuildRefusal}
use Rattle.release_compile.specs.declared.refusal.BuildRefusal.TheVariants as b

-- The drawing is that of this station, which keeps the limits of its graphs.
abbrev pub IsDrawingOf : List ℕ → Diagram → Type 0
IsDrawingOf drawing d = Stands drawing (Ok d) × KeepsLimits d

-- What is shown of a limit of the graphs that is passed: 16 and the part, or 17 and the bay.
abbrev pub ShowsLimit : BuildRefusal → ℕ → ℕ → Type 0
ShowsLimit b.Memory number place = ⊥
ShowsLimit (b.Many part step) number place = (number ≡ 16) × (place ≡ part.0)
ShowsLimit (b.Wide bay) number place = (number ≡ 17) × (place ≡ bay.0)

-- The station has no judge, which is shown so.
pub record IsPastLimits (d : Diagram) (number place : ℕ) : Type 0 where
  pub station : IsStation d
  pub refusal : BuildRefusal
  pub past : IsBuildRefusal d refusal
  pub shows : ShowsLimit refusal number place

-- The text stands for no station: the number of its fault, and the place where it has one.
pub record IsNoStation (drawing : List ℕ) (number place : ℕ) : Type 0 where
  pub refusal : SsdRefusal
  pub stands : Stands drawing (Err refusal)
  pub number_is : number ≡ unwrap_or (shown.number refusal) 0
  pub place_is : place ≡ unwrap_or (shown.place refusal) 0

-- The drawing is refused, and this number and place are shown of that.
abbrev pub RefusesDrawing : List ℕ → ℕ → ℕ → Type 0
RefusesDrawing drawing number place =
    IsNoStation drawing number place
    ⊎ ((d : Diagram) × Stands drawing (Ok d) × IsPastLimits d number place)
