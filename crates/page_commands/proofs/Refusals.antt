-- A drawing that is refused.
use Rattle.std.proofs.Common.{ℕ, List, Ok, inl, inr, ⊎_elim}
use Rattle.station_graph.specs.Diagram.{Diagram, IsStation}
use Rattle.ssd_read.specs.StandsFor.{Stands}
use Rattle.release_compile.specs.Judging.{IsBuildRefusal}
use Rattle.release_compile.specs.declared.refusal.BuildRefusal.{BuildRefusal}
use Rattle.release_compile.specs.declared.refusal.BuildRefusal.TheVariants as b
use Rattle.page_questions.specs.Drawings.{RefusesDrawing, ShowsLimit}
use Rattle.interlock_cli.specs.Formats.{Drawing, Refuses}
use Rattle.interlock_cli.specs.Form.{File}
use Rattle.interlock_cli.specs.declared.end.End.{End}
use Rattle.interlock_cli.specs.declared.end.End.TheVariants as e
use Rattle.page_commands.specs.Answering.{Held, Holds, ShowsRefusal, IsRefusedAlike}
use Rattle.page_commands.proofs.Taking.{itself, refused_content}

told : (drawing : List ℕ) (end : End) (number place : ℕ) → Refuses Drawing drawing end →
    ShowsRefusal end number place → RefusesDrawing drawing number place
told drawing (e.Station r) number place refuses shows =
    inl (record { refusal = r; stands = refuses; number_is = shows.0; place_is = shows.1 })
told drawing (e.Many part step) number place refuses shows =
    inr (
      refuses.diagram,
      refuses.stands,
      record { station = refuses.station; refusal = b.Many part step; past = refuses.past; shows = shows },
    )
told drawing (e.Wide bay) number place refuses shows =
    inr (
      refuses.diagram,
      refuses.stands,
      record { station = refuses.station; refusal = b.Wide bay; past = refuses.past; shows = shows },
    )
told drawing (e.Written o) number place refuses shows = absurd shows
told drawing e.Usage number place refuses shows = absurd shows
told drawing e.ReadFault number place refuses shows = absurd shows
told drawing e.WriteFault number place refuses shows = absurd shows
told drawing (e.Input r) number place refuses shows = absurd shows
told drawing e.Long number place refuses shows = absurd shows
told drawing e.Memory number place refuses shows = absurd shows

-- how a command ends that refuses the drawing so
abbrev Ends : List ℕ → ℕ → ℕ → Type 0
Ends drawing number place = (end : End) × Refuses Drawing drawing end × ShowsRefusal end number place

past_limits : (drawing : List ℕ) (d : Diagram) (number place : ℕ) (r : BuildRefusal) → Stands drawing (Ok d) →
    IsStation d → IsBuildRefusal d r → ShowsLimit r number place → Ends drawing number place
past_limits drawing d number place b.Memory stands station past shows = absurd shows
past_limits drawing d number place (b.Many part step) stands station past shows =
    (e.Many part step, record { diagram = d; stands = stands; station = station; past = past }, shows)
past_limits drawing d number place (b.Wide bay) stands station past shows =
    (e.Wide bay, record { diagram = d; stands = stands; station = station; past = past }, shows)

ends : (drawing : List ℕ) (number place : ℕ) → RefusesDrawing drawing number place → Ends drawing number place
ends drawing number place =
    ⊎_elim (λ x. (e.Station x.refusal, x.stands, (x.number_is, x.place_is)))
    (λ x. past_limits drawing x.0 number place x.2.refusal x.1 x.2.station x.2.past x.2.shows)

pub refused_alike : (held : Held) (station drawing : List ℕ) → Holds held station drawing →
    IsRefusedAlike held station drawing
refused_alike held station drawing at = λ number place. (
  λ s. told drawing s.0 number place (refused_content held (File station) drawing at Drawing s.0 s.1) s.2,
  λ s.
      let x = ends drawing number place s in
      (x.0, (drawing, itself held (File station) drawing at, x.1), x.2),
)
