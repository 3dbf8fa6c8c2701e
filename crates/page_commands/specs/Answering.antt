-- What a question of a page is to a command.
use Rattle.std.specs.Prelude.{◌≡◌, ◌↔◌, ℕ, Bool, List, Option, Some, unwrap_or}
use Rattle.ilk_base.specs.declared.words.InputRefusal.{InputRefusal}
use Rattle.station_graph.specs.Diagram.{Diagram}
use Rattle.ssd_read.specs.Shown as shown
use Rattle.page_questions.specs.Drawings.{IsDrawingOf, RefusesDrawing}
use Rattle.interlock_cli.specs.Commands.{Command, form_of}
use Rattle.interlock_cli.specs.Formats.{Drawing}
use Rattle.interlock_cli.specs.Form.{File, Refused, FormSays, FormStops}
use Rattle.interlock_cli.specs.OrderWrites.{done_or_differs}
use Rattle.interlock_cli.specs.declared.end.Outcome.{Outcome}
use Rattle.interlock_cli.specs.declared.end.End.{End}
use Rattle.interlock_cli.specs.declared.end.End.TheVariants.{Station, Many, Wide, Input}

-- What the files hold, by their names.
abbrev pub Held : Type 0
Held = List ℕ → Option (List ℕ)

-- The file of this name holds this.
abbrev pub Holds : Held → List ℕ → List ℕ → Type 0
Holds held name content = held name ≡ Some content

-- The drawing is opened, and this holds of its station.
abbrev pub OfDrawing : List ℕ → (Diagram → Type 0) → Type 0
OfDrawing drawing P = (d : Diagram) × IsDrawingOf drawing d × P d

-- Over these files the command writes exactly the texts that the question has of the station of this drawing, and ends
-- with `Differs` exactly where that is told beside the text; and it refuses the input exactly as the question does, with
-- the same number and in the same line.
pub record IsAskedBy (held : Held) (command : Command) (drawing : List ℕ) (Says : Diagram → Bool → List ℕ → Type 0)
    (Refuses : Diagram → InputRefusal → Type 0) : Type 0 where
  pub writes : (outcome : Outcome) (text : List ℕ) → FormSays (form_of command) held outcome text
      ↔ ((differs : Bool) × (outcome ≡ done_or_differs differs) × OfDrawing drawing (λ d. Says d differs text))
  pub refuses : (before after : List ℕ → ℕ) (refusal : InputRefusal) →
      FormStops (form_of command) held before after (Input refusal) ↔ OfDrawing drawing (λ d. Refuses d refusal)

-- A call that ends so has refused a drawing, with this number and the byte, part or bay of its line, 0 where none is told.
abbrev pub ShowsRefusal : End → ℕ → ℕ → Type 0
ShowsRefusal (Station refusal) number place =
    (number ≡ unwrap_or (shown.number refusal) 0) × (place ≡ unwrap_or (shown.place refusal) 0)
ShowsRefusal (Many part step) number place = (number ≡ 16) × (place ≡ part.0)
ShowsRefusal (Wide bay) number place = (number ≡ 17) × (place ≡ bay.0)
ShowsRefusal _ number place = ⊥

-- A command that takes the drawing of this file refuses it exactly where the page does not open it, with the same number
-- and place.
abbrev pub IsRefusedAlike : Held → List ℕ → List ℕ → Type 0
IsRefusedAlike held station drawing = (number place : ℕ) →
    ((end : End) × Refused held (File station) Drawing end × ShowsRefusal end number place)
    ↔ RefusesDrawing drawing number place
