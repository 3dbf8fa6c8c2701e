-- What comes of opening a drawing.
use Rattle.std.specs.Prelude.{◌≡◌, ◌⊎◌, ⊤, ℕ, List, Option}
use Rattle.page_questions.specs.Drawings.{IsDrawingOf, RefusesDrawing}
use Rattle.page_judge.specs.Desk.{Keeps}
use Rattle.page_judge.specs.declared.kept.Kept.{Kept}
use Rattle.page_judge.specs.declared.told.Told.{Told}
use Rattle.page_judge.specs.declared.told.TheConstants.{DONE, DRAWING, MEMORY}
use Rattle.page_judge.specs.declared.opening.DrawingFault.{DrawingFault}
use Rattle.page_judge.specs.declared.opening.DrawingFault.TheVariants as f

-- A drawing is opened: its station is kept from now on; or it is refused, or memory is wanting, and what was kept
-- before still is.
abbrev pub Opens : List ℕ → Option Kept → Option Kept → ℕ → Told → Type 0
Opens drawing before after code told =
    ((code ≡ DONE) × Keeps after (IsDrawingOf drawing))
    ⊎ ((code ≡ DRAWING) × (after ≡ before) × RefusesDrawing drawing told.number told.place)
    ⊎ ((code ≡ MEMORY) × (after ≡ before))

-- Of a fault that is no want of memory, this holds of what is shown.
abbrev pub ForShown : DrawingFault → (ℕ → ℕ → Type 0) → Type 0
ForShown f.Memory P = ⊤
ForShown (f.Refused number place) P = P number place
