-- What a granted operation used: the breakers that its bay knew to be on at the grant, each with the line at which that
-- word was read.
use Rattle.std.specs.Prelude.{◌≡◌, ◌≢◌, ◌≤◌, ◌⊎◌, ◌==◌, ℕ, Bool, false, List, [], ◌∷◌, Option, Some, None, is_some}
use Rattle.std.specs.Prelude.{if◌then◌else◌}
use Rattle.ilk_base.specs.declared.words.Dbpos.TheVariants.{On}
use Rattle.ilk_base.specs.declared.words.Op.{Op}
use Rattle.station_graph.specs.Diagram.{Diagram}
use Rattle.central_rules.specs.Meaning.{bay_of}
use Rattle.bay_protocol.specs.declared.values.Outcome.{Outcome}
use Rattle.bay_protocol.specs.declared.values.Outcome.TheVariants.{Granted, Collecting}
use Rattle.reservation_core.specs.Lines.{Shown, of_bay}
use Rattle.reservation_core.specs.History.{or_else, with_number, Sending, sending, reading_at, last_round}
use Rattle.reservation_core.specs.Hearing.{answers}
use Rattle.reservation_core.specs.Headline.{EndsIt}
use Rattle.reservation_core.specs.declared.values.WorldEvent.{WorldEvent}
use Rattle.reservation_core.specs.declared.values.WorldEvent.TheVariants.{Deliver}
use Rattle.trip_core.specs.declared.values.Note.{Note}
use Rattle.trip_core.specs.declared.values.TripEvent.{TripEvent}
use Rattle.trip_core.specs.declared.values.TripEvent.TheVariants.{Step, Trip}
use Rattle.trip_core.specs.Trips.{IsBreaker, IsOwnOrPartner, lost}
use Rattle.trip_core.specs.TripLines.{TripLine, plain, sensed_line, tripped_line}

-- The lines up to that which shows the message of this number.
abbrev pub sent_by : List TripLine → ℕ → List TripLine
sent_by [] n = []
sent_by (l ∷ before) n = if is_some (with_number n l.shown.messages) then l ∷ before else sent_by before n

-- It was shown as an answer from b to c with this round.
abbrev pub is_answer_from : Option Sending → ℕ → ℕ → Option ℕ → Bool
is_answer_from (Some s) b c r = answers s.message b c r
is_answer_from None b c r = false

-- The lines up to the sending of the answer of b that the event delivers to c in its round, if it does.
abbrev pub told_by_line : WorldEvent → List TripLine → ℕ → ℕ → Option (List TripLine)
told_by_line (Deliver n) before b c = if is_answer_from (sending (plain before) n) b c (last_round
    (plain before) c) then Some (sent_by before n) else None
told_by_line event before b c = None

-- A new round has heard nothing; else what is told now counts, or what was heard before.
abbrev pub heard_then : Outcome → Option (List TripLine) → Option (List TripLine) → Option (List TripLine)
heard_then (Collecting r) new was = None
heard_then outcome new was = or_else new was

-- What a line makes of it: a trip tells nobody.
abbrev pub heard_at_line : TripEvent → Shown → List TripLine → ℕ → ℕ → Option (List TripLine) → Option (List TripLine)
heard_at_line (Step e) s before c b was = heard_then (of_bay s c) (told_by_line e before b c) was
heard_at_line (Trip i) s before c b was = was

-- The lines up to the sending of the answer of b that c has last heard in its round.
abbrev pub heard_lines : List TripLine → ℕ → ℕ → Option (List TripLine)
heard_lines [] c b = None
heard_lines (l ∷ before) c b = heard_at_line l.event l.shown before c b (heard_lines before c b)

-- The word of switch i, and the line at which it was read.
abbrev pub line_note : Diagram → List TripLine → ℕ → Note
line_note d lines i = record { word = reading_at d (plain lines) i; at = sensed_line lines i }

-- The note on switch i that was told of the lines up to one, if any was.
abbrev pub heard_note_at : Diagram → Option (List TripLine) → ℕ → Note
heard_note_at d (Some lines) i = line_note d lines i
heard_note_at d None i = lost

-- The note on switch i that bay c knew at line l: of an own switch that before the line, of another that which it has
-- heard.
abbrev pub known_note : Diagram → TripLine → List TripLine → ℕ → ℕ → Note
known_note d l before c i = if bay_of d i == c then line_note d before i else heard_note_at d (heard_lines
    (l ∷ before) c (bay_of d i)) i

-- Line l, in front of these, granted the operation to bay c in round r, and no line after it shows its end.
abbrev pub GrantedAt : List TripLine → ℕ → ℕ → Op → TripLine → List TripLine → Type 0
GrantedAt [] c r op l before = ⊥
GrantedAt (x ∷ rest) c r op l before = ((of_bay x.shown c ≡ Granted r op) × (x ≡ l) × (rest ≡ before)) ⊎
    (GrantedAt rest c r op l before × (¬ EndsIt (of_bay x.shown c) r))

-- None of the breakers that it used has tripped after the line at which its word was read. It used each breaker of its
-- bay and of the bay's partners, other than the moved switch, whose word that its bay knew is on: one that was off stood
-- open, and a trip leaves it so.
abbrev pub NoneTripped : Diagram → List TripLine → ℕ → Op → TripLine → List TripLine → Type 0
NoneTripped d lines c op l before = (i : ℕ) → IsBreaker d i → IsOwnOrPartner d (bay_of d i) c → i ≢ op.switch.0
    → (known_note d l before c i).word ≡ On → tripped_line lines i ≤ (known_note d l before c i).at
