-- What a bay knows at a line, by the lines.
use Rattle.std.specs.Prelude.{◌≡◌, ◌≢◌, ◌==◌, ◌&&◌, ℕ, zero, suc, Bool, true, false, List, [], ◌∷◌, length, Option}
use Rattle.std.specs.Prelude.{Some, None, if◌then◌else◌}
use Rattle.ilk_base.specs.declared.words.Dbpos.{Dbpos}
use Rattle.station_graph.specs.Diagram.{Diagram, part_count}
use Rattle.central_rules.specs.Knowledge.{Known}
use Rattle.central_rules.specs.Meaning.{bay_of}
use Rattle.bay_protocol.specs.State.{IsOther, is_another, others}
use Rattle.bay_protocol.specs.declared.values.Outcome.{Outcome}
use Rattle.bay_protocol.specs.declared.values.Outcome.TheVariants.{Granted, Denied, Collecting}
use Rattle.reservation_core.specs.declared.values.WorldEvent.{WorldEvent}
use Rattle.reservation_core.specs.declared.values.WorldEvent.TheVariants.{Command, Deliver, Tick}
use Rattle.reservation_core.specs.Lines.{MessageKind, Message, Line, of_bay}
use Rattle.reservation_core.specs.History.{or_else, reading_at, Sending, sending, Opened, collecting, last_round}

-- The values at 0, 1 and so on, so many.
abbrev pub listed : {A : Type 0} → (ℕ → A) → ℕ → List A
listed f zero = []
listed f (suc n) = f zero ∷ listed (λ i. f (suc i)) n

-- The words of all switches.
abbrev pub words_at : Diagram → List Line → List Dbpos
words_at d lines = listed (reading_at d lines) (length d.switches)

-- The message is an answer.
abbrev pub is_answer : MessageKind → Bool
is_answer MessageKind.answer = true
is_answer kind = false

-- The round is this one.
abbrev pub is_round : ℕ → Option ℕ → Bool
is_round r (Some q) = r == q
is_round r None = false

-- The message is an answer from b to c with this round.
abbrev pub answers : Message → ℕ → ℕ → Option ℕ → Bool
answers x b c r = is_answer x.kind && (x.from == b && (x.to == c && is_round x.round r))

-- What such a message tells: the words of b at the line at which it was sent.
abbrev pub words_told : Diagram → Option Sending → ℕ → ℕ → Option ℕ → Option (List Dbpos)
words_told d (Some s) b c r = if answers s.message b c r then Some (words_at d s.lines) else None
words_told d None b c r = None

-- The message that an event delivers.
abbrev pub delivered : WorldEvent → List Line → Option Sending
delivered (Deliver n) before = sending before n
delivered event before = None

-- A new round has heard nothing; else what is told now counts, or what was heard before.
abbrev pub heard_after : Outcome → Option (List Dbpos) → Option (List Dbpos) → Option (List Dbpos)
heard_after (Collecting r) new was = None
heard_after outcome new was = or_else new was

-- The words of b that an answer has last told c in its round.
abbrev pub heard : Diagram → List Line → ℕ → ℕ → Option (List Dbpos)
heard d [] c b = None
heard d (l ∷ before) c b =
    heard_after (of_bay l.shown c) (words_told d (delivered l.event before) b c (last_round before c))
    (heard d before c b)

-- The same of other bays than c alone.
abbrev pub heard_of : Diagram → List Line → ℕ → ℕ → Option (List Dbpos)
heard_of d lines c b = if is_another d c b then heard d lines c b else None

-- What c has heard of each part.
abbrev pub heard_by : Diagram → List Line → ℕ → List (Option (List Dbpos))
heard_by d lines c = listed (heard_of d lines c) (part_count d)

-- All others are heard.
abbrev pub AreAllHeard : Diagram → List Line → ℕ → Type 0
AreAllHeard d lines c = (b : ℕ) → IsOther d c b → heard d lines c b ≢ None

-- The outcome is a verdict on the command of this round.
abbrev pub IsVerdictOn : Outcome → Opened → Type 0
IsVerdictOn (Granted r op) o = (r ≡ o.round) × (op ≡ o.op)
IsVerdictOn (Denied r op rule reading) o = (r ≡ o.round) × (op ≡ o.op)
IsVerdictOn outcome o = ⊥

-- The line decides a round of bay c: the round was being collected, and the line is a tick in c, or a delivery
-- after which all others are heard; or it is the command that opens the round, and there are no others.
pub data DecidesRound (d : Diagram) (before : List Line) (l : Line) (c : ℕ) (o : Opened) : Type 0 where
  at_tick : collecting before c ≡ Some o → l.event ≡ Tick (record { 0 = c }) → DecidesRound d before l c o
  all_heard : (n : ℕ) → collecting before c ≡ Some o → l.event ≡ Deliver n → AreAllHeard d (l ∷ before) c →
      DecidesRound d before l c o
  alone : l.event ≡ Command o.op → bay_of d o.op.switch.0 ≡ c → others d c ≡ [] → IsVerdictOn (of_bay l.shown c) o →
      DecidesRound d before l c o

-- What bay c knows at a line that decides: its own words before the line, and what it has heard at the line.
abbrev pub known_at : Diagram → List Line → Line → ℕ → Known
known_at d before l c = record { bay = c; own = words_at d before; heard = heard_by d (l ∷ before) c }
