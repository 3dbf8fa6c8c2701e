-- No text is a log and refused as one.
use Rattle.std.proofs.Common.{◌≡◌, ◌<◌, ◌+◌, ◌*◌, ◌==◌, ◌∙◌, sym, ap, refl, subst, ℕ, zero, suc, Bool, true, false}
use Rattle.std.proofs.Common.{List, [], ◌∷◌, length, take, Some, Contains, inl, inr, arith, if◌then◌else◌}
use Rattle.std.specs.Prelude.{slice_get, slice_index_or}
use Rattle.std.specs.List.{AllZip, list_any}
use Rattle.std.proofs.lemmas.Option.{slice_get_within, slice_get-get_or}
use Rattle.ilk_base.specs.declared.words.InputRefusal.{InputRefusal}
use Rattle.station_graph.specs.Diagram.{Diagram, IsStation, switch_path}
use Rattle.double_points.specs.Rows.{rows_of}
use Rattle.reservation_core.specs.declared.values.LogEvent.{LogEvent}
use Rattle.reservation_core.specs.declared.values.LogEvent.TheVariants.{At as TellsAt, Step}
use Rattle.reservation_core.specs.declared.values.WorldEvent.TheVariants as event
use Rattle.log_replay.specs.declared.kinds.RecordKind.{RecordKind}
use Rattle.log_replay.specs.declared.kinds.RecordKind.TheVariants.{At, Command, Sense, Begin, End, Deliver, Tick}
use Rattle.log_replay.specs.declared.kinds.RecordKind.TheVariants.{Withdraw, Restart, Part, Cut}
use Rattle.log_replay.specs.declared.limits.TheConstants.{MOST_RECORDS}
use Rattle.log_replay.specs.Records.{RecordSays, MayBeTold, event_row, is_step, is_told_of, has_step, tell_of}
use Rattle.log_replay.specs.RecordFaults.{kind_name, field, HasForm, IsLate, IsKnown, IsWord, IsAgain, AreNumbers}
use Rattle.log_replay.specs.RecordFaults.{KindFault, RecordFault}
use Rattle.log_replay.specs.Log.{IsText, MayFollow, IsLog, IsLogFault}
use Rattle.log_replay.proofs.RecordLemmas.{there}
use Rattle.log_replay.proofs.ReportLemmas.{each_at}

-- ---- kinds

abbrev pub kind_of : LogEvent → RecordKind
kind_of (TellsAt i closed) = At
kind_of (Step (event.Command op)) = Command
kind_of (Step (event.Sense i word)) = Sense
kind_of (Step (event.Deliver n)) = Deliver
kind_of (Step (event.Tick b)) = Tick
kind_of (Step (event.Withdraw b)) = Withdraw
kind_of (Step (event.Restart b)) = Restart
kind_of (Step (event.Begin i)) = Begin
kind_of (Step (event.End i)) = End
kind_of (Step (event.Part n bytes)) = Part
kind_of (Step (event.Cut i)) = Cut

first_field : (d : Diagram) (e : LogEvent) → field (event_row d e) 0 ≡ kind_name (kind_of e)
first_field d (TellsAt i closed) = refl
first_field d (Step (event.Command op)) = refl
first_field d (Step (event.Sense i word)) = refl
first_field d (Step (event.Deliver n)) = refl
first_field d (Step (event.Tick b)) = refl
first_field d (Step (event.Withdraw b)) = refl
first_field d (Step (event.Restart b)) = refl
first_field d (Step (event.Begin i)) = refl
first_field d (Step (event.End i)) = refl
first_field d (Step (event.Part n bytes)) = refl
first_field d (Step (event.Cut i)) = refl

-- a number for each name of a kind
abbrev mark : List ℕ → ℕ
mark text = 256 * length text + slice_index_or text 0 0

abbrev of_mark : ℕ → RecordKind
of_mark n = if n == 609 then At else if n == 1891 then Command else if n == 1395 then Sense else if n == 1892 then
    Deliver else if n == 1140 then Tick else if n == 2167 then Withdraw else if n == 1906 then Restart else if n == 1378
    then Begin else if n == 869 then End else if n == 1136 then Part else Cut

marked : (k : RecordKind) → of_mark (mark (kind_name k)) ≡ k
marked At = refl
marked Command = refl
marked Sense = refl
marked Deliver = refl
marked Tick = refl
marked Withdraw = refl
marked Restart = refl
marked Begin = refl
marked End = refl
marked Part = refl
marked Cut = refl

one_kind : (j k : RecordKind) → kind_name j ≡ kind_name k → j ≡ k
one_kind j k is = sym (marked j) ∙ ap (λ (text : List ℕ). of_mark (mark text)) is ∙ marked k

pub of_row : (d : Diagram) (row : List (List ℕ)) (e : LogEvent) → RecordSays d row e → field row 0
    ≡ kind_name (kind_of e)
of_row d row e says = ap (λ (r : List (List ℕ)). field r 0) says.written ∙ first_field d e

-- ---- what a record says has no fault

form_of : (d : Diagram) (e : LogEvent) → IsText (event_row d e) → HasForm (kind_of e) (event_row d e)
form_of d (TellsAt i closed) texts = record { count = refl; texts = texts }
form_of d (Step (event.Command op)) texts = record { count = refl; texts = texts }
form_of d (Step (event.Sense i word)) texts = record { count = refl; texts = texts }
form_of d (Step (event.Deliver n)) texts = record { count = refl; texts = texts }
form_of d (Step (event.Tick b)) texts = record { count = refl; texts = texts }
form_of d (Step (event.Withdraw b)) texts = record { count = refl; texts = texts }
form_of d (Step (event.Restart b)) texts = record { count = refl; texts = texts }
form_of d (Step (event.Begin i)) texts = record { count = refl; texts = texts }
form_of d (Step (event.End i)) texts = record { count = refl; texts = texts }
form_of d (Step (event.Part n bytes)) texts = record { count = refl; texts = texts }
form_of d (Step (event.Cut i)) texts = record { count = refl; texts = texts }

not_late : (before : List LogEvent) (e : LogEvent) → MayFollow before e → IsLate before (kind_of e) → ⊥
not_late before (TellsAt i closed) follows late = let no = follows.0 in cc (no, late)
not_late before (Step (event.Command op)) follows late = late
not_late before (Step (event.Sense i word)) follows late = late
not_late before (Step (event.Deliver n)) follows late = late
not_late before (Step (event.Tick b)) follows late = late
not_late before (Step (event.Withdraw b)) follows late = late
not_late before (Step (event.Restart b)) follows late = late
not_late before (Step (event.Begin i)) follows late = late
not_late before (Step (event.End i)) follows late = late
not_late before (Step (event.Part n bytes)) follows late = late
not_late before (Step (event.Cut i)) follows late = late

known_switch : (d : Diagram) (i : ℕ) → IsStation d → i < length d.switches → Contains d.switch_paths (switch_path d i)
known_switch d i station lt = there d.switch_paths i (omega (arith, lt, station.items.paths))

is_known : (d : Diagram) (e : LogEvent) → IsStation d → MayBeTold d e → IsKnown d (kind_of e) (field (event_row d e) 1)
is_known d (TellsAt i closed) station told = known_switch d i.0 station told
is_known d (Step (event.Command op)) station told = known_switch d op.switch.0 station told.0
is_known d (Step (event.Sense i word)) station told = known_switch d i.0 station told.0
is_known d (Step (event.Deliver n)) station told = tt
is_known d (Step (event.Tick b)) station told = (b.0, slice_get-get_or d.part_paths b.0 [] told.0.0, told.0.1)
is_known d (Step (event.Withdraw b)) station told = (b.0, slice_get-get_or d.part_paths b.0 [] told.0.0, told.0.1)
is_known d (Step (event.Restart b)) station told = (b.0, slice_get-get_or d.part_paths b.0 [] told.0.0, told.0.1)
is_known d (Step (event.Begin i)) station told = known_switch d i.0 station told.0
is_known d (Step (event.End i)) station told = known_switch d i.0 station told.0
is_known d (Step (event.Part n bytes)) station told = tt
is_known d (Step (event.Cut i)) station told = known_switch d i.0 station told.0

is_word : (d : Diagram) (e : LogEvent) → IsWord (kind_of e) (field (event_row d e) 2)
is_word d (TellsAt i closed) = (closed, refl)
is_word d (Step (event.Command op)) = (op.direction, refl)
is_word d (Step (event.Sense i word)) = (word, refl)
is_word d (Step (event.Deliver n)) = tt
is_word d (Step (event.Tick b)) = tt
is_word d (Step (event.Withdraw b)) = tt
is_word d (Step (event.Restart b)) = tt
is_word d (Step (event.Begin i)) = tt
is_word d (Step (event.End i)) = tt
is_word d (Step (event.Part n bytes)) = tt
is_word d (Step (event.Cut i)) = tt

at_place : (d : Diagram) (i : ℕ) → IsStation d → i < length d.switches →
    slice_get d.switch_paths i ≡ Some (switch_path d i)
at_place d i station lt = slice_get-get_or d.switch_paths i [] (omega (arith, lt, station.items.paths))

one_path : (d : Diagram) (i j : ℕ) → IsStation d → i < length d.switches → j < length d.switches →
    switch_path d i ≡ switch_path d j → i ≡ j
one_path d i j station low high is = station.paths_differ.switches i j (switch_path d j) (at_place d i station low
    ∙ ap Some is) (at_place d j station high)

not_again : (d : Diagram) (before : List LogEvent) (e : LogEvent) → IsStation d → MayBeTold d e → MayFollow before e →
    IsAgain d before (kind_of e) (field (event_row d e) 1) → ⊥
not_again d before (TellsAt j closed) station told follows (i, path, lt, again) =
    let same : j.0 ≡ i = one_path d j.0 i station told lt path in
    let no : tell_of i before ≡ false = ap (λ (s : ℕ). tell_of s before) (sym same) ∙ follows.1 in
    cc (no, again)
not_again d before (Step (event.Command op)) station told follows again = again
not_again d before (Step (event.Sense i word)) station told follows again = again
not_again d before (Step (event.Deliver n)) station told follows again = again
not_again d before (Step (event.Tick b)) station told follows again = again
not_again d before (Step (event.Withdraw b)) station told follows again = again
not_again d before (Step (event.Restart b)) station told follows again = again
not_again d before (Step (event.Begin i)) station told follows again = again
not_again d before (Step (event.End i)) station told follows again = again
not_again d before (Step (event.Part n bytes)) station told follows again = again
not_again d before (Step (event.Cut i)) station told follows again = again

are_numbers : (d : Diagram) (e : LogEvent) → MayBeTold d e → AreNumbers (kind_of e) (field (event_row d e) 1)
    (field (event_row d e) 2)
are_numbers d (TellsAt i closed) told = tt
are_numbers d (Step (event.Command op)) told = tt
are_numbers d (Step (event.Sense i word)) told = tt
are_numbers d (Step (event.Deliver n)) told = (n, record { written = refl; low = told.1.0; high = told.1.1 })
are_numbers d (Step (event.Tick b)) told = tt
are_numbers d (Step (event.Withdraw b)) told = tt
are_numbers d (Step (event.Restart b)) told = tt
are_numbers d (Step (event.Begin i)) told = tt
are_numbers d (Step (event.End i)) told = tt
are_numbers d (Step (event.Part n bytes)) told = (
  (n, record { written = refl; low = told.1.0.0; high = told.1.0.1 }),
  (bytes, record { written = refl; low = omega arith; high = told.1.1 }),
)
are_numbers d (Step (event.Cut i)) told = tt

no_kind_fault : (d : Diagram) (before : List LogEvent) (e : LogEvent) (number : ℕ) → IsStation d →
    IsText (event_row d e) → MayBeTold d e → MayFollow before e →
    KindFault d before (kind_of e) (event_row d e) number → ⊥
no_kind_fault d before e number station texts told follows (KindFault.no_form none is) = none (form_of d e texts)
no_kind_fault d before e number station texts told follows (KindFault.late form late is) =
    not_late before e follows late
no_kind_fault d before e number station texts told follows (KindFault.unknown form early none is) =
    none (is_known d e station told)
no_kind_fault d before e number station texts told follows (KindFault.no_word form early known none is) =
    none (is_word d e)
no_kind_fault d before e number station texts told follows (KindFault.again form early known word again is) =
    not_again d before e station told follows again
no_kind_fault d before e number station texts told follows (KindFault.no_number form early known word once none is) =
    none (are_numbers d e told)

pub no_fault : (d : Diagram) (before : List LogEvent) (row : List (List ℕ)) (e : LogEvent) (number : ℕ) → IsStation d →
    RecordSays d row e → IsText row → MayFollow before e → length before < MOST_RECORDS
    → RecordFault d before row number → ⊥
no_fault d before row e number station says texts follows few (RecordFault.too_many many is) = omega (arith, few, many)
no_fault d before row e number station says texts follows few (RecordFault.no_kind room none is) =
    none (kind_of e) (of_row d row e says)
no_fault d before row e number station says texts follows few (RecordFault.of_kind k room named fault) =
    let same : k ≡ kind_of e = one_kind k (kind_of e) (sym named ∙ of_row d row e says) in
    let it : KindFault d before (kind_of e) row number = subst (λ (x : RecordKind). KindFault d before x row number)
    same fault in
    no_kind_fault d before e number station (subst IsText says.written texts) says.told follows
    (subst (λ (r : List (List ℕ)). KindFault d before (kind_of e) r number) says.written it)

-- ---- what records say

abbrev step_kind : RecordKind → Bool
step_kind At = false
step_kind k = true

step_is : (e : LogEvent) → is_step e ≡ step_kind (kind_of e)
step_is (TellsAt i closed) = refl
step_is (Step (event.Command op)) = refl
step_is (Step (event.Sense i word)) = refl
step_is (Step (event.Deliver n)) = refl
step_is (Step (event.Tick b)) = refl
step_is (Step (event.Withdraw b)) = refl
step_is (Step (event.Restart b)) = refl
step_is (Step (event.Begin i)) = refl
step_is (Step (event.End i)) = refl
step_is (Step (event.Part n bytes)) = refl
step_is (Step (event.Cut i)) = refl

kinds_same : (d : Diagram) (row : List (List ℕ)) (x y : LogEvent) → RecordSays d row x → RecordSays d row y → kind_of x
    ≡ kind_of y
kinds_same d row x y a b = one_kind (kind_of x) (kind_of y) (sym (of_row d row x a) ∙ of_row d row y b)

pub steps_same : (d : Diagram) (row : List (List ℕ)) (x y : LogEvent) → RecordSays d row x → RecordSays d row y →
    is_step x ≡ is_step y
steps_same d row x y a b = step_is x ∙ ap step_kind (kinds_same d row x y a b) ∙ sym (step_is y)

pub told_same : (d : Diagram) (s : ℕ) → IsStation d → (row : List (List ℕ)) (x y : LogEvent) → RecordSays d row x →
    RecordSays d row y →
    is_told_of s x ≡ is_told_of s y
told_same d s station row (TellsAt i closed) (TellsAt j shut) a b =
    let path : switch_path d i.0 ≡ switch_path d j.0 = ap (λ (r : List (List ℕ)). field r 1) (sym a.written
    ∙ b.written) in
    ap (λ (n : ℕ). n == s) (one_path d i.0 j.0 station a.told b.told path)
told_same d s station row (TellsAt i closed) (Step e) a b = let is = steps_same d row (TellsAt i closed) (Step e) a b in
    absurd (cc is)
told_same d s station row (Step e) (TellsAt j shut) a b = let is = steps_same d row (Step e) (TellsAt j shut) a b in
    absurd (cc is)
told_same d s station row (Step e) (Step f) a b = refl

any_same : (d : Diagram) (test : LogEvent → Bool) → ((row : List (List ℕ)) (x y : LogEvent) → RecordSays d row x →
    RecordSays d row y → test x ≡ test y) → (rows : List (List (List ℕ))) (events before : List LogEvent)
    → AllZip (RecordSays d) rows events → AllZip (RecordSays d) (take (length before) rows) before →
    list_any test before ≡ list_any test (take (length before) events)
any_same d test same rows events [] a b = refl
any_same d test same [] events (y ∷ before) a b = absurd b
any_same d test same (row ∷ rows) [] (y ∷ before) a b = absurd a
any_same d test same (row ∷ rows) (x ∷ events) (y ∷ before) a b =
    let first = same row y x b.0 a.0 in
    let rest = any_same d test same rows events before a.1 b.1 in
    rw (first, rest) refl

said_at : (d : Diagram) (rows : List (List (List ℕ))) (events : List LogEvent) (k : ℕ) (row : List (List ℕ)) →
    AllZip (RecordSays d) rows events → slice_get rows k ≡ Some row → (e : LogEvent) × (slice_get events k ≡ Some e)
    × RecordSays d row e
said_at d [] events k row a at = absurd (cc at)
said_at d (r ∷ rows) [] k row a at = absurd a
said_at d (r ∷ rows) (x ∷ events) zero row a at = let same : r ≡ row = cc at in
    (x, refl, subst (λ (y : List (List ℕ)). RecordSays d y x) same a.0)
said_at d (r ∷ rows) (x ∷ events) (suc k) row a at = said_at d rows events k row a.1 at

pub follows_too : (before events : List LogEvent) (e : LogEvent) → has_step before ≡ has_step events →
    ((s : ℕ) → tell_of s before ≡ tell_of s events) → MayFollow events e → MayFollow before e
follows_too before events (TellsAt i closed) steps tells follows = (steps ∙ follows.0, tells i.0 ∙ follows.1)
follows_too before events (Step e) steps tells follows = tt

-- no text is a log and refused as one
pub log_not_refused : (d : Diagram) (bytes : List ℕ) (events : List LogEvent) (r : InputRefusal) → IsStation d →
    IsLog d bytes events → IsLogFault d bytes r → ⊥
log_not_refused d bytes events r station log (inl (long, is)) = omega (arith, log.few_bytes, long)
log_not_refused d bytes events r station log (inr (short, first)) =
    let rows = rows_of bytes in
    let k = length first.before in
    let said = said_at d rows events k first.row log.tell.each first.stands in
    let within = slice_get_within events k said.0 said.1 in
    let follows = follows_too first.before (take k events) said.0
    (any_same d is_step (steps_same d) rows events first.before log.tell.each first.tell.each)
    (λ s. any_same d (is_told_of s) (told_same d s station) rows events first.before log.tell.each first.tell.each)
    (log.tell.order k said.0 said.1) in
    no_fault d first.before first.row said.0 r.number station said.2 (each_at IsText rows k first.row log.tell.texts
    first.stands) follows (omega (arith, within, log.tell.few)) first.fault
