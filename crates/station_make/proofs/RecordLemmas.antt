-- The records of the log, part by part.
use Rattle.std.proofs.Common.{◌≡◌, ◌∙◌, ap, sym, append_assoc, append-nil, ℕ, ◌+◌, ◌*◌, List, [], ◌∷◌, ◌++◌, map, codes}
use Rattle.std.specs.List.{range_with_len}
use Rattle.std.proofs.lemmas.Grind.{flat_map-append}
use Rattle.std.proofs.lemmas.List.{map-append}
use Rattle.station_make.specs.declared.equipment.Switch.{Switch}
use Rattle.station_make.specs.PositionsText.{lines_text}
use Rattle.station_make.specs.EventsText.{at_record, sense_record, command_records, deliver_record, drive_records}
use Rattle.station_make.specs.EventsText.{events_of}
use Rattle.station_make.proofs.Numbers.{range_with_len-more}

-- the records of six parts are those of each, in turn
lines_text-six : (a b c d e f : List (List ℕ)) →
    lines_text (a ++ b ++ c ++ d ++ e ++ f)
    ≡ lines_text a ++ lines_text b ++ lines_text c ++ lines_text d ++ lines_text e ++ lines_text f
lines_text-six a b c d e f = simp flat_map-append

-- three records are each in turn
pub lines_text-three : (a b c : List ℕ) (whole : List ℕ) (old : List ℕ) →
    whole ≡ old ++ (lines_text (a ∷ []) ++ lines_text (b ∷ []) ++ lines_text (c ∷ [])) →
    whole ≡ old ++ lines_text (a ∷ b ∷ c ∷ [])
lines_text-three a b c whole old each = each ∙ ap (λ t. old ++ t) (sym (simp (append-nil, append_assoc)))

-- one message more
pub lines_text-more : (first count next : ℕ) (old now new : List ℕ) → next ≡ first + count →
    now ≡ old ++ lines_text (map deliver_record (range_with_len first count)) →
    new ≡ now ++ deliver_record next ++ codes "\n"
    → new ≡ old ++ lines_text (map deliver_record (range_with_len first (count + 1)))
lines_text-more first count next old now new is before appended =
    let delivered = map deliver_record (range_with_len first count) in
    let more : lines_text (map deliver_record (range_with_len first (count + 1)))
    ≡ lines_text delivered ++ (deliver_record next ++ codes "\n") =
    ap (λ ns. lines_text (map deliver_record ns)) (range_with_len-more first count next is)
    ∙ ap lines_text (map-append deliver_record (range_with_len first count) (next ∷ []))
    ∙ flat_map-append (λ r. r ++ codes "\n") delivered (deliver_record next ∷ [])
    ∙ ap (λ s. lines_text delivered ++ s) (append-nil (deliver_record next ++ codes "\n")) in
    appended
    ∙ append_assoc now (deliver_record next) (codes "\n")
    ∙ ap (λ s. s ++ (deliver_record next ++ codes "\n")) before
    ∙ append_assoc old (lines_text delivered) (deliver_record next ++ codes "\n")
    ∙ ap (λ s. old ++ s) (sym more)

-- the log is its parts in turn: where the switches stand, what is read, the command, what is delivered
-- before the drive runs, the drive, and what is delivered after it
pub whole_log : (feeders : ℕ) (s : List Switch) (start whole : List ℕ) → start ≡ []
    → whole
    ≡ start
    ++ (lines_text (map at_record s) ++ lines_text (map sense_record s) ++ lines_text command_records
    ++ lines_text (map deliver_record (range_with_len 1 (2 * feeders))) ++ lines_text drive_records
    ++ lines_text (map deliver_record (range_with_len (2 * feeders + 1) feeders)))
    → whole ≡ lines_text (events_of feeders s)
whole_log feeders s start whole empty parts =
    let six =
    lines_text-six (map at_record s) (map sense_record s) command_records
    (map deliver_record (range_with_len 1 (2 * feeders))) drive_records
    (map deliver_record (range_with_len (2 * feeders + 1) feeders)) in
    parts
    ∙ ap (λ (t : List ℕ). t
    ++ (lines_text (map at_record s) ++ lines_text (map sense_record s) ++ lines_text command_records
    ++ lines_text (map deliver_record (range_with_len 1 (2 * feeders))) ++ lines_text drive_records
    ++ lines_text (map deliver_record (range_with_len (2 * feeders + 1) feeders)))) empty
    ∙ sym six
