-- What a write into a slot does to the slots.
use Rattle.std.proofs.Common.{◌≡◌, ◌≤◌, ◌<◌, ◌+◌, ◌*◌, ◌-◌, ◌^◌, ◌++◌, ◌∷◌, [], zero, suc, inl, inr, ℕ, List, Bool}
use Rattle.std.proofs.Common.{true, false, ◌↔◌, length, take, drop, get_or, refl, sym, ◌∙◌, ap, subst, arith}
use Rattle.std.specs.Prelude.{IsTrue}
use Rattle.std.specs.Int.{w64, to_be_bytes, from_be_bytes}
use Rattle.std.proofs.lemmas.List.{get_or-drop, get_or-take, length-append, take-take, drop-take, drop-drop, take_at}
use Rattle.std.proofs.lemmas.List.{drop_at}
use Rattle.std.proofs.lemmas.Nat.{from_be_bytes-to_be_bytes_8}
use Rattle.bay_protocol.specs.declared.values.Kept.{Kept}
use Rattle.node_store.specs.declared.sizes.TheConstants.{SEQUENCE_BYTES, RECORD_BYTES, SLOT_BYTES, PIECE_BYTES}
use Rattle.node_store.specs.Device.{IsChangedWithin, IsWritten}
use Rattle.node_store.specs.Image.{slot, gate, sequence, record_bytes, IsOpen, IsRecordRow}
use Rattle.node_store.specs.Store.{MayClose, HoldsIfOpen}
use Rattle.node_store.proofs.Lists.{same_part}

-- the other slot stays
other_stays : (n at len : ℕ) (image c : List ℕ) → n < 2 → SLOT_BYTES * n ≤ at →
    at + len ≤ SLOT_BYTES * n + SLOT_BYTES → IsChangedWithin at len image c → slot c (1 - n) ≡ slot image (1 - n)
other_stays zero at len image c lt from to changed =
    same_part SLOT_BYTES SLOT_BYTES c image changed.size
    (λ k low high. changed.outside k (inr (omega (arith, to, low))))
other_stays (suc zero) at len image c lt from to changed =
    same_part SLOT_BYTES 0 c image changed.size (λ k low high. changed.outside k (inl (omega (arith, from, high))))
other_stays (suc (suc n)) at len image c lt from to changed = absurd (omega (arith, lt))

gate_is : (n : ℕ) (image : List ℕ) → gate (slot image n) ≡ get_or image (SLOT_BYTES * n) 0
gate_is n image =
    get_or-take SLOT_BYTES (drop (SLOT_BYTES * n) image) 0 0 (omega arith) ∙ get_or-drop (SLOT_BYTES * n) image 0 0
    ∙ ap (λ (k : ℕ). get_or image k 0) (let e : SLOT_BYTES * n + 0 ≡ SLOT_BYTES * n = omega arith in e)

-- a write behind the gate leaves it
gate_stays : (n len : ℕ) (image c : List ℕ) → IsChangedWithin (SLOT_BYTES * n + 1) len image c →
    gate (slot c n) ≡ gate (slot image n)
gate_stays n len image c changed =
    gate_is n c ∙ changed.outside (SLOT_BYTES * n) (inl (omega arith)) ∙ sym (gate_is n image)

rest_is : (n : ℕ) (image : List ℕ) → drop 1 (slot image n) ≡ take 31 (drop (SLOT_BYTES * n + 1) image)
rest_is n image =
    drop-take 1 31 (drop (SLOT_BYTES * n) image) ∙ ap (λ (l : List ℕ). take 31 l) (drop-drop 1 (SLOT_BYTES * n) image)

-- a write of the gate leaves the rest
rest_stays : (n : ℕ) (image c : List ℕ) → IsChangedWithin (SLOT_BYTES * n) 1 image c →
    drop 1 (slot c n) ≡ drop 1 (slot image n)
rest_stays n image c changed =
    rest_is n c ∙ same_part 31 (SLOT_BYTES * n + 1) c image changed.size (λ k low high. changed.outside k (inr low))
    ∙ sym (rest_is n image)

record_is : (s : List ℕ) → record_bytes s ≡ take RECORD_BYTES (drop SEQUENCE_BYTES (drop 1 s))
record_is s = ap (λ (l : List ℕ). take RECORD_BYTES l) (sym (drop-drop SEQUENCE_BYTES 1 s))

pub same_sequence : (s t : List ℕ) → drop 1 s ≡ drop 1 t → sequence s ≡ sequence t
same_sequence s t same = ap (λ (l : List ℕ). from_be_bytes w64 (take SEQUENCE_BYTES l)) same

same_record : (s t : List ℕ) → drop 1 s ≡ drop 1 t → record_bytes s ≡ record_bytes t
same_record s t same =
    record_is s ∙ ap (λ (l : List ℕ). take RECORD_BYTES (drop SEQUENCE_BYTES l)) same ∙ sym (record_is t)

module _ (n number : ℕ) (bytes image c : List ℕ) (fits : number < 2 ^ 64) (size : length bytes ≡ RECORD_BYTES)
    (written : IsWritten (SLOT_BYTES * n + 1) (to_be_bytes w64 number ++ bytes) image c) where
  abbrev X : List ℕ
  X = drop (SLOT_BYTES * n + 1) c

  piece : List ℕ
  piece = to_be_bytes w64 number ++ bytes

  whole : take PIECE_BYTES X ≡ to_be_bytes w64 number ++ bytes
  whole =
      ap (λ (k : ℕ). take k X) (let e : PIECE_BYTES ≡ length (to_be_bytes w64 number ++ bytes) =
      omega (arith, length-append (to_be_bytes w64 number) bytes, size) in
      e) ∙ written.inside

  wrote_sequence : sequence (slot c n) ≡ number
  wrote_sequence =
      ap (λ (l : List ℕ). from_be_bytes w64 (take SEQUENCE_BYTES l)) (rest_is n c)
      ∙ ap (λ (l : List ℕ). from_be_bytes w64 l) (take-take SEQUENCE_BYTES 31 X (omega arith)
      ∙ sym (take-take SEQUENCE_BYTES PIECE_BYTES X (omega arith))
      ∙ ap (λ (l : List ℕ). take SEQUENCE_BYTES l) whole ∙ take_at (to_be_bytes w64 number) bytes SEQUENCE_BYTES refl)
      ∙ from_be_bytes-to_be_bytes_8 number fits

  wrote_record : record_bytes (slot c n) ≡ bytes
  wrote_record =
      record_is (slot c n)
      ∙ ap (λ (l : List ℕ). take RECORD_BYTES (drop SEQUENCE_BYTES l)) (rest_is n c)
      ∙ ap (λ (l : List ℕ). take RECORD_BYTES l) (drop-take SEQUENCE_BYTES 23 X)
      ∙ take-take RECORD_BYTES 23 (drop SEQUENCE_BYTES X) (omega arith)
      ∙ sym (drop-take SEQUENCE_BYTES RECORD_BYTES X)
      ∙ ap (λ (l : List ℕ). drop SEQUENCE_BYTES l) whole
      ∙ drop_at (to_be_bytes w64 number) bytes SEQUENCE_BYTES refl

wrote_gate : (n g : ℕ) (image c : List ℕ) → IsWritten (SLOT_BYTES * n) (g ∷ []) image c → gate (slot c n) ≡ g
wrote_gate n g image c written =
    get_or-take SLOT_BYTES (drop (SLOT_BYTES * n) c) 0 0 (omega arith)
    ∙ sym (get_or-take 1 (drop (SLOT_BYTES * n) c) 0 0 (omega arith))
    ∙ ap (λ (l : List ℕ). get_or l 0 0) written.inside

-- ---- what a crash may leave of a slot

pub closes : (n : ℕ) (image c : List ℕ) → n < 2 → IsOpen image n → IsChangedWithin (SLOT_BYTES * n) 1 image c →
    MayClose n image c
closes n image c lt was changed = record {
  other = other_stays n (SLOT_BYTES * n) 1 image c lt (omega arith) (omega arith) changed;
  if_open = λ now. (was, rest_stays n image c changed);
}

pub closed : (n : ℕ) (image c : List ℕ) → IsWritten (SLOT_BYTES * n) (0 ∷ []) image c → ¬ (IsOpen c n)
closed n image c written is_open =
    let gate_is_zero : gate (slot c n) ≡ 0 = wrote_gate n 0 image c written in
    absurd (omega (arith, gate_is_zero, is_open))

pub stays_closed : (n number at : ℕ) (piece bytes : List ℕ) (kept : Kept) (image c : List ℕ) → n < 2 →
    at ≡ SLOT_BYTES * n → piece ≡ to_be_bytes w64 number ++ bytes → length bytes ≡ RECORD_BYTES → ¬ (IsOpen image n)
    → IsChangedWithin (at + 1) (length piece) image c → HoldsIfOpen n number kept image c
stays_closed n number at piece bytes kept image c lt place is size shut changed =
    let here : IsChangedWithin (SLOT_BYTES * n + 1) (length piece) image c =
    subst (λ (k : ℕ). IsChangedWithin (k + 1) (length piece) image c) place changed in
    let len : length piece ≡ PIECE_BYTES =
    ap length is ∙ length-append (to_be_bytes w64 number) bytes ∙ ap (λ (k : ℕ). SEQUENCE_BYTES + k) size in
    record {
      other = other_stays n (SLOT_BYTES * n + 1) (length piece) image c lt (omega arith) (omega (arith, len)) here;
      if_open = λ now. absurd (shut (sym (gate_stays n (length piece) image c here) ∙ now));
    }

-- the whole record stands behind the gate
pub filled : (n number at : ℕ) (piece bytes : List ℕ) (kept : Kept) (image mid c : List ℕ) → n < 2 → number < 2 ^ 64 →
    at ≡ SLOT_BYTES * n → piece ≡ to_be_bytes w64 number ++ bytes → length bytes ≡ RECORD_BYTES → IsRecordRow bytes kept
    → IsWritten (at + 1) piece image mid → IsChangedWithin at 1 mid c → HoldsIfOpen n number kept image c
filled n number at piece bytes kept image mid c lt fits place is size again was_written was_changed =
    let written : IsWritten (SLOT_BYTES * n + 1) (to_be_bytes w64 number ++ bytes) image mid =
    subst (λ (p : List ℕ). IsWritten (SLOT_BYTES * n + 1) p image mid) is
    (subst (λ (k : ℕ). IsWritten (k + 1) piece image mid) place was_written) in
    let changed : IsChangedWithin (SLOT_BYTES * n) 1 mid c =
    subst (λ (k : ℕ). IsChangedWithin k 1 mid c) place was_changed in
    record {
      other = other_stays n (SLOT_BYTES * n) 1 mid c lt (omega arith) (omega arith) changed
          ∙ other_stays n (SLOT_BYTES * n + 1) (length (to_be_bytes w64 number ++ bytes)) image mid lt (omega arith)
          (omega (arith, length-append (to_be_bytes w64 number) bytes, size)) written.changed;
      if_open = λ now. (
        same_sequence (slot c n) (slot mid n) (rest_stays n mid c changed)
            ∙ wrote_sequence n number bytes image mid fits size written,
        subst (λ (b : List ℕ). IsRecordRow b kept) (sym
            (same_record (slot c n) (slot mid n) (rest_stays n mid c changed)
            ∙ wrote_record n number bytes image mid fits size written)) again,
      );
    }

pub opened : (n at : ℕ) (mid c : List ℕ) → at ≡ SLOT_BYTES * n → IsWritten at (1 ∷ []) mid c → IsOpen c n
opened n at mid c place written = wrote_gate n 1 mid c (subst (λ (k : ℕ). IsWritten k (1 ∷ []) mid c) place written)

pub untouched : (n : ℕ) (image : List ℕ) → MayClose n image image
untouched n image = record { other = refl; if_open = λ now. (now, refl) }

pub not_true : {b : Bool} {P : Type 0} → b ≡ false → (IsTrue b ↔ P) → ¬ P
not_true {b} {P} off same p = let on : b ≡ true = same.1 p in absurd (cc)
