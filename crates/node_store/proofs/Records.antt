-- For which record an image stands after a write into one slot.
use Rattle.std.proofs.Common.{◌≡◌, ◌≤◌, ◌<◌, ◌⊎◌, ◌↔◌, ◌+◌, ◌-◌, zero, suc, inl, inr, ⊎_elim, ℕ, List, true, false}
use Rattle.std.proofs.Common.{refl, sym, ◌∙◌, ap, subst, arith, rules}
use Rattle.std.proofs.lemmas.Bool.{cases_eq}
use Rattle.std.specs.Prelude.{IsTrue}
use Rattle.bay_protocol.specs.declared.values.Kept.{Kept}
use Rattle.bay_protocol.specs.State.{nothing_kept}
use Rattle.bay_protocol.proofs.RecordRows.{kept_at}
use Rattle.bay_protocol.proofs.RecordRows.{kept_back}
use Rattle.node_store.specs.declared.store.TheConstants.{LAST_SEQUENCE}
use Rattle.node_store.specs.declared.slots.Slot.{Slot}
use Rattle.node_store.specs.declared.slots.Slot.TheVariants.{First, Second}
use Rattle.node_store.specs.declared.store.Newest.{Newest}
use Rattle.node_store.specs.declared.store.NextSlot.{NextSlot}
use Rattle.node_store.specs.Image.{slot, gate, sequence, record_bytes, IsOpen, IsRecordRow, HasRecord, IsNewest}
use Rattle.node_store.specs.Image.{NoneOpen}
use Rattle.node_store.specs.Image.{IsImageOf, IsRefusedSlot}
use Rattle.node_store.specs.Slots.{number}
use Rattle.node_store.specs.Store.{MatchesNewest, MayClose, HoldsIfOpen, HoldsBeside, MayTake}
use Rattle.node_store.proofs.Writes.{same_sequence}

pub number_small : (s : Slot) → number s < 2
number_small First = omega arith
number_small Second = omega arith

-- slot n gives way to slot m
abbrev Loses : List ℕ → ℕ → ℕ → Type 0
Loses c n m = (sequence (slot c n) < sequence (slot c m)) ⊎ ((sequence (slot c n) ≡ sequence (slot c m)) × (m ≡ 0))

clash : (x y z w : ℕ) → (x < y) ⊎ ((x ≡ y) × (z ≡ 0)) → (y < x) ⊎ ((y ≡ x) × (suc w ≡ 0)) → ⊥
clash x y z w (inl a) (inl b) = absurd (omega (arith, a, b))
clash x y z w (inl a) (inr b) = absurd (omega (arith, a, b.0))
clash x y z w (inr a) (inl b) = absurd (omega (arith, a.0, b))
clash x y z w (inr a) (inr b) = absurd (omega (arith, b.1))

unique : (image : List ℕ) (n m : ℕ) → IsNewest image n → IsNewest image m → n ≡ m
unique image zero zero a b = refl
unique image zero (suc zero) a b = absurd (clash _ _ 0 0 (a.newest b.is_open) (b.newest a.is_open))
unique image (suc zero) zero a b = absurd (clash _ _ 0 0 (b.newest a.is_open) (a.newest b.is_open))
unique image (suc zero) (suc zero) a b = refl
unique image (suc (suc n)) m a b = absurd (omega (arith, a.is_slot))
unique image zero (suc (suc m)) a b = absurd (omega (arith, b.is_slot))
unique image (suc zero) (suc (suc m)) a b = absurd (omega (arith, b.is_slot))

none_newest : (image : List ℕ) (n : ℕ) → NoneOpen image → IsNewest image n → ⊥
none_newest image zero none a = none.0 a.is_open
none_newest image (suc zero) none a = none.1 a.is_open
none_newest image (suc (suc n)) none a = absurd (omega (arith, a.is_slot))

-- slot n is open and newer than slot m, and holds this record
abbrev HoldsFirst : List ℕ → ℕ → ℕ → Kept → Type 0
HoldsFirst c n m kept = IsOpen c n × (IsOpen c m → Loses c m n) × HasRecord c n kept

stands_here : (c : List ℕ) (n : ℕ) (kept : Kept) → n < 2 → HoldsFirst c n (1 - n) kept → IsImageOf c kept
stands_here c n kept lt s = inl (n, record { is_slot = lt; is_open = s.0; newest = s.1 }, s.2)

stands_there : (c : List ℕ) (n : ℕ) (kept : Kept) → n < 2 → HoldsFirst c (1 - n) n kept → IsImageOf c kept
stands_there c zero kept lt s = inl (1, record { is_slot = omega arith; is_open = s.0; newest = s.1 }, s.2)
stands_there c (suc zero) kept lt s = inl (0, record { is_slot = omega arith; is_open = s.0; newest = s.1 }, s.2)
stands_there c (suc (suc n)) kept lt s = absurd (omega (arith, lt))

stands_none : (c : List ℕ) (n : ℕ) (kept : Kept) → n < 2 → ¬ (IsOpen c n) → ¬ (IsOpen c (1 - n)) →
    kept ≡ nothing_kept → IsImageOf c kept
stands_none c zero kept lt here there empty = inr ((here, there), empty)
stands_none c (suc zero) kept lt here there empty = inr ((there, here), empty)
stands_none c (suc (suc n)) kept lt here there empty = absurd (omega (arith, lt))

-- where the slot is closed, the image stands for what the other one says
stands_beside : (image c : List ℕ) (n : ℕ) (kept : Kept) → n < 2 → slot c (1 - n) ≡ slot image (1 - n) →
    HoldsBeside image n kept → ¬ (IsOpen c n) → IsImageOf c kept
stands_beside image c n kept lt other beside shut = ⊎_elim
    (λ (b : IsOpen image (1 - n) × HasRecord image (1 - n) kept).
    stands_there c n kept lt (
      ap gate other ∙ b.0,
      (λ (o : IsOpen c n). absurd (shut o)),
      subst (λ (s : List ℕ). IsRecordRow (record_bytes s) kept) (sym other) b.1,
    ))
    (λ (b : ¬ (IsOpen image (1 - n)) × (kept ≡ nothing_kept)).
    stands_none c n kept lt shut (λ (o : IsOpen c (1 - n)). b.0 (sym (ap gate other) ∙ o)) b.1)
    beside

still_loses : (a b x y z : ℕ) → x ≡ a → y ≡ b → (a < b) ⊎ ((a ≡ b) × (z ≡ 0)) → (x < y) ⊎ ((x ≡ y) × (z ≡ 0))
still_loses a b x y z p q (inl h) = inl (omega (arith, p, q, h))
still_loses a b x y z p q (inr h) = inr (p ∙ h.0 ∙ sym q, h.1)

back_again : (n : ℕ) → n < 2 → 1 - (1 - n) ≡ n
back_again n lt = omega (arith, lt)

-- closing a slot that the image doesn't stand for
pub close_keeps : (image c : List ℕ) (n : ℕ) (kept : Kept) → n < 2 → HoldsBeside image n kept →
    (IsOpen image n → IsNewest image (1 - n)) → MayClose n image c → IsImageOf c kept
close_keeps image c n kept lt beside loses may = elim (cases_eq (gate (slot c n)) 1) [
  | inl now ↦
      let was = may.if_open now in
      let newest = loses was.0 in
      let lost : Loses image n (1 - n) =
      subst (λ (k : ℕ). Loses image k (1 - n)) (back_again n lt)
      (newest.newest (subst (λ (k : ℕ). IsOpen image k) (sym (back_again n lt)) was.0)) in
      ⊎_elim
      (λ (b : IsOpen image (1 - n) × HasRecord image (1 - n) kept).
      stands_there c n kept lt (
        ap gate may.other ∙ b.0,
        (λ (o : IsOpen c n). still_loses _ _ _ _ _ (same_sequence (slot c n) (slot image n) was.1)
            (ap sequence may.other) lost),
        subst (λ (s : List ℕ). IsRecordRow (record_bytes s) kept) (sym may.other) b.1,
      ))
      (λ (b : ¬ (IsOpen image (1 - n)) × (kept ≡ nothing_kept)). absurd (b.0 newest.is_open))
      beside
  | inr shut ↦ stands_beside image c n kept lt may.other beside shut
]

-- filling it: the old record while it is closed, then the new one
filled_stands : (image c : List ℕ) (n m : ℕ) (kept : Kept) → n < 2 →
    (IsOpen image (1 - n) → sequence (slot image (1 - n)) < m) → slot c (1 - n) ≡ slot image (1 - n)
    → IsOpen c n → (sequence (slot c n) ≡ m) × HasRecord c n kept → HoldsFirst c n (1 - n) kept
filled_stands image c n m kept lt below other now holds = (
  now,
  (λ (o : IsOpen c (1 - n)).
      let less : sequence (slot image (1 - n)) < m = below (sym (ap gate other) ∙ o) in
      let same : sequence (slot c (1 - n)) ≡ sequence (slot image (1 - n)) = ap sequence other in
      inl (omega (arith, less, same, holds.0))),
  holds.1,
)

pub fill_keeps : (image mid c : List ℕ) (n m : ℕ) (old kept : Kept) → n < 2 → HoldsBeside image n old →
    (IsOpen image (1 - n) → sequence (slot image (1 - n)) < m) → MayClose n image mid
    → HoldsIfOpen n m kept mid c → IsImageOf c old ⊎ IsImageOf c kept
fill_keeps image mid c n m old kept lt beside below may holds =
    let other : slot c (1 - n) ≡ slot image (1 - n) = holds.other ∙ may.other in
    elim (cases_eq (gate (slot c n)) 1) [
      | inl now ↦ inr (stands_here c n kept lt (filled_stands image c n m kept lt below other now (holds.if_open now)))
      | inr shut ↦ inl (stands_beside image c n old lt other beside shut)
    ]

-- ---- the next slot of a store that matches its image

pub ready_none : (image : List ℕ) → NoneOpen image → MayTake image record {
  slot = First;
  sequence = 1;
  is_open = false;
  other_open = false;
}
ready_none image none = record {
  is_open = (λ h. absurd (search rules), λ o. absurd (none.0 o));
  other = (λ h. absurd (search rules), λ o. absurd (none.1 o));
  beside =
      λ kept stands. ⊎_elim
      (λ (s : (n : ℕ) × IsNewest image n × HasRecord image n kept). absurd (none_newest image s.0 none s.1))
      (λ (s : NoneOpen image × (kept ≡ nothing_kept)). inr (none.1, s.1)) stands;
  loses = λ o. absurd (none.0 o);
  below = λ o. absurd (none.1 o);
}

beside_newest : (image : List ℕ) (s : ℕ) (kept : Kept) → IsNewest image s → IsImageOf image kept →
    IsOpen image s × HasRecord image s kept
beside_newest image s kept newest stands = ⊎_elim
    (λ (h : (n : ℕ) × IsNewest image n × HasRecord image n kept).
    (newest.is_open, subst (λ (k : ℕ). HasRecord image k kept) (unique image h.0 s h.1 newest) h.2))
    (λ (h : NoneOpen image × (kept ≡ nothing_kept)). absurd (none_newest image s h.0 newest))
    stands

pub ready_some : (image : List ℕ) (n : Newest) (t : Slot) → MatchesNewest image n → number t ≡ 1 - number n.slot →
    MayTake image record { slot = t; sequence = n.sequence + 1; is_open = n.other_open; other_open = true }
ready_some image n t matches is =
    let back : number n.slot ≡ 1 - number t = omega (arith, is, number_small n.slot) in
    let newest : IsNewest image (1 - number t) = subst (λ (k : ℕ). IsNewest image k) back matches.newest in
    record {
      is_open = subst (λ (k : ℕ). IsTrue n.other_open ↔ IsOpen image k) (sym is) matches.other;
      other = (λ h. newest.is_open, λ o. search rules);
      beside = λ kept stands. inl (beside_newest image (1 - number t) kept newest stands);
      loses = λ o. newest;
      below = λ o.
          let same : sequence (slot image (1 - number t)) ≡ n.sequence =
          subst (λ (k : ℕ). sequence (slot image k) ≡ n.sequence) back matches.sequence_is in
          omega (arith, same);
    }

-- ---- after the slot was filled and opened

new_holds : (image mid c : List ℕ) (t : NextSlot) (kept : Kept) → MayTake image t → MayClose (number t.slot) image mid →
    HoldsIfOpen (number t.slot) t.sequence kept mid c → IsOpen c (number t.slot) →
    HoldsFirst c (number t.slot) (1 - number t.slot) kept
new_holds image mid c t kept ready may holds now =
    filled_stands image c (number t.slot) t.sequence kept (number_small t.slot) ready.below (holds.other ∙ may.other)
    now (holds.if_open now)

pub new_stands : (image mid c : List ℕ) (t : NextSlot) (kept : Kept) → MayTake image t →
    MayClose (number t.slot) image mid → HoldsIfOpen (number t.slot) t.sequence kept mid c → IsOpen c (number t.slot) →
    IsImageOf c kept
new_stands image mid c t kept ready may holds now =
    stands_here c (number t.slot) kept (number_small t.slot) (new_holds image mid c t kept ready may holds now)

pub new_known : (image mid c : List ℕ) (t : NextSlot) (kept : Kept) → MayTake image t →
    MayClose (number t.slot) image mid → HoldsIfOpen (number t.slot) t.sequence kept mid c → IsOpen c (number t.slot)
    → MatchesNewest c record { slot = t.slot; sequence = t.sequence; other_open = t.other_open }
new_known image mid c t kept ready may holds now =
    let s = new_holds image mid c t kept ready may holds now in
    let same : slot c (1 - number t.slot) ≡ slot image (1 - number t.slot) = holds.other ∙ may.other in
    record {
      newest = record { is_slot = number_small t.slot; is_open = s.0; newest = s.1 };
      sequence_is = (holds.if_open now).0;
      other = (λ h. ap gate same ∙ ready.other.0 h, λ o. ready.other.1 (sym (ap gate same) ∙ o));
    }

-- ---- what opening says

pub none_refused : (image : List ℕ) → NoneOpen image → (n : ℕ) → ¬ (IsRefusedSlot image n)
none_refused image none n refused = none_newest image n none refused.0

-- the bytes of a slot are the row of its record
pub row_in : (image bytes : List ℕ) (n : ℕ) (kept : Kept) → slot image n ≡ bytes
    → IsRecordRow (record_bytes bytes) kept →
    HasRecord image n kept
row_in image bytes n kept is row = subst (λ (s : List ℕ). IsRecordRow (record_bytes s) kept) (sym is) row

pub some_stands : (image : List ℕ) (n : Newest) (kept : Kept) → MatchesNewest image n →
    HasRecord image (number n.slot) kept → IsImageOf image kept
some_stands image n kept matches has = inl (number n.slot, matches.newest, has)

too_great : (x y : ℕ) → LAST_SEQUENCE < x → x ≡ y → y ≤ LAST_SEQUENCE → ⊥
too_great x y more is within = absurd (omega (arith, more, is, within))

pub some_not_refused : (image : List ℕ) (n : Newest) (kept : Kept) → MatchesNewest image n →
    HasRecord image (number n.slot) kept → n.sequence ≤ LAST_SEQUENCE → (m : ℕ) → ¬ (IsRefusedSlot image m)
some_not_refused image n kept matches has within m refused =
    let same : m ≡ number n.slot = unique image m (number n.slot) refused.0 matches.newest in
    ⊎_elim
    (λ (h : (k : Kept) → ¬ (HasRecord image m k)). h kept (subst (λ (k : ℕ). HasRecord image k kept) (sym same) has))
    (λ (h : LAST_SEQUENCE < sequence (slot image m)).
    let there : LAST_SEQUENCE < sequence (slot image (number n.slot)) =
    subst (λ (k : ℕ). LAST_SEQUENCE < sequence (slot image k)) same h in
    too_great _ _ there matches.sequence_is within)
    refused.1

-- bytes are the row of one record
same_kept : (bytes : List ℕ) (a b : Kept) → IsRecordRow bytes a → IsRecordRow bytes b → a ≡ b
same_kept bytes a b x y = sym (kept_back a x.in_row) ∙ ap kept_at (sym x.row ∙ y.row) ∙ kept_back b y.in_row

-- an image stands for one record
pub stands_once : (image : List ℕ) (a b : Kept) → IsImageOf image a → IsImageOf image b → a ≡ b
stands_once image a b (inl x) (inl y) =
    same_kept (record_bytes (slot image x.0)) a b x.2
    (subst (λ (k : ℕ). HasRecord image k b) (sym (unique image x.0 y.0 x.1 y.1)) y.2)
stands_once image a b (inl x) (inr y) = absurd (none_newest image x.0 y.0 x.1)
stands_once image a b (inr x) (inl y) = absurd (none_newest image y.0 x.0 y.1)
stands_once image a b (inr x) (inr y) = x.1 ∙ sym y.1
