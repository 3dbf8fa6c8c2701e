-- What a crash of a device in memory may leave after a call.
use Rattle.std.proofs.Common.{◌≡◌, ◌≤◌, ◌<◌, ◌⊎◌, ◌+◌, ◌++◌, ◌∷◌, [], inl, inr, ⊎_elim, ℕ, List, Bool, false, length}
use Rattle.std.proofs.Common.{get_or, refl, sym, ◌∙◌, ap, subst, arith}
use Rattle.std.proofs.Math.ListN.{replicate}
use Rattle.std.proofs.lemmas.Bool.{cases_lt}
use Rattle.std.proofs.lemmas.List.{get_or_at, get_or_past, ext_get_or, length-append}
use Rattle.node_store.specs.declared.mem_device.Snapshot.{Snapshot}
use Rattle.node_store.specs.Device.{IsChangedWithin, IsWritten}
use Rattle.node_store.specs.Memory.{MayLeave, IsMarked}
use Rattle.node_store.proofs.Lists.{all_false, merged, length-merged, merged_outside, merged_inside}

abbrev pub At : List Snapshot → ℕ → List ℕ → Snapshot → Type 0
At past t c now = (k : ℕ) × (t ≤ k) × MayLeave (get_or past k now) c

state_kept : (past : List Snapshot) (old now : Snapshot) (c : List ℕ) (k : ℕ) → length past ≤ k →
    MayLeave (get_or (past ++ old ∷ []) k now) c → MayLeave old c ⊎ MayLeave now c
state_kept past old now c k le left = ⊎_elim
    (λ (lt : length past < k). inr (subst (λ (s : Snapshot). MayLeave s c)
    (get_or_past (past ++ old ∷ []) k now (omega (arith, lt, length-append past (old ∷ [])))) left))
    (λ (ge : k ≤ length past). inl
    (subst (λ (s : Snapshot). MayLeave s c) (get_or_at past old [] now k (omega (arith, ge, le))) left))
    (cases_lt (length past) k)

-- after a call that was kept, what was possible before or what is now
since_call : (past later : List Snapshot) (old now : Snapshot) (c : List ℕ) → later ≡ past ++ old ∷ [] →
    At later (length past) c now → MayLeave old c ⊎ MayLeave now c
since_call past later old now c same left =
    state_kept past old now c left.0 left.1
    (subst (λ (l : List Snapshot). MayLeave (get_or l left.0 now) c) same left.2)

left_now : (past : List Snapshot) (now : Snapshot) (c : List ℕ) → MayLeave now c → At past (length past) c now
left_now past now c left = (
  length past,
  omega arith,
  subst (λ (s : Snapshot). MayLeave s c) (sym (get_or_past past (length past) now (omega arith))) left,
)

pub unmarked : (s : Snapshot) (n : ℕ) (c : List ℕ) → s.marks ≡ replicate n false → MayLeave s c → c ≡ s.bytes
unmarked s n c none left =
    ext_get_or 0 c s.bytes left.size
    (λ i lt. left.kept i (ap (λ (l : List Bool). get_or l i false) none ∙ all_false n i))

itself : (s : Snapshot) → MayLeave s s.bytes
itself s = record { size = refl; kept = λ k h. refl }

-- before the write the crash left the same, but for the range
before_write : (at : ℕ) (piece : List ℕ) (old now : Snapshot) (c : List ℕ) →
    IsWritten at piece old.bytes now.bytes → IsMarked at (length piece) old.marks now.marks → MayLeave now c
    → (d : List ℕ) × MayLeave old d × IsChangedWithin at (length piece) d c
before_write at piece old now c written marked left =
    let n = length piece in
    let d = merged at n c old.bytes in
    let size : length c ≡ length old.bytes = left.size ∙ written.changed.size in
    let in_range : (k : ℕ) → at ≤ k → k < at + n → get_or d k 0 ≡ get_or old.bytes k 0 =
    λ k from to. merged_inside at n c old.bytes k size from to in
    let beside : (k : ℕ) → (k < at) ⊎ (at + n ≤ k) → get_or old.marks k false ≡ false →
    get_or d k 0 ≡ get_or old.bytes k 0 =
    λ k out unmarked_before. merged_outside at n c old.bytes k out
    ∙ left.kept k (marked.outside k out ∙ unmarked_before) ∙ written.changed.outside k out in (
      d,
      record {
        size = length-merged at n c old.bytes ∙ size;
        kept =
            λ k h. ⊎_elim (λ (lt : k < at). beside k (inl lt) h) (λ (ge : at ≤ k). ⊎_elim
            (λ (lt : k < at + n). in_range k ge lt) (λ (past : at + n ≤ k). beside k (inr past) h)
            (cases_lt k (at + n))) (cases_lt k at);
      },
      record {
        size = sym (length-merged at n c old.bytes);
        outside = λ k out. sym (merged_outside at n c old.bytes k out);
      },
    )

pub write_left : (past later : List Snapshot) (old now : Snapshot) (at : ℕ) (piece c : List ℕ) →
    later ≡ past ++ old ∷ [] → IsWritten at piece old.bytes now.bytes → IsMarked at (length piece) old.marks now.marks →
    At later (length past) c now
    → (d : List ℕ) × At past (length past) d old × IsChangedWithin at (length piece) d c
write_left past later old now at piece c same written marked left = ⊎_elim
    (λ (before : MayLeave old c). (c, left_now past old c before, record { size = refl; outside = λ k out. refl }))
    (λ (after : MayLeave now c).
    let found = before_write at piece old now c written marked after in
    (found.0, left_now past old found.0 found.1, found.2))
    (since_call past later old now c same left)

pub sync_left : (past later : List Snapshot) (old now : Snapshot) (n : ℕ) (c : List ℕ) → later ≡ past ++ old ∷ [] →
    now.bytes ≡ old.bytes → now.marks ≡ replicate n false → At later (length past) c now
    → (d : List ℕ) × At past (length past) d old × (d ≡ c)
sync_left past later old now n c same bytes none left = (
  c,
  left_now past old c (⊎_elim
      (λ (before : MayLeave old c). before)
      (λ (after : MayLeave now c). subst (λ (l : List ℕ). MayLeave old l)
      (sym (unmarked now n c none after ∙ bytes)) (itself old))
      (since_call past later old now c same left)),
  refl,
)

-- since the last moment that is kept there is what is now
pub since_past : (past : List Snapshot) (now : Snapshot) (c : List ℕ) → At past (length past) c now → MayLeave now c
since_past past now c left = subst (λ (s : Snapshot). MayLeave s c) (get_or_past past left.0 now left.1) left.2
