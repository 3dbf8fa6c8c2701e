-- The events that the records of a text say, one after another.
use Rattle.std.proofs.Common.{◌≡◌, ◌⊎◌, ◌+◌, ◌<◌, ℕ, zero, suc, List, [], ◌∷◌, ◌++◌, ◌≤◌, length, take, drop, Some, refl}
use Rattle.std.proofs.Common.{sym, ap, subst, ◌∙◌, inl, inr, add-one, arith}
use Rattle.std.specs.Prelude.{slice_get, All}
use Rattle.std.specs.List.{AllZip}
use Rattle.std.proofs.Math.Seq.{take-append_seam}
use Rattle.std.proofs.lemmas.List.{length-append, take-append-le}
use Rattle.ilk_base.specs.declared.input_fault.InputFault.{InputFault}
use Rattle.ilk_base.specs.declared.input_fault.InputFault.TheVariants.{Memory, Refused}
use Rattle.ilk_base.specs.declared.limits.TheConstants.{FILE_BYTES}
use Rattle.ilk_base.specs.Inputs.{ForRefused}
use Rattle.double_points.specs.Rows.{rows_of}
use Rattle.station_graph.specs.Diagram.{Diagram}
use Rattle.reservation_core.specs.declared.values.LogEvent.{LogEvent}
use Rattle.log_replay.specs.declared.limits.TheConstants.{MOST_RECORDS}
use Rattle.log_replay.specs.Records.{RecordSays, MayBeTold}
use Rattle.log_replay.proofs.ReportLemmas.{all_more}
use Rattle.log_replay.specs.Log.{MayFollow, AreInOrder, IsText, Tell, IsFirstRecordFault, IsLogFault}

-- ---- lists

-- what is left of a list begins with this element
pub record Next {X : Type 0} (all : List X) (k : ℕ) (x : X) (rest : List X) : Type 0 where
  pub at : slice_get all k ≡ Some x
  pub taken : take (k + 1) all ≡ take k all ++ x ∷ []
  pub left : drop (k + 1) all ≡ rest

next_suc : {X : Type 0} (all : List X) (k : ℕ) (x : X) (rest : List X) → drop k all ≡ x ∷ rest
    → (slice_get all k ≡ Some x) × (take (suc k) all ≡ take k all ++ x ∷ []) × (drop (suc k) all ≡ rest)
next_suc [] zero x rest left = absurd (cc)
next_suc [] (suc k) x rest left = absurd (cc)
next_suc {X} (y ∷ all) zero x rest left = let same : y ≡ x = cc left in (
  ap Some same,
  ap (λ
      (z : X). z ∷ []) same,
  cc left,
)
next_suc {X} (y ∷ all) (suc k) x rest left = let n = next_suc all k x rest left in
    (n.0, ap (λ (zs : List X). y ∷ zs) n.1, n.2)

pub next : {X : Type 0} (all : List X) (k : ℕ) (x : X) (rest : List X) → drop k all ≡ x ∷ rest → Next all k x rest
next all k x rest left =
    let n = next_suc all k x rest left in
    record { at = n.0; taken = ap (λ j. take j all) (add-one k) ∙ n.1; left = ap (λ j. drop j all) (add-one k) ∙ n.2 }

pub nothing_left : {X : Type 0} (all : List X) (k : ℕ) → drop k all ≡ [] → take k all ≡ all
nothing_left [] zero left = refl
nothing_left [] (suc k) left = refl
nothing_left (x ∷ all) zero left = absurd (cc)
nothing_left (x ∷ all) (suc k) left = ap (λ zs. x ∷ zs) (nothing_left all k left)

got_pushed : {X : Type 0} (xs : List X) (y : X) (k : ℕ) (x : X) → slice_get (xs ++ y ∷ []) k ≡ Some x
    → ((k < length xs) × (slice_get xs k ≡ Some x)) ⊎ ((k ≡ length xs) × (y ≡ x))
got_pushed [] y zero x is = inr (refl, cc is)
got_pushed [] y (suc k) x is = absurd (cc)
got_pushed (z ∷ xs) y zero x is = inl (omega arith, is)
got_pushed (z ∷ xs) y (suc k) x is = elim (got_pushed xs y k x is) [
  | inl p ↦ inl (omega (arith, p.0), p.1)
  | inr p ↦ inr (omega (arith, p.0), p.1)
]

pub AllZip-push : {A B : Type 0} (R : A → B → Type 0) (xs : List A) (ys : List B) (x : A) (y : B) → AllZip R xs ys
    → R x y → AllZip R (xs ++ x ∷ []) (ys ++ y ∷ [])
AllZip-push R [] [] x y each last = (last, tt)
AllZip-push R [] (b ∷ ys) x y each last = absurd each
AllZip-push R (a ∷ xs) [] x y each last = absurd each
AllZip-push R (a ∷ xs) (b ∷ ys) x y each last = (each.0, AllZip-push R xs ys x y each.1 last)

-- ---- one event more

pub order_more : (events : List LogEvent) (e : LogEvent) → AreInOrder events → MayFollow events e
    → AreInOrder (events ++ e ∷ [])
order_more events e order follows k x at = elim (got_pushed events e k x at) [
  | inl p ↦ subst (λ (before : List LogEvent). MayFollow before x) (sym (take-append-le k events (e ∷ []) (omega
      (arith, p.0)))) (order k x p.1)
  | inr p ↦
      let whole : take k (events ++ e ∷ []) ≡ events = ap (λ j. take j (events ++ e ∷ [])) p.0
      ∙ take-append_seam events (e ∷ []) in
      subst (λ (before : List LogEvent). MayFollow before x) (sym whole) (subst (MayFollow events) p.1 follows)
]

pub tell_more : (d : Diagram) (all : List (List (List ℕ))) (events more : List LogEvent) (row : List (List ℕ))
    (e : LogEvent) (rest : List (List (List ℕ))) → more ≡ events ++ e ∷ [] → drop (length events) all ≡ row ∷ rest
    → Tell d (take (length events) all) events → RecordSays d row e → IsText row → MayFollow events e
    → length events < MOST_RECORDS
    → Tell d (take (length more) all) more × (rest ≡ drop (length more) all)
tell_more d all events more row e rest pushed left tell says text follows few =
    let n = next all (length events) row rest left in
    let count : length more ≡ length events + 1 = ap length pushed ∙ length-append events (e ∷ []) in
    let taken : take (length more) all ≡ take (length events) all ++ row ∷ [] = ap (λ m. take m all) count ∙ n.taken in
    let it : Tell d (take (length events) all ++ row ∷ []) (events ++ e ∷ []) = record {
      each = AllZip-push (RecordSays d) (take (length events) all) events row e tell.each says;
      texts = all_more IsText (take (length events) all) row tell.texts text;
      order = order_more events e tell.order follows;
      few = omega (arith, few, length-append events (e ∷ []));
    } in (
      subst (λ (rows : List (List (List ℕ))). Tell d rows more) (sym taken) (subst (Tell d (take
          (length events) all ++ row ∷ [])) (sym pushed) it),
      sym n.left ∙ ap (λ m. drop m all) (sym count),
    )

-- what records say may be told
pub told_each : (d : Diagram) (rows : List (List (List ℕ))) (events : List LogEvent) → AllZip (RecordSays d) rows events
    → All (MayBeTold d) events
told_each d [] [] each k x lt = absurd (omega (arith, lt))
told_each d [] (e ∷ events) each k x lt = absurd each
told_each d (row ∷ rows) [] each k x lt = absurd each
told_each d (row ∷ rows) (e ∷ events) each zero x lt = each.0.told
told_each d (row ∷ rows) (e ∷ events) each (suc k) x lt = told_each d rows events each.1 k x (omega (arith, lt))

-- ---- no log

-- a record with a fault, where the bytes are not too many
pub no_log : (d : Diagram) (bytes : List ℕ) (e : InputFault) → length bytes ≤ FILE_BYTES
    → ForRefused e (IsFirstRecordFault d (rows_of bytes)) → ForRefused e (IsLogFault d bytes)
no_log d bytes Memory few fault = tt
no_log d bytes (Refused r) few fault = inr (few, fault)
