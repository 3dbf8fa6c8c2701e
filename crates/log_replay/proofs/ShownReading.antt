-- What is shown at a line is that which its rows tell.
use Rattle.std.proofs.Common.{◌≡◌, ◌⊎◌, ◌∙◌, sym, ap, refl, ℕ, suc, Bool, true, false, List, [], ◌∷◌, ◌++◌, length}
use Rattle.std.proofs.Common.{arith, inl, inr, append-nil}
use Rattle.std.specs.Prelude.{◌==◌, All, codes, decimal, map, if◌then◌else◌, ⊤}
use Rattle.std.specs.Str.{bytes_eq}
use Rattle.std.proofs.lemmas.Bool.{cases_Bool}
use Rattle.station_graph.specs.Diagram.{Diagram, IsStation, switch_path}
use Rattle.bay_protocol.specs.OutcomeLines.{OutcomeFits}
use Rattle.bay_protocol.specs.declared.values.Outcome.{Outcome}
use Rattle.bay_protocol.specs.declared.values.Outcome.TheVariants.{UnderWay, HeldBy, There, Spent, Collecting, Granted}
use Rattle.bay_protocol.specs.declared.values.Outcome.TheVariants.{Denied, BusyBy, Finished, Withdrawn, Stopped, Quiet}
use Rattle.ilk_base.specs.declared.words.BayId.{BayId}
use Rattle.reservation_core.specs.Lines.{MessageKind, Message, Shown, shown}
use Rattle.reservation_core.specs.ReportLines.{message_name, line_prefix}
use Rattle.log_replay.specs.Telling.{Is32Bits, Are32Bits, IsNumbered, IsShowable, ShowSame}
use Rattle.log_replay.proofs.TextRows.{Each, kept, kept_append, all_kept, none_kept}
use Rattle.log_replay.proofs.ReportRows.{with_rows, says, outcome_rows, message_says, message_row, message_rows}
use Rattle.log_replay.proofs.ReportRows.{shown_rows}
use Rattle.log_replay.proofs.RowFacts.{outcome_each, messages_each}
use Rattle.log_replay.proofs.RowReading.{first, behind, number_in, number_is, number_first, number_behind, said}
use Rattle.log_replay.proofs.RowReading.{bay_in, said_of_row, bay_of_row, reading_at, listed_is, any_row, names}
use Rattle.log_replay.proofs.RowReading.{read_vector, reading_of, unmoved_off, read_outcome, granted_read, denied_read}

-- ---- outcomes

held_read : (b : BayId) (q : ℕ) (t : List ℕ) → t ≡ decimal b.0 ++ 32 ∷ (codes "round " ++ decimal q) → Is32Bits b.0 →
    Is32Bits q → HeldBy (record { 0 = number_in (first t) }) (number_in (behind (behind t))) ≡ HeldBy b q
held_read b q t is first_few few =
    let bay : number_in (first t) ≡ b.0 = ap (λ (x : List ℕ). number_in (first x)) is
    ∙ number_first b.0 (codes "round " ++ decimal q) first_few in
    let rest : behind t ≡ codes "round " ++ decimal q = ap behind is ∙ number_behind b.0 (codes "round " ++ decimal q)
    first_few in
    let round : number_in (behind (behind t)) ≡ q = ap (λ (x : List ℕ). number_in (behind x)) rest ∙ number_is q few in
    rw (bay, round) refl

busy_read : (r : ℕ) (b h : BayId) (q : ℕ) (t : List ℕ) →
    t ≡ decimal r ++ 32 ∷ (codes "from "
    ++ (decimal b.0 ++ 32 ∷ (codes "holder " ++ (decimal h.0 ++ 32 ∷ (codes "round " ++ decimal q)))))
    → Is32Bits r → Is32Bits b.0 → Is32Bits h.0 → Is32Bits q
    → BusyBy (number_in (first t)) (record { 0 = number_in (first (behind (behind t))) })
    (record { 0 = number_in (first (behind (behind (behind (behind t))))) })
    (number_in (behind (behind (behind (behind (behind (behind t))))))) ≡ BusyBy r b h q
busy_read r b h q t is few_r few_b few_h few_q =
    let v : List ℕ = codes "round " ++ decimal q in
    let u : List ℕ = codes "holder " ++ (decimal h.0 ++ 32 ∷ v) in
    let s : List ℕ = codes "from " ++ (decimal b.0 ++ 32 ∷ u) in
    let e0 : number_in (first t) ≡ r = ap (λ (x : List ℕ). number_in (first x)) is ∙ number_first r s few_r in
    let b1 : behind t ≡ s = ap behind is ∙ number_behind r s few_r in
    let b2 : behind (behind t) ≡ decimal b.0 ++ 32 ∷ u = ap behind b1 in
    let e2 : number_in (first (behind (behind t))) ≡ b.0 = ap (λ (x : List ℕ). number_in (first x)) b2
    ∙ number_first b.0 u few_b in
    let b3 : behind (behind (behind t)) ≡ u = ap behind b2 ∙ number_behind b.0 u few_b in
    let b4 : behind (behind (behind (behind t))) ≡ decimal h.0 ++ 32 ∷ v = ap behind b3 in
    let e4 : number_in (first (behind (behind (behind (behind t))))) ≡ h.0 = ap (λ (x : List ℕ). number_in (first x)) b4
    ∙ number_first h.0 v few_h in
    let b5 : behind (behind (behind (behind (behind t)))) ≡ v = ap behind b4 ∙ number_behind h.0 v few_h in
    let e6 : number_in (behind (behind (behind (behind (behind (behind t)))))) ≡ q =
    ap (λ (x : List ℕ). number_in (behind x)) b5 ∙ number_is q few_q in
    rw (e0, e2, e4, e6) refl

-- something is shown
abbrev Speaks : Outcome → Type 0
Speaks Quiet = ⊥
Speaks o = ⊤

outcome_is : (d : Diagram) → IsStation d → (o : Outcome) → Speaks o → OutcomeFits d o → Are32Bits o →
    read_outcome d (first (says d o)) (behind (says d o)) (reading_of o) ≡ o
outcome_is d station (Collecting r) some fits n = ap (λ (k : ℕ). Collecting k) (number_is r n)
outcome_is d station (Granted r op) some fits n = granted_read d station r op n fits
outcome_is d station (Denied r op rule v) some fits n = denied_read d station r op rule v
    (behind (says d (Denied r op rule v))) refl n fits.0
outcome_is d station (BusyBy r bay holder q) some fits n =
    busy_read r bay holder q (behind (says d (BusyBy r bay holder q))) refl n.0 n.1 n.2 n.3
outcome_is d station (HeldBy bay q) some fits n = held_read bay q (behind (says d (HeldBy bay q))) refl n.0 n.1
outcome_is d station (UnderWay r) some fits n = ap (λ (k : ℕ). UnderWay k) (number_is r n)
outcome_is d station There some fits n = refl
outcome_is d station Spent some fits n = refl
outcome_is d station (Finished r) some fits n = ap (λ (k : ℕ). Finished k) (number_is r n)
outcome_is d station (Withdrawn r) some fits n = ap (λ (k : ℕ). Withdrawn k) (number_is r n)
outcome_is d station (Stopped r) some fits n = ap (λ (k : ℕ). Stopped k) (number_is r n)
outcome_is d station Quiet some fits n = absurd some

-- ---- the rows of an outcome

-- the bay and the outcome that rows tell
abbrev pub read_rows : Diagram → List (List ℕ) → ℕ × Outcome
read_rows d [] = (0, Quiet)
read_rows d (r ∷ rs) = (bay_in r, read_outcome d (first (said r)) (behind (said r)) (read_vector d rs))

-- the outcome that is told of a bay
abbrev told_of : ℕ × Outcome → ℕ → Outcome
told_of p b = if p.0 == b then p.1 else Quiet

row_is : (d : Diagram) → IsStation d → (i c : ℕ) (o : Outcome) (rs : List (List ℕ)) → Is32Bits i → Is32Bits c →
    Speaks o → OutcomeFits d o → Are32Bits o
    → ((v : List Bool) → read_outcome d (first (says d o)) (behind (says d o)) v ≡ read_outcome d (first (says d o))
    (behind (says d o)) (reading_of o)) ⊎ (read_vector d rs ≡ reading_of o)
    → read_rows d ((line_prefix i c ++ says d o) ∷ rs) ≡ (c, o)
row_is d station i c o rs few less some fits n reading =
    let said_is = said_of_row i c (says d o) few less in
    let bay_is = bay_of_row i c (says d o) few less in
    ap (λ (x : List ℕ). let p : ℕ × Outcome = (
      bay_in (line_prefix i c ++ says d o),
      read_outcome d (first x) (behind x)
          (read_vector d rs),
    ) in p) said_is
    ∙ ap (λ (k : ℕ). let p : ℕ × Outcome =
    (k, read_outcome d (first (says d o)) (behind (says d o)) (read_vector d rs)) in p) bay_is
    ∙ ap (λ (x : Outcome). let p : ℕ × Outcome = (c, x) in p) (by_reading reading ∙ outcome_is d station o some fits n)
  where
    by_reading : ((v : List Bool) → read_outcome d (first (says d o)) (behind (says d o)) v ≡ read_outcome d
        (first (says d o)) (behind (says d o)) (reading_of o)) ⊎ (read_vector d rs ≡ reading_of o) →
        read_outcome d (first (says d o)) (behind (says d o)) (read_vector d rs) ≡ read_outcome d (first (says d o))
        (behind (says d o)) (reading_of o)
    by_reading (inl any) = any (read_vector d rs)
    by_reading (inr is) = ap (read_outcome d (first (says d o)) (behind (says d o))) is

quiet_is : (b c : ℕ) → (if c == b then Quiet else Quiet) ≡ Quiet
quiet_is b c = elim (cases_Bool (c == b)) [
  | inl e ↦ rw e refl
  | inr e ↦ rw e refl
]

-- what the rows of an outcome tell is the outcome, and its bay, if something is shown
outcome_read : (d : Diagram) → IsStation d → (i c : ℕ) (o : Outcome) → Is32Bits i → Is32Bits c → OutcomeFits d o →
    Are32Bits o → shown o ≡ o → (b : ℕ) →
    told_of (read_rows d (outcome_rows (line_prefix i c) d o)) b ≡ told_of (c, o) b
outcome_read d station i c (Collecting r) few less fits n un b = ap (λ (p : ℕ × Outcome). told_of p b)
    (row_is d station i c (Collecting r) [] few less tt fits n (inl (λ v. refl)))
outcome_read d station i c (Granted r op) few less fits n un b = ap (λ (p : ℕ × Outcome). told_of p b)
    (row_is d station i c (Granted r op) [] few less tt fits n (inl (λ v. refl)))
outcome_read d station i c (Denied r op rule v) few less fits n un b =
    let rs = with_rows (line_prefix i c) d v op.switch.0 (length d.switches) in
    let vector : read_vector d rs ≡ v = listed_is (length d.switches) v (λ (j : ℕ). any_row (names d j) rs) fits.1
    (λ j within. reading_at d station i c v op.switch.0 j few less (unmoved_off r op rule v un) within) in
    ap (λ (p : ℕ × Outcome). told_of p b) (row_is d station i c (Denied r op rule v) rs few less tt fits n (inr vector))
outcome_read d station i c (BusyBy r bay holder q) few less fits n un b = ap (λ (p : ℕ × Outcome). told_of p b)
    (row_is d station i c (BusyBy r bay holder q) [] few less tt fits n (inl (λ v. refl)))
outcome_read d station i c (HeldBy bay q) few less fits n un b = ap (λ (p : ℕ × Outcome). told_of p b)
    (row_is d station i c (HeldBy bay q) [] few less tt fits n (inl (λ v. refl)))
outcome_read d station i c (UnderWay r) few less fits n un b = ap (λ (p : ℕ × Outcome). told_of p b)
    (row_is d station i c (UnderWay r) [] few less tt fits n (inl (λ v. refl)))
outcome_read d station i c There few less fits n un b = ap (λ (p : ℕ × Outcome). told_of p b)
    (row_is d station i c There [] few less tt fits n (inl (λ v. refl)))
outcome_read d station i c Spent few less fits n un b = ap (λ (p : ℕ × Outcome). told_of p b)
    (row_is d station i c Spent [] few less tt fits n (inl (λ v. refl)))
outcome_read d station i c (Finished r) few less fits n un b = ap (λ (p : ℕ × Outcome). told_of p b)
    (row_is d station i c (Finished r) [] few less tt fits n (inl (λ v. refl)))
outcome_read d station i c (Withdrawn r) few less fits n un b = ap (λ (p : ℕ × Outcome). told_of p b)
    (row_is d station i c (Withdrawn r) [] few less tt fits n (inl (λ v. refl)))
outcome_read d station i c (Stopped r) few less fits n un b = ap (λ (p : ℕ × Outcome). told_of p b)
    (row_is d station i c (Stopped r) [] few less tt fits n (inl (λ v. refl)))
outcome_read d station i c Quiet few less fits n un b = quiet_is b 0 ∙ sym (quiet_is b c)

-- ---- messages

abbrev pub read_kind : List ℕ → MessageKind
read_kind w =
    if bytes_eq w (codes "reserve") then MessageKind.reserve
    else if bytes_eq w (codes "answer") then MessageKind.answer
    else if bytes_eq w (codes "busy") then MessageKind.busy
    else if bytes_eq w (codes "query") then MessageKind.query
    else MessageKind.over

kind_first : (x : MessageKind) (t : List ℕ) → read_kind (first (message_name x ++ 32 ∷ t)) ≡ x
kind_first MessageKind.reserve t = refl
kind_first MessageKind.answer t = refl
kind_first MessageKind.busy t = refl
kind_first MessageKind.query t = refl
kind_first MessageKind.over t = refl

kind_behind : (x : MessageKind) (t : List ℕ) → behind (message_name x ++ 32 ∷ t) ≡ t
kind_behind MessageKind.reserve t = refl
kind_behind MessageKind.answer t = refl
kind_behind MessageKind.busy t = refl
kind_behind MessageKind.query t = refl
kind_behind MessageKind.over t = refl

-- a message by the bay that its row begins with, and what stands behind `send`
abbrev pub read_sent : ℕ → List ℕ → Message
read_sent from t = record {
  number = number_in (first t);
  kind = read_kind (first (behind t));
  from = from;
  to = number_in (first (behind (behind t)));
  round = number_in (behind (behind (behind t)));
}

abbrev pub read_message : List ℕ → Message
read_message r = read_sent (bay_in r) (behind (said r))

sent_read : (x : Message) → IsNumbered x → (t : List ℕ) →
    t ≡ decimal x.number ++ 32 ∷ (message_name x.kind ++ 32 ∷ (decimal x.to ++ 32 ∷ decimal x.round)) →
    read_sent x.from t ≡ x
sent_read x n t is =
    let u : List ℕ = decimal x.to ++ 32 ∷ decimal x.round in
    let s : List ℕ = message_name x.kind ++ 32 ∷ u in
    let e0 : number_in (first t) ≡ x.number = ap (λ (y : List ℕ). number_in (first y)) is
    ∙ number_first x.number s n.number in
    let b1 : behind t ≡ s = ap behind is ∙ number_behind x.number s n.number in
    let e1 : read_kind (first (behind t)) ≡ x.kind = ap (λ (y : List ℕ). read_kind (first y)) b1
    ∙ kind_first x.kind u in
    let b2 : behind (behind t) ≡ u = ap behind b1 ∙ kind_behind x.kind u in
    let e2 : number_in (first (behind (behind t))) ≡ x.to = ap (λ (y : List ℕ). number_in (first y)) b2
    ∙ number_first x.to (decimal x.round) n.to in
    let b3 : behind (behind (behind t)) ≡ decimal x.round = ap behind b2 ∙ number_behind x.to (decimal x.round) n.to in
    let e3 : number_in (behind (behind (behind t))) ≡ x.round = ap number_in b3 ∙ number_is x.round n.round in
    λ j. record { number = e0 j; kind = e1 j; from = x.from; to = e2 j; round = e3 j }

message_read : (i : ℕ) (x : Message) → Is32Bits i → IsNumbered x → read_message (message_row i x) ≡ x
message_read i x few n =
    ap (λ (t : List ℕ). read_sent (bay_in (message_row i x)) (behind t))
    (said_of_row i x.from (message_says x) few n.from)
    ∙ ap (λ (k : ℕ). read_sent k (behind (message_says x))) (bay_of_row i x.from (message_says x) few n.from)
    ∙ sent_read x n (behind (message_says x)) refl

messages_read : (i : ℕ) (xs : List Message) → Is32Bits i → All IsNumbered xs → map read_message (message_rows i xs) ≡ xs
messages_read i [] few all = refl
messages_read i (x ∷ xs) few all =
    ap (λ (y : Message). y ∷ map read_message (message_rows i xs)) (message_read i x few (all 0 x (omega arith)))
    ∙ ap (λ (ys : List Message). x ∷ ys) (messages_read i xs few (λ k d less. all (suc k) d (omega (arith, less))))

-- ---- all that is shown

-- the row is that of a message
abbrev pub is_sent : List ℕ → Bool
is_sent r = bytes_eq (first (said r)) (codes "send")

abbrev pub is_other : List ℕ → Bool
is_other r = if is_sent r then false else true

says_other : (d : Diagram) (o : Outcome) → bytes_eq (first (says d o)) (codes "send") ≡ false
says_other d (Collecting r) = refl
says_other d (Granted r op) = refl
says_other d (Denied r op rule v) = refl
says_other d (BusyBy r bay holder q) = refl
says_other d (HeldBy bay q) = refl
says_other d (UnderWay r) = refl
says_other d There = refl
says_other d Spent = refl
says_other d (Finished r) = refl
says_other d (Withdrawn r) = refl
says_other d (Stopped r) = refl
says_other d Quiet = refl

abbrev Test : (List ℕ → Bool) → Bool → List ℕ → Type 0
Test p is r = p r ≡ is

outcomes_other : (d : Diagram) (i c : ℕ) (o : Outcome) → Is32Bits i → Is32Bits c →
    Each (Test is_sent false) (outcome_rows (line_prefix i c) d o)
outcomes_other d i c o few less = outcome_each (Test is_sent false) (line_prefix i c) d o
    (ap (λ (t : List ℕ). bytes_eq (first t) (codes "send")) (said_of_row i c (says d o) few less) ∙ says_other d o)
    (λ j. ap (λ (t : List ℕ). bytes_eq (first t) (codes "send"))
    (said_of_row i c (codes "with " ++ switch_path d j) few less))

messages_sent : (i : ℕ) (xs : List Message) → Is32Bits i → All IsNumbered xs →
    Each (Test is_sent true) (message_rows i xs)
messages_sent i xs few all = messages_each (Test is_sent true) IsNumbered i xs
    (λ x n. ap (λ (t : List ℕ). bytes_eq (first t) (codes "send")) (said_of_row i x.from (message_says x) few n.from))
    all

turned : (b : Bool) (rs : List (List ℕ)) → Each (Test is_sent b) rs →
    Each (Test is_other (if b then false else true)) rs
turned b [] each = tt
turned b (r ∷ rs) each = (ap (λ (c : Bool). if c then false else true) each.0, turned b rs each.1)

-- what the rows of a line tell
abbrev pub tell : Diagram → List (List ℕ) → Shown
tell d rs = record {
  bay = (read_rows d (kept is_other rs)).0;
  outcome = (read_rows d (kept is_other rs)).1;
  messages =
      map read_message (kept is_sent rs);
}

pub shown_read : (d : Diagram) → IsStation d → (i : ℕ) (s : Shown) → Is32Bits i → IsShowable d s →
    ShowSame s (tell d (shown_rows d i s))
shown_read d station i s few is =
    let outs = outcome_rows (line_prefix i s.bay) d s.outcome in
    let sent = message_rows i s.messages in
    let no_sent = outcomes_other d i s.bay s.outcome few is.bay in
    let all_sent = messages_sent i s.messages few is.messages in
    let others : kept is_other (outs ++ sent) ≡ outs =
    kept_append is_other outs sent
    ∙ ap (λ (rs : List (List ℕ)). kept is_other outs ++ rs) (none_kept is_other sent (turned true sent all_sent))
    ∙ append-nil (kept is_other outs)
    ∙ all_kept is_other outs (turned false outs no_sent) in
    let sends : kept is_sent (outs ++ sent) ≡ sent =
    kept_append is_sent outs sent
    ∙ ap (λ (rs : List (List ℕ)). rs ++ kept is_sent sent) (none_kept is_sent outs no_sent)
    ∙ all_kept is_sent sent all_sent in
    record {
      outcome = λ b. sym (ap (λ (rs : List (List ℕ)). told_of (read_rows d rs) b) others
          ∙ outcome_read d station i s.bay s.outcome few is.bay is.fits is.numbers is.unmoved b);
      messages = sym (ap (map read_message) sends ∙ messages_read i s.messages few is.messages);
    }
