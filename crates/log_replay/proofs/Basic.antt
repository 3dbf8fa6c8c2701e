-- Small lemmas on lines, lists of frames and messages.
use Rattle.std.proofs.Common.{◌≡◌, ◌≢◌, ◌+◌, ◌<◌, ◌≤◌, ◌==◌, ◌⊎◌, ltb, ℕ, zero, suc, Bool, true, false, cond, List, []}
use Rattle.std.proofs.Common.{◌∷◌, length, get_or, set, Option, Some, None, Contains, refl, sym, subst, ap, ◌∙◌, inl}
use Rattle.std.proofs.Common.{inr, arith, get_or-set_same, get_or-set_other}
use Rattle.std.specs.Prelude.{slice_get, ◌&&◌}
use Rattle.std.proofs.lemmas.Bool.{cases_Bool, ltb-true, ltb-false}
use Rattle.std.proofs.lemmas.Bool.Decides.{eqb_tells}
use Rattle.station_graph.specs.Diagram.{Diagram}
use Rattle.ilk_base.specs.declared.words.Dbpos.{Dbpos}
use Rattle.ilk_base.specs.declared.words.Dbpos.TheVariants.{Lost}
use Rattle.bay_frames.specs.declared.frame.Frame.{Frame}
use Rattle.bay_frames.specs.declared.frame.Body.{Body}
use Rattle.bay_protocol.specs.declared.values.Outcome.TheVariants.{Quiet}
use Rattle.bay_protocol.specs.Sends.{to_each}
use Rattle.reservation_core.specs.Lines.{MessageKind, Message, Shown, of_bay, message, messages}
use Rattle.reservation_core.specs.History.{with_number, Sending}
use Rattle.reservation_core.specs.Hearing.{listed, is_answer, is_round, answers, words_told}

-- ---- numbers

pub eqb_same : (a : ℕ) → (a == a) ≡ true
eqb_same a = elim (eqb_tells a a) [ inl p ↦ p.0 | inr p ↦ absurd (p.1 refl) ]

pub eqb_differ : (a b : ℕ) → a ≢ b → (a == b) ≡ false
eqb_differ a b differ = elim (eqb_tells a b) [ inl p ↦ absurd (differ p.1) | inr p ↦ p.0 ]

eqb_is : (a b : ℕ) → (a == b) ≡ true → a ≡ b
eqb_is a b is = elim (eqb_tells a b) [ inl p ↦ p.1 | inr p ↦ absurd (cc (p.0, is)) ]

pub and_left : (a b : Bool) → (a && b) ≡ true → a ≡ true
and_left true b is = refl
and_left false b is = absurd (cc is)

pub and_right : (a b : Bool) → (a && b) ≡ true → b ≡ true
and_right true b is = is
and_right false b is = absurd (cc is)

pub in_or_past : (k n : ℕ) → (k < n) ⊎ (n ≤ k)
in_or_past k n = elim (cases_Bool (ltb k n)) [
  | inl below ↦ inl (ltb-true k n below)
  | inr past ↦ inr
      (ltb-false k n past)
]

-- ---- what a line shows of a bay

pub of_own : (s : Shown) (b : ℕ) → s.bay ≡ b → of_bay s b ≡ s.outcome
of_own s b is = rw (ap (λ x. x == b) is ∙ eqb_same b) refl

pub of_other : (s : Shown) (c : ℕ) → s.bay ≢ c → of_bay s c ≡ Quiet
of_other s c differ = rw (eqb_differ s.bay c differ) refl

pub of_quiet : (s : Shown) (c : ℕ) → s.outcome ≡ Quiet → of_bay s c ≡ Quiet
of_quiet s c is = elim (cases_Bool (s.bay == c)) [ inl p ↦ rw p is | inr p ↦ rw p refl ]

-- ---- lists

pub get_listed : {A : Type 0} (f : ℕ → A) (n i : ℕ) (d : A) → i < n → get_or (listed f n) i d ≡ f i
get_listed f zero i d lt = absurd (omega (arith, lt))
get_listed f (suc n) zero d lt = refl
get_listed f (suc n) (suc i) d lt = get_listed (λ k. f (suc k)) n i d (omega (arith, lt))

pub length_listed : {A : Type 0} (f : ℕ → A) (n : ℕ) → length (listed f n) ≡ n
length_listed f zero = refl
length_listed f (suc n) = ap (λ x. suc x) (length_listed (λ k. f (suc k)) n)

pub set_is : (words : List Dbpos) (i : ℕ) (word : Dbpos) (j : ℕ) → i < length words →
    get_or (set words i word) j Lost ≡ cond (i == j) word (get_or words j Lost)
set_is words i word j lt = elim (eqb_tells i j) [
  | inl p ↦ rw p.0 (subst (λ (x : ℕ). get_or (set words i word) x Lost ≡ word) p.1
      (get_or-set_same words i word Lost lt))
  | inr p ↦ rw p.0 (get_or-set_other words i j word Lost (λ is. p.1 (sym is)))
]

-- ---- frames

pub no_frame : (f : Frame) → ¬ Contains [] f
no_frame f there = absurd (omega (arith, there.1))

pub one_frame : (x f : Frame) → Contains (x ∷ []) f → x ≡ f
one_frame x f (zero, lt, is) = is
one_frame x f (suc k, lt, is) = absurd (omega (arith, lt))

frame_body : (from round : ℕ) (body : Body) (tos : List ℕ) (k : ℕ) (f : Frame) →
    k < length (to_each from round body tos) → get_or (to_each from round body tos) k f ≡ f → f.body ≡ body
frame_body from round body [] k f lt is = absurd (omega (arith, lt))
frame_body from round body (t ∷ tos) zero f lt is = ap (λ (x : Frame). x.body) (sym is)
frame_body from round body (t ∷ tos) (suc k) f lt is = frame_body from round body tos k f (omega (arith, lt)) is

pub each_frame : (from round : ℕ) (body : Body) (tos : List ℕ) (f : Frame) → Contains (to_each from round body tos) f →
    f.body ≡ body
each_frame from round body tos f there = frame_body from round body tos there.0 f there.1 there.2

-- ---- numbered messages

pub number_before : (n first : ℕ) (fs : List Frame) → n < first → with_number n (messages first fs) ≡ None
number_before n first [] lt = refl
number_before n first (f ∷ fs) lt = rw (eqb_differ first n (λ is. absurd (omega (arith, is, lt))))
    (number_before n (first + 1) fs (omega (arith, lt)))

pub number_after : (n first : ℕ) (fs : List Frame) → first + length fs ≤ n → with_number n (messages first fs) ≡ None
number_after n first [] past = refl
number_after n first (f ∷ fs) past = rw (eqb_differ first n (λ is. absurd (omega (arith, is, past))))
    (number_after n (first + 1) fs (omega (arith, past)))

pub number_at : (n first : ℕ) (fs : List Frame) (k : ℕ) (f : Frame) → n ≡ first + k → slice_get fs k ≡ Some f →
    with_number n (messages first fs) ≡ Some (message n f)
number_at n first [] k f is got = absurd (cc got)
number_at n first (x ∷ fs) zero f is got =
    let e : x ≡ f = cc got in
    let at : first ≡ n = omega (arith, is) in
    rw (ap (λ y. y == n) at ∙ eqb_same n) (ap (λ (y : ℕ). Some (message y x)) at
    ∙ ap (λ (y : Frame). Some (message n y)) e)
number_at n first (x ∷ fs) (suc k) f is got = rw (eqb_differ first n (λ same. absurd (omega (arith, is, same))))
    (number_at n (first + 1) fs k f (omega (arith, is)) got)

-- ---- answers

pub record IsAnswer (x : Message) (b c : ℕ) (r : Option ℕ) : Type 0 where
  pub kind : x.kind ≡ MessageKind.answer
  pub from : x.from ≡ b
  pub to : x.to ≡ c
  pub round : r ≡ Some x.round

kind_is : (k : MessageKind) → is_answer k ≡ true → k ≡ MessageKind.answer
kind_is MessageKind.answer is = refl
kind_is MessageKind.reserve is = absurd (cc is)
kind_is MessageKind.busy is = absurd (cc is)
kind_is MessageKind.query is = absurd (cc is)
kind_is MessageKind.over is = absurd (cc is)

round_is : (q : ℕ) (r : Option ℕ) → is_round q r ≡ true → r ≡ Some q
round_is q None is = absurd (cc is)
round_is q (Some r) is = ap (λ (x : ℕ). Some x) (sym (eqb_is q r is))

pub answer_tells : (x : Message) (b c : ℕ) (r : Option ℕ) → answers x b c r ≡ true → IsAnswer x b c r
answer_tells x b c r is =
    let rest = and_right (is_answer x.kind) _ is in
    let last = and_right (x.from == b) _ rest in
    record {
      kind = kind_is x.kind (and_left (is_answer x.kind) _ is);
      from = eqb_is x.from b (and_left (x.from == b) _ rest);
      to = eqb_is x.to c (and_left (x.to == c) _ last);
      round = round_is x.round r (and_right (x.to == c) _ last);
    }

pub answer_is : (x : Message) (b c : ℕ) (r : Option ℕ) → IsAnswer x b c r → answers x b c r ≡ true
answer_is x b c r is = rw (is.kind, is.from, is.to, is.round, eqb_same b, eqb_same c, eqb_same x.round) refl

pub told_nothing : (d : Diagram) (s : Sending) (b c : ℕ) (r : Option ℕ) → ¬ IsAnswer s.message b c r →
    words_told d (Some s) b c r ≡ None
told_nothing d s b c r never = elim (cases_Bool (answers s.message b c r))
    [ inl p ↦ absurd (never (answer_tells s.message b c r p)) | inr p ↦ rw p refl ]
