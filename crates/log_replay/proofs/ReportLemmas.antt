-- The text of a report.
use Rattle.std.proofs.Common.{◌≡◌, ◌+◌, ◌<◌, ◌≤◌, ◌∙◌, sym, ap, refl, subst, ℕ, zero, suc, Bool, true, false}
use Rattle.std.proofs.Common.{List, [], ◌∷◌, ◌++◌, length, take, map, append-nil, append_assoc, arith}
use Rattle.std.proofs.Common.{add-one, Some, length-set}
use Rattle.std.specs.Prelude.{slice_get, All, Option, cond, codes, decimal}
use Rattle.std.proofs.lemmas.Bool.{lt-ltb}
use Rattle.std.specs.List.{enumerate_from, flat_map}
use Rattle.std.proofs.lemmas.List.{length-map, map-append}
use Rattle.std.proofs.lemmas.List.Sums.{fold-append}
use Rattle.std.proofs.lemmas.Grind.{flat_map-append}
use Rattle.std.proofs.lemmas.Option.{get_or_from_slice_get}
use Rattle.station_graph.specs.Diagram.{Diagram, switches_in}
use Rattle.central_rules.specs.Meaning.{IsBay}
use Rattle.bay_frames.specs.declared.frame.Frame.{Frame}
use Rattle.bay_protocol.specs.declared.values.Outcome.{Outcome}
use Rattle.bay_protocol.specs.declared.values.Outcome.TheVariants.{UnderWay, HeldBy, There, Spent, Collecting, Granted}
use Rattle.bay_protocol.specs.declared.values.Outcome.TheVariants.{Denied, BusyBy, Finished, Withdrawn, Stopped, Quiet}
use Rattle.bay_protocol.specs.OutcomeLines.{OutcomeFits}
use Rattle.reservation_core.specs.declared.values.WorldOutcome.{WorldOutcome}
use Rattle.log_replay.specs.Replay.{how_many, shown_at}
use Rattle.reservation_core.specs.Lines.{Message, Shown, message, messages, shown}
use Rattle.reservation_core.specs.ReportLines.{bay_line, shown_lines, all_lines, message_line}

-- ---- the moved switch is not shown

-- what is shown of an outcome is of the station exactly where the outcome is
pub fits_shown : (d : Diagram) (o : Outcome) → OutcomeFits d o → OutcomeFits d (shown o)
fits_shown d (Collecting r) fits = tt
fits_shown d (Granted r op) fits = fits
fits_shown d (Denied r op rule v) fits = (fits.0, length-set v op.switch.0 false ∙ fits.1)
fits_shown d (BusyBy r bay holder q) fits = tt
fits_shown d (HeldBy bay q) fits = tt
fits_shown d (UnderWay r) fits = tt
fits_shown d There fits = tt
fits_shown d Spent fits = tt
fits_shown d (Finished r) fits = tt
fits_shown d (Withdrawn r) fits = tt
fits_shown d (Stopped r) fits = tt
fits_shown d Quiet fits = tt

-- ---- bays

-- the line of a bay
pub bay_line_is : (d : Diagram) (b : ℕ) (path : List ℕ) → IsBay d b → slice_get d.part_paths b ≡ Some path →
    bay_line d b ≡ codes "bay " ++ decimal b ++ codes " " ++ path ++ codes "\n"
bay_line_is d b path bay at = rw (
  lt-ltb 0 (switches_in d b) bay.1,
  get_or_from_slice_get d.part_paths b
      path [] at,
) refl

-- ---- lists that grow at the end

take_suc : {X : Type 0} (xs : List X) (k : ℕ) (x : X) → slice_get xs k ≡ Some x → take (suc k) xs ≡ take k xs ++ x ∷ []
take_suc [] k x at = absurd (cc at)
take_suc {X} (y ∷ xs) zero x at = let same : y ≡ x = cc at in ap (λ (z : X). z ∷ []) same
take_suc {X} (y ∷ xs) (suc k) x at = ap (λ (zs : List X). y ∷ zs) (take_suc xs k x at)

pub take_next : {X : Type 0} (xs : List X) (k : ℕ) (x : X) → slice_get xs k ≡ Some x →
    take (k + 1) xs ≡ take k xs ++ x ∷ []
take_next xs k x at = ap (λ j. take j xs) (add-one k) ∙ take_suc xs k x at

taken_length : {X : Type 0} (xs : List X) (k : ℕ) → k ≤ length xs → length (take k xs) ≡ k
taken_length xs zero few = refl
taken_length [] (suc k) few = absurd (omega (arith, few))
taken_length (x ∷ xs) (suc k) few = ap suc (taken_length xs k (omega (arith, few)))

enumerate_more : {X : Type 0} (n m : ℕ) (xs : List X) (x : X) → m ≡ n + length xs →
    enumerate_from n (xs ++ x ∷ []) ≡ enumerate_from n xs ++ (m, x) ∷ []
enumerate_more {X} n m [] x is = let e : n ≡ m = omega (arith, is) in ap (λ k. let pairs : List (ℕ × X) =
    (k, x) ∷ [] in pairs) e
enumerate_more {X} n m (y ∷ xs) x is = ap (λ (ps : List (ℕ × X)). (n, y) ∷ ps) (enumerate_more (n + 1) m xs x
    (omega (arith, is)))

-- one line more of a log
all_lines_more : (d : Diagram) (out : List Shown) (s : Shown) (k : ℕ) → length out ≡ k →
    all_lines d (out ++ s ∷ []) ≡ all_lines d out ++ shown_lines d (k + 1) s
all_lines_more d out s k is =
    let text = λ (p : ℕ × Shown). shown_lines d p.0 p.1 in
    ap (flat_map text) (enumerate_more 1 (k + 1) out s (omega (arith, is)))
    ∙ flat_map-append text (enumerate_from 1 out) ((k + 1, s) ∷ [])
    ∙ ap (λ last. all_lines d out ++ last) (append-nil (shown_lines d (k + 1) s))

-- one outcome more
pub all_shown_more : (d : Diagram) (outs : List (Option WorldOutcome)) (k : ℕ) (o : Option WorldOutcome) →
    slice_get outs k ≡ Some o → k ≤ length outs → all_lines d (map shown_at (take (k + 1) outs)) ≡ all_lines d
    (map shown_at (take k outs)) ++ shown_lines d (k + 1) (shown_at o)
all_shown_more d outs k o at few =
    ap (λ os. all_lines d (map shown_at os)) (take_next outs k o at)
    ∙ ap (all_lines d) (map-append shown_at (take k outs) (o ∷ []))
    ∙ all_lines_more d (map shown_at (take k outs)) (shown_at o) k (length-map (take k outs) shown_at
    ∙ taken_length outs k few)

messages_more : (first : ℕ) (fs : List Frame) (f : Frame) (k : ℕ) → k ≡ first + length fs →
    messages first (fs ++ f ∷ []) ≡ messages first fs ++ message k f ∷ []
messages_more first [] f k is = let e : first ≡ k = omega (arith, is) in ap (λ (n : ℕ). let list : List Message =
    message n f ∷ [] in list) e
messages_more first (g ∷ fs) f k is = ap (λ (xs : List Message). message first g ∷ xs) (messages_more (first + 1) fs f k
    (omega (arith, is)))

-- one message more
pub message_lines_more : (i first : ℕ) (fs : List Frame) (k : ℕ) (f : Frame) → slice_get fs k ≡ Some f → k ≤ length fs →
    flat_map (message_line i) (messages first (take (k + 1) fs))
    ≡ flat_map (message_line i) (messages first (take k fs))
    ++ message_line i (message (first + k) f)
message_lines_more i first fs k f at few =
    ap (λ gs. flat_map (message_line i) (messages first gs)) (take_next fs k f at)
    ∙ ap (flat_map (message_line i)) (messages_more first (take k fs) f (first + k) (let long = taken_length fs k few in
    omega (arith, long)))
    ∙ flat_map-append (message_line i) (messages first (take k fs)) (message (first + k) f ∷ [])
    ∙ ap (λ last. flat_map (message_line i) (messages first (take k fs)) ++ last)
    (append-nil (message_line i (message (first + k) f)))

-- a text to which one line more was appended
pub appended : (old now new lines line more : List ℕ) → new ≡ now ++ line → now ≡ old ++ lines → more ≡ lines ++ line →
    new ≡ old ++ more
appended old now new lines line more last is next = last ∙ ap (λ t. t ++ line) is ∙ append_assoc old lines line
    ∙ ap (λ t. old ++ t) (sym next)

-- ---- numbers

pub numbers_below : (most first : ℕ) (fs : List Frame) (i : ℕ) → i < length fs →
    All (λ (x : Message). x.number < most) (messages first fs) → first + i < most
numbers_below most first [] i lt all = absurd (omega (arith, lt))
numbers_below most first (f ∷ fs) zero lt all = let it : first < most = all 0 (message first f) (omega arith) in
    omega (arith, it)
numbers_below most first (f ∷ fs) (suc i) lt all = let it = numbers_below most (first + 1) fs i (omega (arith, lt))
    (λ k d less. all (suc k) d (omega (arith, less))) in omega (arith, it)

pub below_numbers : (most first : ℕ) (fs : List Frame) → first + length fs ≤ most →
    All (λ (x : Message). x.number < most) (messages first fs)
below_numbers most first [] few k d lt = absurd (omega (arith, lt))
below_numbers most first (f ∷ fs) few zero d lt = omega (arith, few)
below_numbers most first (f ∷ fs) few (suc k) d lt = below_numbers most (first + 1) fs (omega (arith, few)) k d
    (omega (arith, lt))

-- ---- elements

pub mapped_each : {A B : Type 0} (P : B → Type 0) (f : A → B) (xs : List A) (i : ℕ) (x : A) → All P (map f xs) →
    slice_get xs i ≡ Some x → P (f x)
mapped_each P f [] i x all at = absurd (cc at)
mapped_each {A} P f (y ∷ xs) zero x all at = let same : y ≡ x = cc at in subst (λ (z : A). P (f z)) same
    (all 0 (f y) (omega arith))
mapped_each P f (y ∷ xs) (suc i) x all at = mapped_each P f xs i x (λ k d lt. all (suc k) d (omega (arith, lt))) at

pub each_at : {A : Type 0} (P : A → Type 0) (xs : List A) (i : ℕ) (x : A) → All P xs → slice_get xs i ≡ Some x → P x
each_at P [] i x all at = absurd (cc at)
each_at {A} P (y ∷ xs) zero x all at = let same : y ≡ x = cc at in subst P same (all 0 y (omega arith))
each_at P (y ∷ xs) (suc i) x all at = each_at P xs i x (λ k d lt. all (suc k) d (omega (arith, lt))) at

pub all_more : {A : Type 0} (P : A → Type 0) (xs : List A) (x : A) → All P xs → P x → All P (xs ++ x ∷ [])
all_more P [] x all it zero d lt = it
all_more P [] x all it (suc k) d lt = absurd (omega (arith, lt))
all_more P (y ∷ xs) x all it zero d lt = all 0 d (omega arith)
all_more P (y ∷ xs) x all it (suc k) d lt = all_more P xs x (λ j c less. all (suc j) c (omega (arith, less))) it k d
    (omega (arith, lt))

-- ---- counts

many_more : (p : Outcome → Bool) (outs : List (Option WorldOutcome)) (k : ℕ) (o : Option WorldOutcome) →
    slice_get outs k ≡ Some o → how_many p (map shown_at (take (k + 1) outs)) ≡ how_many p (map shown_at (take k outs))
    + cond (p (shown_at o).outcome) 1 0
many_more p outs k o at =
    ap (λ os. how_many p (map shown_at os)) (take_next outs k o at)
    ∙ ap (how_many p) (map-append shown_at (take k outs) (o ∷ []))
    ∙ fold-append (λ (n : ℕ) (s : Shown). n + cond (p s.outcome) 1 0) 0 (map shown_at (take k outs)) (shown_at o ∷ [])

pub many_yes : (p : Outcome → Bool) (outs : List (Option WorldOutcome)) (k : ℕ) (o : Option WorldOutcome) →
    slice_get outs k ≡ Some o → p (shown_at o).outcome ≡ true →
    how_many p (map shown_at (take (k + 1) outs)) ≡ how_many p
    (map shown_at (take k outs)) + 1
many_yes p outs k o at is = many_more p outs k o at
    ∙ ap (λ (b : Bool). how_many p (map shown_at (take k outs)) + cond b 1 0) is

pub many_no : (p : Outcome → Bool) (outs : List (Option WorldOutcome)) (k : ℕ) (o : Option WorldOutcome) →
    slice_get outs k ≡ Some o → p (shown_at o).outcome ≡ false → how_many p (map shown_at (take (k + 1) outs))
    ≡ how_many p (map shown_at (take k outs))
many_no p outs k o at is = let more = many_more p outs k o at
    ∙ ap (λ (b : Bool). how_many p (map shown_at (take k outs)) + cond b 1 0) is in omega (arith, more)
