-- The readings of the words of a position are the vectors with that position.
use Rattle.std.proofs.Common.{◌≡◌, ◌∙◌, sym, ap, subst, refl, ℕ, ◌<◌, ◌+◌, ◌==◌, Bool, true, false, ◌||◌, List, length}
use Rattle.std.proofs.Common.{take, set, arith, Some, get_or, Result, Ok, Err}
use Rattle.std.specs.Prelude.{slice_get, IfOk, if◌then◌else◌}
use Rattle.std.proofs.lemmas.Bool.{eqb-true}
use Rattle.std.proofs.lemmas.List.{length-set}
use Rattle.std.proofs.lemmas.Option.{same_Some, slice_get-get_or, slice_get_within, get_or_from_slice_get}
use Rattle.ilk_base.specs.declared.words.SwitchId.{SwitchId}
use Rattle.ilk_base.specs.declared.words.Dbpos.{Dbpos}
use Rattle.ilk_base.specs.declared.words.Dbpos.TheVariants.{Lost}
use Rattle.ilk_base.specs.declared.words.Op.{Op}
use Rattle.double_points.specs.Words.{Agrees, AreWords}
use Rattle.station_graph.specs.Diagram.{Diagram}
use Rattle.station_graph.specs.Alike.{IsVector}
use Rattle.central_rules.specs.Readings.{IsReading, Decides}
use Rattle.central_rules.specs.declared.verdict.Verdict.{Verdict}
use Rattle.central_rules.specs.declared.verdict.Verdict.TheVariants.{Release, Denied}
use Rattle.equation_audit.specs.Equations.{is_among}
use Rattle.equation_audit.proofs.PlaceLemmas.{set_same, set_other, not_equal, take-next}
use Rattle.equation_audit.proofs.OwnLemmas.{is_among-push}
use Rattle.equation_audit.specs.Positions.{word_at, own_word, AreOwnWords, SharesPosition, AllAmong}

agrees_same : (b c : Bool) → Agrees (word_at b) c → c ≡ b
agrees_same true c agrees = agrees
agrees_same false c agrees = agrees

same_agrees : (b c : Bool) → c ≡ b → Agrees (word_at b) c
same_agrees true c same = same
same_agrees false c same = same

own_word-own : (own : List SwitchId) (u : List Bool) (i : ℕ) → is_among own i ≡ true →
    own_word own u i ≡ word_at (get_or u i false)
own_word-own own u i among = ap (λ t. if t then word_at (get_or u i false) else Lost) among

own_word-other : (own : List SwitchId) (u : List Bool) (i : ℕ) → is_among own i ≡ false → own_word own u i ≡ Lost
own_word-other own u i none = ap (λ t. if t then word_at (get_or u i false) else Lost) none

-- a reading has the position
reading_shares : (d : Diagram) (own : List SwitchId) (u : List Bool) (words : List Dbpos) (v : List Bool) →
    AreWords d words → AreOwnWords own u words → IsVector d u → AllAmong (length d.switches) own → IsReading words v →
    SharesPosition d (is_among own) u v
reading_shares d own u words v all are whole below reading = record {
  whole = reading.whole ∙ all;
  same = λ i among.
      let lt : i < length d.switches = below i among in
      let at_v : slice_get v i ≡ Some (get_or v i false) =
      slice_get-get_or v i false (omega (arith, lt, reading.whole, all)) in
      let agrees : Agrees (word_at (get_or u i false)) (get_or v i false) =
      reading.agree i (word_at (get_or u i false)) (get_or v i false) (omega arith) (are i (omega (arith, lt, all))
      ∙ ap Some (own_word-own own u i among)) at_v in
      at_v ∙ ap Some (agrees_same (get_or u i false) (get_or v i false) agrees)
      ∙ sym (slice_get-get_or u i false (omega (arith, lt, whole)));
}

-- and what has the position is a reading
shares_reading : (d : Diagram) (own : List SwitchId) (u : List Bool) (words : List Dbpos) (v : List Bool) →
    AreWords d words → AreOwnWords own u words → IsVector d u → SharesPosition d (is_among own) u v → IsReading words v
shares_reading d own u words v all are whole shares = record {
  whole = shares.whole ∙ sym all;
  agree = λ i word closed from at_word at_v. by_test i word closed at_word at_v (is_among own i) refl;
}
  where
    by_test : (i : ℕ) (word : Dbpos) (closed : Bool) → slice_get words i ≡ Some word → slice_get v i ≡ Some closed →
        (t : Bool) → is_among own i ≡ t → Agrees word closed
    by_test i word closed at_word at_v true among =
        let lt : i < length v = slice_get_within v i closed at_v in
        let e : word_at (get_or u i false) ≡ word = same_Some (word_at (get_or u i false)) word
        (sym (are i (slice_get_within words i word at_word) ∙ ap Some (own_word-own own u i among)) ∙ at_word) in
        let same : closed ≡ get_or u i false = same_Some closed (get_or u i false) (sym at_v ∙ shares.same i among
        ∙ slice_get-get_or u i false (omega (arith, lt, shares.whole, whole))) in
        subst (λ (w : Dbpos). Agrees w closed) e (same_agrees (get_or u i false) closed same)
    by_test i word closed at_word at_v false none =
        let e : Lost ≡ word = same_Some Lost word (sym (are i (slice_get_within words i word at_word)
        ∙ ap Some (own_word-other own u i none)) ∙ at_word) in
        subst (λ (w : Dbpos). Agrees w closed) e tt

-- what is decided over some vectors is decided over the same
decides_same : (d : Diagram) (P Q : List Bool → Type 0) (op : Op) (verdict : Verdict) →
    ((v : List Bool) → P v → Q v) → ((v : List Bool) → Q v → P v) → Decides d P op verdict → Decides d Q op verdict
decides_same d P Q op Release to back decides = λ v these. decides v (back v these)
decides_same d P Q op (Denied rule v) to back decides = (to v decides.0, decides.1)

-- the answer of the judge for the words of a position
pub asked : {E : Type 0} (r : Result Verdict E) (d m : Diagram) (own : List SwitchId) (u : List Bool)
    (words : List Dbpos) (op : Op) → m ≡ d → AreWords d words → AreOwnWords own u words → IsVector d u →
    AllAmong (length d.switches) own
    → IfOk r (Decides m (IsReading words) op) → IfOk r (Decides d (SharesPosition d (is_among own) u) op)
asked (Ok verdict) d m own u words op of all are whole below decides =
    decides_same d (IsReading words) (SharesPosition d (is_among own) u) op verdict
    (λ v reading. reading_shares d own u words v all are whole below reading)
    (λ v shares. shares_reading d own u words v all are whole shares)
    (subst (λ (x : Diagram). Decides x (IsReading words) op verdict) of decides)
asked (Err e) d m own u words op of all are whole below decides = tt

own_word-same : (own more : List SwitchId) (u : List Bool) (i : ℕ) → is_among own i ≡ is_among more i →
    own_word own u i ≡ own_word more u i
own_word-same own more u i same = ap (λ t. if t then word_at (get_or u i false) else Lost) same

no_more_there : (a b : Bool) → b ≡ false → a ≡ (a || b)
no_more_there true b none = refl
no_more_there false b none = sym none

there : (a b : Bool) → b ≡ true → (a || b) ≡ true
there true b is = refl
there false b is = is

-- after one more switch
pub one_word_more : (own : List SwitchId) (u : List Bool) (words : List Dbpos) (k : ℕ) (d : SwitchId) (closed : Bool)
    (word : Dbpos) → k < length own → (get_or own k d).0 < length words → slice_get u (get_or own k d).0 ≡ Some closed →
    word ≡ word_at closed
    → AreOwnWords (take k own) u words → AreOwnWords (take (k + 1) own) u (set words (get_or own k d).0 word)
one_word_more own u words k d closed word lt within at_u says are i less = by_test ((get_or own k d).0 == i) refl
  where
    next : is_among (take (k + 1) own) i ≡ (is_among (take k own) i || ((get_or own k d).0 == i))
    next = ap (λ (ids : List SwitchId). is_among ids i) (take-next own k d lt) ∙ is_among-push (take k own)
        (get_or own k d) i

    by_test : (t : Bool) → ((get_or own k d).0 == i) ≡ t → slice_get (set words (get_or own k d).0 word) i ≡ Some
        (own_word (take (k + 1) own) u i)
    by_test true same =
        let e : (get_or own k d).0 ≡ i = eqb-true (get_or own k d).0 i same in
        let among : is_among (take (k + 1) own) i ≡ true = next ∙ there (is_among (take k own) i)
        ((get_or own k d).0 == i) same in
        let here : get_or u i false ≡ closed = get_or_from_slice_get u i closed false
        (subst (λ (n : ℕ). slice_get u n ≡ Some closed) e at_u) in
        ap (λ (n : ℕ). slice_get (set words n word) i) e
        ∙ set_same words i word (subst (λ (n : ℕ). n < length words) e within)
        ∙ ap Some (says ∙ ap word_at (sym here) ∙ sym (own_word-own (take (k + 1) own) u i among))
    by_test false other =
        set_other words (get_or own k d).0 i word (not_equal (get_or own k d).0 i other)
        ∙ are i (omega (arith, less, length-set words (get_or own k d).0 word))
        ∙ ap Some (own_word-same (take k own) (take (k + 1) own) u i (no_more_there (is_among (take k own) i)
        ((get_or own k d).0 == i) other ∙ sym next))
