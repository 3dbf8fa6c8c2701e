-- What a write leaves of a text on its way.
use Rattle.std.proofs.Common.{◌≡◌, ◌≤◌, ◌+◌, ◌++◌, ℕ, true, false, List, [], length, take, Option, Result, Ok, Err}
use Rattle.std.proofs.Common.{refl, sym, ap, ◌∙◌, subst, append-nil, append_assoc, arith, length-append, OnOk, OnErr}
use Rattle.std.specs.Prelude.{is_err}
use Rattle.std.specs.Io.KnownBytes.{Appends}
use Rattle.std.proofs.KnownBytes.{Appends-trans, Appends-nil}
use Rattle.std.proofs.Math.Seq.{take-append-add}
use Rattle.ilk_base.specs.Outside.{Rose, AppendsFront}
use Rattle.ilk_base.specs.declared.outside.Failed.{Failed}
use Rattle.ilk_base.proofs.Fronts.{rose_earlier}
use Rattle.piece_writer.specs.Putting.{Held, nothing_held, stand, IsUnderWay, HasPut}

-- all of a text, and then a front of the next
front_behind : (a b c : Option (List ℕ)) (done piece : List ℕ) → Appends a b done → AppendsFront b c piece
    → AppendsFront a c (done ++ piece)
front_behind a b c done piece h f =
    let (n, lt, took) = f in (
      length done + n,
      simp length-append (omega (arith, lt)),
      rw (take-append-add done piece n) (Appends-trans a b c done (take n piece) h took),
    )

-- a text of two parts, of which the first ends behind what was sent
joined : (given p old more sent : List ℕ) → given ≡ p ++ old → sent ≡ old ++ more → given ++ more ≡ p ++ sent
joined given p old more sent r is = rw (r, is) (append_assoc p old more)

-- what was held back, and these bytes, were taken
pub went : (start took new : Option (List ℕ)) (before faults now : ℕ) (given more sent : List ℕ) (old held : Held)
    → old.failed ≡ false → held.failed ≡ false → held.bytes ≡ [] → sent ≡ old.bytes ++ more → Appends took new sent
    → faults ≤ now → HasPut start before given (stand took faults old)
    → HasPut start before (given ++ more) (stand new now held)
went start took new before faults now given more sent old held calm clear empty is appends le h =
    let way : IsUnderWay false start before given (stand took faults old) =
    subst (λ b. IsUnderWay b start before given (stand took faults old)) calm h.way in
    let (p, q, r) = way in
    let whole : given ++ more ≡ (p ++ sent) ++ held.bytes = joined given p old.bytes more sent r is
    ∙ sym (ap (λ t. (p ++ sent) ++ t) empty ∙ append-nil (p ++ sent)) in
    record {
      way = subst (λ b. IsUnderWay b start before (given ++ more) (stand new now held)) (sym clear)
          (p ++ sent, Appends-trans start took new p sent q appends, whole);
      grows = omega (arith, le, h.grows);
    }

-- a front of them was
pub broke : (start took new : Option (List ℕ)) (before faults now : ℕ) (given more sent : List ℕ) (old held : Held)
    → old.failed ≡ false → held.failed ≡ true → sent ≡ old.bytes ++ more → AppendsFront took new sent
    → Rose faults now → faults ≤ now → HasPut start before given (stand took faults old)
    → HasPut start before (given ++ more) (stand new now held)
broke start took new before faults now given more sent old held calm failed is front rose le h =
    let way : IsUnderWay false start before given (stand took faults old) =
    subst (λ b. IsUnderWay b start before given (stand took faults old)) calm h.way in
    let (p, q, r) = way in
    let whole : given ++ more ≡ p ++ sent = joined given p old.bytes more sent r is in
    record {
      way = subst (λ b. IsUnderWay b start before (given ++ more) (stand new now held)) (sym failed) (
        subst (λ t. AppendsFront start new t) (sym whole) (front_behind start took new p sent q front),
        rose_earlier before faults now h.grows rose,
      );
      grows = omega (arith, le, h.grows);
    }

-- what a write answered
pub sent_so : (r : Result (Unit {0}) Failed) (start took new : Option (List ℕ)) (before faults now : ℕ)
    (given more sent : List ℕ) (old held : Held) → old.failed ≡ false → held.failed ≡ is_err r → held.bytes ≡ []
    → sent ≡ old.bytes ++ more → OnOk r (Appends took new sent) → OnErr r (AppendsFront took new sent)
    → faults ≤ now → OnErr r (Rose faults now) → HasPut start before given (stand took faults old)
    → HasPut start before (given ++ more) (stand new now held)
sent_so (Ok u) start took new before faults now given more sent old held calm failed empty is ok err le rose h =
    went start took new before faults now given more sent old held calm failed empty is ok le h
sent_so (Err e) start took new before faults now given more sent old held calm failed empty is ok err le rose h =
    broke start took new before faults now given more sent old held calm failed is err rose le h

-- nothing is held back where a text begins
pub begun : (took : Option (List ℕ)) (faults : ℕ) → HasPut took faults [] (stand took faults nothing_held)
begun took faults = record { way = ([], Appends-nil took, refl); grows = omega arith }
