-- The facts hold at the start.
use Rattle.std.proofs.Common.{◌≡◌, ℕ, zero, suc, Bool, List, length, get_or, replicate, None, refl, sym}
use Rattle.std.proofs.Common.{subst, ap, ◌∙◌, inl, arith}
use Rattle.std.proofs.lemmas.List.{length-replicate}
use Rattle.ilk_base.specs.declared.words.Dbpos.{Dbpos}
use Rattle.central_rules.specs.Meaning.{Meaning}
use Rattle.bay_frames.specs.declared.frame.Frame.{Frame}
use Rattle.bay_protocol.specs.State.{State}
use Rattle.reservation_core.specs.Scene.{node, true_at, IsTrueWord}
use Rattle.reservation_core.proofs.Starting.{starts_rounds, fresh, no_message, lost_word}
use Rattle.trip_core.specs.declared.values.Note.{Note}
use Rattle.trip_core.specs.Trips.{TripScene, lost, tripped_at}
use Rattle.trip_core.specs.Facts.{TripFacts}
use Rattle.trip_core.specs.Start.{IsTripStart}

pub get_same : (n i : ℕ) (x : ℕ) → get_or (replicate n x) i x ≡ x
get_same zero i x = refl
get_same (suc n) zero x = refl
get_same (suc n) (suc i) x = get_same n i x

pub trip_starts : (m : Meaning) (start : List Bool) (s : TripScene) → IsTripStart m.diagram start s → TripFacts m s
trip_starts m start s is =
    let w = s.world.scene in
    let new = is.world.scene in
    record {
      clocked = record {
        each_sensed = ap (λ (x : List ℕ). length x) is.sensed ∙ length-replicate (length m.diagram.switches) 0;
        each_tripped = ap (λ (x : List ℕ). length x) is.tripped ∙ length-replicate (length m.diagram.switches) 0;
        each_beside = ap (λ (x : List (List Note)). length x) is.beside ∙ sym (ap (λ
            (x : List Frame). length x) new.sent);
        each_known = is.each_known;
        each_note = λ b lt. ap (λ (x : List Note). length x) (is.known b lt) ∙ length-replicate
            (length m.diagram.switches) lost;
        tripped = λ i lt. let none : tripped_at s.tripped i ≡ 0 = ap (λ (x : List ℕ). get_or x i 0) is.tripped
            ∙ get_same (length m.diagram.switches) i 0 in omega (arith, none);
      };
      rounds = record {
        rounds = starts_rounds m start w new;
        count = ap length is.world.beside ∙ sym
            (ap length new.sent);
      };
      truth = record {
        words_are = λ i lt. refl;
        words = λ i lt free. inl (record {
          is_true = subst (λ (x : Dbpos). IsTrueWord x (true_at w.truth i)) (sym (lost_word m start w new i)) tt;
          by_now = λ on. let is_lost = lost_word m start w new i in absurd (cc (is_lost, on));
        });
        made = λ k f t got. absurd (no_message m start w new k f got);
        answers = λ k f t got. absurd (no_message m start w new k f got);
        heard = λ c g has. let none : (node m.diagram w c).collecting ≡ None = ap (λ (n : State). n.collecting)
            (fresh m start w new c) in absurd (cc (has, none));
        grants = λ c g has. let none : (node m.diagram w c).granted ≡ None = ap (λ (n : State). n.granted)
            (fresh m start w new c) in absurd (cc (has, none));
      };
    }
