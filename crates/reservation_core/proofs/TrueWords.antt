-- The rules are obeyed, and what the facts say in terms of the truth.
use Rattle.std.proofs.Common.{◌≡◌, ◌<◌, ℕ, Bool, false, List, length, get_or}
use Rattle.std.proofs.Common.{slice_get, Some, Contains, subst, ap, ◌∙◌, arith}
use Rattle.std.proofs.lemmas.Option.{slice_get-get_or}
use Rattle.ilk_base.specs.declared.words.Dbpos.{Dbpos}
use Rattle.ilk_base.specs.declared.words.Dbpos.TheVariants.{Intermediate, Off, On, Bad, Lost}
use Rattle.double_points.specs.Words.{Agrees}
use Rattle.station_graph.specs.Alike.{IsVector}
use Rattle.station_graph.proofs.GapLemmas.{none_parts}
use Rattle.central_rules.specs.Meaning.{Meaning, bay_of}
use Rattle.bay_frames.specs.declared.frame.Frame.{Frame}
use Rattle.reservation_core.specs.Scene.{Scene, node, true_at, IsTrueWord, ReadsAs}
use Rattle.reservation_core.specs.declared.values.Position.{Position}
use Rattle.reservation_core.specs.Facts.{itself, IsGood, Facts, Obeys, ObeysFirstTwo, AnswersAllow, Words, Grants}
use Rattle.reservation_core.proofs.AlikeNotes.{backed_agrees, granted_bay, got_or, of_part, switch_of}

-- ---- the rules are obeyed

-- where a word is true, a position that stands so agrees with it
pub true_word_agrees : (word : Dbpos) (at : Position) (closed : Bool) → IsTrueWord word at → ReadsAs at closed →
    Agrees word closed
true_word_agrees On at closed truly stands = subst (λ (x : Position). ReadsAs x closed) truly stands
true_word_agrees Off at closed truly stands = subst (λ (x : Position). ReadsAs x closed) truly stands
true_word_agrees Intermediate at closed truly stands = tt
true_word_agrees Bad at closed truly stands = tt
true_word_agrees Lost at closed truly stands = tt

-- the position of a switch in a vector
pub stood : (m : Meaning) (v : List Bool) (i : ℕ) → IsVector m.diagram v → i < length m.diagram.switches →
    slice_get v i ≡ Some (get_or v i false)
stood m v i whole lt = slice_get-get_or v i false (omega (arith, whole, lt))

pub obeys : (m : Meaning) (w : Scene) → Facts m w → Obeys m w
obeys m w facts c g v granted whole resolves =
    let backed = facts.truth.facts.grants c g granted in
    let fits = (facts.rounds.rounds c (granted_bay m w c g facts.rounds granted)).kept.granted g granted in
    backed_agrees m Dbpos itself (IsGood w) w.sent (facts.truth.held.known c) c g
    ((switch_of m (node m.diagram w c).bay g.op.switch.0 fits.own).1 ∙ facts.rounds.shape.named c) backed v whole
    (λ i lt other. true_word_agrees (facts.truth.held.known c i) (true_at w.truth i) (get_or v i false)
    (backed.good i lt other) (resolves i (get_or v i false) (stood m v i whole lt)))

pub obeys_first_two : (m : Meaning) (w : Scene) → Facts m w → ObeysFirstTwo m w
obeys_first_two m w facts c g v granted whole resolves =
    ((none_parts m.diagram v g.op).0 (obeys m w facts c g v granted whole resolves)).0

-- ---- facts 4, 6 and 7 in terms of the truth

place_of : (xs : List Frame) (f : Frame) → Contains xs f → (k : ℕ) × (slice_get xs k ≡ Some f)
place_of xs f there = (there.0, slice_get-get_or xs there.0 f there.1 ∙ ap (λ (x : Frame). Some x) there.2)

pub answers : (m : Meaning) (w : Scene) → Facts m w → AnswersAllow m w
answers m w facts f s there body running =
    let place = place_of w.sent f there in
    record {
      locked = facts.rounds.locks f s there body running;
      allowed = λ v whole resolves. (facts.truth.facts.made place.0 f s place.1 body).allows v whole (λ i own.
          true_word_agrees (facts.truth.held.beside place.0 i) (true_at w.truth i) (get_or v i false)
          (facts.truth.facts.answers place.0 f s place.1 body running i own)
          (resolves i (get_or v i false) (of_part m f.from.0 i own) (stood m v i whole own.0)));
    }

pub words : (m : Meaning) (w : Scene) → Facts m w → Words m w
words m w facts i word at lt free =
    let is : facts.truth.held.own i ≡ word =
    facts.truth.facts.words_are i lt ∙ got_or (node m.diagram w (bay_of m.diagram i)).words i word Lost at in
    subst (λ (x : Dbpos). IsTrueWord x (true_at w.truth i)) is (facts.truth.facts.words i lt free)

pub grants : (m : Meaning) (w : Scene) → Facts m w → Grants m w
grants m w facts c g granted =
    let backed = facts.truth.facts.grants c g granted in
    record {
      heard = backed.heard;
      answers = backed.answers;
      none = λ v whole resolves allowed. backed.none v whole (λ i own other.
          true_word_agrees (facts.truth.held.known c i) (true_at w.truth i) (get_or v i false)
          (backed.good i own.0 other)
          (resolves i (get_or v i false) (of_part m c i own) other (stood m v i whole own.0))) allowed;
    }
