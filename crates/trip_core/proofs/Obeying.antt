-- Granted operations obey the first two rules always, and the third as long as no breaker that they used has tripped.
use Rattle.std.proofs.Common.{◌⊎◌, ◌≡◌, ◌≢◌, ◌<◌, ◌==◌, cond, ℕ, Bool, false, List, length, get_or}
use Rattle.std.proofs.Common.{Some, None, refl, sym, subst, ◌∙◌, inl, inr, arith}
use Rattle.std.proofs.lemmas.Bool.{cases_eq}
use Rattle.std.proofs.lemmas.Bool.Decides.{eqb_tells}
use Rattle.std.proofs.lemmas.Option.{slice_get_within}
use Rattle.ilk_base.specs.declared.words.Dbpos.{Dbpos}
use Rattle.ilk_base.specs.declared.words.Dbpos.TheVariants.{Intermediate, Off, On, Bad, Lost}
use Rattle.double_points.specs.Words.{Agrees}
use Rattle.station_graph.specs.Alike.{IsVector}
use Rattle.station_graph.specs.CentralRules.{Breaks}
use Rattle.station_graph.proofs.GapLemmas.{none_parts}
use Rattle.central_rules.specs.Meaning.{Meaning, Laws, bay_of}
use Rattle.bay_protocol.specs.declared.values.Grant.{Grant}
use Rattle.reservation_core.specs.Scene.{Scene, node, true_at, IsTrueWord, ReadsAs, Resolves}
use Rattle.reservation_core.specs.Facts.{IsSoundTruth}
use Rattle.reservation_core.specs.declared.values.WorldOutcome.{WorldOutcome}
use Rattle.reservation_core.proofs.TrueWords.{true_word_agrees, stood}
use Rattle.reservation_core.proofs.AlikeNotes.{backed_agrees, granted_bay, switch_of, of_part}
use Rattle.reservation_core.proofs.Keeping.{got_there}
use Rattle.reservation_core.proofs.Soundness.{happens_sound, opens_sound}
use Rattle.trip_core.specs.declared.values.Note.{Note}
use Rattle.trip_core.specs.declared.values.TripEvent.{TripEvent}
use Rattle.trip_core.specs.declared.values.TripEvent.TheVariants.{Step, Trip}
use Rattle.trip_core.specs.Trips.{TripScene, IsBreaker, IsOwnOrPartner, IsGoodNote, word_in, note_at}
use Rattle.trip_core.specs.Happens.{TripHappens, TripInRange}
use Rattle.trip_core.specs.Facts.{TripFacts, IsFresh, ObeysGap, ObeysLoad, AnswersTrip, StandsForAnswer, WordsTrip}
use Rattle.trip_core.specs.Facts.{GrantsTrip}
use Rattle.trip_core.proofs.Agreed.{agreed_list, length_agreed, agreed_at, agrees_at, lost_agrees, breaker_or_not}
use Rattle.trip_core.proofs.Agreed.{IsFair, gap_of}
use Rattle.trip_core.proofs.Resting.{Rest, rested_list, length_rested, rested_at, rest_irrelevant, some_rest}

module _ (m : Meaning) (s : TripScene) (facts : TripFacts m s) where
  abbrev w : Scene
  w = s.world.scene

  -- the switch of a granted operation is of its bay
  mine : (c : ℕ) (g : Grant) → (node m.diagram w c).granted ≡ Some g → bay_of m.diagram g.op.switch.0 ≡ c
  mine c g granted =
      let fits = (facts.rounds.rounds.rounds c
      (granted_bay m w c g facts.rounds.rounds granted)).kept.granted g granted in
      (switch_of m (node m.diagram w c).bay g.op.switch.0 fits.own).1 ∙ facts.rounds.rounds.shape.named c

  moved_within : (c : ℕ) (g : Grant) → (node m.diagram w c).granted ≡ Some g →
      g.op.switch.0 < length m.diagram.switches
  moved_within c g granted =
      let fits = (facts.rounds.rounds.rounds c
      (granted_bay m w c g facts.rounds.rounds granted)).kept.granted g granted in
      (switch_of m (node m.diagram w c).bay g.op.switch.0 fits.own).0

  -- where it is fresh, no note that was used is stale
  fresh_true : (c : ℕ) (g : Grant) (i : ℕ) → IsFresh m.diagram s c g → IsOwnOrPartner m.diagram (bay_of m.diagram i) c
      → i ≢ g.op.switch.0 → IsGoodNote m.diagram w.truth s.tripped s.events i (note_at s.known c i) → IsTrueWord
      (note_at s.known c i).word (true_at w.truth i)
  fresh_true c g i fresh matters other (inl true_note) = true_note.is_true
  fresh_true c g i fresh matters other (inr stale) =
      let before = fresh i stale.is_breaker matters other stale.is_on in
      absurd (omega (arith, before, stale.later))

  -- a switch of a vector that resolves the truth stands as it truly does
  stands_in : (v : List Bool) (i : ℕ) → IsVector m.diagram v → i < length m.diagram.switches → Resolves w.truth v
      → ReadsAs (true_at w.truth i) (get_or v i false)
  stands_in v i whole lt resolves = resolves i (get_or v i false) (stood m v i whole lt)

  -- ---- the rules

  -- the words that a grant knew, but for the moved switch
  words_known : ℕ → Grant → ℕ → Dbpos
  words_known c g i = cond (i == g.op.switch.0) Lost (note_at s.known c i).word

  word_moved : (c : ℕ) (g : Grant) (i : ℕ) → i ≡ g.op.switch.0 → words_known c g i ≡ Lost
  unfolding words_known
  word_moved c g i is = elim (eqb_tells i g.op.switch.0) [ inl p ↦ rw p.0 refl | inr p ↦ absurd (p.1 is) ]

  word_other : (c : ℕ) (g : Grant) (i : ℕ) → i ≢ g.op.switch.0 → words_known c g i ≡ (note_at s.known c i).word
  unfolding words_known
  word_other c g i differs = elim (eqb_tells i g.op.switch.0) [ inl p ↦ absurd (differs p.1) | inr p ↦ rw p.0 refl ]

  -- where what is known of bays that do not matter is put in place of the truth, no rule is broken
  rested : (c : ℕ) (g : Grant) (v : List Bool) (granted : (node m.diagram w c).granted ≡ Some g)
      (whole : IsVector m.diagram v) → Resolves w.truth v → IsFresh m.diagram s c g
      → (rest : Rest m.diagram c) → Breaks m.diagram (rested_list m.diagram c (words_known c g)
      rest v) g.op None
  rested c g v granted whole resolves fresh rest =
      let backed = facts.truth.grants c g granted in
      backed_agrees m Note word_in (IsGoodNote m.diagram w.truth s.tripped s.events) w.sent (note_at s.known c) c g
      (mine c g granted) backed (rested_list m.diagram c (words_known c g) rest v)
      (length_rested m.diagram c (words_known c g) rest v ∙ whole)
      (λ i lt other. elim (rested_at m.diagram c (words_known c g) rest v i (omega (arith, lt, whole)) lt) [
        | inl known ↦ known (note_at s.known c i).word (word_other c g i other)
        | inr truly ↦
            subst (λ (x : Bool). Agrees (note_at s.known c i).word x) (sym truly.1)
            (true_word_agrees (note_at s.known c i).word (true_at w.truth i) (get_or v i false)
            (fresh_true c g i fresh truly.0 other (backed.good i lt other)) (stands_in v i whole lt resolves))
      ])

  pub load : ObeysLoad m s
  load c g v granted whole resolves fresh = λ breaks.
      some_rest m.diagram c
      (λ rest. ((none_parts m.diagram v g.op).0 (rest_irrelevant m.diagram c (words_known c g) rest v g.op whole
      (of_part m c g.op.switch.0 (moved_within c g granted, mine c g granted))
      (rested c g v granted whole resolves fresh rest))).1 breaks)

  pub gap : ObeysGap m s
  gap c g v granted whole resolves =
      let backed = facts.truth.grants c g granted in
      gap_of m.diagram s (words_known c g) v g.op whole
      (λ i lt. elim (cases_eq i g.op.switch.0) [
        | inl moved ↦ IsFair.unknown (word_moved c g i moved)
        | inr other ↦ IsFair.good_note (note_at s.known c i) (word_other c g i other) (backed.good i lt other)
            (stands_in v i whole lt resolves)
      ])
      (backed_agrees m Note word_in (IsGoodNote m.diagram w.truth s.tripped s.events) w.sent (note_at s.known c) c g
      (mine c g granted) backed (agreed_list (words_known c g) v) (length_agreed (words_known c g) v ∙ whole)
      (λ i lt other. agrees_at (words_known c g) v i (note_at s.known c i).word (omega (arith, lt, whole))
      (word_other c g i other)))

  -- ---- the facts in terms of the truth

  true_agrees : (k i : ℕ) (closed : Bool) (word : Dbpos) → (note_at s.beside k i).word ≡ word
      → IsBreaker m.diagram i ⊎ (¬ IsBreaker m.diagram i) → StandsForAnswer m.diagram s k i closed
      → IsTrueWord word (true_at w.truth i) → Agrees word closed
  true_agrees k i closed On is (inl breaker) so truly = so.on breaker is
  true_agrees k i closed On is (inr other) so truly = true_word_agrees On (true_at w.truth i) closed truly (so.other
      (inl other))
  true_agrees k i closed Off is which so truly = true_word_agrees Off (true_at w.truth i) closed truly (so.other (inr
      (λ on. cc (is, on))))
  true_agrees k i closed Intermediate is which so truly = tt
  true_agrees k i closed Bad is which so truly = tt
  true_agrees k i closed Lost is which so truly = tt

  pub answers_trip : AnswersTrip m s
  answers_trip k f t got body running = record {
    locked = facts.rounds.rounds.locks f t (got_there w.sent k f got) body running;
    allowed = λ v whole stands. (facts.truth.made k f t got body).allows v whole (λ i own.
        let so = stands i (get_or v i false) (of_part m f.from.0 i own) (stood m v i whole own.0) in
        elim (facts.truth.answers k f t got body running i own) [
          | inr stale ↦ subst (λ (x : Dbpos). Agrees x (get_or v i false)) (sym stale.is_on)
              (so.on stale.is_breaker stale.is_on)
          | inl true_note ↦ true_agrees k i (get_or v i false) (note_at s.beside k i).word refl
              (breaker_or_not m.diagram i) so true_note.is_true
        ]);
  }

  pub words_trip : WordsTrip m s
  words_trip i lt free = elim
      (facts.truth.words i lt free) [ inl true_note ↦ inl true_note.is_true | inr stale ↦ inr stale ]

  -- the own words that a grant knew, but for the moved switch
  own_known : ℕ → Grant → ℕ → Dbpos
  own_known c g i = cond (bay_of m.diagram i == c) (words_known c g i) Lost

  own_other : (c : ℕ) (g : Grant) (i : ℕ) → bay_of m.diagram i ≢ c → own_known c g i ≡ Lost
  unfolding own_known
  own_other c g i differs = elim (eqb_tells (bay_of m.diagram i) c) [
    | inl p ↦ absurd
        (differs p.1)
    | inr p ↦ rw p.0 refl
  ]

  own_mine : (c : ℕ) (g : Grant) (i : ℕ) → bay_of m.diagram i ≡ c → own_known c g i ≡ words_known c g i
  unfolding own_known
  own_mine c g i is = elim (eqb_tells (bay_of m.diagram i) c) [ inl p ↦ rw p.0 refl | inr p ↦ absurd (p.1 is) ]

  pub grants_trip : Laws m → GrantsTrip m s
  grants_trip laws c g granted =
      let backed = facts.truth.grants c g granted in
      record {
        heard = backed.heard;
        answers = backed.answers;
        gap = λ v whole resolves allowed.
            let u = agreed_list (own_known c g) v in
            let u_whole : IsVector m.diagram u = length_agreed (own_known c g) v ∙ whole in
            gap_of m.diagram s (own_known c g) v g.op whole
            (λ i lt. elim (cases_eq (bay_of m.diagram i) c) [
              | inr theirs ↦ IsFair.unknown (own_other c g i theirs)
              | inl own ↦ elim (cases_eq i g.op.switch.0) [
                | inl moved ↦ IsFair.unknown (own_mine c g i own ∙ word_moved c g i moved)
                | inr other ↦ IsFair.good_note (note_at s.known c i) (own_mine c g i own ∙ word_other c g i other)
                    (backed.good i lt other) (resolves i (get_or v i false) (of_part m c i (lt, own)) other
                    (stood m v i whole lt))
              ]
            ])
            (backed.none u u_whole
            (λ i own other. agrees_at (own_known c g) v i (note_at s.known c i).word (omega (arith, own.0, whole))
            (own_mine c g i own.1 ∙ word_other c g i other))
            (λ b t other got. laws.local b t v u whole u_whole
            (λ i own. sym (agreed_at (own_known c g) v i (λ lt. lost_agrees (own_known c g i) (get_or v i false)
            (own_other c g i (λ same. other (sym (switch_of m b i own).1 ∙ same))))))
            (allowed b t other got)));
        load = λ fresh v whole resolves allowed. ((none_parts m.diagram v g.op).0 (backed.none v whole
            (λ i own other. true_word_agrees (note_at s.known c i).word (true_at w.truth i) (get_or v i false)
            (fresh_true c g i fresh (inl own.1) other (backed.good i own.0 other)) (resolves i (get_or v i false)
            (of_part m c i own) other (stood m v i whole own.0)))
            allowed)).1;
      }

-- ---- soundness

pub trip_sound : (m : Meaning) (old new : TripScene) (event : TripEvent) (outcome : WorldOutcome) → TripFacts m old
    → TripInRange m.diagram event → TripHappens m old event new outcome → IsSoundTruth m.diagram old.world.scene.truth
    → IsSoundTruth m.diagram new.world.scene.truth
trip_sound m old new (Step event) outcome facts range happens sound =
    happens_sound m old.world.scene new.world.scene event outcome facts.rounds.rounds
    (gap m old facts) range happens.happens sound
trip_sound m old new (Trip i) outcome facts range happens sound =
    let lt = slice_get_within m.diagram.switches i.0 range.switch range.listed in
    subst (λ (s : TripScene). IsSoundTruth m.diagram s.world.scene.truth) (sym happens.scene)
    (opens_sound m old.world.scene.truth i.0 (omega (arith, lt, facts.rounds.rounds.shape.truth)) lt sound)
