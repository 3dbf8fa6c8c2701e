-- A step of a node in a world with trips keeps the facts of the notes.
use Rattle.std.proofs.Common.{◌⊎◌, ◌≡◌, ◌+◌, ◌<◌, ◌==◌, cond, ℕ, Bool, List, length, get_or, set, slice_get, refl, sym}
use Rattle.std.proofs.Common.{subst, ap, ◌∙◌, inl, inr, arith, length-set, get_or-set_same, get_or-set_other}
use Rattle.std.specs.Prelude.{is_some}
use Rattle.std.proofs.lemmas.Bool.{cases_eq}
use Rattle.ilk_base.specs.declared.words.Dbpos.{Dbpos}
use Rattle.ilk_base.specs.declared.words.Dbpos.TheVariants.{Lost}
use Rattle.ilk_base.specs.declared.words.SwitchId.{SwitchId}
use Rattle.station_graph.specs.Diagram.{Diagram}
use Rattle.central_rules.specs.Meaning.{Meaning, Laws, bay_of}
use Rattle.bay_protocol.specs.declared.values.NodeEvent.{NodeEvent}
use Rattle.bay_protocol.specs.declared.values.NodeEvent.TheVariants.{Command as Commanded, Sense as Sensing}
use Rattle.bay_protocol.specs.declared.values.NodeEvent.TheVariants.{Frame as Arrival, Tick as Ticking}
use Rattle.bay_protocol.specs.declared.values.NodeEvent.TheVariants.{Withdraw as Withdrawing, Restart as Restarting}
use Rattle.bay_protocol.specs.declared.values.NodeEvent.TheVariants.{Cut as Cutting}
use Rattle.bay_protocol.specs.Fits.{EventFits}
use Rattle.bay_protocol.specs.State.{State}
use Rattle.bay_protocol.specs.Step.{Turn, Step as Stepping, SenseStep}
use Rattle.reservation_core.specs.Scene.{Scene, node, at_node, posts}
use Rattle.reservation_core.specs.Concern.{Concern}
use Rattle.reservation_core.specs.Held.{TruthFacts, IsSwitchOf}
use Rattle.reservation_core.specs.Happens.{NodeSteps}
use Rattle.reservation_core.specs.RoundFacts.{RoundFacts}
use Rattle.reservation_core.specs.World.{WorldRounds}
use Rattle.reservation_core.specs.declared.values.Position.{Position}
use Rattle.reservation_core.specs.declared.values.WorldOutcome.{WorldOutcome}
use Rattle.reservation_core.proofs.Nodes.{node_here, node_other}
use Rattle.reservation_core.proofs.Rounds.{node_there}
use Rattle.reservation_core.proofs.Effects.{effect}
use Rattle.reservation_core.proofs.StepEffect.{Effect, IsSensed, IsNewWord}
use Rattle.reservation_core.proofs.Truths.{facts_step}
use Rattle.reservation_core.proofs.AlikeNotes.{switch_of}
use Rattle.reservation_core.proofs.Noting.{NoteStep, held_step, known_after}
use Rattle.reservation_core.proofs.Ways.{Fair}
use Rattle.reservation_core.proofs.Plain.{sensed_true}
use Rattle.trip_core.specs.declared.values.Note.{Note}
use Rattle.trip_core.specs.Trips.{TripScene, lost, word_in, own_note, held_of, IsGoodNote, tripped_at}
use Rattle.trip_core.specs.Happens.{sensed_after, known_then, NotesTurn}
use Rattle.trip_core.specs.Facts.{IsClocked, TripFacts}
use Rattle.trip_core.proofs.Good.{lost_is_good}
use Rattle.trip_core.proofs.Counted.{counts_yes, counts_none, learned_is}

-- ---- a node takes a step

length_sensed : (event : NodeEvent) (sensed : List ℕ) (now : ℕ) → length (sensed_after event sensed now) ≡ length sensed
length_sensed (Sensing i word) sensed now = length-set sensed i.0 now
length_sensed (Commanded op) sensed now = refl
length_sensed (Arrival f) sensed now = refl
length_sensed Ticking sensed now = refl
length_sensed Withdrawing sensed now = refl
length_sensed Restarting sensed now = refl
length_sensed (Cutting i) sensed now = refl

-- the word of this switch is read, or its time stays
record SensedHere (event : NodeEvent) (i : ℕ) : Type 0 where
  switch : SwitchId
  word : Dbpos
  is : event ≡ Sensing switch word
  at : switch.0 ≡ i

here_or_not : (event : NodeEvent) (sensed : List ℕ) (now i : ℕ) → SensedHere event i ⊎ (get_or
    (sensed_after event sensed now) i 0 ≡ get_or sensed i 0)
here_or_not (Sensing j word) sensed now i = elim (cases_eq i j.0) [
  | inl same ↦ inl (record { switch = j; word = word; is = refl; at = sym same })
  | inr other ↦ inr (get_or-set_other sensed j.0 i now 0 other)
]
here_or_not (Commanded op) sensed now i = inr refl
here_or_not (Arrival f) sensed now i = inr refl
here_or_not Ticking sensed now i = inr refl
here_or_not Withdrawing sensed now i = inr refl
here_or_not Restarting sensed now i = inr refl
here_or_not (Cutting j) sensed now i = inr refl

time_of : (event : NodeEvent) (sensed : List ℕ) (now i : ℕ) (word : Dbpos) → i < length sensed → IsSensed event i word
    → get_or (sensed_after event sensed now) i 0 ≡ now
time_of (Sensing j x) sensed now i word lt is = ap (λ (y : ℕ). get_or (set sensed j.0 now) y 0) (sym is.0)
    ∙ get_or-set_same sensed j.0 now 0 (subst (λ (y : ℕ). y < length sensed) (sym is.0) lt)
time_of (Commanded op) sensed now i word lt is = absurd is
time_of (Arrival f) sensed now i word lt is = absurd is
time_of Ticking sensed now i word lt is = absurd is
time_of Withdrawing sensed now i word lt is = absurd is
time_of Restarting sensed now i word lt is = absurd is
time_of (Cutting j) sensed now i word lt is = absurd is

is_sensed : (event : NodeEvent) (i : ℕ) (now : Dbpos) (here : SensedHere event i) → now ≡ here.word
    → IsSensed event i now
is_sensed event i now here same = subst (λ (e : NodeEvent). IsSensed e i now) (sym here.is) (here.at, same)

-- two notes with the same word and time
same_note : (n : Note) (word : Dbpos) (at : ℕ) → word ≡ n.word → at ≡ n.at → record { word = word; at = at } ≡ n
same_note n word at same time = rw (same, time) refl

-- the word that is read is the word of the node
read_word : (d : Diagram) (old : State) (i : ℕ) (word : Dbpos) (turn : Turn) → i < length old.words
    → SenseStep d old i word turn → get_or turn.new.words i Lost ≡ word
read_word d old i word turn lt (SenseStep.finishes g is end) = ap (λ (s : State). get_or s.words i Lost) end.state
    ∙ get_or-set_same old.words i word Lost lt
read_word d old i word turn lt (SenseStep.reads other end) = ap (λ (s : State). get_or s.words i Lost) end.state
    ∙ get_or-set_same old.words i word Lost lt

-- the scene with other drives
abbrev with_drives : Scene → List Bool → Scene
with_drives w drives = record { nodes = w.nodes; truth = w.truth; drives = drives; sent = w.sent }

module _ (m : Meaning) (old new : TripScene) (drives : List Bool) (c : Concern) (outcome : WorldOutcome)
    (laws : Laws m) (clocked : IsClocked m.diagram old) (rounds : RoundFacts m (with_drives old.world.scene drives))
    (now : WorldRounds m new.world) (fair : Fair m.diagram old.world.scene c) (s : NodeSteps m
    (with_drives old.world.scene drives) c.bay c.event new.world.scene outcome) (notes : NotesTurn m old c new)
    (truth : TruthFacts m Note word_in (IsGoodNote m.diagram old.world.scene.truth old.tripped (old.events + 1))
    (with_drives old.world.scene drives) (held_of m.diagram old)) where
  abbrev before : Scene
  before = with_drives old.world.scene drives

  abbrev Good : ℕ → Note → Type 0
  Good = IsGoodNote m.diagram old.world.scene.truth old.tripped (old.events + 1)

  abbrev after : Scene
  after = posts (at_node before c.bay s.turn.new) s.turn.frames

  within : c.bay < length before.nodes
  within = node_there m before c.bay rounds fair.bay

  at_after : node m.diagram after c.bay ≡ s.turn.new
  at_after = node_here m.diagram before c.bay s.turn.new within

  at_new : node m.diagram new.world.scene c.bay ≡ s.turn.new
  at_new = ap (λ (w : Scene). node m.diagram w c.bay) s.world ∙ at_after

  at_bay : (i : ℕ) → bay_of m.diagram i ≡ c.bay → node m.diagram new.world.scene (bay_of m.diagram i) ≡ s.turn.new
  at_bay i is = ap (λ (b : ℕ). node m.diagram new.world.scene b) is ∙ at_new

  was : (i : ℕ) → bay_of m.diagram i ≡ c.bay → get_or (node m.diagram before c.bay).words i Lost ≡ get_or
      (node m.diagram before (bay_of m.diagram i)).words i Lost
  was i is = ap (λ (b : ℕ). get_or (node m.diagram before b).words i Lost) (sym is)

  turn_effect : Effect m (node m.diagram before c.bay) c.event s.turn.new s.turn.frames
  turn_effect = effect m (node m.diagram before c.bay) c.event s.turn (rounds.rounds c.bay fair.bay) s.step

  -- the switch whose word is read is of the bay
  read_here : (i : ℕ) → SensedHere c.event i → IsSwitchOf m c.bay i
  read_here i here =
      let own = subst (λ (e : NodeEvent). EventFits m.diagram
      (node m.diagram old.world.scene c.bay).bay e) here.is fair.fits in
      let it = switch_of m (node m.diagram old.world.scene c.bay).bay here.switch.0 own in
      let is : bay_of m.diagram here.switch.0 ≡ c.bay = it.1 ∙ rounds.shape.named c.bay in
      subst (λ (j : ℕ). IsSwitchOf m c.bay j) here.at (it.0, is)

  -- the word that is read
  new_word : (i : ℕ) → i < length m.diagram.switches → (here : SensedHere c.event i)
      → get_or s.turn.new.words i Lost ≡ here.word
  new_word i lt here =
      let step : Stepping m m.diagram (node m.diagram before c.bay) (Sensing here.switch here.word) s.turn = subst (λ
      (e : NodeEvent). Stepping m m.diagram (node m.diagram before c.bay) e s.turn) here.is s.step in
      let inside : here.switch.0 < length (node m.diagram before c.bay).words = omega (
        arith,
        lt,
        here.at,
        (rounds.rounds c.bay fair.bay).words,
      ) in
      ap (λ (j : ℕ). get_or s.turn.new.words j Lost) (sym here.at) ∙ read_word m.diagram
      (node m.diagram before c.bay) here.switch.0 here.word s.turn inside step

  note_step : NoteStep m Note word_in Good lost before c.bay c.message c.event
      (is_some notes.from) s.turn.new s.turn.frames (held_of m.diagram old) (held_of m.diagram new)
  note_step = record {
    words_are = λ i own. ap (λ (n : State). get_or n.words i Lost) (at_bay i own.1);
    elsewhere = λ i lt other.
        let same : node m.diagram new.world.scene (bay_of m.diagram i) ≡ node m.diagram before (bay_of m.diagram i) =
        ap (λ (w : Scene). node m.diagram w (bay_of m.diagram i)) s.world
        ∙ node_other m.diagram before c.bay s.turn.new (bay_of m.diagram i) other in
        let time : get_or new.sensed i 0 ≡ get_or old.sensed i 0 = ap (λ (x : List ℕ). get_or x i 0) notes.sensed
        ∙ elim (here_or_not c.event old.sensed (old.events + 1) i) [
          | inl here ↦ absurd (other
              (read_here i here).1)
          | inr stays ↦ stays
        ] in
        same_note (own_note m.diagram old i) _ _ (ap (λ (n : State). get_or n.words i Lost) same) time;
    own = λ i own.
        let now_is : get_or s.turn.new.words i Lost ≡ get_or (node m.diagram new.world.scene
        (bay_of m.diagram i)).words i Lost = ap (λ (n : State). get_or n.words i Lost) (sym (at_bay i own.1)) in
        elim (here_or_not c.event old.sensed (old.events + 1) i) [
          | inl here ↦ inr (inr (is_sensed c.event i _ here (sym now_is ∙ new_word i own.0 here)))
          | inr stays ↦ elim (turn_effect.words i) [
            | inl same ↦ inl (same_note (own_note m.diagram old i) _ _ (sym now_is ∙ (same ∙ was i own.1)) (ap (λ
                (x : List ℕ). get_or x i 0) notes.sensed ∙ stays))
            | inr changed ↦ inr (subst (λ (x : Dbpos). IsNewWord c.event i x) now_is changed)
          ]
        ];
    sensed = λ i lt is. inl (record {
      is_true = sensed_true old.world.scene.truth c.event i _ fair.truly is;
      by_now = λ on.
          let time : get_or new.sensed i 0 ≡ old.events + 1 = ap (λ (x : List ℕ). get_or x i 0) notes.sensed
          ∙ time_of c.event old.sensed (old.events + 1) i _ (omega (arith, lt, clocked.each_sensed)) is in
          omega (arith, time);
    });
    before = λ j lt i ilt. notes.before j i lt ilt;
    beside = λ j f t le got body i own. notes.beside j i f t le (ap (λ (w : Scene). slice_get w.sent j) s.world
        ∙ got) body own.0 own.1;
  }

  now_after : RoundFacts m after
  now_after = subst (RoundFacts m) s.world now.rounds

  -- what is known is as the notes say
  known_is : (b i : ℕ) → i < length m.diagram.switches
      → (held_of m.diagram new).known b i ≡ known_after m Note lost before c.bay c.message c.event
      (is_some notes.from) s.turn.new (held_of m.diagram old) b i
  known_is b i lt =
      notes.known b i lt ∙ (ap (λ (n : State). known_then m old c notes.from n b i) at_new
      ∙ ap (λ (n : Note). cond (b == c.bay) n ((held_of m.diagram old).known b i)) (learned_is m
      (node m.diagram before c.bay) c.event notes.from s.turn.new.collecting (node m.diagram before c.bay).granted
      (node m.diagram before c.bay).collecting (bay_of m.diagram i) c.bay (own_note m.diagram old i)
      ((held_of m.diagram old).beside c.message i) ((held_of m.diagram old).known c.bay i) notes.counts))

  pub turn_keeps : TripFacts m new
  turn_keeps =
      let step : TruthFacts m Note word_in Good after (held_of m.diagram new) =
      facts_step m Note word_in Good before c.bay c.message c.event s.turn.new s.turn.frames (held_of m.diagram old)
      (held_of m.diagram new) laws rounds now_after fair.bay within
      (λ i n is. lost_is_good m.diagram old.world.scene.truth old.tripped
      (old.events + 1) i n is) fair.message turn_effect truth
      (held_step m Note word_in Good lost before c.bay c.message c.event (is_some notes.from) s.turn.new s.turn.frames
      (held_of m.diagram old) (held_of m.diagram new) refl
      (counts_yes m (node m.diagram before c.bay) c.event notes.from notes.counts) (counts_none m
      (node m.diagram before c.bay) c.event notes.from notes.counts)
      (λ g has. sym (ap (λ (n : State). n.granted) at_after) ∙ ((now_after.rounds c.bay fair.bay).collecting g (ap (λ
      (n : State). n.collecting) at_after ∙ has)).no_grant)
      note_step known_is) in
      let truth_is : new.world.scene.truth ≡ old.world.scene.truth = ap (λ (w : Scene). w.truth) s.world in
      record {
        clocked = record {
          each_sensed = ap (λ (x : List ℕ). length x) notes.sensed ∙ (length_sensed c.event old.sensed
              (old.events + 1) ∙ clocked.each_sensed);
          each_tripped = ap (λ (x : List ℕ). length x) notes.tripped ∙ clocked.each_tripped;
          each_beside = notes.each_beside;
          each_known = notes.each_known ∙ clocked.each_known;
          each_note = λ b lt. notes.each_note b ∙ clocked.each_note b lt;
          tripped = λ i lt. let past = clocked.tripped i lt in
              let same : tripped_at new.tripped i ≡ tripped_at old.tripped i = ap (λ
              (x : List ℕ). tripped_at x i) notes.tripped in omega (arith, past, same, notes.events);
        };
        rounds = now;
        truth = subst (λ (w : Scene). TruthFacts m Note word_in
            (IsGoodNote m.diagram new.world.scene.truth new.tripped new.events) w (held_of m.diagram new)) (sym s.world)
            (subst (λ (t : List Position). TruthFacts m Note word_in
            (IsGoodNote m.diagram t new.tripped new.events) after (held_of m.diagram new)) (sym truth_is)
            (subst (λ (t : List ℕ). TruthFacts m Note word_in
            (IsGoodNote m.diagram old.world.scene.truth t new.events) after (held_of m.diagram new))
            (sym notes.tripped)
            (subst (λ (e : ℕ). TruthFacts m Note word_in
            (IsGoodNote m.diagram old.world.scene.truth old.tripped e) after (held_of m.diagram new))
            (sym notes.events) step)));
      }
