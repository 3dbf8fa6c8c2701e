-- A step of a node keeps what the lines say of the notes.
use Rattle.std.proofs.Common.{◌≡◌, ◌≢◌, ◌+◌, ◌<◌, ℕ, Bool, false, cond, List, [], ◌∷◌, length, get_or, Option, Some}
use Rattle.std.proofs.Common.{None, refl, sym, subst, ap, ◌∙◌, inl, inr, arith}
use Rattle.std.specs.Prelude.{is_some}
use Rattle.std.proofs.lemmas.Bool.{cases_eq}
use Rattle.std.proofs.lemmas.Bool.Decides.{eqb_tells}
use Rattle.ilk_base.specs.declared.words.Op.{Op}
use Rattle.station_graph.specs.Diagram.{Diagram}
use Rattle.central_rules.specs.Meaning.{Meaning, bay_of}
use Rattle.bay_protocol.specs.declared.values.Grant.{Grant}
use Rattle.bay_protocol.specs.declared.values.Collection.{Collection}
use Rattle.bay_protocol.specs.declared.values.Outcome.{Outcome}
use Rattle.bay_protocol.specs.declared.values.Outcome.TheVariants.{Granted, Collecting}
use Rattle.bay_protocol.specs.declared.values.NodeEvent.{NodeEvent}
use Rattle.bay_protocol.specs.declared.values.NodeEvent.TheVariants.{Command as Commanded}
use Rattle.bay_protocol.specs.State.{State, others}
use Rattle.bay_protocol.specs.Step.{Turn, Step as Stepping, CommandStep}
use Rattle.reservation_core.specs.Scene.{Scene, node}
use Rattle.reservation_core.specs.Concern.{Concern, concern}
use Rattle.reservation_core.specs.Lines.{Shown, of_bay}
use Rattle.reservation_core.specs.History.{open_after, collecting_after, forgotten, Opened, collecting}
use Rattle.reservation_core.specs.Hearing.{IsVerdictOn, DecidesRound}
use Rattle.reservation_core.specs.Headline.{EndsIt}
use Rattle.reservation_core.specs.declared.values.WorldEvent.{WorldEvent}
use Rattle.reservation_core.specs.declared.values.WorldEvent.TheVariants.{Command, Sense, Deliver, Tick, Withdraw}
use Rattle.reservation_core.specs.declared.values.WorldEvent.TheVariants.{Restart, Begin, End, Part, Cut}
use Rattle.reservation_core.proofs.Steps.{bay_of_is}
use Rattle.reservation_core.proofs.StepEffect.{Released}
use Rattle.log_replay.proofs.Linked.{opened}
use Rattle.log_replay.proofs.Others.{other_of}
use Rattle.trip_core.specs.declared.values.TripEvent.TheVariants.{Step}
use Rattle.trip_core.specs.Trips.{TripScene, note_at, own_note, tripped_at}
use Rattle.trip_core.specs.Learning.{learned_note}
use Rattle.trip_core.specs.TripLines.{TripLine, plain, is_sense, sensed_line, tripped_line}
use Rattle.trip_core.specs.Used.{told_by_line, heard_then, heard_lines, heard_note_at}
use Rattle.trip_replay.proofs.NotesAre.{NotesAre, KnewAt, not_ended, granted_now, collects_now, forgets_none}
use Rattle.trip_replay.proofs.NotesTurns.{sensed_is, command_says}
use Rattle.trip_replay.proofs.TripFollowing.{trip_line}
use Rattle.trip_replay.proofs.TurnLines.{IsTurnLine, own_shown, other_shown, turn_effect, own_is}
use Rattle.trip_replay.proofs.TurnLines.{none_told, stays_heard}
use Rattle.trip_replay.proofs.BesideNotes.{beside_now}
use Rattle.trip_replay.proofs.HeardNotes.{heard_so, heard_is}

-- a node that collects before and after a line is not shown to collect a new round
none_opened : (r : ℕ) (e : WorldEvent) (c : ℕ) (was : Option Opened) (g : Collection)
    → opened (Some g) ≡ forgotten e c (collecting_after (Collecting r) e was) → (op : Op) × (e ≡ Command op)
none_opened r (Command op) c was g is = (op, refl)
none_opened r (Restart b) c was g is = absurd (cc (is, forgets_none (Restart b) c))
none_opened r (Sense i word) c was g is = absurd (cc is)
none_opened r (Deliver n) c was g is = absurd (cc is)
none_opened r (Tick b) c was g is = absurd (cc is)
none_opened r (Withdraw b) c was g is = absurd (cc is)
none_opened r (Begin i) c was g is = absurd (cc is)
none_opened r (End i) c was g is = absurd (cc is)
none_opened r (Part n bytes) c was g is = absurd (cc is)
none_opened r (Cut i) c was g is = absurd (cc is)

commanded : (d : Diagram) (w : Scene) (e : WorldEvent) (op : Op) (c : Concern) → e ≡ Command op
    → concern d w e ≡ Some c → c.event ≡ Commanded op
commanded d w e op c is some =
    let at : concern d w (Command op) ≡ Some c = subst (λ (x : WorldEvent). concern d w x ≡ Some c) is some in
    let e : record { bay = bay_of d op.switch.0; message = 0; event = Commanded op } ≡ c = cc at in
    ap (λ (x : Concern). x.event) (sym e)

module _ {m : Meaning} {start : List Bool} {before : List TripLine} {old new : TripScene} {s : Shown}
    {e : WorldEvent} {c : Concern} {turn : Turn} (turned : IsTurnLine m start before old new s e c turn) where
  open turned use {station, was, now, said, notes, range, some, bay, step, here, away, decides}

  abbrev d : Diagram
  d = m.diagram

  abbrev w : Scene
  w = old.world.scene

  abbrev l : TripLine
  l = trip_line (Step e) s

  abbrev b : ℕ
  b = c.bay

  abbrev was_node : State
  was_node = node m.diagram old.world.scene c.bay

  -- ---- numbers

  events_now : new.events ≡ length (l ∷ before)
  events_now = omega (arith, notes.events, said.events)

  sensed_now : (i : ℕ) → i < length d.switches → get_or new.sensed i 0 ≡ sensed_line (l ∷ before) i
  sensed_now i lt =
      let number : old.events + 1 ≡ length (l ∷ before) = omega (arith, said.events) in
      ap (λ (x : List ℕ). get_or x i 0) notes.sensed ∙ (sensed_is d w e c old.sensed
      (old.events + 1) i range was.facts.clocked.each_sensed some
      ∙ (ap (λ (y : ℕ). cond (is_sense (Step e) i) (old.events + 1) y) (said.sensed i lt) ∙ ap (λ (y : ℕ). cond
      (is_sense (Step e) i) y (sensed_line before i)) number))

  tripped_now : (i : ℕ) → i < length d.switches → tripped_at new.tripped i ≡ tripped_line (l ∷ before) i
  tripped_now i lt = ap (λ (x : List ℕ). tripped_at x i) notes.tripped ∙ said.tripped i lt

  -- ---- what each bay knows

  known_here : (i : ℕ) → i < length d.switches → note_at new.known b i ≡ learned_note notes.from
      (is_some was_node.collecting) (is_some was_node.granted) (is_some turn.new.collecting) (bay_of d i) b
      (own_note d old i) (note_at old.beside c.message i) (note_at old.known b i)
  known_here i lt =
      let learned = λ (x : State). learned_note notes.from (is_some was_node.collecting) (is_some was_node.granted)
      (is_some x.collecting) (bay_of d i) b (own_note d old i) (note_at old.beside c.message i)
      (note_at old.known b i) in
      notes.known b i lt ∙ (elim (eqb_tells b b) [ inl p ↦ rw p.0 refl | inr p ↦ absurd (p.1 refl) ] ∙ ap learned here)

  known_away : (x i : ℕ) → x ≢ b → i < length d.switches → note_at new.known x i ≡ note_at old.known x i
  known_away x i other lt = notes.known x i lt ∙ elim (eqb_tells x b) [
    | inl p ↦ absurd
        (other p.1)
    | inr p ↦ rw p.0 refl
  ]

  quiet_not : (x : ℕ) → x ≢ b → (r : ℕ) → of_bay s x ≢ Collecting r
  quiet_not x other r is = cc (is, other_shown turned x other)

  away_heard : (y x : ℕ) → x ≢ b → heard_lines (l ∷ before) x y ≡ heard_lines before x y
  away_heard y x other =
      stays_heard turned y x (quiet_not x other) (none_told turned y x (λ k f D a. other (sym a.to ∙ D.bay)))

  -- the round of the lines
  no_new_round : (g h : Collection) → turn.new.collecting ≡ Some g → was_node.collecting ≡ Some h → (r : ℕ)
      → of_bay s b ≢ Collecting r
  no_new_round g h new_has has r is =
      let after : opened (Some g) ≡ forgotten e b (collecting_after (of_bay s b) e (collecting (plain before) b)) =
      ap opened (sym (ap (λ (n : State). n.collecting) here ∙ new_has)) ∙ (now.said.nodes b).collecting in
      let by = none_opened r e b (collecting (plain before) b) g (after ∙ ap (λ (o : Outcome). forgotten e b
      (collecting_after o e (collecting (plain before) b))) is) in
      let commanded_step : CommandStep m d was_node by.0 turn = subst (λ
      (x : NodeEvent). Stepping m d was_node x turn) (commanded d w e by.0 c by.1 some) step in
      command_says m was_node by.0 turn h r has commanded_step (sym (own_shown turned) ∙ is)

  fresh_round : (g : Collection) (y : ℕ) → turn.new.collecting ≡ Some g → was_node.collecting ≡ None
      → heard_lines (l ∷ before) b y ≡ None
  fresh_round g y new_has none =
      let after : forgotten e b (collecting_after (of_bay s b) e (collecting (plain before) b)) ≡ opened (Some g) =
      sym (ap opened (sym (ap (λ (n : State). n.collecting) here ∙ new_has)) ∙ (now.said.nodes b).collecting) in
      let idle : None ≡ collecting (plain before) b = ap opened (sym none) ∙ (was.said.nodes b).collecting in
      let by = collects_now (of_bay s b) e b (record { round = g.round; op = g.op }) (ap (λ
      (x : Option Opened). forgotten e b (collecting_after (of_bay s b) e x)) idle ∙ after) in
      ap (λ (o : Outcome). heard_then o (told_by_line e before y b) (heard_lines before b y)) by.1

  collected_now : (x : ℕ) (g : Collection) → (node d new.world.scene x).collecting ≡ Some g → (i : ℕ)
      → i < length d.switches → bay_of d i ≢ x → note_at new.known x i ≡ heard_note_at d (heard_lines (l ∷ before) x
      (bay_of d i)) i
  collected_now x g has i lt theirs = elim (cases_eq x b) [
    | inr other ↦ known_away x i other lt ∙ (said.collected x g (ap (λ (n : State). n.collecting) (sym (away x other))
        ∙ has) i lt theirs ∙ ap (λ (z : Option (List TripLine)). heard_note_at d z i) (sym (away_heard
        (bay_of d i) x other)))
    | inl same ↦
        let new_has : turn.new.collecting ≡ Some g = sym (ap (λ (n : State). n.collecting) here) ∙ (ap (λ (z : ℕ).
        (node d new.world.scene z).collecting) (sym same) ∙ has) in
        let mine : bay_of d i ≢ b = λ is. theirs (is ∙ sym same) in
        let known : note_at new.known b i ≡ heard_so turned i = known_here i lt ∙ ap (λ
        (z : Option Collection). learned_note notes.from (is_some was_node.collecting) (is_some was_node.granted)
        (is_some z) (bay_of d i) b (own_note d old i) (note_at old.beside c.message i)
        (note_at old.known b i)) new_has in
        subst (λ (z : ℕ). note_at new.known z i ≡ heard_note_at d (heard_lines (l ∷ before) z (bay_of d i)) i)
        (sym same)
        (known ∙ heard_is turned g i lt mine (λ h old_has r. no_new_round g h new_has old_has r) (fresh_round g
        (bay_of d i) new_has) ((turn_effect turned).heard g new_has))
  ]

  -- ---- what a grant knew

  no_others : (g : Grant) → of_bay s b ≡ Granted g.round g.op → was_node.collecting ≡ None → others d b ≡ []
  no_others g grants none =
      let idle : None ≡ collecting (plain before) b = ap opened (sym none) ∙ (was.said.nodes b).collecting in
      let o : Opened = record { round = g.round; op = g.op } in
      elim (decides.no_other b o (subst (λ (x : Outcome). IsVerdictOn x o) (sym grants) (refl, refl))) [
        | DecidesRound.at_tick has _ ↦ absurd (cc (idle, has))
        | DecidesRound.all_heard n has _ _ ↦ absurd (cc (idle, has))
        | DecidesRound.alone _ _ alone _ ↦ alone
      ]

  no_round : (g : Grant) → turn.new.granted ≡ Some g → turn.new.collecting ≡ None
  no_round g has = by_round turn.new.collecting refl
    where
      by_round : (x : Option Collection) → turn.new.collecting ≡ x → turn.new.collecting ≡ None
      by_round None is = is
      by_round (Some h) is =
          let none = ((now.facts.rounds.rounds.rounds b bay).collecting h (ap (λ (n : State). n.collecting) here
          ∙ is)).no_grant in
          absurd (cc (sym (ap (λ (n : State). n.granted) here) ∙ none, has))

  open_shown : (g : Grant) → turn.new.granted ≡ Some g → open_after (of_bay s b) was_node.granted ≡ Some g
  open_shown g has =
      ap (λ (x : Option Grant). open_after (of_bay s b) x) (was.said.nodes b).granted ∙ (sym
      (now.said.nodes b).granted ∙ (ap (λ (n : State). n.granted) here ∙ has))

  stays_granted : (g : Grant) → turn.new.granted ≡ Some g → was_node.granted ≡ Some g
      → KnewAt d (l ∷ before) (note_at new.known b) b g
  stays_granted g has had =
      let it = said.granted b g had in
      let ends : ¬ EndsIt (of_bay s b) g.round = not_ended (of_bay s b) g (ap (λ (x : Option Grant). open_after
      (of_bay s b) x) (sym had) ∙ open_shown g has) in
      record {
        l = it.l;
        before = it.before;
        at = inr (it.at, ends);
        notes = λ i lt. known_here i lt ∙ (ap (λ (z : Option Collection). learned_note notes.from
            (is_some was_node.collecting) (is_some was_node.granted) (is_some z) (bay_of d i) b (own_note d old i)
            (note_at old.beside c.message i) (note_at old.known b i)) (no_round g has)
            ∙ (ap (λ (z : Option Grant). learned_note notes.from (is_some was_node.collecting) (is_some z) false
            (bay_of d i) b (own_note d old i) (note_at old.beside c.message i) (note_at old.known b i)) had
            ∙ it.notes i lt));
      }

  granted_at : (g : Grant) → turn.new.granted ≡ Some g → Released m was_node c.event g
      → KnewAt d (l ∷ before) (note_at new.known b) b g
  granted_at g has it =
      let grants : of_bay s b ≡ Granted g.round g.op = granted_now (of_bay s b) g (ap (λ
      (x : Option Grant). open_after (of_bay s b) x) (sym it.free) ∙ open_shown g has) in
      record {
        l = l;
        before = before;
        at = inl (grants, refl, refl);
        notes = λ i lt. known_here i lt ∙ (ap (λ (z : Option Collection). learned_note notes.from
            (is_some was_node.collecting) (is_some was_node.granted) (is_some z) (bay_of d i) b (own_note d old i)
            (note_at old.beside c.message i) (note_at old.known b i)) (no_round g has)
            ∙ (ap (λ (z : Option Grant). learned_note notes.from (is_some was_node.collecting) (is_some z) false
            (bay_of d i) b (own_note d old i) (note_at old.beside c.message i) (note_at old.known b i)) it.free
            ∙ elim (eqb_tells (bay_of d i) b) [
              | inl p ↦ rw p.0 (own_is turned i lt)
              | inr p ↦ rw p.0 (heard_is turned it.round i lt p.1 (λ h old_has r is. cc (is, grants))
                  (λ none. absurd (other_of d b (bay_of d i) (bay_of_is d i station lt, p.1)
                  (no_others g grants none))) it.heard)
            ]));
      }

  granted_is : (x : ℕ) (g : Grant) → (node d new.world.scene x).granted ≡ Some g → KnewAt d (l ∷ before)
      (note_at new.known x) x g
  granted_is x g has = elim (cases_eq x b) [
    | inr other ↦
        let it = said.granted x g (ap (λ (n : State). n.granted) (sym (away x other)) ∙ has) in
        record {
          l = it.l;
          before = it.before;
          at = inr (it.at, λ ends. subst (λ (o : Outcome). EndsIt o g.round) (other_shown turned x other) ends);
          notes = λ i lt. known_away x i other lt ∙ it.notes i lt;
        }
    | inl same ↦
        let new_has : turn.new.granted ≡ Some g = sym (ap (λ (n : State). n.granted) here) ∙ (ap (λ (z : ℕ).
        (node d new.world.scene z).granted) (sym same) ∙ has) in
        subst (λ (z : ℕ). KnewAt d (l ∷ before) (note_at new.known z) z g) (sym same) (elim
        ((turn_effect turned).grants g new_has) [
          | inl had ↦ stays_granted g new_has had
          | inr released ↦ granted_at g new_has released
        ])
  ]

  pub turn_notes : NotesAre m (l ∷ before) new
  turn_notes = record {
    events = events_now;
    sensed = sensed_now;
    tripped = tripped_now;
    beside = beside_now turned;
    collected = collected_now;
    granted = granted_is;
  }
