-- A line of a run with trips that is a turn of a node: what is shown, told and counted at it.
use Rattle.std.proofs.Common.{◌⊎◌, ◌≡◌, ◌≢◌, ◌-◌, ◌<◌, ◌++◌, ℕ, Bool, List, ◌∷◌, length, Option, Some, None, refl, sym}
use Rattle.std.proofs.Common.{subst, ap, ◌∙◌, inl, inr}
use Rattle.ilk_base.specs.declared.words.Dbpos.{Dbpos}
use Rattle.station_graph.specs.Diagram.{Diagram, IsStation}
use Rattle.central_rules.specs.Meaning.{Meaning, IsBay, bay_of}
use Rattle.bay_frames.specs.declared.frame.Frame.{Frame}
use Rattle.bay_protocol.specs.declared.values.Collection.{Collection}
use Rattle.bay_protocol.specs.declared.values.Outcome.TheVariants.{Collecting, Quiet}
use Rattle.bay_protocol.specs.State.{State, IsOther, under_way_of}
use Rattle.bay_protocol.specs.Step.{Turn, Step as Stepping}
use Rattle.bay_protocol.specs.Counts.{Counts}
use Rattle.reservation_core.specs.Scene.{Scene, node}
use Rattle.reservation_core.specs.Concern.{Concern, concern}
use Rattle.reservation_core.specs.Happens.{InRange}
use Rattle.reservation_core.specs.Lines.{Shown, message, of_bay, shown}
use Rattle.reservation_core.specs.History.{or_else, last_round}
use Rattle.reservation_core.specs.Headline.{DecidesWell}
use Rattle.reservation_core.specs.declared.values.WorldEvent.{WorldEvent}
use Rattle.reservation_core.proofs.Keeping.{got_there}
use Rattle.reservation_core.proofs.Effects.{effect}
use Rattle.reservation_core.proofs.StepEffect.{Effect}
use Rattle.log_replay.proofs.Basic.{IsAnswer}
use Rattle.log_replay.proofs.Links.{TurnShown}
use Rattle.log_replay.proofs.Leading.{brought_of}
use Rattle.log_replay.proofs.Others.{other_of}
use Rattle.trip_core.specs.declared.values.Note.{Note}
use Rattle.trip_core.specs.declared.values.TripEvent.TheVariants.{Step}
use Rattle.trip_core.specs.Trips.{TripScene, own_note}
use Rattle.trip_core.specs.Happens.{NotesTurn}
use Rattle.trip_core.specs.TripLines.{TripLine, plain}
use Rattle.trip_core.specs.Used.{told_by_line, heard_lines, line_note}
use Rattle.trip_replay.proofs.NotesAre.{NotesAre, heard_stays, untold}
use Rattle.trip_replay.proofs.NotesTurns.{Delivery, Delivered, NoDelivery, answer_body}
use Rattle.trip_replay.proofs.TripFollowing.{TripIs, trip_line}

-- two notes with the same word and time
abbrev note_of : Dbpos → ℕ → Note
note_of word at = record { word = word; at = at }

pub same_note : (a b : Dbpos) (x y : ℕ) → a ≡ b → x ≡ y → note_of a x ≡ note_of b y
same_note a b x y word at = ap (λ (w : Dbpos). note_of w x) word ∙ ap (λ (t : ℕ). note_of b t) at

-- a line of a run with trips that is a turn of the node of c
pub record IsTurnLine (m : Meaning) (start : List Bool) (before : List TripLine) (old new : TripScene) (s : Shown)
    (e : WorldEvent) (c : Concern) (turn : Turn) : Type 0 where
  pub station : IsStation m.diagram
  pub was : TripIs m start before old
  pub now : TripIs m start (trip_line (Step e) s ∷ before) new
  pub said : NotesAre m before old
  pub notes : NotesTurn m old c new
  pub range : InRange m.diagram e
  pub some : concern m.diagram old.world.scene e ≡ Some c
  pub comes : Delivered old.world.scene e c ⊎ NoDelivery e c
  pub bay : IsBay m.diagram c.bay
  pub step : Stepping m m.diagram (node m.diagram old.world.scene c.bay) c.event turn
  pub sent : new.world.scene.sent ≡ old.world.scene.sent ++ turn.frames
  pub here : node m.diagram new.world.scene c.bay ≡ turn.new
  pub away : (b : ℕ) → b ≢ c.bay → node m.diagram new.world.scene b ≡ node m.diagram old.world.scene b
  pub shows : TurnShown (length old.world.scene.sent) c.bay turn s
  pub decides : DecidesWell m.diagram (plain before) (record { event = e; shown = s })

module _ {m : Meaning} {start : List Bool} {before : List TripLine} {old new : TripScene} {s : Shown}
    {e : WorldEvent} {c : Concern} {turn : Turn} (turned : IsTurnLine m start before old new s e c turn) where
  open turned use {was, said, comes, bay, step, sent, here, shows}

  abbrev d : Diagram
  d = m.diagram

  abbrev w : Scene
  w = old.world.scene

  abbrev l : TripLine
  l = trip_line (Step e) s

  abbrev b : ℕ
  b = c.bay

  abbrev was_node : State
  was_node = node m.diagram old.world.scene c.bay

  pub own_shown : of_bay s b ≡ shown turn.outcome
  own_shown = shows.own

  pub other_shown : (x : ℕ) → x ≢ b → of_bay s x ≡ Quiet
  other_shown x other = shows.other x other

  pub turn_effect : Effect m was_node c.event turn.new turn.frames
  turn_effect = effect m was_node c.event turn (was.facts.rounds.rounds.rounds b bay) step

  pub named : was_node.bay ≡ b
  named = was.facts.rounds.rounds.shape.named b

  pub own_is : (i : ℕ) → i < length d.switches → own_note d old i ≡ line_note d before i
  own_is i lt = same_note _ _ _ _ ((was.said.nodes (bay_of d i)).read i lt refl) (said.sensed i lt)

  -- ---- what is told

  -- nothing, where no answer to x from y in its round comes
  pub none_told : (y x : ℕ) → ((k : ℕ) (f : Frame) → Delivery w e c k f → ¬ IsAnswer (message k f) y x (last_round
      (plain before) x)) → told_by_line e before y x ≡ None
  none_told y x never = elim comes [
    | inr N ↦ N.tells before y x
    | inl D ↦
        let brought = brought_of m (plain before) w D.number D.frame was.said D.is.message in
        subst (λ (z : WorldEvent). told_by_line z before y x ≡ None) (sym D.is.event) (untold D.number before y x
        (record { message = message D.number D.frame; lines = brought.at }) brought.found
        (never D.number D.frame D.is))
  ]

  -- an answer in the round that is collected counts
  pub last_is : (g : Collection) (y : ℕ) → was_node.collecting ≡ Some g → IsOther d b y
      → last_round (plain before) b ≡ Some g.round
  last_is g y has other = (was.said.nodes b).round g.round (ap (λ
      (z : Option Collection). under_way_of z was_node.granted) has) (other_of d b y other)

  pub counts_it : (g : Collection) (y k : ℕ) (f : Frame) → was_node.collecting ≡ Some g → IsOther d b y
      → Delivery w e c k f → IsAnswer (message k f) y b (last_round (plain before) b) → Counts m d was_node f
  counts_it g y k f has other D a =
      let t = answer_body f.body a.kind in
      let there = got_there w.sent (k - 1) f D.message.sent in
      let fit = was.facts.rounds.rounds.bounds.fit f there in
      let same : Some g.round ≡ Some f.round = sym (last_is g y has other) ∙ a.round in
      record {
        meant = record {
          here = D.bay ∙ sym named;
          other = (
            fit.sender,
            λ is. fit.receiver.1 (D.bay ∙ sym (is
                ∙ named)),
          );
        };
        round = g;
        collects = has;
        same = cc same;
        summary = t.0;
        answer = t.1;
        fits = subst (λ (z : ℕ). m.Fits f.from.0 z t.0) (D.bay ∙ sym named) (was.facts.truth.made
            (k - 1) f t.0 D.message.sent t.1).fits;
      }

  pub stays_heard : (y x : ℕ) → ((r : ℕ) → of_bay s x ≢ Collecting r) → told_by_line e before y x ≡ None
      → heard_lines (l ∷ before) x y ≡ heard_lines before x y
  stays_heard y x never none = heard_stays (of_bay s x) (told_by_line e before y x) (heard_lines before x y) never
      ∙ ap (λ (t : Option (List TripLine)). or_else t (heard_lines before x y)) none
