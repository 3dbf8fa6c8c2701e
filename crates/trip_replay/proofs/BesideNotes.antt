-- After a turn of a node the notes beside each message are what the lines say.
use Rattle.std.proofs.Common.{◌≡◌, ◌+◌, ◌-◌, ◌<◌, ◌≤◌, ◌++◌, ℕ, Bool, cond, List, ◌∷◌, length, slice_get, Some, refl}
use Rattle.std.proofs.Common.{sym, subst, ap, ◌∙◌, inl, inr, arith}
use Rattle.ilk_base.specs.declared.words.Dbpos.TheVariants.{Lost}
use Rattle.station_graph.specs.Diagram.{Diagram}
use Rattle.central_rules.specs.Meaning.{Meaning, bay_of}
use Rattle.bay_frames.specs.declared.frame.Frame.{Frame}
use Rattle.bay_frames.specs.declared.frame.Body.TheVariants.{Reserve, Answer}
use Rattle.bay_protocol.specs.declared.values.Outcome.{Outcome}
use Rattle.bay_protocol.specs.declared.values.Outcome.TheVariants.{Quiet}
use Rattle.bay_protocol.specs.declared.values.NodeEvent.{NodeEvent}
use Rattle.bay_protocol.specs.declared.values.NodeEvent.TheVariants.{Command as Commanded, Sense as Sensing}
use Rattle.bay_protocol.specs.declared.values.NodeEvent.TheVariants.{Frame as Arrival, Tick as Ticking}
use Rattle.bay_protocol.specs.declared.values.NodeEvent.TheVariants.{Withdraw as Withdrawing, Restart as Restarting}
use Rattle.bay_protocol.specs.declared.values.NodeEvent.TheVariants.{Cut as Cutting}
use Rattle.bay_protocol.specs.State.{State}
use Rattle.bay_protocol.specs.Step.{Turn, Step as Stepping}
use Rattle.reservation_core.specs.Scene.{Scene, node}
use Rattle.reservation_core.specs.Concern.{Concern}
use Rattle.reservation_core.specs.Held.{IsSwitchOf}
use Rattle.reservation_core.specs.Lines.{Line, Shown, of_bay, shown}
use Rattle.reservation_core.specs.History.{reading_at, takes_word, open_of}
use Rattle.reservation_core.specs.declared.values.WorldEvent.{WorldEvent}
use Rattle.reservation_core.specs.declared.values.WorldEvent.TheVariants.{Deliver}
use Rattle.reservation_core.proofs.AlikeNotes.{there_or_new}
use Rattle.reservation_core.proofs.StepEffect.{IsAsked}
use Rattle.log_replay.proofs.Basic.{number_before, number_at}
use Rattle.log_replay.proofs.Links.{get_appended}
use Rattle.trip_core.specs.declared.values.TripEvent.TheVariants.{Step}
use Rattle.trip_core.specs.Trips.{TripScene, note_at}
use Rattle.trip_core.specs.TripLines.{TripLine, plain}
use Rattle.trip_core.specs.Used.{sent_by, line_note}
use Rattle.trip_replay.proofs.NotesTurns.{asked_says}
use Rattle.trip_replay.proofs.TripFollowing.{trip_line}
use Rattle.trip_replay.proofs.TurnLines.{same_note, IsTurnLine, own_shown, turn_effect, named, own_is}

-- a delivery of which nothing is shown takes no word
reading_quiet : (d : Diagram) (k : ℕ) (s : Shown) (lines : List Line) (i : ℕ) → of_bay s (bay_of d i) ≡ Quiet
    → reading_at d (record { event = Deliver k; shown = s } ∷ lines) i ≡ reading_at d lines i
reading_quiet d k s lines i quiet = ap (λ (o : Outcome). cond (takes_word o (open_of lines (bay_of d i)) i) Lost
    (reading_at d lines i)) quiet

module _ {m : Meaning} {start : List Bool} {before : List TripLine} {old new : TripScene} {s : Shown}
    {e : WorldEvent} {c : Concern} {turn : Turn} (turned : IsTurnLine m start before old new s e c turn) where
  open turned use {said, notes, comes, bay, step, sent, shows}

  abbrev d : Diagram
  d = m.diagram

  abbrev w : Scene
  w = old.world.scene

  abbrev l : TripLine
  l = trip_line (Step e) s

  abbrev b : ℕ
  b = c.bay

  abbrev was_node : State
  was_node = node m.diagram old.world.scene c.bay

  -- ---- beside messages

  old_sent : (k : ℕ) → k < length w.sent → sent_by (l ∷ before) (k + 1) ≡ sent_by before (k + 1)
  old_sent k lt = rw (shows.messages, number_before (k + 1) (length w.sent + 1) turn.frames (omega (arith, lt))) refl

  new_sent : (k : ℕ) (f : Frame) → length w.sent ≤ k → slice_get (w.sent ++ turn.frames) k ≡ Some f
      → sent_by (l ∷ before) (k + 1) ≡ l ∷ before
  new_sent k f past got =
      let at : slice_get turn.frames (k - length w.sent) ≡ Some f = sym (get_appended w.sent turn.frames k
      (k - length w.sent) (omega (arith, past))) ∙ got in
      rw (
        shows.messages,
        number_at (k + 1) (length w.sent + 1) turn.frames (k - length w.sent) f (omega
            (arith, past)) at,
      ) refl

  -- where a Reserve comes, nothing is shown, and no word is read or taken
  asked_note : (f : Frame) (i : ℕ) → c.event ≡ Arrival f → f.body ≡ Reserve → bay_of d i ≡ b
      → line_note d (l ∷ before) i ≡ line_note d before i
  asked_note f i is body own =
      let quiet : of_bay s (bay_of d i) ≡ Quiet = ap (λ (x : ℕ). of_bay s x) own ∙ (own_shown turned ∙ ap shown
      (asked_says m was_node f turn body (subst (λ
      (x : NodeEvent). Stepping m m.diagram was_node x turn) is step))) in
      elim comes [
        | inl D ↦ subst (λ (x : WorldEvent). line_note d (trip_line (Step x) s ∷ before) i ≡ line_note d before i)
            (sym D.is.event) (same_note _ _ _ _ (reading_quiet d D.number s (plain before) i quiet) refl)
        | inr N ↦ absurd (N.comes f is)
      ]

  asked_by : (event : NodeEvent) → IsAsked event → (f : Frame) × (event ≡ Arrival f) × (f.body ≡ Reserve)
  asked_by (Arrival f) asked = (f, refl, asked)
  asked_by (Commanded op) asked = absurd asked
  asked_by (Sensing i word) asked = absurd asked
  asked_by Ticking asked = absurd asked
  asked_by Withdrawing asked = absurd asked
  asked_by Restarting asked = absurd asked
  asked_by (Cutting i) asked = absurd asked

  pub beside_now : (k : ℕ) (f : Frame) (t : List ℕ) → slice_get new.world.scene.sent k ≡ Some f → f.body ≡ Answer t
      → (i : ℕ) → IsSwitchOf m f.from.0 i → note_at new.beside k i ≡ line_note d (sent_by (l ∷ before) (k + 1)) i
  beside_now k f t got body i own =
      let at : slice_get (w.sent ++ turn.frames) k ≡ Some f = ap (λ (x : List Frame). slice_get x k) (sym sent) ∙ got in
      elim (there_or_new w.sent turn.frames k f at) [
        | inl p ↦ notes.before k i p.0 own.0 ∙ (said.beside k f t p.1 body i own ∙ ap (λ
            (ls : List TripLine). line_note d ls i) (sym (old_sent k p.0)))
        | inr p ↦
            let it = (turn_effect turned).answers f t p.1 body in
            let mine : bay_of d i ≡ b = own.1 ∙ (it.from ∙ named turned) in
            let asked = asked_by c.event it.asked in
            notes.beside k i f t p.0 got body own.0 mine ∙ (own_is turned i own.0 ∙ (sym
            (asked_note asked.0 i asked.1 asked.2 mine) ∙ ap (λ (ls : List TripLine). line_note d ls i) (sym
            (new_sent k f p.0 at))))
      ]
