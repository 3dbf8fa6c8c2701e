-- What the node of a turn has heard is what the lines say.
use Rattle.std.proofs.Common.{◌≡◌, ◌≢◌, ◌+◌, ◌<◌, ◌==◌, ℕ, Bool, true, cond, List, ◌∷◌, length, slice_get, Option, Some}
use Rattle.std.proofs.Common.{None, sym, subst, ap, ◌∙◌, inl, inr, arith}
use Rattle.std.specs.Prelude.{is_some}
use Rattle.std.proofs.lemmas.Bool.Decides.{eqb_tells}
use Rattle.station_graph.specs.Diagram.{Diagram}
use Rattle.central_rules.specs.Meaning.{Meaning, bay_of}
use Rattle.bay_frames.specs.declared.frame.Frame.{Frame}
use Rattle.bay_frames.specs.declared.frame.Body.TheVariants.{Answer}
use Rattle.bay_protocol.specs.declared.values.Collection.{Collection}
use Rattle.bay_protocol.specs.declared.values.Outcome.TheVariants.{Collecting}
use Rattle.bay_protocol.specs.declared.values.NodeEvent.TheVariants.{Frame as Arrival}
use Rattle.bay_protocol.specs.State.{State, IsOther}
use Rattle.bay_protocol.specs.Step.{Turn}
use Rattle.bay_protocol.specs.Counts.{Counts}
use Rattle.reservation_core.specs.Scene.{Scene, node}
use Rattle.reservation_core.specs.Concern.{Concern}
use Rattle.reservation_core.specs.Lines.{Shown, kind_of, message, of_bay}
use Rattle.reservation_core.specs.History.{or_else, last_round}
use Rattle.reservation_core.specs.declared.values.WorldEvent.{WorldEvent}
use Rattle.reservation_core.proofs.Steps.{bay_of_is}
use Rattle.reservation_core.proofs.StepEffect.{HeardFrom, CountsAt}
use Rattle.log_replay.proofs.Basic.{IsAnswer}
use Rattle.log_replay.proofs.Leading.{brought_of}
use Rattle.trip_core.specs.declared.values.Note.{Note}
use Rattle.trip_core.specs.declared.values.TripEvent.TheVariants.{Step}
use Rattle.trip_core.specs.Trips.{TripScene, lost, note_at}
use Rattle.trip_core.specs.Learning.{CountsOf, heard_note}
use Rattle.trip_core.specs.TripLines.{TripLine, plain}
use Rattle.trip_core.specs.Used.{sent_by, told_by_line, heard_lines, line_note, heard_note_at}
use Rattle.trip_replay.proofs.NotesAre.{heard_stays, told_now}
use Rattle.trip_replay.proofs.NotesTurns.{Delivery}
use Rattle.trip_replay.proofs.TripFollowing.{trip_line}
use Rattle.trip_replay.proofs.TurnLines.{IsTurnLine, none_told, last_is, counts_it, stays_heard}

module _ {m : Meaning} {start : List Bool} {before : List TripLine} {old new : TripScene} {s : Shown}
    {e : WorldEvent} {c : Concern} {turn : Turn} (turned : IsTurnLine m start before old new s e c turn) where
  open turned use {station, was, said, notes, comes, bay, sent}

  abbrev d : Diagram
  d = m.diagram

  abbrev w : Scene
  w = old.world.scene

  abbrev l : TripLine
  l = trip_line (Step e) s

  abbrev b : ℕ
  b = c.bay

  abbrev was_node : State
  was_node = node m.diagram old.world.scene c.bay

  -- ---- what the bay of the step has heard

  from_none : ¬ CountsAt m was_node c.event → notes.from ≡ None
  from_none uncounted = elim notes.counts [
    | CountsOf.an_answer f is counts same ↦ absurd (uncounted (subst (CountsAt m was_node) (sym is) counts))
    | CountsOf.nothing none same ↦ same
  ]

  from_some : (f : Frame) → c.event ≡ Arrival f → Counts m d was_node f → notes.from ≡ Some f.from.0
  from_some f is counts = elim notes.counts [
    | CountsOf.an_answer h comes_so also same ↦ let one : h ≡ f = cc (comes_so, is) in
        same ∙ ap (λ (x : Frame). Some x.from.0) one
    | CountsOf.nothing none same ↦ absurd (none f is counts)
  ]

  abbrev pub heard_so : ℕ → Note
  heard_so i = heard_note notes.from (is_some was_node.collecting) (bay_of d i) (note_at old.beside c.message i)
      (note_at old.known b i)

  pub heard_is : (g : Collection) (i : ℕ) → i < length d.switches → bay_of d i ≢ b → ((h : Collection)
      → was_node.collecting ≡ Some h → (r : ℕ) → of_bay s b ≢ Collecting r) → (was_node.collecting ≡ None
      → heard_lines (l ∷ before) b (bay_of d i) ≡ None) → HeardFrom m was_node c.event g
      → heard_so i ≡ heard_note_at d (heard_lines (l ∷ before) b (bay_of d i)) i
  heard_is g i lt theirs never fresh (HeardFrom.kept has uncounted) =
      let y = bay_of d i in
      let other : IsOther d b y = (bay_of_is d i station lt, theirs) in
      let none = none_told turned y b (λ k f D a. uncounted (subst (CountsAt m was_node) (sym D.comes)
      (counts_it turned g y k f has other D a))) in
      let kept : heard_so i ≡ note_at old.known b i = ap (λ (x : Option ℕ). heard_note x
      (is_some was_node.collecting) y (note_at old.beside c.message i) (note_at old.known b i))
      (from_none uncounted) ∙ ap (λ (x : Option Collection). heard_note None (is_some x) y
      (note_at old.beside c.message i) (note_at old.known b i)) has in
      kept ∙ (said.collected b g has i lt theirs ∙ ap (λ (x : Option (List TripLine)). heard_note_at d x i) (sym
      (stays_heard turned y b (never g has) none)))
  heard_is g i lt theirs never fresh (HeardFrom.opened none nothing) =
      let y = bay_of d i in
      let nobody : heard_so i ≡ lost = ap (λ (x : Option Collection). heard_note notes.from (is_some x) y
      (note_at old.beside c.message i) (note_at old.known b i)) none in
      nobody ∙ ap (λ (x : Option (List TripLine)). heard_note_at d x i) (sym (fresh none))
  heard_is g i lt theirs never fresh (HeardFrom.one_more h f t is counts body has round same) =
      let y = bay_of d i in
      let other : IsOther d b y = (bay_of_is d i station lt, theirs) in
      let one : heard_so i ≡ cond (y == f.from.0) (note_at old.beside c.message i) (note_at old.known b i) = ap (λ
      (x : Option ℕ). heard_note x (is_some was_node.collecting) y (note_at old.beside c.message i)
      (note_at old.known b i)) (from_some f is counts) ∙ ap (λ (x : Option Collection). heard_note (Some f.from.0)
      (is_some x) y (note_at old.beside c.message i) (note_at old.known b i)) has in
      elim comes [
        | inr N ↦ absurd (N.comes f is)
        | inl D ↦
            let frame : D.frame ≡ f = cc (D.is.comes, is) in
            let D : Delivery w e c D.number f = subst (λ (x : Frame). Delivery w e c D.number x) frame D.is in
            elim (eqb_tells y f.from.0) [
              | inr p ↦
                  let none = none_told turned y b (λ k h also a.
                  let same_frame : h ≡ f = cc (also.comes, is) in p.1 (sym a.from ∙ ap (λ
                  (x : Frame). x.from.0) same_frame)) in
                  one ∙ (rw p.0 (said.collected b h has i lt theirs) ∙ ap (λ (x : Option
                  (List TripLine)). heard_note_at d x i) (sym (stays_heard turned y b (never h has) none)))
              | inl p ↦ told_it h f t i lt theirs never is body has round other p.0 p.1 one
            ]
      ]
    where
      told_it : (h : Collection) (f : Frame) (t : List ℕ) (i : ℕ) → i < length d.switches → bay_of d i ≢ b
          → ((h : Collection) → was_node.collecting ≡ Some h → (r : ℕ) → of_bay s b ≢ Collecting r)
          → c.event ≡ Arrival f → f.body ≡ Answer t → was_node.collecting ≡ Some h → h.round ≡ f.round
          → IsOther d b (bay_of d i) → (bay_of d i == f.from.0) ≡ true → bay_of d i ≡ f.from.0
          → heard_so i ≡ cond (bay_of d i == f.from.0) (note_at old.beside c.message i) (note_at old.known b i)
          → heard_so i ≡ heard_note_at d (heard_lines (l ∷ before) b (bay_of d i)) i
      told_it h f t i lt theirs never is body has round other same_bay from one = elim comes [
        | inr N ↦ absurd (N.comes f is)
        | inl D ↦
            let y = bay_of d i in
            let n = D.number in
            let frame : D.frame ≡ f = cc (D.is.comes, is) in
            let number : c.message + 1 ≡ n = let positive = D.is.message.positive in
            omega (arith, D.is.place, positive) in
            let got : slice_get w.sent c.message ≡ Some f = ap (λ (x : ℕ). slice_get w.sent x) D.is.place
            ∙ (D.is.message.sent ∙ ap (λ (x : Frame). Some x) frame) in
            let brought = brought_of m (plain before) w n D.frame was.said D.is.message in
            let to : D.frame.to.0 ≡ b = D.is.bay in
            let answer : IsAnswer (message n D.frame) y b (last_round (plain before) b) = record {
              kind = ap kind_of (ap (λ (x : Frame). x.body) frame ∙ body);
              from = ap (λ (x : Frame). x.from.0) frame ∙ sym from;
              to = to;
              round = last_is turned h y has other ∙ (ap (λ (r : ℕ). Some r) round ∙ ap (λ (x : Frame). Some x.round)
                  (sym frame));
            } in
            let told : told_by_line e before y b ≡ Some (sent_by before n) = subst (λ
            (z : WorldEvent). told_by_line z before y b ≡ Some (sent_by before n)) (sym D.is.event)
            (told_now n before y b (record {
              message = message n D.frame;
              lines =
                  brought.at;
            }) brought.found answer) in
            let heard : heard_lines (l ∷ before) b y ≡ Some (sent_by before n) = heard_stays (of_bay s b)
            (told_by_line e before y b) (heard_lines before b y) (never h has) ∙ ap (λ (x : Option
            (List TripLine)). or_else x (heard_lines before b y)) told in
            one ∙ (rw same_bay (said.beside c.message f t got body i (lt, from)) ∙ (ap (λ (x : ℕ). line_note d
            (sent_by before x) i) number ∙ ap (λ (x : Option (List TripLine)). heard_note_at d x i) (sym heard)))
      ]
