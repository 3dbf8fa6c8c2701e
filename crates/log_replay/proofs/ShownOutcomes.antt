-- What is shown of what happens is of the station.
use Rattle.std.proofs.Common.{◌≡◌, ◌+◌, ◌<◌, ◌≤◌, ◌^◌, ◌∙◌, refl, sym, ap, ℕ, zero, suc, Bool, List, [], ◌∷◌, length}
use Rattle.std.proofs.Common.{Some, Contains, inl, inr, arith}
use Rattle.std.specs.Prelude.{All}
use Rattle.std.proofs.lemmas.List.{length-append}
use Rattle.ilk_base.specs.declared.words.BayId.{BayId}
use Rattle.ilk_base.specs.declared.words.Dbpos.{Dbpos}
use Rattle.ilk_base.specs.declared.words.SwitchId.{SwitchId}
use Rattle.station_graph.specs.Diagram.{Diagram, IsStation}
use Rattle.central_rules.specs.Meaning.{Meaning}
use Rattle.bay_frames.specs.declared.frame.Frame.{Frame}
use Rattle.bay_frames.specs.Row.{IsLawful}
use Rattle.bay_protocol.specs.declared.values.NodeEvent.{NodeEvent}
use Rattle.bay_protocol.specs.declared.values.NodeOutput.{NodeOutput}
use Rattle.bay_protocol.specs.declared.values.Outcome.{Outcome}
use Rattle.bay_protocol.specs.declared.values.Outcome.TheVariants.{Denied}
use Rattle.reservation_core.specs.declared.values.WorldEvent.{WorldEvent}
use Rattle.reservation_core.specs.declared.values.WorldEvent.TheVariants.{Command, Sense, Deliver, Tick, Withdraw}
use Rattle.reservation_core.specs.declared.values.WorldEvent.TheVariants.{Restart, Begin, End, Part, Cut}
use Rattle.reservation_core.specs.declared.values.WorldOutcome.{WorldOutcome}
use Rattle.reservation_core.specs.declared.values.WorldOutcome.TheVariants.{Premise, Drive, Node}
use Rattle.reservation_core.specs.declared.values.Which.{Which}
use Rattle.reservation_core.specs.Scene.{Scene, stops}
use Rattle.reservation_core.specs.Happens.{Happens, NodeSteps, IsStoppedBy, IsDriven, SenseHappens, DeliverHappens}
use Rattle.reservation_core.specs.Happens.{PartHappens, WithdrawHappens, BeginHappens, EndHappens, CutHappens}
use Rattle.reservation_core.specs.World.{OutputFits}
use Rattle.reservation_core.specs.Lines.{Message, messages, shown}
use Rattle.reservation_core.specs.Runs.{nothing_shown, shown_of}
use Rattle.reservation_core.proofs.Nodes.{set_set}
use Rattle.log_replay.specs.Replay.{ShownFits}
use Rattle.log_replay.specs.Telling.{Is32Bits, Are32Bits, AreNumbered, IsNumbered, IsShowable}
use Rattle.log_replay.proofs.ReportLemmas.{fits_shown, below_numbers}
use Rattle.log_replay.proofs.ShownBays.{no_greater, nothing_is_0}

-- ---- what is sent

-- the number of the first message, and how many there are
record Said (old new : Scene) (first : ℕ) (frames : List Frame) : Type 0 where
  first_is : first ≡ length old.sent + 1
  count : length new.sent ≡ length old.sent + length frames

node_said : (m : Meaning) (old : Scene) (b : ℕ) (e : NodeEvent) (new : Scene) (bay : BayId) (first : ℕ)
    (output : NodeOutput) → NodeSteps m old b e new (Node bay first output) → Said old new first output.frames
node_said m old b e new bay first output t = record {
  first_is = t.says.1;
  count = ap (λ (w : Scene). length w.sent) t.world ∙ length-append old.sent t.turn.frames ∙ ap (λ
      (fs : List Frame). length old.sent + length fs) (sym t.says.3);
}

not_node : (old new : Scene) (bay : BayId) (first : ℕ) (output : NodeOutput) (which : Which)
    → IsStoppedBy old new (Node bay first output) which → Said old new first output.frames
not_node old new bay first output which refused = let is : Node bay first output ≡ Premise which = refused.says in
    absurd (cc is)

not_drive : (new after : Scene) (bay : BayId) (first : ℕ) (output : NodeOutput) → IsDriven new
    (Node bay first output) after → ⊥
not_drive new after bay first output driven = let is : Node bay first output ≡ Drive = driven.says in cc is

module _ (m : Meaning) (old new : Scene) (bay : BayId) (first : ℕ) (output : NodeOutput) where
  sense_said : (i : SwitchId) (word : Dbpos) → SenseHappens m old i word new (Node bay first output)
      → Said old new first output.frames
  sense_said i word (SenseHappens.untrue false_word refused) = not_node old new bay first output _ refused
  sense_said i word (SenseHappens.reads truly t) = node_said m old _ _ new bay first output t

  deliver_said : (k : ℕ) → DeliverHappens m old k new (Node bay first output) → Said old new first output.frames
  deliver_said k (DeliverHappens.unsent none refused) = not_node old new bay first output _ refused
  deliver_said k (DeliverHappens.comes f is t) = node_said m old _ _ new bay first output t

  part_said : (k : ℕ) → PartHappens m.diagram old k new (Node bay first output) → Said old new first output.frames
  part_said k (PartHappens.unsent none refused) = not_node old new bay first output _ refused
  part_said k (PartHappens.nothing f is same quiet) =
      let none : length output.frames ≡ 0 = ap length quiet.3 in
      let stays : length new.sent ≡ length old.sent = ap (λ (w : Scene). length w.sent) same in
      record { first_is = quiet.1; count = omega (arith, none, stays) }

  withdraw_said : (b : ℕ) → WithdrawHappens m old b new (Node bay first output) → Said old new first output.frames
  withdraw_said b (WithdrawHappens.running g has on refused) = not_node old new bay first output _ refused
  withdraw_said b (WithdrawHappens.resting still t) = node_said m old _ _ new bay first output t

  begin_said : (i : ℕ) → BeginHappens m.diagram old i new (Node bay first output) → Said old new first output.frames
  begin_said i (BeginHappens.not_open free refused) = not_node old new bay first output _ refused
  begin_said i (BeginHappens.running on refused) = not_node old new bay first output _ refused
  begin_said i (BeginHappens.there_already g opened at refused) = not_node old new bay first output _ refused
  begin_said i (BeginHappens.begins g opened off away driven) = absurd (not_drive new _ bay first output driven)

  end_said : (i : ℕ) → EndHappens m.diagram old i new (Node bay first output) → Said old new first output.frames
  end_said i (EndHappens.resting off refused) = not_node old new bay first output _ refused
  end_said i (EndHappens.arrives g on opened driven) = absurd (not_drive new _ bay first output driven)

  cut_said : (i : SwitchId) → CutHappens m old i new (Node bay first output) → Said old new first output.frames
  cut_said i (CutHappens.resting off refused) = not_node old new bay first output _ refused
  cut_said i (CutHappens.stops_between on t) =
      let said = node_said m (stops old i.0) _ _ new bay first output t in
      record { first_is = said.first_is; count = said.count }

  said : (e : WorldEvent) → Happens m old e new (Node bay first output) → Said old new first output.frames
  said (Command op) t = node_said m old _ _ new bay first output t
  said (Sense i word) happens = sense_said i word happens
  said (Deliver k) happens = deliver_said k happens
  said (Tick b) t = node_said m old _ _ new bay first output t
  said (Withdraw b) happens = withdraw_said b.0 happens
  said (Restart b) t = node_said m old _ _ new bay first output t
  said (Begin i) happens = begin_said i.0 happens
  said (End i) happens = end_said i.0 happens
  said (Part k bytes) happens = part_said k happens
  said (Cut i) happens = cut_said i happens

pub nothing_fits : (d : Diagram) → ShownFits d nothing_shown
nothing_fits d = record { outcome = tt; numbers = λ k x lt. absurd (omega (arith, lt)) }

-- what is shown of what happens is of the station
pub shown_of_fits : (m : Meaning) (old new : Scene) (e : WorldEvent) (o : WorldOutcome) → Happens m old e new o
    → OutputFits m.diagram o → length new.sent < 2 ^ 32 → ShownFits m.diagram (shown_of o)
shown_of_fits m old new e (Premise which) happens fits few = nothing_fits m.diagram
shown_of_fits m old new e Drive happens fits few = nothing_fits m.diagram
shown_of_fits m old new e (Node bay first output) happens fits few =
    let is = said m old new bay first output e happens in
    record {
      outcome = fits_shown m.diagram output.outcome fits.1;
      numbers = below_numbers (2 ^ 32) first output.frames (omega (arith, is.first_is, is.count, few));
    }

-- ---- and may be shown

pub nothing_showable : (d : Diagram) → IsShowable d nothing_shown
nothing_showable d = record {
  fits = tt;
  unmoved = refl;
  bay = omega arith;
  numbers = tt;
  messages = λ k x within. absurd (omega (arith, within));
  own = λ x there. absurd (omega (arith, there.1));
  silent = λ quiet none. refl;
}

shown_numbered : (o : Outcome) → Are32Bits o → Are32Bits (shown o)
shown_numbered (Denied r op rule v) n = n
shown_numbered o n = n

shown_twice : (o : Outcome) → shown (shown o) ≡ shown o
shown_twice (Denied r op rule v) =
    ap (λ (w : List Bool). let o : Outcome = Denied r op rule w in o) (set_set v op.switch.0 _ _)
shown_twice o = refl

numbered : (first : ℕ) (fs : List Frame) → first + length fs ≤ 2 ^ 32 → All IsLawful fs →
    All (λ (f : Frame). Is32Bits f.round) fs → All IsNumbered (messages first fs)
numbered first [] few lawful rounds k d lt = absurd (omega (arith, lt))
numbered first (f ∷ fs) few lawful rounds zero d lt =
    let it : IsLawful f = lawful 0 f (omega arith) in
    let from = it.from in
    let to = it.to in
    record {
      number = omega (arith, few);
      from = omega (arith, from);
      to = omega (arith, to);
      round = rounds 0 f (omega arith);
    }
numbered first (f ∷ fs) few lawful rounds (suc k) d lt =
    numbered (first + 1) fs (omega (arith, few)) (λ j c less. lawful (suc j) c (omega (arith, less)))
    (λ j c less. rounds (suc j) c (omega (arith, less))) k d (omega (arith, lt))

-- what is shown of what happens may be shown
pub showable_of : (m : Meaning) (old new : Scene) (e : WorldEvent) (o : WorldOutcome) → IsStation m.diagram →
    Happens m old e new o → OutputFits m.diagram o → length new.sent < 2 ^ 32 → AreNumbered (Some o) →
    ((x : Message) → Contains (shown_of o).messages x → x.from ≡ (shown_of o).bay) → IsShowable m.diagram (shown_of o)
showable_of m old new e (Premise which) station happens fits few numbers own = nothing_showable m.diagram
showable_of m old new e Drive station happens fits few numbers own = nothing_showable m.diagram
showable_of m old new e (Node bay first output) station happens fits few numbers own =
    let is = said m old new bay first output e happens in
    let low = fits.0.0 in
    let parts = station.items.parts_few in
    record {
      fits = fits_shown m.diagram output.outcome fits.1;
      unmoved = shown_twice output.outcome;
      bay = elim (no_greater bay.0 (shown output.outcome) (messages first output.frames)) [
        | inl same ↦ omega (arith, same, low, parts)
        | inr none ↦ omega (arith, none)
      ];
      numbers = shown_numbered output.outcome numbers.0;
      messages = numbered first output.frames (omega (arith, is.first_is, is.count, few)) fits.2 numbers.1;
      own = own;
      silent = nothing_is_0 bay.0 (shown output.outcome) (messages first output.frames);
    }
