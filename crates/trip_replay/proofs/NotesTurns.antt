-- The notes after a step of a node are what the lines say.
use Rattle.std.proofs.Common.{◌⊎◌, ◌≡◌, ◌≢◌, ◌-◌, ◌==◌, ℕ, cond, List}
use Rattle.std.proofs.Common.{length, get_or, slice_get, Option, Some, None, refl, sym}
use Rattle.std.proofs.Common.{subst, ap, ◌∙◌, inl, inr, arith}
use Rattle.ilk_base.specs.declared.words.Op.{Op}
use Rattle.station_graph.specs.Diagram.{Diagram}
use Rattle.central_rules.specs.Meaning.{Meaning, bay_of}
use Rattle.bay_frames.specs.declared.frame.Frame.{Frame}
use Rattle.bay_frames.specs.declared.frame.Body.{Body}
use Rattle.bay_frames.specs.declared.frame.Body.TheVariants.{Reserve, Answer, Busy, Query, Over}
use Rattle.bay_protocol.specs.declared.values.Collection.{Collection}
use Rattle.bay_protocol.specs.declared.values.Outcome.TheVariants.{Collecting, Quiet}
use Rattle.bay_protocol.specs.declared.values.NodeEvent.TheVariants.{Command as Commanded, Sense as Sensing}
use Rattle.bay_protocol.specs.declared.values.NodeEvent.TheVariants.{Frame as Arrival, Tick as Ticking}
use Rattle.bay_protocol.specs.declared.values.NodeEvent.TheVariants.{Withdraw as Withdrawing, Restart as Restarting}
use Rattle.bay_protocol.specs.declared.values.NodeEvent.TheVariants.{Cut as Cutting}
use Rattle.bay_protocol.specs.State.{State, under_way_of}
use Rattle.bay_protocol.specs.Step.{Turn, FrameStep, ReserveStep, CommandStep}
use Rattle.reservation_core.specs.Scene.{Scene}
use Rattle.reservation_core.specs.Concern.{Concern, concern, arrival}
use Rattle.reservation_core.specs.Happens.{Happens, InRange, IsMessage, DeliverHappens}
use Rattle.reservation_core.specs.Lines.{MessageKind, kind_of, message, shown}
use Rattle.reservation_core.specs.declared.values.Which.{Which}
use Rattle.reservation_core.specs.declared.values.WorldEvent.{WorldEvent}
use Rattle.reservation_core.specs.declared.values.WorldEvent.TheVariants.{Command, Sense, Deliver, Tick, Withdraw}
use Rattle.reservation_core.specs.declared.values.WorldEvent.TheVariants.{Restart, Begin, End, Part, Cut}
use Rattle.reservation_core.specs.declared.values.WorldOutcome.{WorldOutcome}
use Rattle.reservation_core.specs.declared.values.WorldOutcome.TheVariants.{Premise}
use Rattle.log_replay.proofs.Links.{put_is}
use Rattle.trip_core.specs.declared.values.TripEvent.TheVariants.{Step}
use Rattle.trip_core.specs.Happens.{sensed_after}
use Rattle.trip_core.specs.TripLines.{TripLine, is_sense}
use Rattle.trip_core.specs.Used.{told_by_line}

-- ---- the event of a node

-- when words were read, by the event of the line
pub sensed_is : (d : Diagram) (w : Scene) (e : WorldEvent) (c : Concern) (times : List ℕ) (now i : ℕ) → InRange d e
    → length times ≡ length d.switches → concern d w e ≡ Some c → get_or (sensed_after c.event times now) i 0 ≡ cond
    (is_sense (Step e) i) now (get_or times i 0)
sensed_is d w (Command op) c times now i lt long is = let e : record {
  bay = bay_of d op.switch.0;
  message = 0;
  event = Commanded op;
} ≡ c = cc is in subst (λ (x : Concern). get_or
    (sensed_after x.event times now) i 0 ≡ get_or times i 0) e refl
sensed_is d w (Sense j word) c times now i lt long is = let e : record {
  bay = bay_of d j.0;
  message = 0;
  event = Sensing j word;
} ≡ c = cc is in subst (λ (x : Concern). get_or (sensed_after x.event times now) i 0 ≡ cond
    (j.0 == i) now (get_or times i 0)) e (put_is times j.0 i now 0 (omega (arith, lt, long)))
sensed_is d w (Deliver k) c times now i lt long is = by_frame (slice_get w.sent (k - 1)) is
  where
    by_frame : (x : Option Frame) → arrival (k - 1) x ≡ Some c → get_or
        (sensed_after c.event times now) i 0 ≡ get_or times i 0
    by_frame None none = absurd (cc none)
    by_frame (Some f) got = let e : record { bay = f.to.0; message = k - 1; event = Arrival f } ≡ c = cc got in
        subst (λ (x : Concern). get_or (sensed_after x.event times now) i 0 ≡ get_or times i 0) e refl
sensed_is d w (Tick b) c times now i lt long is = let e : record {
  bay = b.0;
  message = 0;
  event = Ticking;
} ≡ c = cc is in subst (λ (x : Concern). get_or
    (sensed_after x.event times now) i 0 ≡ get_or times i 0) e refl
sensed_is d w (Withdraw b) c times now i lt long is = let e : record {
  bay = b.0;
  message = 0;
  event = Withdrawing;
} ≡ c = cc is in subst (λ (x : Concern). get_or
    (sensed_after x.event times now) i 0 ≡ get_or times i 0) e refl
sensed_is d w (Restart b) c times now i lt long is = let e : record {
  bay = b.0;
  message = 0;
  event = Restarting;
} ≡ c = cc is in subst (λ (x : Concern). get_or
    (sensed_after x.event times now) i 0 ≡ get_or times i 0) e refl
sensed_is d w (Begin j) c times now i lt long is = absurd (cc is)
sensed_is d w (End j) c times now i lt long is = absurd (cc is)
sensed_is d w (Part k bytes) c times now i lt long is = absurd (cc is)
sensed_is d w (Cut j) c times now i lt long is = let e : record {
  bay = bay_of d j.0;
  message = 0;
  event = Cutting j;
} ≡ c = cc is in subst (λ (x : Concern). get_or
    (sensed_after x.event times now) i 0 ≡ get_or times i 0) e refl

-- the message that comes at the event
pub record Delivery (old : Scene) (e : WorldEvent) (c : Concern) (k : ℕ) (f : Frame) : Type 0 where
  pub event : e ≡ Deliver k
  pub message : IsMessage old k f
  pub place : c.message ≡ k - 1
  pub bay : f.to.0 ≡ c.bay
  pub comes : c.event ≡ Arrival f

pub record Delivered (old : Scene) (e : WorldEvent) (c : Concern) : Type 0 where
  pub number : ℕ
  pub frame : Frame
  pub is : Delivery old e c number frame

-- none comes, and the event delivers nothing
pub record NoDelivery (e : WorldEvent) (c : Concern) : Type 0 where
  pub comes : (f : Frame) → c.event ≢ Arrival f
  pub tells : (before : List TripLine) (x b : ℕ) → told_by_line e before x b ≡ None

pub delivered_or : (m : Meaning) (old new : Scene) (e : WorldEvent) (c : Concern) (outcome : WorldOutcome)
    → ((which : Which) → outcome ≢ Premise which) → concern m.diagram old e ≡ Some c → Happens m old e new outcome
    → Delivered old e c ⊎ NoDelivery e c
delivered_or m old new (Deliver k) c outcome fine is (DeliverHappens.unsent none refused) = absurd (fine _ refused.says)
delivered_or m old new (Deliver k) c outcome fine is (DeliverHappens.comes f message t) =
    let e : record { bay = f.to.0; message = k - 1; event = Arrival f } ≡ c = cc (sym (ap (λ
    (x : Option Frame). arrival (k - 1) x) message.sent) ∙ is) in
    inl (record {
      number = k;
      frame = f;
      is = record {
        event = refl;
        message = message;
        place = ap (λ (x : Concern). x.message) (sym e);
        bay = ap (λ (x : Concern). x.bay) e;
        comes = ap (λ (x : Concern). x.event) (sym e);
      };
    })
delivered_or m old new (Command op) c outcome fine is happens = let e : record {
  bay = bay_of m.diagram op.switch.0;
  message = 0;
  event = Commanded op;
} ≡ c = cc is in inr (subst (λ (x : Concern). NoDelivery (Command op) x) e
    (record { comes = λ f same. cc same; tells = λ before x b. refl }))
delivered_or m old new (Sense j word) c outcome fine is happens = let e : record {
  bay = bay_of m.diagram j.0;
  message = 0;
  event = Sensing j word;
} ≡ c = cc is in inr (subst (λ (x : Concern). NoDelivery (Sense j word) x) e
    (record { comes = λ f same. cc same; tells = λ before x b. refl }))
delivered_or m old new (Tick b) c outcome fine is happens = let e : record {
  bay = b.0;
  message = 0;
  event = Ticking;
} ≡ c = cc is in inr (subst (λ (x : Concern). NoDelivery (Tick b) x) e (record {
  comes =
      λ f same. cc same;
  tells = λ before x y. refl;
}))
delivered_or m old new (Withdraw b) c outcome fine is happens = let e : record {
  bay = b.0;
  message = 0;
  event = Withdrawing;
} ≡ c = cc is in inr (subst (λ (x : Concern). NoDelivery (Withdraw b) x) e (record {
  comes =
      λ f same. cc same;
  tells = λ before x y. refl;
}))
delivered_or m old new (Restart b) c outcome fine is happens = let e : record {
  bay = b.0;
  message = 0;
  event = Restarting;
} ≡ c = cc is in inr (subst (λ (x : Concern). NoDelivery (Restart b) x) e (record {
  comes =
      λ f same. cc same;
  tells = λ before x y. refl;
}))
delivered_or m old new (Begin j) c outcome fine is happens = absurd (cc is)
delivered_or m old new (End j) c outcome fine is happens = absurd (cc is)
delivered_or m old new (Part k bytes) c outcome fine is happens = absurd (cc is)
delivered_or m old new (Cut j) c outcome fine is happens = let e : record {
  bay = bay_of m.diagram j.0;
  message = 0;
  event = Cutting j;
} ≡ c = cc is in inr (subst (λ (x : Concern). NoDelivery (Cut j) x) e (record {
  comes =
      λ f same. cc same;
  tells = λ before x b. refl;
}))

-- ---- what a node's step shows

-- at a Reserve nothing is shown
reserve_says : (m : Meaning) (old : State) (from r : ℕ) (turn : Turn) → ReserveStep m old from r turn
    → turn.outcome ≡ Quiet
reserve_says m old from r turn (ReserveStep.busy_itself _ _ end) = end.says
reserve_says m old from r turn (ReserveStep.busy_locked _ _ _ _ end) = end.says
reserve_says m old from r turn (ReserveStep.late _ _ _ _ _ end) = end.says
reserve_says m old from r turn (ReserveStep.answers _ _ it) = it.end.says

pub asked_says : (m : Meaning) (old : State) (f : Frame) (turn : Turn) → f.body ≡ Reserve
    → FrameStep m m.diagram old f turn → turn.outcome ≡ Quiet
asked_says m old f turn body (FrameStep.elsewhere _ nothing) = nothing.says
asked_says m old f turn body (FrameStep.stranger _ nothing) = nothing.says
asked_says m old f turn body (FrameStep.reserve _ _ step) = reserve_says m old f.from.0 f.round turn step
asked_says m old f turn body (FrameStep.answer summary _ other step) = absurd (cc (body, other))
asked_says m old f turn body (FrameStep.busy holder q _ other step) = absurd (cc (body, other))
asked_says m old f turn body (FrameStep.query _ other step) = absurd (cc (body, other))
asked_says m old f turn body (FrameStep.over _ other step) = absurd (cc (body, other))

-- a node that collects opens no round
pub command_says : (m : Meaning) (old : State) (op : Op) (turn : Turn) (g : Collection) (r : ℕ)
    → old.collecting ≡ Some g → CommandStep m m.diagram old op turn → shown turn.outcome ≢ Collecting r
command_says m old op turn g r has (CommandStep.round_under_way _ _ end) is = cc (is, ap shown end.says)
command_says m old op turn g r has (CommandStep.held _ _ _ end) is = cc (is, ap shown end.says)
command_says m old op turn g r has (CommandStep.there _ _ end) is = cc (is, ap shown end.says)
command_says m old op turn g r has (CommandStep.spent _ _ _ end) is = cc (is, ap shown end.says)
command_says m old op turn g r has (CommandStep.opens_round free _ _ step) is = let none : under_way_of
    (Some g) old.granted ≡ None = ap (λ (x : Option Collection). under_way_of x old.granted) (sym has) ∙ free.idle in
    cc none

-- an answer
pub answer_body : (body : Body) → kind_of body ≡ MessageKind.answer → (t : List ℕ) × (body ≡ Answer t)
answer_body (Answer t) is = (t, refl)
answer_body Reserve is = absurd (cc is)
answer_body (Busy holder q) is = absurd (cc is)
answer_body Query is = absurd (cc is)
answer_body Over is = absurd (cc is)
