-- What is sent at an event, and what is kept beside it.
use Rattle.std.proofs.Common.{◌≡◌, ◌<◌, ◌-◌, ◌++◌, ℕ, suc, List, [], ◌∷◌, length, map, drop, Option, Some, Contains}
use Rattle.std.proofs.Common.{refl, sym, subst, ap, ◌∙◌, arith}
use Rattle.std.proofs.Math.Seq.{drop-append_seam}
use Rattle.std.proofs.lemmas.List.{append-nil}
use Rattle.ilk_base.specs.declared.words.Dbpos.{Dbpos}
use Rattle.ilk_base.specs.declared.words.SwitchId.{SwitchId}
use Rattle.station_graph.specs.Diagram.{Diagram, IsStation}
use Rattle.central_rules.specs.Meaning.{Meaning, IsBay, bay_of}
use Rattle.bay_frames.specs.declared.frame.Frame.{Frame}
use Rattle.bay_frames.specs.declared.frame.Body.{Body}
use Rattle.bay_frames.specs.declared.frame.Body.TheVariants.{Reserve, Answer, Busy, Query, Over}
use Rattle.bay_protocol.specs.declared.values.NodeEvent.{NodeEvent}
use Rattle.bay_protocol.specs.declared.values.NodeEvent.TheVariants.{Command as Commanded, Sense as Sensing}
use Rattle.bay_protocol.specs.declared.values.NodeEvent.TheVariants.{Frame as Arrival, Tick as Ticking}
use Rattle.bay_protocol.specs.declared.values.NodeEvent.TheVariants.{Withdraw as Withdrawing, Restart as Restarting}
use Rattle.bay_protocol.specs.declared.values.NodeEvent.TheVariants.{Cut as Cutting}
use Rattle.reservation_core.specs.Scene.{Scene, node, stops}
use Rattle.reservation_core.specs.RoundFacts.{RoundFacts}
use Rattle.reservation_core.specs.Happens.{Happens, InRange, NodeSteps, SenseHappens, DeliverHappens, PartHappens}
use Rattle.reservation_core.specs.Happens.{WithdrawHappens, BeginHappens, EndHappens, CutHappens}
use Rattle.reservation_core.specs.World.{kept_beside, words_beside, sent_since}
use Rattle.reservation_core.specs.Beside.{AnswersAlone, IsCopied}
use Rattle.reservation_core.specs.declared.values.WorldEvent.{WorldEvent}
use Rattle.reservation_core.specs.declared.values.WorldEvent.TheVariants.{Command, Sense, Deliver, Tick, Withdraw}
use Rattle.reservation_core.specs.declared.values.WorldEvent.TheVariants.{Restart, Begin, End, Part, Cut}
use Rattle.reservation_core.specs.declared.values.WorldOutcome.{WorldOutcome}
use Rattle.reservation_core.proofs.Sends.{facts_stops}
use Rattle.reservation_core.proofs.Steps.{bay_of_is}
use Rattle.reservation_core.proofs.Keeping.{got_there}
use Rattle.reservation_core.proofs.Effects.{effect}
use Rattle.reservation_core.proofs.StepEffect.{IsAsked}

-- frames are added to what was sent, an Answer alone, and beside them the copy is what is to be kept
pub record Added (d : Diagram) (old new : Scene) (copy : Option (List Dbpos)) : Type 0 where
  pub frames : List Frame
  pub sent : new.sent ≡ old.sent ++ frames
  pub alone : AnswersAlone frames
  pub same : map (λ (f : Frame). kept_beside copy f.body) frames ≡ map (words_beside d old) frames

-- functions that are equal on each element
map_same : {X Y : Type 0} (f g : X → Y) (xs : List X) → ((x : X) → Contains xs x → f x ≡ g x) → map f xs ≡ map g xs
map_same f g [] h = refl
map_same f g (x ∷ xs) h =
    ap (λ y. y ∷ map f xs) (h x (0, omega arith, refl))
    ∙ ap (λ ys. g x ∷ ys) (map_same f g xs (λ y there. h y (suc there.0, omega (arith, there.1), there.2)))

-- the frame that comes is a Reserve
asked_by : (event : NodeEvent) → IsAsked event → (f : Frame) × (event ≡ Arrival f) × (f.body ≡ Reserve)
asked_by (Arrival f) asked = (f, refl, asked)
asked_by (Commanded op) asked = absurd asked
asked_by (Sensing i word) asked = absurd asked
asked_by Ticking asked = absurd asked
asked_by Withdrawing asked = absurd asked
asked_by Restarting asked = absurd asked
asked_by (Cutting i) asked = absurd asked

pub beside_same : (copy words : Option (List Dbpos)) (body : Body) → ((s : List ℕ) → body ≡ Answer s → copy ≡ words) →
    kept_beside copy body ≡ kept_beside words body
beside_same copy words (Answer s) h = h s refl
beside_same copy words Reserve h = refl
beside_same copy words (Busy holder q) h = refl
beside_same copy words Query h = refl
beside_same copy words Over h = refl

none_added : (d : Diagram) (old new : Scene) (copy : Option (List Dbpos)) → new.sent ≡ old.sent → Added d old new copy
none_added d old new copy is = record {
  frames = [];
  sent = is ∙ sym (append-nil old.sent);
  alone = λ f s there. absurd (omega (arith, there.1));
  same = refl;
}

module _ (m : Meaning) (station : IsStation m.diagram) (new : Scene) (outcome : WorldOutcome)
    (copy : Option (List Dbpos)) where
  turn_added : (old : Scene) (b : ℕ) (event : NodeEvent) → RoundFacts m old → IsBay m.diagram b →
      ((f : Frame) → event ≡ Arrival f → f.body ≡ Reserve → copy ≡ Some (node m.diagram old b).words) →
      NodeSteps m old b event new outcome → Added m.diagram old new copy
  turn_added old b event rounds bay copied s =
      let it = effect m (node m.diagram old b) event s.turn (rounds.rounds b bay) s.step in
      record {
        frames = s.turn.frames;
        sent = ap (λ (w : Scene). w.sent) s.world;
        alone = it.alone;
        same =
            map_same (λ (f : Frame). kept_beside copy f.body) (words_beside m.diagram old) s.turn.frames
            (λ f there. beside_same copy (Some (node m.diagram old f.from.0).words) f.body (λ x is.
            let said = it.answers f x there is in
            let asked = asked_by event said.asked in
            let from : f.from.0 ≡ b = said.from ∙ rounds.shape.named b in
            copied asked.0 asked.1 asked.2 ∙ ap (λ (y : ℕ). Some (node m.diagram old y).words) (sym from)));
      }

  -- at an event that brings no frame
  plain_added : (old : Scene) (b : ℕ) (event : NodeEvent) → RoundFacts m old → IsBay m.diagram b →
      ((f : Frame) → event ≡ Arrival f → ⊥) → NodeSteps m old b event new outcome → Added m.diagram old new copy
  plain_added old b event rounds bay none s = turn_added old b event rounds bay (λ f is. absurd (none f is)) s

  module _ (old : Scene) (rounds : RoundFacts m old) where
    unchanged_added : new ≡ old → Added m.diagram old new copy
    unchanged_added is = none_added m.diagram old new copy (ap (λ (w : Scene). w.sent) is)

    sense_added : (i : SwitchId) (word : Dbpos) → i.0 < length m.diagram.switches →
        SenseHappens m old i word new outcome → Added m.diagram old new copy
    sense_added i word lt (SenseHappens.untrue not_so r) = unchanged_added r.unchanged
    sense_added i word lt (SenseHappens.reads truly s) =
        plain_added old (bay_of m.diagram i.0) (Sensing i word) rounds (bay_of_is m.diagram i.0 station lt)
        (λ f is. cc is) s

    deliver_added : (k : ℕ) → IsCopied m.diagram old (Deliver k) copy → DeliverHappens m old k new outcome →
        Added m.diagram old new copy
    deliver_added k copied (DeliverHappens.unsent none r) = unchanged_added r.unchanged
    deliver_added k copied (DeliverHappens.comes f message s) =
        turn_added old f.to.0 (Arrival f) rounds
        (rounds.bounds.fit f (got_there old.sent (k - 1) f message.sent)).receiver.0
        (λ g is body.
        let e : f ≡ g = cc is in
        copied k f refl message (subst (λ (x : Frame). x.body ≡ Reserve) (sym e) body)) s

    part_added : (k : ℕ) → PartHappens m.diagram old k new outcome → Added m.diagram old new copy
    part_added k (PartHappens.unsent none r) = unchanged_added r.unchanged
    part_added k (PartHappens.nothing f message same says) = unchanged_added same

    withdraw_added : (b : ℕ) → IsBay m.diagram b → WithdrawHappens m old b new outcome → Added m.diagram old new copy
    withdraw_added b bay (WithdrawHappens.running g has on r) = unchanged_added r.unchanged
    withdraw_added b bay (WithdrawHappens.resting rests s) = plain_added old b Withdrawing rounds bay (λ f is. cc is) s

    begin_added : (i : ℕ) → BeginHappens m.diagram old i new outcome → Added m.diagram old new copy
    begin_added i (BeginHappens.not_open free r) = unchanged_added r.unchanged
    begin_added i (BeginHappens.running on r) = unchanged_added r.unchanged
    begin_added i (BeginHappens.there_already g it at r) = unchanged_added r.unchanged
    begin_added i (BeginHappens.begins g it off away driven) =
        none_added m.diagram old new copy (ap (λ (w : Scene). w.sent) driven.world)

    end_added : (i : ℕ) → EndHappens m.diagram old i new outcome → Added m.diagram old new copy
    end_added i (EndHappens.resting off r) = unchanged_added r.unchanged
    end_added i (EndHappens.arrives g on it driven) =
        none_added m.diagram old new copy (ap (λ (w : Scene). w.sent) driven.world)

    cut_added : (i : SwitchId) → i.0 < length m.diagram.switches → CutHappens m old i new outcome →
        Added m.diagram old new copy
    cut_added i lt (CutHappens.resting off r) = unchanged_added r.unchanged
    cut_added i lt (CutHappens.stops_between on s) =
        let it =
        plain_added (stops old i.0) (bay_of m.diagram i.0) (Cutting i) (facts_stops m old i.0 rounds)
        (bay_of_is m.diagram i.0 station lt) (λ f is. cc is) s in
        record { frames = it.frames; sent = it.sent; alone = it.alone; same = it.same }

    pub added : (event : WorldEvent) → InRange m.diagram event → IsCopied m.diagram old event copy →
        Happens m old event new outcome → Added m.diagram old new copy
    added (Command op) lt copied s =
        plain_added old (bay_of m.diagram op.switch.0) (Commanded op) rounds
        (bay_of_is m.diagram op.switch.0 station lt) (λ f is. cc is) s
    added (Sense i word) lt copied s = sense_added i word lt s
    added (Deliver k) lt copied s = deliver_added k copied s
    added (Tick b) bay copied s = plain_added old b.0 Ticking rounds bay (λ f is. cc is) s
    added (Withdraw b) bay copied s = withdraw_added b.0 bay s
    added (Restart b) bay copied s = plain_added old b.0 Restarting rounds bay (λ f is. cc is) s
    added (Begin i) lt copied s = begin_added i.0 s
    added (End i) lt copied s = end_added i.0 s
    added (Part k bytes) lt copied s = part_added k s
    added (Cut i) lt copied s = cut_added i lt s

-- what was sent since
pub since : (d : Diagram) (old new : Scene) (copy : Option (List Dbpos)) → (it : Added d old new copy) →
    sent_since old new ≡ it.frames
since d old new copy it = ap (λ xs. drop (length old.sent) xs) it.sent ∙ drop-append_seam old.sent it.frames
