-- A lock whose round is over is given up: the locked bay asks, the holder says Over, and the lock is free.
use Rattle.std.proofs.Common.{◌≡◌, ◌≢◌, ◌+◌, ◌-◌, ◌≤◌, ℕ, List, [], ◌∷◌, ◌++◌, length, length-append}
use Rattle.std.proofs.Common.{slice_get, Option, Some, None, refl, sym, subst, ap, ◌∙◌, inl, inr, arith}
use Rattle.std.proofs.lemmas.Bool.{cases_eq}
use Rattle.ilk_base.specs.declared.words.BayId.{BayId}
use Rattle.station_graph.specs.Diagram.{Diagram, IsStation}
use Rattle.central_rules.specs.Meaning.{Meaning, IsBay}
use Rattle.bay_frames.specs.declared.frame.Frame.{Frame}
use Rattle.bay_frames.specs.declared.frame.Body.TheVariants.{Query, Over}
use Rattle.bay_protocol.specs.declared.values.Kept.{Kept}
use Rattle.bay_protocol.specs.declared.values.Lock.{Lock}
use Rattle.bay_protocol.specs.declared.values.Collection.{Collection}
use Rattle.bay_protocol.specs.declared.values.NodeEvent.TheVariants.{Frame as Arrival, Tick as Ticking}
use Rattle.bay_protocol.specs.declared.values.Outcome.TheVariants.{Quiet}
use Rattle.bay_protocol.specs.Fits.{IsNode}
use Rattle.bay_protocol.specs.Sends.{frame}
use Rattle.bay_protocol.specs.State.{State, under_way, unlocks, kept_of}
use Rattle.bay_protocol.specs.Step.{Turn, StepEnds, TickStep, FrameStep, IsMeant, QueryStep, OverStep}
use Rattle.reservation_core.specs.Scene.{Scene, node, at_node, posts}
use Rattle.reservation_core.specs.RoundFacts.{RoundFacts}
use Rattle.reservation_core.specs.Happens.{NodeSteps, DeliverHappens, IsMessage}
use Rattle.reservation_core.specs.Unlocking.{IsLeftLocked, unlocking, HappenInTurn}
use Rattle.reservation_core.specs.declared.values.WorldEvent.TheVariants.{Tick, Deliver}
use Rattle.reservation_core.specs.declared.values.WorldOutcome.{WorldOutcome}
use Rattle.reservation_core.specs.declared.values.WorldOutcome.TheVariants.{Node}
use Rattle.reservation_core.proofs.Nodes.{node_here, node_other}
use Rattle.reservation_core.proofs.Rounds.{node_there}
use Rattle.reservation_core.proofs.Keeping.{happens_keeps}

-- ---- one step of the protocol

-- a bay that is locked collects no round
collects_none : (o : Option Collection) (lock : Option Lock) (l : Lock) → lock ≡ Some l →
    ((g : Collection) → o ≡ Some g → lock ≡ None) → o ≡ None
collects_none None lock l is free = refl
collects_none (Some g) lock l is free = let no : lock ≡ None = free g refl in absurd (cc (no, is))

-- a tick at a locked bay asks the holder
asks_holder : (m : Meaning) (d : Diagram) (old : State) (l : Lock) (turn : Turn) → old.collecting ≡ None →
    old.lock ≡ Some l → TickStep m d old turn →
    StepEnds turn old Quiet (frame old.bay l.holder.0 l.round Query ∷ [])
asks_holder m d old l turn none is (TickStep.decides g has deciding) = absurd (cc (none, has))
asks_holder m d old l turn none is (TickStep.asks k idle has end) =
    let same : k ≡ l = cc (is, has) in
    subst (λ (x : Lock). StepEnds turn old Quiet (frame old.bay x.holder.0 x.round Query ∷ [])) same end
asks_holder m d old l turn none is (TickStep.rests idle has end) = absurd (cc (is, has))

-- a Query of a round that is over is answered by Over
says_over : (m : Meaning) (d : Diagram) (old : State) (f : Frame) (turn : Turn) → f.body ≡ Query →
    IsMeant d old f → f.round ≤ old.highest → under_way old ≢ Some f.round → FrameStep m d old f turn →
    StepEnds turn old Quiet (frame old.bay f.from.0 f.round Over ∷ [])
says_over m d old f turn body meant low idle (FrameStep.elsewhere away end) = absurd (away meant.here)
says_over m d old f turn body meant low idle (FrameStep.stranger unknown end) = absurd (unknown meant.other)
says_over m d old f turn body meant low idle (FrameStep.reserve _ is step) = absurd (cc (body, is))
says_over m d old f turn body meant low idle (FrameStep.answer summary _ is step) = absurd (cc (body, is))
says_over m d old f turn body meant low idle (FrameStep.busy holder q _ is step) = absurd (cc (body, is))
says_over m d old f turn body meant low idle (FrameStep.over _ is step) = absurd (cc (body, is))
says_over m d old f turn body meant low idle (FrameStep.query _ is step) = elim step [
  | QueryStep.is_over _ _ end ↦ end
  | QueryStep.unknown_round late end ↦ absurd (omega (arith, late, low))
  | QueryStep.round_under_way on end ↦ absurd (idle on)
]

-- an Over of the holder, of the lock's round, frees the lock
frees : (m : Meaning) (d : Diagram) (old : State) (l : Lock) (f : Frame) (turn : Turn) → old.lock ≡ Some l →
    f.body ≡ Over → IsMeant d old f → f.from.0 ≡ l.holder.0 → f.round ≡ l.round → FrameStep m d old f turn →
    StepEnds turn (unlocks old) Quiet []
frees m d old l f turn is body meant from round (FrameStep.elsewhere away end) = absurd (away meant.here)
frees m d old l f turn is body meant from round (FrameStep.stranger unknown end) = absurd (unknown meant.other)
frees m d old l f turn is body meant from round (FrameStep.reserve _ has step) = absurd (cc (body, has))
frees m d old l f turn is body meant from round (FrameStep.answer summary _ has step) = absurd (cc (body, has))
frees m d old l f turn is body meant from round (FrameStep.busy holder q _ has step) = absurd (cc (body, has))
frees m d old l f turn is body meant from round (FrameStep.query _ has step) = absurd (cc (body, has))
frees m d old l f turn is body meant from round (FrameStep.over _ has step) = elim step [
  | OverStep.unlocks_it _ _ _ _ end ↦ end
  | OverStep.earlier_round k lock holder late end ↦
      let same : k ≡ l = cc (is, lock) in
      let rounds : k.round ≡ l.round = ap (λ (x : Lock). x.round) same in
      absurd (omega (arith, late, round, rounds))
  | OverStep.another_holder k lock other end ↦
      let same : k ≡ l = cc (is, lock) in
      absurd (other (ap (λ (x : Lock). x.holder.0) same ∙ sym from))
  | OverStep.no_lock lock end ↦ absurd (cc (is, lock))
]

-- ---- messages

-- the last of a list
last_is : {X : Type 0} (xs : List X) (y z : X) → slice_get (xs ++ y ∷ []) (length xs) ≡ Some z → z ≡ y
last_is [] y z got = cc got
last_is (x ∷ xs) y z got = last_is xs y z got

-- and it is there
last_there : {X : Type 0} (xs : List X) (y : X) → slice_get (xs ++ y ∷ []) (length xs) ≡ Some y
last_there [] y = refl
last_there (x ∷ xs) y = last_there xs y

-- a scene in which each node is as before, and one more frame is sent
record SendsOne (d : Diagram) (old new : Scene) (f : Frame) : Type 0 where
  nodes : (c : ℕ) → node d new c ≡ node d old c
  sent : new.sent ≡ old.sent ++ f ∷ []

counted : (d : Diagram) (old new : Scene) (f : Frame) → SendsOne d old new f → length new.sent ≡ length old.sent + 1
counted d old new f one = ap (λ (xs : List Frame). length xs) one.sent ∙ length-append old.sent (f ∷ [])

module _ (m : Meaning) where
  stays : (w : Scene) (b : ℕ) → RoundFacts m w → IsBay m.diagram b → (c : ℕ) →
      node m.diagram (at_node w b (node m.diagram w b)) c ≡ node m.diagram w c
  stays w b facts bay c = elim (cases_eq c b) [
    | inl same ↦
        subst (λ (x : ℕ). node m.diagram (at_node w b (node m.diagram w b)) x ≡ node m.diagram w x) (sym same)
        (node_here m.diagram w b (node m.diagram w b) (node_there m w b facts bay))
    | inr other ↦ node_other m.diagram w b (node m.diagram w b) c other
  ]

  -- a step that sends one frame and changes nothing
  one_more : (w new : Scene) (b : ℕ) (turn : Turn) (f : Frame) → RoundFacts m w → IsBay m.diagram b →
      StepEnds turn (node m.diagram w b) Quiet (f ∷ []) → new ≡ posts (at_node w b turn.new) turn.frames →
      SendsOne m.diagram w new f
  one_more w new b turn f facts bay end is = record {
    nodes = λ c. ap (λ (x : Scene). node m.diagram x c) is
        ∙ ap (λ (s : State). node m.diagram (at_node w b s) c) end.state ∙ stays w b facts bay c;
    sent = ap (λ (x : Scene). x.sent) is ∙ ap (λ (fs : List Frame). w.sent ++ fs) end.sends;
  }

  -- the message that was sent last comes
  comes : (old w new : Scene) (f : Frame) (k : ℕ) (outcome : WorldOutcome) → SendsOne m.diagram old w f →
      k ≡ length old.sent + 1 → DeliverHappens m w k new outcome → NodeSteps m w f.to.0 (Arrival f) new outcome
  comes old w new f k outcome one number (DeliverHappens.unsent (inl zero_it) stop) =
      absurd (omega (arith, number, zero_it))
  comes old w new f k outcome one number (DeliverHappens.unsent (inr late) stop) =
      let count = counted m.diagram old w f one in absurd (omega (arith, number, late, count))
  comes old w new f k outcome one number (DeliverHappens.comes g message steps) =
      let place : k - 1 ≡ length old.sent = omega (arith, number) in
      let got : slice_get (old.sent ++ f ∷ []) (length old.sent) ≡ Some g =
      ap (λ (xs : List Frame). slice_get xs (length old.sent)) (sym one.sent)
      ∙ ap (λ (n : ℕ). slice_get w.sent n) (sym place) ∙ message.sent in
      subst (λ (x : Frame). NodeSteps m w x.to.0 (Arrival x) new outcome) (last_is old.sent f g got) steps

  is_message : (old w : Scene) (f : Frame) (k : ℕ) → SendsOne m.diagram old w f → k ≡ length old.sent + 1 →
      IsMessage w k f
  is_message old w f k one number = record {
    positive = λ e. omega (arith, number, e);
    sent =
        let place : k - 1 ≡ length old.sent = omega (arith, number) in
        ap (λ (n : ℕ). slice_get w.sent n) place ∙ ap (λ (xs : List Frame). slice_get xs (length old.sent)) one.sent
        ∙ last_there old.sent f;
  }

-- ---- the three events

module _ (m : Meaning) (station : IsStation m.diagram) (w : Scene) (b : BayId) (facts : RoundFacts m w)
    (left : IsLeftLocked m.diagram w b.0) where
  -- the bay that holds the lock
  abbrev holder : ℕ
  holder = left.lock.holder.0

  -- the two messages
  abbrev asks : Frame
  asks = frame b.0 holder left.lock.round Query

  abbrev answers : Frame
  answers = frame holder b.0 left.lock.round Over

  here : IsNode m.diagram (node m.diagram w b.0)
  here = facts.rounds b.0 left.bay

  holder_is : IsBay m.diagram holder
  holder_is = (here.kept.lock left.lock left.locked).holder.0

  holder_other : holder ≢ b.0
  holder_other e = (here.kept.lock left.lock left.locked).holder.1 (e ∙ sym (facts.shape.named b.0))

  none_collected : (node m.diagram w b.0).collecting ≡ None
  none_collected = collects_none (node m.diagram w b.0).collecting (node m.diagram w b.0).lock left.lock left.locked
      (λ g has. (here.collecting g has).no_lock)

  -- the Query is meant for its holder, and the Over for the bay
  asks_meant : (w1 : Scene) → RoundFacts m w1 → IsMeant m.diagram (node m.diagram w1 holder) asks
  asks_meant w1 facts1 = record {
    here = sym (facts1.shape.named holder);
    other = (left.bay, λ e. holder_other (sym (e ∙ facts1.shape.named holder)));
  }

  answers_meant : (w2 : Scene) → RoundFacts m w2 → IsMeant m.diagram (node m.diagram w2 b.0) answers
  answers_meant w2 facts2 = record {
    here = sym (facts2.shape.named b.0);
    other = (holder_is, λ e. holder_other (e ∙ facts2.shape.named b.0));
  }

  low : (w1 : Scene) → SendsOne m.diagram w w1 asks → left.lock.round ≤ (node m.diagram w1 holder).highest
  low w1 one = subst (λ (s : State). left.lock.round ≤ s.highest) (sym (one.nodes holder))
      (facts.bounds.locks b.0 left.lock left.locked)

  idle : (w1 : Scene) → SendsOne m.diagram w w1 asks →
      under_way (node m.diagram w1 holder) ≢ Some left.lock.round
  idle w1 one = subst (λ (s : State). under_way s ≢ Some left.lock.round) (sym (one.nodes holder)) left.over

  locked_still : (w1 w2 : Scene) → SendsOne m.diagram w w1 asks → SendsOne m.diagram w1 w2 answers →
      (node m.diagram w2 b.0).lock ≡ Some left.lock
  locked_still w1 w2 one two =
      ap (λ (s : State). s.lock) (two.nodes b.0 ∙ one.nodes b.0) ∙ left.locked

  second : (w1 : Scene) → SendsOne m.diagram w w1 asks → length w.sent + 2 ≡ length w1.sent + 1
  second w1 one = let count = counted m.diagram w w1 asks one in omega (arith, count)

  -- whatever comes of them, the lock is free
  asked : (w1 : Scene) (outcome : WorldOutcome) → NodeSteps m w b.0 Ticking w1 outcome → SendsOne m.diagram w w1 asks
  asked w1 outcome s = one_more m w w1 b.0 s.turn asks facts left.bay
      (subst (λ (x : ℕ). StepEnds s.turn (node m.diagram w b.0) Quiet (frame x holder left.lock.round Query ∷ []))
      (facts.shape.named b.0)
      (asks_holder m m.diagram (node m.diagram w b.0) left.lock s.turn none_collected left.locked s.step)) s.world

  answered : (w1 w2 : Scene) (outcome : WorldOutcome) → RoundFacts m w1 → SendsOne m.diagram w w1 asks →
      DeliverHappens m w1 (length w.sent + 1) w2 outcome → SendsOne m.diagram w1 w2 answers
  answered w1 w2 outcome facts1 one happens =
      let s = comes m w w1 w2 asks (length w.sent + 1) outcome one refl happens in
      one_more m w1 w2 holder s.turn answers facts1 holder_is
      (subst (λ (x : ℕ). StepEnds s.turn (node m.diagram w1 holder) Quiet (frame x b.0 left.lock.round Over ∷ []))
      (facts1.shape.named holder) (says_over m m.diagram (node m.diagram w1 holder) asks s.turn refl
      (asks_meant w1 facts1) (low w1 one) (idle w1 one) s.step)) s.world

  freed : (w1 w2 new : Scene) (outcome : WorldOutcome) → RoundFacts m w2 → SendsOne m.diagram w w1 asks →
      SendsOne m.diagram w1 w2 answers → DeliverHappens m w2 (length w.sent + 2) new outcome →
      (node m.diagram new b.0).lock ≡ None
  freed w1 w2 new outcome facts2 one two happens =
      let s = comes m w1 w2 new answers (length w.sent + 2) outcome two (second w1 one) happens in
      let end = frees m m.diagram (node m.diagram w2 b.0) left.lock answers s.turn (locked_still w1 w2 one two) refl
      (answers_meant w2 facts2) refl refl s.step in
      ap (λ (x : Scene). (node m.diagram x b.0).lock) s.world
      ∙ ap (λ (x : State). x.lock) (node_here m.diagram w2 b.0 s.turn.new (node_there m w2 b.0 facts2 left.bay))
      ∙ ap (λ (x : State). x.lock) end.state

  pub unlocks_it : (new : Scene) → HappenInTurn m w (unlocking w b) new → (node m.diagram new b.0).lock ≡ None
  unlocks_it new turns =
      let w1 : Scene = turns.0 in
      let w2 : Scene = turns.3.0 in
      let w3 : Scene = turns.3.3.0 in
      let facts1 : RoundFacts m w1 = happens_keeps m station w w1 turns.1 facts (Tick b) left.bay turns.2 in
      let facts2 : RoundFacts m w2 =
      happens_keeps m station w1 w2 turns.3.1 facts1 (Deliver (length w.sent + 1)) tt turns.3.2 in
      let one = asked w1 turns.1 turns.2 in
      let two = answered w1 w2 turns.3.1 facts1 one turns.3.2 in
      ap (λ (x : Scene). (node m.diagram x b.0).lock) turns.3.3.3
      ∙ freed w1 w2 w3 turns.3.3.1 facts2 one two turns.3.3.2

  -- and they can happen
  tick : (new : Scene) × (outcome : WorldOutcome) × NodeSteps m w b.0 Ticking new outcome
  tick = (
    posts (at_node w b.0 (node m.diagram w b.0)) (frame (node m.diagram w b.0).bay holder left.lock.round Query ∷ []),
    Node b (length w.sent + 1) (record {
      keep = None;
      frames = frame (node m.diagram w b.0).bay holder left.lock.round Query ∷ [];
      outcome = Quiet;
    }),
    record {
      turn = record {
        new = node m.diagram w b.0;
        outcome = Quiet;
        frames = frame (node m.diagram w b.0).bay holder left.lock.round Query ∷ [];
      };
      step =
          TickStep.asks left.lock none_collected left.locked (record { state = refl; says = refl; sends = refl });
      world = refl;
      says = (refl, refl, refl, refl, refl);
    },
  )

  over_comes : (w1 : Scene) → RoundFacts m w1 → SendsOne m.diagram w w1 asks →
      (new : Scene) × (outcome : WorldOutcome) × DeliverHappens m w1 (length w.sent + 1) new outcome
  over_comes w1 facts1 one = (
    posts (at_node w1 holder (node m.diagram w1 holder))
        (frame (node m.diagram w1 holder).bay b.0 left.lock.round Over ∷ []),
    Node left.lock.holder (length w1.sent + 1) (record {
      keep = None;
      frames = frame (node m.diagram w1 holder).bay b.0 left.lock.round Over ∷ [];
      outcome = Quiet;
    }),
    DeliverHappens.comes asks (is_message m w w1 asks (length w.sent + 1) one refl) (record {
      turn = record {
        new = node m.diagram w1 holder;
        outcome = Quiet;
        frames = frame (node m.diagram w1 holder).bay b.0 left.lock.round Over ∷ [];
      };
      step =
          FrameStep.query (asks_meant w1 facts1) refl
          (QueryStep.is_over (low w1 one) (idle w1 one) (record { state = refl; says = refl; sends = refl }));
      world = refl;
      says = (refl, refl, refl, refl, refl);
    }),
  )

  lock_goes : (w1 w2 : Scene) → RoundFacts m w2 → SendsOne m.diagram w w1 asks → SendsOne m.diagram w1 w2 answers →
      (new : Scene) × (outcome : WorldOutcome) × DeliverHappens m w2 (length w.sent + 2) new outcome
  lock_goes w1 w2 facts2 one two =
      let is = locked_still w1 w2 one two in (
        posts (at_node w2 b.0 (unlocks (node m.diagram w2 b.0))) [],
        Node b (length w2.sent + 1) (record {
          keep = Some (kept_of (unlocks (node m.diagram w2 b.0)));
          frames = [];
          outcome = Quiet;
        }),
        DeliverHappens.comes answers (is_message m w1 w2 answers (length w.sent + 2) two (second w1 one)) (record {
          turn = record { new = unlocks (node m.diagram w2 b.0); outcome = Quiet; frames = [] };
          step =
              FrameStep.over (answers_meant w2 facts2) refl (OverStep.unlocks_it left.lock is refl (omega arith)
              (record { state = refl; says = refl; sends = refl }));
          world = refl;
          says = (refl, refl, refl, refl, (refl, λ e. cc (ap (λ (k : Kept). k.lock) e, is)));
        }),
      )

  pub can_unlock : (new : Scene) × HappenInTurn m w (unlocking w b) new
  can_unlock =
      let first = tick in
      let w1 : Scene = first.0 in
      let facts1 : RoundFacts m w1 = happens_keeps m station w w1 first.1 facts (Tick b) left.bay first.2 in
      let one = asked w1 first.1 first.2 in
      let next = over_comes w1 facts1 one in
      let w2 : Scene = next.0 in
      let facts2 : RoundFacts m w2 =
      happens_keeps m station w1 w2 next.1 facts1 (Deliver (length w.sent + 1)) tt next.2 in
      let two = answered w1 w2 next.1 facts1 one next.2 in
      let last = lock_goes w1 w2 facts2 one two in
      (last.0, (w1, first.1, first.2, (w2, next.1, next.2, (last.0, last.1, last.2, refl))))
