-- A step of a node at a frame keeps the facts of rounds.
use Rattle.std.proofs.Common.{◌≡◌, ◌≢◌, ◌≤◌, ℕ, List, [], ◌∷◌, Option, Some, None, Contains, refl, sym, subst, ap, ◌∙◌}
use Rattle.std.proofs.Common.{arith}
use Rattle.ilk_base.specs.declared.words.BayId.{BayId}
use Rattle.station_graph.specs.Diagram.{IsStation}
use Rattle.central_rules.specs.Meaning.{Meaning, IsBay}
use Rattle.bay_frames.specs.declared.frame.Frame.{Frame}
use Rattle.bay_frames.specs.declared.frame.Body.TheVariants.{Reserve, Answer, Busy, Over}
use Rattle.bay_protocol.specs.declared.values.Grant.{Grant}
use Rattle.bay_protocol.specs.declared.values.Collection.{Collection}
use Rattle.bay_protocol.specs.declared.values.Outcome.TheVariants.{BusyBy}
use Rattle.bay_protocol.specs.Sends.{frame, overs}
use Rattle.bay_protocol.specs.State.{State, IsOther, under_way, under_way_of, collects, drops, locks, unlocks, hears}
use Rattle.bay_protocol.specs.Step.{Turn, StepEnds, ReserveStep, Answering, AnswerStep, BusyStep, QueryStep, OverStep}
use Rattle.bay_protocol.specs.Step.{FrameStep, IsMeant}
use Rattle.reservation_core.specs.Scene.{Scene, node, at_node, posts}
use Rattle.reservation_core.specs.RoundFacts.{RoundFacts, HeardSent, round_bay}
use Rattle.reservation_core.proofs.Nodes.{node_here, node_other}
use Rattle.reservation_core.proofs.Change.{MayBecome, facts_at}
use Rattle.reservation_core.proofs.Moves.{may_lock, may_unlock, may_hear}
use Rattle.reservation_core.proofs.Sends.{MaySend}
use Rattle.reservation_core.proofs.Steps.{After, settle, one_sent, frame_fits, round_dropped}
use Rattle.reservation_core.proofs.PlainSteps.{becomes, still, sends_one, decided_after}

-- the round of a bay that is under way is not 0
under_way_positive : (x : Option Collection) (y : Option Grant) (q : ℕ) →
    ((g : Collection) → x ≡ Some g → g.round ≢ 0) → ((g : Grant) → y ≡ Some g → g.round ≢ 0) →
    under_way_of x y ≡ Some q → q ≢ 0
under_way_positive (Some g) y q xs ys is = λ z. xs g refl (let e : g.round ≡ q = cc is in e ∙ z)
under_way_positive None (Some g) q xs ys is = λ z. ys g refl (let e : g.round ≡ q = cc is in e ∙ z)
under_way_positive None None q xs ys is = absurd (cc is)

module _ (m : Meaning) (station : IsStation m.diagram) where
  -- ---- Reserve

  -- a frame that was sent comes to bay b from another
  record Taken (w : Scene) (b : ℕ) (f : Frame) : Type 0 where
    there : Contains w.sent f
    here : f.to.0 ≡ b
    bay : IsBay m.diagram b
    sender : IsOther m.diagram b f.from.0
    positive : f.round ≢ 0

  positive_round : (w : Scene) (b q : ℕ) → RoundFacts m w → IsBay m.diagram b →
      under_way (node m.diagram w b) ≡ Some q → q ≢ 0
  positive_round w b q facts bay is =
      under_way_positive (node m.diagram w b).collecting (node m.diagram w b).granted q
      (λ g has. ((facts.rounds b bay).collecting g has).positive)
      (λ g has. ((facts.rounds b bay).kept.granted g has).positive) is

  -- the round of a Reserve is known to its sender
  known_round : (w : Scene) (f : Frame) → RoundFacts m w → Contains w.sent f → f.body ≡ Reserve →
      f.round ≤ (node m.diagram w f.from.0).highest
  known_round w f facts there body =
      subst (λ x. f.round ≤ (node m.diagram w (round_bay f x)).highest) body (facts.bounds.frames f there)

  busy_sent : (w : Scene) (b : ℕ) (f : Frame) (holder : BayId) (q : ℕ) → RoundFacts m w → Taken w b f →
      f.round ≤ (node m.diagram w f.from.0).highest → IsBay m.diagram holder.0 → q ≢ 0 →
      MaySend m w (frame b f.from.0 f.round (Busy holder q))
  busy_sent w b f holder q facts taken low some positive = record {
    fit =
        frame_fits m.diagram b f.from.0 f.round (Busy holder q) station taken.bay taken.sender taken.positive
        (omega (arith, some.0, station.items.parts_few), positive);
    bound = low;
    over = λ body. absurd (cc body);
    answer = λ summary body. absurd (cc body);
  }

  answering_keeps : (w : Scene) (b : ℕ) (f : Frame) (turn : Turn) → RoundFacts m w → Taken w b f → f.body ≡ Reserve →
      MayBecome m w b (locks (node m.diagram w b) f.from.0 f.round) →
      Answering m (node m.diagram w b) f.from.0 f.round turn → After m w b turn
  answering_keeps w b f turn facts taken body may it =
      let old : State = node m.diagram w b in
      let s : State = locks old f.from.0 f.round in
      let now : RoundFacts m (at_node w b (locks old f.from.0 f.round)) =
      facts_at m w b (locks old f.from.0 f.round) facts may in
      let at : node m.diagram (at_node w b (locks old f.from.0 f.round)) b ≡ locks old f.from.0 f.round =
      node_here m.diagram w b (locks old f.from.0 f.round) may.within in
      settle m w b turn (locks old f.from.0 f.round) _ (frame old.bay f.from.0 f.round (Answer it.summary) ∷ []) it.end
      (subst (λ (x : ℕ). RoundFacts m
      (posts (at_node w b (locks old f.from.0 f.round)) (frame x f.from.0 f.round (Answer it.summary) ∷ [])))
      (sym (facts.shape.named b)) (one_sent m (at_node w b (locks old f.from.0 f.round))
      (frame b f.from.0 f.round (Answer it.summary)) now (record {
        fit =
            frame_fits m.diagram b f.from.0 f.round (Answer it.summary) station taken.bay taken.sender
            taken.positive tt;
        bound =
            subst (λ (n : State). f.round ≤ n.highest)
            (sym (node_other m.diagram w b (locks old f.from.0 f.round) f.from.0 taken.sender.1))
            (known_round w f facts taken.there body);
        over = λ is. absurd (cc is);
        answer = λ given is running. ap (λ (n : State). n.lock) at;
      })))

  reserve_keeps : (w : Scene) (b : ℕ) (f : Frame) (turn : Turn) → RoundFacts m w → Taken w b f → f.body ≡ Reserve →
      ReserveStep m (node m.diagram w b) f.from.0 f.round turn → After m w b turn
  reserve_keeps w b f turn facts taken body (ReserveStep.busy_itself q is end) =
      let name = facts.shape.named b in
      sends_one m w b turn _
      (frame (node m.diagram w b).bay f.from.0 f.round (Busy (record { 0 = (node m.diagram w b).bay }) q))
      facts taken.bay end
      (subst (λ (x : ℕ). MaySend m w (frame x f.from.0 f.round (Busy (record { 0 = x }) q))) (sym name) (busy_sent w b f
      (record { 0 = b }) q facts taken (known_round w f facts taken.there body) taken.bay
      (positive_round w b q facts taken.bay is)))
  reserve_keeps w b f turn facts taken body (ReserveStep.busy_locked l is lock differ end) =
      let kept = (facts.rounds b taken.bay).kept.lock l lock in
      sends_one m w b turn _ (frame (node m.diagram w b).bay f.from.0 f.round (Busy l.holder l.round)) facts
      taken.bay end
      (subst (λ (x : ℕ). MaySend m w (frame x f.from.0 f.round (Busy l.holder l.round))) (sym (facts.shape.named b))
      (busy_sent w b f l.holder l.round facts taken (known_round w f facts taken.there body) (kept.holder).0
      kept.positive))
  reserve_keeps w b f turn facts taken body (ReserveStep.late _ _ _ _ _ end) = still m w b turn _ facts taken.bay end
  reserve_keeps w b f turn facts taken body (ReserveStep.answers idle may it) =
      answering_keeps w b f turn facts taken body (may_lock m w b facts taken.bay f.from.0 f.round idle may taken.sender
      taken.positive (known_round w f facts taken.there body)) it

  -- ---- Answer

  heard_it : (w : Scene) (b : ℕ) (f : Frame) (g : Collection) (summary : List ℕ) → RoundFacts m w → Taken w b f →
      f.body ≡ Answer summary → g.round ≡ f.round → m.Fits f.from.0 (node m.diagram w b).bay summary →
      HeardSent m w.sent b g.round f.from.0 summary
  heard_it w b f g summary facts taken body round fits = record {
    fits = subst (λ (x : ℕ). m.Fits f.from.0 x summary) (facts.shape.named b) fits;
    answer = record { frame = f; there = taken.there; from = refl; to = taken.here; round = sym round; body = body };
  }

  answer_keeps : (w : Scene) (b : ℕ) (f : Frame) (summary : List ℕ) (turn : Turn) → RoundFacts m w → Taken w b f →
      f.body ≡ Answer summary → AnswerStep m m.diagram (node m.diagram w b) f.from.0 f.round summary turn →
      After m w b turn
  answer_keeps w b f summary turn facts taken body (AnswerStep.heard_one g has round fits all end) =
      becomes m w b turn (collects (node m.diagram w b) (node m.diagram w b).highest (hears g f.from.0 summary)) _ facts
      end (may_hear m w b facts taken.bay g f.from.0 summary has (heard_it w b f g summary facts taken body round fits))
  answer_keeps w b f summary turn facts taken body (AnswerStep.heard_last g has round fits all deciding) =
      decided_after m station w b (collects (node m.diagram w b) (node m.diagram w b).highest
      (hears g f.from.0 summary)) (hears g f.from.0 summary) turn facts taken.bay
      (may_hear m w b facts taken.bay g f.from.0 summary has (heard_it w b f g summary facts taken body round fits))
      refl deciding
  answer_keeps w b f summary turn facts taken body (AnswerStep.unfit _ _ _ _ end) =
      still m w b turn _ facts taken.bay end
  answer_keeps w b f summary turn facts taken body (AnswerStep.other_round _ _ _ end) =
      still m w b turn _ facts taken.bay end
  answer_keeps w b f summary turn facts taken body (AnswerStep.none_collected _ end) =
      still m w b turn _ facts taken.bay end

  -- ---- Busy, Query, Over

  busy_keeps : (w : Scene) (b : ℕ) (f : Frame) (holder : BayId) (q : ℕ) (turn : Turn) → RoundFacts m w → Taken w b f →
      BusyStep m.diagram (node m.diagram w b) f.from.0 f.round holder q turn → After m w b turn
  busy_keeps w b f holder q turn facts taken (BusyStep.gives_up g has round end) =
      round_dropped m station w b g turn _ facts taken.bay has (subst
      (λ (x : ℕ). StepEnds turn (drops (node m.diagram w b)) (BusyBy f.round f.from holder q)
      (overs m.diagram (node m.diagram w b) x)) (sym round) end)
  busy_keeps w b f holder q turn facts taken (BusyStep.other_round _ _ _ end) = still m w b turn _ facts taken.bay end
  busy_keeps w b f holder q turn facts taken (BusyStep.none_collected _ end) = still m w b turn _ facts taken.bay end

  query_keeps : (w : Scene) (b : ℕ) (f : Frame) (turn : Turn) → RoundFacts m w → Taken w b f →
      QueryStep (node m.diagram w b) f.from.0 f.round turn → After m w b turn
  query_keeps w b f turn facts taken (QueryStep.is_over low idle end) =
      sends_one m w b turn _ (frame (node m.diagram w b).bay f.from.0 f.round Over) facts taken.bay end
      (subst (λ (x : ℕ). MaySend m w (frame x f.from.0 f.round Over)) (sym (facts.shape.named b)) (record {
        fit = frame_fits m.diagram b f.from.0 f.round Over station taken.bay taken.sender taken.positive tt;
        bound = low;
        over = λ is. idle;
        answer = λ summary is. absurd (cc is);
      }))
  query_keeps w b f turn facts taken (QueryStep.unknown_round _ end) = still m w b turn _ facts taken.bay end
  query_keeps w b f turn facts taken (QueryStep.round_under_way _ end) = still m w b turn _ facts taken.bay end

  over_keeps : (w : Scene) (b : ℕ) (f : Frame) (turn : Turn) → RoundFacts m w → Taken w b f → f.body ≡ Over →
      OverStep (node m.diagram w b) f.from.0 f.round turn → After m w b turn
  over_keeps w b f turn facts taken body (OverStep.unlocks_it l lock same low end) =
      becomes m w b turn (unlocks (node m.diagram w b)) _ facts end
      (may_unlock m w b facts taken.bay f l lock taken.there body same low)
  over_keeps w b f turn facts taken body (OverStep.earlier_round _ _ _ _ end) = still m w b turn _ facts taken.bay end
  over_keeps w b f turn facts taken body (OverStep.another_holder _ _ _ end) = still m w b turn _ facts taken.bay end
  over_keeps w b f turn facts taken body (OverStep.no_lock _ end) = still m w b turn _ facts taken.bay end

  taken_of : (w : Scene) (b : ℕ) (f : Frame) → RoundFacts m w → IsBay m.diagram b → Contains w.sent f →
      IsMeant m.diagram (node m.diagram w b) f → Taken w b f
  taken_of w b f facts bay there meant = record {
    there = there;
    here = meant.here ∙ facts.shape.named b;
    bay = bay;
    sender = subst (λ (x : ℕ). IsOther m.diagram x f.from.0) (facts.shape.named b) meant.other;
    positive = (facts.bounds.fit f there).lawful.round;
  }

  pub frame_keeps : (w : Scene) (b : ℕ) (f : Frame) (turn : Turn) → RoundFacts m w → IsBay m.diagram b →
      Contains w.sent f → FrameStep m m.diagram (node m.diagram w b) f turn → After m w b turn
  frame_keeps w b f turn facts bay there (FrameStep.elsewhere _ end) = still m w b turn _ facts bay end
  frame_keeps w b f turn facts bay there (FrameStep.stranger _ end) = still m w b turn _ facts bay end
  frame_keeps w b f turn facts bay there (FrameStep.reserve meant body step) =
      reserve_keeps w b f turn facts (taken_of w b f facts bay there meant) body step
  frame_keeps w b f turn facts bay there (FrameStep.answer summary meant body step) =
      answer_keeps w b f summary turn facts (taken_of w b f facts bay there meant) body step
  frame_keeps w b f turn facts bay there (FrameStep.busy holder q meant body step) =
      busy_keeps w b f holder q turn facts (taken_of w b f facts bay there meant) step
  frame_keeps w b f turn facts bay there (FrameStep.query meant body step) =
      query_keeps w b f turn facts (taken_of w b f facts bay there meant) step
  frame_keeps w b f turn facts bay there (FrameStep.over meant body step) =
      over_keeps w b f turn facts (taken_of w b f facts bay there meant) body step
