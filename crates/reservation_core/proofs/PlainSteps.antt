-- A node that changes and sends nothing, that sends one frame, or that decides after a change.
use Rattle.std.proofs.Common.{◌≡◌, ℕ, [], ◌∷◌, Some, sym, subst, ap, ◌∙◌, inl, inr}
use Rattle.std.proofs.lemmas.Bool.{cases_eq}
use Rattle.station_graph.specs.Diagram.{IsStation}
use Rattle.central_rules.specs.Meaning.{Meaning, IsBay}
use Rattle.bay_frames.specs.declared.frame.Frame.{Frame}
use Rattle.bay_protocol.specs.declared.values.Collection.{Collection}
use Rattle.bay_protocol.specs.declared.values.Outcome.{Outcome}
use Rattle.bay_protocol.specs.State.{State}
use Rattle.bay_protocol.specs.Step.{Turn, StepEnds, Deciding}
use Rattle.reservation_core.specs.Scene.{Scene, node, at_node, posts}
use Rattle.reservation_core.specs.RoundFacts.{RoundFacts, round_bay}
use Rattle.reservation_core.proofs.Nodes.{node_here, node_other}
use Rattle.reservation_core.proofs.Change.{MayBecome, facts_at}
use Rattle.reservation_core.proofs.Moves.{may_stay}
use Rattle.reservation_core.proofs.Rounds.{node_there}
use Rattle.reservation_core.proofs.Sends.{MaySend}
use Rattle.reservation_core.proofs.Steps.{again, After, settle, nothing_sent, one_sent, decided}

-- a node that changes and sends nothing
pub becomes : (m : Meaning) (w : Scene) (b : ℕ) (turn : Turn) (s : State) (outcome : Outcome) → RoundFacts m w →
    StepEnds turn s outcome [] → MayBecome m w b s → After m w b turn
becomes m w b turn s outcome facts end may =
    settle m w b turn s outcome [] end (nothing_sent m (at_node w b s) (facts_at m w b s facts may))

-- a node that does nothing
pub still : (m : Meaning) (w : Scene) (b : ℕ) (turn : Turn) (outcome : Outcome) → RoundFacts m w → IsBay m.diagram b →
    StepEnds turn (node m.diagram w b) outcome [] → After m w b turn
still m w b turn outcome facts bay end =
    becomes m w b turn (node m.diagram w b) outcome facts end (may_stay m w b facts bay)

-- a frame that may be sent may be sent by the node that stays
may_send_still : (m : Meaning) (w : Scene) (b : ℕ) (f : Frame) → RoundFacts m w → IsBay m.diagram b → MaySend m w f →
    MaySend m (at_node w b (node m.diagram w b)) f
may_send_still m w b f facts bay may = record {
  fit = may.fit;
  bound = rw (at (round_bay f f.body)) may.bound;
  over = λ body. rw (at f.from.0) (may.over body);
  answer = λ summary body. rw (at f.to.0, at f.from.0) (may.answer summary body);
}
  where
    at : (c : ℕ) → node m.diagram (at_node w b (node m.diagram w b)) c ≡ node m.diagram w c
    at c = elim (cases_eq c b) [
      | inl same ↦
          subst (λ (x : ℕ). node m.diagram (at_node w b (node m.diagram w b)) x ≡ node m.diagram w x) (sym same)
          (node_here m.diagram w b (node m.diagram w b) (node_there m w b facts bay))
      | inr other ↦ node_other m.diagram w b (node m.diagram w b) c other
    ]

-- a node that sends one frame
pub sends_one : (m : Meaning) (w : Scene) (b : ℕ) (turn : Turn) (outcome : Outcome) (f : Frame) → RoundFacts m w →
    IsBay m.diagram b → StepEnds turn (node m.diagram w b) outcome (f ∷ []) → MaySend m w f → After m w b turn
sends_one m w b turn outcome f facts bay end may =
    settle m w b turn (node m.diagram w b) outcome (f ∷ []) end
    (one_sent m (at_node w b (node m.diagram w b)) f
    (facts_at m w b (node m.diagram w b) facts (may_stay m w b facts bay)) (may_send_still m w b f facts bay may))

module _ (m : Meaning) (station : IsStation m.diagram) where
  -- a node that decides after a change
  pub decided_after : (w : Scene) (b : ℕ) (s : State) (g : Collection) (turn : Turn) → RoundFacts m w →
      IsBay m.diagram b → MayBecome m w b s → s.collecting ≡ Some g → Deciding m m.diagram s g turn → After m w b turn
  decided_after w b s g turn facts bay may has deciding =
      let at : node m.diagram (at_node w b s) b ≡ s = node_here m.diagram w b s may.within in
      let after =
      decided m station (at_node w b s) b g turn (facts_at m w b s facts may) bay
      (ap (λ (n : State). n.collecting) at ∙ has)
      (subst (λ (n : State). Deciding m m.diagram n g turn) (sym at) deciding) in
      subst (λ (x : Scene). RoundFacts m (posts x turn.frames)) (again w b s turn.new) after
