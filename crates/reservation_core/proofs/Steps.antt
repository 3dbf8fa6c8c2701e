-- What a step of a node leaves, by what it changes and what it sends.
use Rattle.std.proofs.Common.{◌⊎◌, ◌≡◌, ◌≢◌, ◌<◌, ◌≤◌, ◌==◌, ℕ, zero, suc, true, List, [], ◌∷◌, length, get_or}
use Rattle.std.proofs.Common.{slice_get, Option, Some, None, Contains, refl, sym, subst, ap, inl, inr, arith}
use Rattle.std.proofs.lemmas.Bool.Decides.{eqb_tells}
use Rattle.std.proofs.lemmas.List.Elements.{All-contains}
use Rattle.station_graph.specs.Diagram.{Diagram, IsStation}
use Rattle.station_graph.specs.declared.items.Switch.{Switch}
use Rattle.station_graph.proofs.CountLemmas.{count_by-some}
use Rattle.central_rules.specs.Meaning.{Meaning, IsBay, bay_of}
use Rattle.bay_frames.specs.declared.frame.Frame.{Frame}
use Rattle.bay_frames.specs.declared.frame.Body.{Body}
use Rattle.bay_frames.specs.declared.frame.Body.TheVariants.{Over}
use Rattle.bay_frames.specs.Row.{IsLawfulBody}
use Rattle.bay_protocol.specs.declared.values.Collection.{Collection}
use Rattle.bay_protocol.specs.declared.values.Outcome.{Outcome}
use Rattle.bay_protocol.specs.Sends.{frame, to_each, overs}
use Rattle.bay_protocol.specs.State.{State, IsOther, others, under_way, under_way_of, grants, drops}
use Rattle.bay_protocol.specs.Step.{Turn, StepEnds, Deciding}
use Rattle.bay_protocol.proofs.Others.{others_each}
use Rattle.reservation_core.specs.Scene.{Scene, node, at_node, posts}
use Rattle.reservation_core.specs.RoundFacts.{RoundFacts, FrameFits}
use Rattle.reservation_core.proofs.Nodes.{node_here, set_set}
use Rattle.reservation_core.proofs.Change.{facts_at}
use Rattle.reservation_core.proofs.Moves.{may_drop, may_grant}
use Rattle.reservation_core.proofs.Rounds.{node_there}
use Rattle.reservation_core.proofs.Sends.{MaySend, facts_posts}

-- ---- the station

-- the bay of a switch is one
pub bay_is : (d : Diagram) (i : ℕ) (x : Switch) → IsStation d → slice_get d.switches i ≡ Some x → IsBay d x.bay.0
bay_is d i x station at = (
  (station.items.switches_fit i x at).part_in,
  count_by-some (λ (y : Switch). y.bay.0 == x.bay.0) d.switches i x at (itself x.bay.0),
)
  where
    itself : (n : ℕ) → (n == n) ≡ true
    itself n = elim (eqb_tells n n) [ inl p ↦ p.0 | inr p ↦ absurd (p.1 refl) ]

-- a switch of the station is there
pub switch_there : (d : Diagram) (i : ℕ) → i < length d.switches → (x : Switch) × (slice_get d.switches i ≡ Some x)
switch_there d i lt = there d.switches i lt
  where
    there : (xs : List Switch) (k : ℕ) → k < length xs → (x : Switch) × (slice_get xs k ≡ Some x)
    there [] k low = absurd (omega (arith, low))
    there (x ∷ xs) zero low = (x, refl)
    there (x ∷ xs) (suc k) low = there xs k (omega (arith, low))

pub bay_of_is : (d : Diagram) (i : ℕ) → IsStation d → i < length d.switches → IsBay d (bay_of d i)
bay_of_is d i station lt = let s = switch_there d i lt in rw s.1 (bay_is d i s.0 station s.1)

-- a frame from one bay to another
pub frame_fits : (d : Diagram) (b c r : ℕ) (body : Body) → IsStation d → IsBay d b → IsOther d b c → r ≢ 0 →
    IsLawfulBody body → FrameFits d (frame b c r body)
frame_fits d b c r body station bay other positive fits = record {
  sender = bay;
  receiver = other;
  lawful = record {
    from = omega (arith, bay.0, station.items.parts_few);
    to = omega (arith, other.0.0, station.items.parts_few);
    other = other.1;
    round = positive;
    body = fits;
  };
}

-- ---- lists of frames

contains_at : {X : Type 0} (x : X) (xs : List X) (y : X) (k : ℕ) → k < length (x ∷ xs) → get_or (x ∷ xs) k y ≡ y →
    (x ≡ y) ⊎ Contains xs y
contains_at x xs y zero lt e = inl e
contains_at x xs y (suc k) lt e = inr (k, omega (arith, lt), e)

pub contains_cons : {X : Type 0} (x : X) (xs : List X) (y : X) → Contains (x ∷ xs) y → (x ≡ y) ⊎ Contains xs y
contains_cons x xs y there = contains_at x xs y there.0 there.1 there.2

pub none_there : {X : Type 0} (y : X) → Contains [] y → ⊥
none_there y there = omega (arith, there.1)

each_to : (P : Frame → Type 0) (b r : ℕ) (body : Body) (xs : List ℕ) →
    ((c : ℕ) → Contains xs c → P (frame b c r body)) → (f : Frame) → Contains (to_each b r body xs) f → P f
each_to P b r body [] give f there = absurd (none_there f there)
each_to P b r body (x ∷ xs) give f there = elim (contains_cons (frame b x r body) (to_each b r body xs) f there) [
  | inl here ↦ subst P here (give x (0, omega arith, refl))
  | inr later ↦ each_to P b r body xs (λ c t. give c (suc t.0, omega (arith, t.1), t.2)) f later
]

-- ---- worlds after a step

pub again : (w : Scene) (b : ℕ) (s t : State) → at_node (at_node w b s) b t ≡ at_node w b t
again w b s t =
    ap (λ (n : List (Option State)). record { nodes = n; truth = w.truth; drives = w.drives; sent = w.sent })
    (set_set w.nodes b (Some s) (Some t))

-- what a step leaves
abbrev pub After : Meaning → Scene → ℕ → Turn → Type 0
After m w b turn = RoundFacts m (posts (at_node w b turn.new) turn.frames)

pub settle : (m : Meaning) (w : Scene) (b : ℕ) (turn : Turn) (new : State) (outcome : Outcome) (frames : List Frame) →
    StepEnds turn new outcome frames → RoundFacts m (posts (at_node w b new) frames) → After m w b turn
settle m w b turn new outcome frames end facts = rw (end.state, end.sends) facts

pub nothing_sent : (m : Meaning) (w : Scene) → RoundFacts m w → RoundFacts m (posts w [])
nothing_sent m w facts = facts_posts m w [] facts (λ f there. absurd (none_there f there))

pub one_sent : (m : Meaning) (w : Scene) (f : Frame) → RoundFacts m w → MaySend m w f → RoundFacts m (posts w (f ∷ []))
one_sent m w f facts may =
    facts_posts m w (f ∷ []) facts (λ g there. elim (contains_cons f [] g there) [
      | inl is ↦ subst (MaySend m w) is may
      | inr none ↦ absurd (none_there g none)
    ])

module _ (m : Meaning) (station : IsStation m.diagram) where
  -- the frames to the others of bay b
  pub to_others_sent : (w : Scene) (b r : ℕ) (body : Body) → RoundFacts m w →
      ((c : ℕ) → IsOther m.diagram b c → MaySend m w (frame b c r body)) →
      RoundFacts m (posts w (to_each b r body (others m.diagram b)))
  to_others_sent w b r body facts may = facts_posts m w (to_each b r body (others m.diagram b)) facts
      (each_to (MaySend m w) b r body (others m.diagram b)
      (λ c there. may c (All-contains (IsOther m.diagram b) (others m.diagram b) c (others_each m.diagram b) there)))

  -- Over to the others of bay b that changed to s
  pub overs_sent : (w : Scene) (b r : ℕ) (s : State) → RoundFacts m (at_node w b s) → b < length w.nodes →
      IsBay m.diagram b → s.bay ≡ b → under_way s ≡ None → r ≤ s.highest → r ≢ 0 →
      RoundFacts m (posts (at_node w b s) (overs m.diagram s r))
  overs_sent w b r s facts within bay name idle low positive =
      let at : node m.diagram (at_node w b s) b ≡ s = node_here m.diagram w b s within in
      subst (λ (x : ℕ). RoundFacts m (posts (at_node w b s) (to_each x r Over (others m.diagram x)))) (sym name)
      (to_others_sent (at_node w b s) b r Over facts (λ c other. record {
        fit = frame_fits m.diagram b c r Over station bay other positive tt;
        bound = rw at low;
        over = λ body is.
            let none : under_way s ≡ Some r = subst (λ (n : State). under_way n ≡ Some r) at is in
            cc (none, idle);
        answer = λ summary is. absurd (cc is);
      }))

  -- ---- deciding

  pub round_dropped : (w : Scene) (b : ℕ) (g : Collection) (turn : Turn) (outcome : Outcome) → RoundFacts m w →
      IsBay m.diagram b → (node m.diagram w b).collecting ≡ Some g →
      StepEnds turn (drops (node m.diagram w b)) outcome (overs m.diagram (node m.diagram w b) g.round) →
      After m w b turn
  round_dropped w b g turn outcome facts bay has end =
      let good = (facts.rounds b bay).collecting g has in
      let idle : under_way (drops (node m.diagram w b)) ≡ None = ap (λ x. under_way_of None x) good.no_grant in
      settle m w b turn (drops (node m.diagram w b)) outcome (overs m.diagram (node m.diagram w b) g.round) end
      (overs_sent w b g.round (drops (node m.diagram w b))
      (facts_at m w b (drops (node m.diagram w b)) facts (may_drop m w b facts bay)) (node_there m w b facts bay) bay
      (facts.shape.named b) idle (omega (arith, good.newest)) good.positive)

  pub decided : (w : Scene) (b : ℕ) (g : Collection) (turn : Turn) → RoundFacts m w → IsBay m.diagram b →
      (node m.diagram w b).collecting ≡ Some g → Deciding m m.diagram (node m.diagram w b) g turn → After m w b turn
  decided w b g turn facts bay has (Deciding.release _ end) =
      settle m w b turn (grants (node m.diagram w b) g) _ [] end (nothing_sent m
      (at_node w b (grants (node m.diagram w b) g))
      (facts_at m w b (grants (node m.diagram w b) g) facts (may_grant m w b facts bay g has)))
  decided w b g turn facts bay has (Deciding.denial _ _ _ end) = round_dropped w b g turn _ facts bay has end
