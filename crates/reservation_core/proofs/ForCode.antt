-- What the code needs of the facts.
use Rattle.std.proofs.Common.{◌≡◌, ◌≢◌, ◌+◌, ◌<◌, ◌≤◌, ◌-◌, ◌++◌, ℕ, zero, suc, Bool, List, [], ◌∷◌, length, map}
use Rattle.std.proofs.Common.{take, get_or, slice_get, set, Option, Some, None, refl, sym, subst, ap, ◌∙◌, arith, lit<}
use Rattle.std.specs.Prelude.{unwrap_or}
use Rattle.std.proofs.Math.Seq.{take-suc}
use Rattle.std.proofs.lemmas.List.{append-nil, append_assoc, map-append}
use Rattle.std.proofs.lemmas.Option.{slice_get-get_or, slice_get_within, same_Some}
use Rattle.ilk_base.specs.declared.words.BayId.{BayId}
use Rattle.station_graph.specs.Diagram.{Diagram, IsStation}
use Rattle.station_graph.specs.declared.limits.TheConstants.{BAYS}
use Rattle.central_rules.specs.Meaning.{Meaning, IsBay, bay_of}
use Rattle.bay_frames.specs.declared.frame.Frame.{Frame}
use Rattle.bay_frames.specs.Row.{frame_row, IsLawful, FitsRow}
use Rattle.bay_protocol.specs.declared.values.NodeEvent.{NodeEvent}
use Rattle.bay_protocol.specs.declared.values.NodeEvent.TheVariants.{Frame as Arrival}
use Rattle.bay_protocol.specs.State.{State, kept_of}
use Rattle.bay_protocol.specs.Fits.{FitsHeard, IsNode}
use Rattle.bay_protocol.specs.declared.values.NodeOutput.{NodeOutput}
use Rattle.bay_protocol.specs.Step.{Turn, Step, TakeStep, Nothing}
use Rattle.bay_protocol.specs.Output.{turn as as_turn, IsKeep}
use Rattle.reservation_core.specs.Scene.{Scene, node, new_node, at_node, posts, stops}
use Rattle.reservation_core.specs.RoundFacts.{RoundFacts, FrameFits}
use Rattle.reservation_core.specs.Happens.{Tells, NodeSteps, NodeTakes, IsMessage, no_turn}
use Rattle.reservation_core.specs.declared.values.Position.{Position}
use Rattle.reservation_core.specs.declared.values.WorldOutcome.{WorldOutcome}
use Rattle.reservation_core.specs.declared.values.WorldOutcome.TheVariants.{Premise, Drive, Node}
use Rattle.reservation_core.proofs.Keeping.{got_there}
use Rattle.reservation_core.proofs.Steps.{bay_of_is}

-- ---- nodes

-- the node of a bay is what stands at its place
stands_at : (d : Diagram) (w : Scene) (b : ℕ) (s : State) → slice_get w.nodes b ≡ Some (Some s) → node d w b ≡ s
stands_at d w b s got =
    ap (λ (x : Option State). unwrap_or x (new_node d b)) (same_Some (get_or w.nodes b None) (Some s)
    (sym (slice_get-get_or w.nodes b None (slice_get_within w.nodes b (Some s) got)) ∙ got))

-- the place of a bay is not empty
never_empty : (m : Meaning) (w : Scene) (b : ℕ) → RoundFacts m w → IsBay m.diagram b →
    slice_get w.nodes b ≡ Some None → ⊥
never_empty m w b facts bay got = let there = facts.shape.present b bay in cc (there.1, got)

fits_heard : (m : Meaning) (w : Scene) (b : ℕ) → RoundFacts m w → FitsHeard m (node m.diagram w b)
fits_heard m w b facts =
    λ g has x s other got. subst (λ (y : ℕ). m.Fits x y s) (sym (facts.shape.named b))
    (facts.heard b x g s has got).fits

-- what was stored where it stood
set_same : {X : Type 0} (xs : List X) (i : ℕ) (x : X) → slice_get xs i ≡ Some x → set xs i x ≡ xs
set_same [] i x got = absurd (cc got)
set_same (y ∷ ys) zero x got = let e : y ≡ x = cc got in ap (λ z. z ∷ ys) (sym e)
set_same (y ∷ ys) (suc i) x got = ap (λ zs. y ∷ zs) (set_same ys i x got)

-- a node that is as it was leaves the scene as it was
unchanged_at : (m : Meaning) (w : Scene) (b : ℕ) → RoundFacts m w → IsBay m.diagram b →
    posts (at_node w b (node m.diagram w b)) [] ≡ w
unchanged_at m w b facts bay =
    let there = facts.shape.present b bay in
    let is : slice_get w.nodes b ≡ Some (Some (node m.diagram w b)) =
    there.1 ∙ ap (λ (s : State). Some (Some s)) (sym (stands_at m.diagram w b there.0 there.1)) in
    ap (λ (n : List (Option State)). record { nodes = n; truth = w.truth; drives = w.drives; sent = w.sent ++ [] })
    (set_same w.nodes b (Some (node m.diagram w b)) is)
    ∙ ap (λ (f : List Frame). record { nodes = w.nodes; truth = w.truth; drives = w.drives; sent = f })
    (append-nil w.sent)

-- ---- bytes

abbrev OneFrame : Type 0
OneFrame = (f g : Frame) → FitsRow f → FitsRow g → frame_row f ≡ frame_row g → f ≡ g

abbrev NoFront : Type 0
NoFront = (f g : Frame) (n : ℕ) → FitsRow f → FitsRow g → n < length (frame_row f) → take n (frame_row f) ≢ frame_row g

taken : (m : Meaning) (old : State) (f : Frame) (bytes : List ℕ) (turn : Turn) → OneFrame → FitsRow f → IsLawful f →
    bytes ≡ frame_row f → TakeStep m m.diagram old bytes turn → Step m m.diagram old (Arrival f) turn
taken m old f bytes turn one fits lawful is (TakeStep.a_frame g its good row step) =
    subst (λ (x : Frame). Step m m.diagram old (Arrival x) turn) (sym (one f g fits its (sym is ∙ row))) step
taken m old f bytes turn one fits lawful is (TakeStep.no_frame none nothing) = absurd (none f fits lawful is)

-- the bytes of a frame are that frame
pub delivered : (m : Meaning) (old new : Scene) (b : ℕ) (f : Frame) (bytes : List ℕ) (outcome : WorldOutcome) →
    OneFrame → FitsRow f → IsLawful f → bytes ≡ frame_row f → NodeTakes m old b bytes new outcome →
    NodeSteps m old b (Arrival f) new outcome
delivered m old new b f bytes outcome one fits lawful is s = record {
  turn = s.turn;
  step = taken m (node m.diagram old b) f bytes s.turn one fits lawful is s.step;
  world = s.world;
  says = s.says;
}

refused : (m : Meaning) (old : State) (f : Frame) (bytes : List ℕ) (n : ℕ) (turn : Turn) → NoFront → FitsRow f →
    n < length (frame_row f) → bytes ≡ take n (frame_row f) → TakeStep m m.diagram old bytes turn → Nothing old turn
refused m old f bytes n turn front fits low is (TakeStep.a_frame g its good row step) =
    absurd (front f g n fits its low (sym is ∙ row))
refused m old f bytes n turn front fits low is (TakeStep.no_frame none nothing) = nothing

tells_nothing : (count b : ℕ) (s : State) (turn : Turn) (outcome : WorldOutcome) → Nothing s turn →
    Tells count b s turn outcome → Tells count b s (no_turn s) outcome
tells_nothing count b s turn (Node bay first output) none says = (
  says.0,
  says.1,
  says.2 ∙ none.says,
  says.3 ∙ none.sends,
  subst (λ (x : State). IsKeep (kept_of s) (kept_of x) output.keep) none.state says.4,
)
tells_nothing count b s turn (Premise which) none says = absurd says
tells_nothing count b s turn Drive none says = absurd says

-- a front of the bytes of a frame changes nothing
pub record Parted (m : Meaning) (old : Scene) (b : ℕ) (new : Scene) (outcome : WorldOutcome) : Type 0 where
  pub same : new ≡ old
  pub says : Tells (length old.sent) b (node m.diagram old b) (no_turn (node m.diagram old b)) outcome

pub parted : (m : Meaning) (old new : Scene) (b : ℕ) (f : Frame) (bytes : List ℕ) (n : ℕ) (outcome : WorldOutcome) →
    RoundFacts m old → IsBay m.diagram b → NoFront → FitsRow f → n < length (frame_row f) →
    bytes ≡ take n (frame_row f) → NodeTakes m old b bytes new outcome → Parted m old b new outcome
parted m old new b f bytes n outcome facts bay front fits low is s =
    let none = refused m (node m.diagram old b) f bytes n s.turn front fits low is s.step in
    record {
      same =
          s.world
          ∙ (ap (λ (x : State). posts (at_node old b x) s.turn.frames) none.state
          ∙ (ap (λ (x : List Frame). posts (at_node old b (node m.diagram old b)) x) none.sends
          ∙ unchanged_at m old b facts bay));
      says = tells_nothing (length old.sent) b (node m.diagram old b) s.turn outcome none s.says;
    }

-- a message that was sent fits
pub message_fits : (m : Meaning) (w : Scene) (k : ℕ) (f : Frame) → RoundFacts m w → IsMessage w k f →
    FrameFits m.diagram f
message_fits m w k f facts message = facts.bounds.fit f (got_there w.sent (k - 1) f message.sent)

-- ---- drives

-- a drive that stops as its bay's node takes note
pub cut_after : (m : Meaning) (old mid new : Scene) (i b : ℕ) (event : NodeEvent) (outcome : WorldOutcome) →
    NodeSteps m old b event mid outcome → new ≡ stops mid i → NodeSteps m (stops old i) b event new outcome
cut_after m old mid new i b event outcome s is = record {
  turn = s.turn;
  step = s.step;
  world = is ∙ ap (λ (w : Scene). stops w i) s.world;
  says = s.says;
}

-- ---- what a step of a node finds and leaves

pub record Placed (m : Meaning) (w : Scene) (b : ℕ) (s : State) : Type 0 where
  pub here : node m.diagram w b ≡ s
  pub good : IsNode m.diagram s
  pub fits : FitsHeard m s
  pub name : s.bay ≡ b

-- what was found at the place of a bay
found : (m : Meaning) (w : Scene) (b k : ℕ) (nodes : List (Option State)) (x : Option State) → RoundFacts m w →
    IsBay m.diagram b → nodes ≡ w.nodes → k ≡ b → x ≡ get_or nodes k x → slice_get w.nodes b ≡ Some x
found m w b k nodes x facts bay is at got =
    let low : b < length w.nodes = omega (arith, bay.0, facts.shape.nodes) in
    let value : x ≡ get_or w.nodes b x =
    got ∙ (ap (λ (n : List (Option State)). get_or n k x) is ∙ ap (λ (j : ℕ). get_or w.nodes j x) at) in
    slice_get-get_or w.nodes b x low ∙ ap (λ (y : Option State). Some y) (sym value)

pub placed : (m : Meaning) (w : Scene) (b k : ℕ) (nodes : List (Option State)) (x : Option State) (s : State) →
    RoundFacts m w → IsBay m.diagram b → nodes ≡ w.nodes → k ≡ b → x ≡ get_or nodes k x → x ≡ Some s → Placed m w b s
placed m w b k nodes x s facts bay is at got some =
    let here =
    stands_at m.diagram w b s (found m w b k nodes x facts bay is at got ∙ ap (λ (y : Option State). Some y) some) in
    record {
      here = here;
      good = subst (IsNode m.diagram) here (facts.rounds b bay);
      fits = subst (FitsHeard m) here (fits_heard m w b facts);
      name = subst (λ (n : State). n.bay ≡ b) here (facts.shape.named b);
    }

pub nobody : (m : Meaning) (w : Scene) (b k : ℕ) (nodes : List (Option State)) (x : Option State) → RoundFacts m w →
    IsBay m.diagram b → nodes ≡ w.nodes → k ≡ b → x ≡ get_or nodes k x → x ≡ None → ⊥
nobody m w b k nodes x facts bay is at got none =
    never_empty m w b facts bay (found m w b k nodes x facts bay is at got ∙ ap (λ (y : Option State). Some y) none)

-- the scene with a changed node and more messages
pub later : (w : Scene) (b : ℕ) (s : State) (frames : List Frame) (nodes : List (Option State)) (truth : List Position)
    (drives : List Bool) (sent : List Frame) → nodes ≡ set w.nodes b (Some s) → truth ≡ w.truth → drives ≡ w.drives →
    sent ≡ w.sent ++ frames →
    record { nodes = nodes; truth = truth; drives = drives; sent = sent } ≡ posts (at_node w b s) frames
later w b s frames nodes truth drives sent n t d m =
    ap (λ (x : List (Option State)). record { nodes = x; truth = truth; drives = drives; sent = sent }) n
    ∙ (ap (λ (x : List Position). record { nodes = set w.nodes b (Some s); truth = x; drives = drives; sent = sent }) t
    ∙ (ap (λ (x : List Bool). record { nodes = set w.nodes b (Some s); truth = w.truth; drives = x; sent = sent }) d
    ∙ ap (λ (x : List Frame). record { nodes = set w.nodes b (Some s); truth = w.truth; drives = w.drives; sent = x })
    m))

pub told : (count b first : ℕ) (s t : State) (bay : BayId) (output : NodeOutput) → bay.0 ≡ b → first ≡ count + 1 →
    IsKeep (kept_of s) (kept_of t) output.keep → Tells count b s (as_turn t output) (Node bay first output)
told count b first s t bay output is number keep = (is, number, refl, refl, keep)

-- few frames come of bytes
pub take_few : (m : Meaning) (old : State) (bytes : List ℕ) (turn : Turn) →
    ((f : Frame) → IsLawful f → Step m m.diagram old (Arrival f) turn → length turn.frames < BAYS) →
    TakeStep m m.diagram old bytes turn → length turn.frames < BAYS
take_few m old bytes turn few (TakeStep.a_frame f fits lawful row step) = few f lawful step
take_few m old bytes turn few (TakeStep.no_frame none nothing) = rw nothing.sends (lit< tt)

-- what holds of each element, and of one more
pub pushed_each : {A : Type 0} (P : ℕ → A → Type 0) (xs : List A) (x : A) (n : ℕ) → length xs ≡ n →
    ((k : ℕ) (y : A) → slice_get xs k ≡ Some y → P k y) → P n x → (k : ℕ) (y : A) →
    slice_get (xs ++ x ∷ []) k ≡ Some y → P k y
pushed_each P xs x n count each here = at P xs each (subst (λ (j : ℕ). P j x) (sym count) here)
  where
    at : {A : Type 0} {x : A} (P : ℕ → A → Type 0) (xs : List A) → ((k : ℕ) (y : A) → slice_get xs k ≡ Some y → P k y) →
        P (length xs) x → (k : ℕ) (y : A) → slice_get (xs ++ x ∷ []) k ≡ Some y → P k y
    at {x = x} P [] each here zero y got = let e : x ≡ y = cc got in subst (P 0) e here
    at P [] each here (suc k) y got = absurd (cc got)
    at P (z ∷ zs) each here zero y got = each zero y got
    at P (z ∷ zs) each here (suc k) y got = at (λ j. P (suc j)) zs (λ j v g. each (suc j) v g) here k y got

-- a row is not empty
pub row_positive : (f : Frame) → 0 < length (frame_row f)
row_positive f = omega arith

-- a front of a front
pub take_front : {X : Type 0} (n k : ℕ) (xs : List X) → n ≤ k → take n (take k xs) ≡ take n xs
take_front zero k xs low = refl
take_front (suc n) zero xs low = absurd (omega (arith, low))
take_front (suc n) (suc k) [] low = refl
take_front (suc n) (suc k) (x ∷ xs) low = ap (λ ys. x ∷ ys) (take_front n k xs (omega (arith, low)))

pub bay_there : (m : Meaning) (w : Scene) (i : ℕ) → IsStation m.diagram → RoundFacts m w →
    i < length m.diagram.switches → bay_of m.diagram i < length w.nodes
bay_there m w i station facts lt = omega (arith, (bay_of_is m.diagram i station lt).0, facts.shape.nodes)

-- the message of a number is one
pub same_message : (w : Scene) (k j : ℕ) (f g : Frame) → k ≡ j → IsMessage w k f → IsMessage w j g → f ≡ g
same_message w k j f g same one other =
    same_Some f g (sym one.sent ∙ (ap (λ (x : ℕ). slice_get w.sent (x - 1)) same ∙ other.sent))

-- one more element is mapped
pub map_more : {X Y : Type 0} (h : X → Y) (xs : List X) (i : ℕ) (x : X) (y : Y) (old before new : List Y) →
    i < length xs → x ≡ get_or xs i x → y ≡ h x → before ≡ old ++ map h (take i xs) → new ≡ before ++ y ∷ [] →
    new ≡ old ++ map h (take (i + 1) xs)
map_more h xs i x y old before new lt got value kept more =
    let next : i + 1 ≡ suc i = omega arith in
    let taken_more : take (i + 1) xs ≡ take i xs ++ x ∷ [] =
    ap (λ n. take n xs) next ∙ (take-suc xs i x lt ∙ ap (λ z. take i xs ++ z ∷ []) (sym got)) in
    let mapped : map h (take (i + 1) xs) ≡ map h (take i xs) ++ y ∷ [] =
    ap (λ l. map h l) taken_more
    ∙ (map-append h (take i xs) (x ∷ []) ∙ ap (λ z. map h (take i xs) ++ z ∷ []) (sym value)) in
    more
    ∙ (ap (λ l. l ++ y ∷ []) kept ∙ (append_assoc old (map h (take i xs)) (y ∷ []) ∙ ap (λ l. old ++ l) (sym mapped)))
