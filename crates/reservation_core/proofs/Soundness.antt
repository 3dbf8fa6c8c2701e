-- Soundness of the truth is kept, where granted operations obey the first two rules.
use Rattle.std.proofs.Common.{◌≡◌, ◌≢◌, ◌<◌, ℕ, Bool, true, false, List, length, get_or, set, Some, refl, sym, subst}
use Rattle.std.proofs.Common.{◌∙◌, inl, inr, arith, length-set, get_or-set_same, get_or-set_other}
use Rattle.std.proofs.lemmas.Bool.{cases_Bool, cases_eq}
use Rattle.std.proofs.lemmas.List.{set-get_or}
use Rattle.std.proofs.lemmas.Option.{slice_get-get_or, slice_get_within}
use Rattle.ilk_base.specs.declared.words.Dbpos.{Dbpos}
use Rattle.ilk_base.specs.declared.words.Direction.{Direction}
use Rattle.ilk_base.specs.declared.words.Direction.TheVariants.{ToOff, ToOn}
use Rattle.ilk_base.specs.declared.words.SwitchId.{SwitchId}
use Rattle.station_graph.specs.Diagram.{Diagram}
use Rattle.station_graph.specs.Supply.{Apart}
use Rattle.station_graph.specs.Alike.{IsVector}
use Rattle.station_graph.specs.CentralRules.{IsOperation}
use Rattle.station_graph.proofs.ClosingLemmas.{apart_opened, apart_closed}
use Rattle.central_rules.specs.Meaning.{Meaning, bay_of}
use Rattle.bay_protocol.specs.declared.values.Grant.{Grant}
use Rattle.bay_protocol.specs.declared.values.NodeEvent.{NodeEvent}
use Rattle.reservation_core.specs.Scene.{Scene, node, moves, stops, true_at, ReadsAs, Resolves, end_position}
use Rattle.reservation_core.specs.declared.values.Position.{Position}
use Rattle.reservation_core.specs.declared.values.Position.TheVariants.{Open, Closed, Between}
use Rattle.reservation_core.specs.declared.values.WorldEvent.{WorldEvent}
use Rattle.reservation_core.specs.declared.values.WorldEvent.TheVariants.{Command, Sense, Deliver, Tick, Withdraw}
use Rattle.reservation_core.specs.declared.values.WorldEvent.TheVariants.{Restart, Begin, End, Part, Cut}
use Rattle.reservation_core.specs.declared.values.WorldOutcome.{WorldOutcome}
use Rattle.reservation_core.specs.RoundFacts.{RoundFacts}
use Rattle.reservation_core.specs.Happens.{Happens, InRange, NodeSteps, SenseHappens, DeliverHappens, PartHappens}
use Rattle.reservation_core.specs.Happens.{WithdrawHappens, BeginHappens, EndHappens, CutHappens}
use Rattle.reservation_core.specs.Facts.{IsSoundTruth, ObeysFirstTwo}
use Rattle.reservation_core.proofs.Nodes.{set_set}
use Rattle.reservation_core.proofs.AlikeNotes.{got_or}

-- each switch of the vector stands as it may, by its place
abbrev StandsAll : Diagram → List Position → List Bool → Type 0
StandsAll d truth v = (i : ℕ) → i < length d.switches → ReadsAs (true_at truth i) (get_or v i false)

resolves_all : (d : Diagram) (truth : List Position) (v : List Bool) → IsVector d v → StandsAll d truth v
    → Resolves truth v
resolves_all d truth v whole stands i closed at =
    let within : i < length v = slice_get_within v i closed at in
    subst (λ (x : Bool). ReadsAs (true_at truth i) x) (got_or v i closed false at) (stands i (omega
    (arith, within, whole)))

all_stand : (d : Diagram) (truth : List Position) (v : List Bool) → IsVector d v → Resolves truth v
    → StandsAll d truth v
all_stand d truth v whole resolves i lt = resolves i (get_or v i false) (slice_get-get_or v i false (omega
    (arith, whole, lt)))

other_stands : (truth : List Position) (i : ℕ) (at : Position) (v : List Bool) (j : ℕ) → j ≢ i
    → ReadsAs (true_at (set truth i at) j) (get_or v j false) → ReadsAs (true_at truth j) (get_or v j false)
other_stands truth i at v j other = subst (λ (x : Position). ReadsAs x (get_or v j false))
    (get_or-set_other truth i j at Between other)

is_itself : (v : List Bool) (i : ℕ) (b : Bool) → get_or v i false ≡ b → set v i b ≡ v
is_itself v i b is = subst (λ (x : Bool). set v i x ≡ v) is (set-get_or v i false)

module _ (m : Meaning) where
  -- the vectors of a sound truth are apart
  sound_at : (truth : List Position) (v : List Bool) → IsSoundTruth m.diagram truth → IsVector m.diagram v
      → StandsAll m.diagram truth v → Apart m.diagram v
  sound_at truth v sound whole stands = sound v whole (resolves_all m.diagram truth v whole stands)

  -- a vector with the switch set so resolves the old truth
  resolves_set : (truth : List Position) (i : ℕ) (at : Position) (v : List Bool) (b : Bool) → IsVector m.diagram v
      → i < length m.diagram.switches → ReadsAs (true_at truth i) b → StandsAll m.diagram (set truth i at) v
      → StandsAll m.diagram truth (set v i b)
  resolves_set truth i at v b whole lt here stands j jlt = elim (cases_eq j i) [
    | inl same ↦
        let inside : i < length v = omega (arith, lt, whole) in
        subst (λ (x : ℕ). ReadsAs (true_at truth x) (get_or (set v i b) x false)) (sym same) (subst (λ
        (x : Bool). ReadsAs (true_at truth i) x) (sym (get_or-set_same v i b false inside)) here)
    | inr other ↦ subst (λ (x : Bool). ReadsAs (true_at truth j) x) (sym (get_or-set_other v i j b false other))
        (other_stands truth i at v j other (stands j jlt))
  ]

  -- a vector with the switch set so is apart
  apart_set : (truth : List Position) (i : ℕ) (at : Position) (v : List Bool) (b : Bool)
      → IsSoundTruth m.diagram truth → IsVector m.diagram v → i < length m.diagram.switches
      → ReadsAs (true_at truth i) b → StandsAll m.diagram (set truth i at) v → Apart m.diagram (set v i b)
  apart_set truth i at v b sound whole lt here stands = sound_at truth (set v i b) sound (length-set v i b ∙ whole)
      (resolves_set truth i at v b whole lt here stands)

  -- a switch that was between stands so
  was_between : (truth : List Position) (i : ℕ) (at : Position) → IsSoundTruth m.diagram truth
      → i < length m.diagram.switches → true_at truth i ≡ Between → IsSoundTruth m.diagram (set truth i at)
  was_between truth i at sound lt between v whole resolves =
      subst (Apart m.diagram) (set-get_or v i false) (apart_set truth i at v (get_or v i false) sound whole lt (subst
      (λ (x : Position). ReadsAs x (get_or v i false)) (sym between) tt) (all_stand m.diagram
      (set truth i at) v whole resolves))

  -- an open switch is closed
  closing : (w : Scene) (i : ℕ) (g : Grant) (v : List Bool) → IsSoundTruth m.diagram w.truth → ObeysFirstTwo m w
      → IsVector m.diagram v → i < length m.diagram.switches → (node m.diagram w
      (bay_of m.diagram i)).granted ≡ Some g → g.op.switch.0 ≡ i → g.op.direction ≡ ToOn → true_at w.truth i ≡ Open
      → StandsAll m.diagram (set w.truth i Between) v → Apart m.diagram (set v i true)
  closing w i g v sound obeys whole lt has switch direction at stands =
      let may : ReadsAs (true_at w.truth i) false = subst (λ (x : Position). ReadsAs x false) (sym at) refl in
      let open_whole : IsVector m.diagram (set v i false) = length-set v i false ∙ whole in
      let open_stands : StandsAll m.diagram w.truth (set v i false) =
      resolves_set w.truth i Between v false whole lt may stands in
      let open_apart : Apart m.diagram (set v i false) = sound_at w.truth
      (set v i false) sound open_whole open_stands in
      let gap = obeys (bay_of m.diagram i) g (set v i false) has open_whole (resolves_all m.diagram w.truth
      (set v i false) open_whole open_stands) in
      let known : IsOperation m.diagram g.op = subst (λ (x : ℕ). x < length m.diagram.switches) (sym switch) lt in
      let before_apart : Apart m.diagram (set (set v i false) g.op.switch.0 false) = subst (λ (x : ℕ). Apart m.diagram
      (set (set v i false) x false)) (sym switch) (subst (Apart m.diagram) (sym
      (set_set v i false false)) open_apart) in
      let after_apart : Apart m.diagram (set (set v i false) g.op.switch.0 true) = apart_closed m.diagram
      (set v i false) g.op known direction gap before_apart in
      subst (Apart m.diagram) (set_set v i false true) (subst (λ (x : ℕ). Apart m.diagram (set
      (set v i false) x true)) switch after_apart)

  -- with the switch in one of two positions
  either : (v : List Bool) (i : ℕ) → Apart m.diagram (set v i true) → Apart m.diagram (set v i false)
      → Apart m.diagram v
  either v i closed opened = elim (cases_Bool (get_or v i false)) [
    | inl is ↦ subst (Apart m.diagram) (is_itself v i true is) closed
    | inr is ↦ subst (Apart m.diagram) (is_itself v i false is) opened
  ]

  -- the drive of a granted operation begins
  begins_sound : (w : Scene) (i : ℕ) (g : Grant) → IsSoundTruth m.diagram w.truth → ObeysFirstTwo m w
      → i < length m.diagram.switches → (node m.diagram w (bay_of m.diagram i)).granted ≡ Some g → g.op.switch.0 ≡ i
      → (way : Direction) → g.op.direction ≡ way → true_at w.truth i ≢ end_position way → (p : Position)
      → true_at w.truth i ≡ p → IsSoundTruth m.diagram (set w.truth i Between)
  begins_sound w i g sound obeys lt has switch way direction away Between at = was_between w.truth i Between sound lt at
  begins_sound w i g sound obeys lt has switch ToOff direction away Open at = absurd (away at)
  begins_sound w i g sound obeys lt has switch ToOn direction away Closed at = absurd (away at)
  begins_sound w i g sound obeys lt has switch ToOff direction away Closed at = λ v whole resolves.
      let closed : Apart m.diagram (set v i true) = apart_set w.truth i Between v true sound whole lt (subst (λ
      (x : Position). ReadsAs x true) (sym at) refl) (all_stand m.diagram
      (set w.truth i Between) v whole resolves) in
      either v i closed (subst (Apart m.diagram) (set_set v i true false) (apart_opened m.diagram
      (set v i true) i closed))
  begins_sound w i g sound obeys lt has switch ToOn direction away Open at = λ v whole resolves.
      let stands = all_stand m.diagram (set w.truth i Between) v whole resolves in
      either v i (closing w i g v sound obeys whole lt has switch direction at stands)
      (apart_set w.truth i Between v false sound whole lt (subst (λ (x : Position). ReadsAs x false)
      (sym at) refl) stands)

  -- ---- the events

  same_truth : (old new : Scene) → new ≡ old → IsSoundTruth m.diagram old.truth → IsSoundTruth m.diagram new.truth
  same_truth old new is = subst (λ (w : Scene). IsSoundTruth m.diagram w.truth) (sym is)

  turn_sound : (w new : Scene) (b : ℕ) (event : NodeEvent) (outcome : WorldOutcome)
      → NodeSteps m w b event new outcome → IsSoundTruth m.diagram w.truth → IsSoundTruth m.diagram new.truth
  turn_sound w new b event outcome s sound = subst (λ (x : Scene). IsSoundTruth m.diagram x.truth) (sym s.world) sound

  sense_sound : (old new : Scene) (i : SwitchId) (word : Dbpos) (outcome : WorldOutcome)
      → SenseHappens m old i word new outcome → IsSoundTruth m.diagram old.truth → IsSoundTruth m.diagram new.truth
  sense_sound old new i word outcome (SenseHappens.untrue not_so r) sound = same_truth old new r.unchanged sound
  sense_sound old new i word outcome (SenseHappens.reads truly s) sound = turn_sound old new _ _ outcome s sound

  deliver_sound : (old new : Scene) (k : ℕ) (outcome : WorldOutcome) → DeliverHappens m old k new outcome
      → IsSoundTruth m.diagram old.truth → IsSoundTruth m.diagram new.truth
  deliver_sound old new k outcome (DeliverHappens.unsent none r) sound = same_truth old new r.unchanged sound
  deliver_sound old new k outcome (DeliverHappens.comes f message s) sound = turn_sound old new _ _ outcome s sound

  part_sound : (old new : Scene) (k : ℕ) (outcome : WorldOutcome) → PartHappens m.diagram old k new outcome
      → IsSoundTruth m.diagram old.truth → IsSoundTruth m.diagram new.truth
  part_sound old new k outcome (PartHappens.unsent none r) sound = same_truth old new r.unchanged sound
  part_sound old new k outcome (PartHappens.nothing f message same says) sound = same_truth old new same sound

  withdraw_sound : (old new : Scene) (b : ℕ) (outcome : WorldOutcome) → WithdrawHappens m old b new outcome
      → IsSoundTruth m.diagram old.truth → IsSoundTruth m.diagram new.truth
  withdraw_sound old new b outcome (WithdrawHappens.running g has on r) sound = same_truth old new r.unchanged sound
  withdraw_sound old new b outcome (WithdrawHappens.resting rests s) sound = turn_sound old new _ _ outcome s sound

  begin_sound : (old new : Scene) (i : ℕ) (outcome : WorldOutcome) → ObeysFirstTwo m old
      → i < length m.diagram.switches → BeginHappens m.diagram old i new outcome → IsSoundTruth m.diagram old.truth
      → IsSoundTruth m.diagram new.truth
  begin_sound old new i outcome obeys lt (BeginHappens.not_open free r) sound = same_truth old new r.unchanged sound
  begin_sound old new i outcome obeys lt (BeginHappens.running on r) sound = same_truth old new r.unchanged sound
  begin_sound old new i outcome obeys lt (BeginHappens.there_already g it at r) sound =
      same_truth old new r.unchanged sound
  begin_sound old new i outcome obeys lt (BeginHappens.begins g it off away driven) sound =
      same_truth (moves old i Between true) new driven.world
      (begins_sound old i g sound obeys lt it.granted it.switch g.op.direction refl away (true_at old.truth i) refl)

  end_sound : (old new : Scene) (i : ℕ) (outcome : WorldOutcome) → RoundFacts m old → i < length m.diagram.switches
      → EndHappens m.diagram old i new outcome → IsSoundTruth m.diagram old.truth → IsSoundTruth m.diagram new.truth
  end_sound old new i outcome rounds lt (EndHappens.resting off r) sound = same_truth old new r.unchanged sound
  end_sound old new i outcome rounds lt (EndHappens.arrives g on it driven) sound =
      same_truth (moves old i (end_position g.op.direction) false) new driven.world (was_between old.truth i
      (end_position g.op.direction) sound lt (rounds.drives i lt on).between)

  cut_sound : (old new : Scene) (i : SwitchId) (outcome : WorldOutcome) → CutHappens m old i new outcome
      → IsSoundTruth m.diagram old.truth → IsSoundTruth m.diagram new.truth
  cut_sound old new i outcome (CutHappens.resting off r) sound = same_truth old new r.unchanged sound
  cut_sound old new i outcome (CutHappens.stops_between on s) sound = turn_sound (stops old i.0) new _ _ outcome s sound

  pub happens_sound : (old new : Scene) (event : WorldEvent) (outcome : WorldOutcome) → RoundFacts m old
      → ObeysFirstTwo m old → InRange m.diagram event → Happens m old event new outcome
      → IsSoundTruth m.diagram old.truth → IsSoundTruth m.diagram new.truth
  happens_sound old new (Command op) outcome rounds obeys lt s sound = turn_sound old new _ _ outcome s sound
  happens_sound old new (Sense i word) outcome rounds obeys lt s sound = sense_sound old new i word outcome s sound
  happens_sound old new (Deliver k) outcome rounds obeys lt s sound = deliver_sound old new k outcome s sound
  happens_sound old new (Tick b) outcome rounds obeys lt s sound = turn_sound old new _ _ outcome s sound
  happens_sound old new (Withdraw b) outcome rounds obeys lt s sound = withdraw_sound old new b.0 outcome s sound
  happens_sound old new (Restart b) outcome rounds obeys lt s sound = turn_sound old new _ _ outcome s sound
  happens_sound old new (Begin i) outcome rounds obeys lt s sound = begin_sound old new i.0 outcome obeys lt s sound
  happens_sound old new (End i) outcome rounds obeys lt s sound = end_sound old new i.0 outcome rounds lt s sound
  happens_sound old new (Part k bytes) outcome rounds obeys lt s sound = part_sound old new k outcome s sound
  happens_sound old new (Cut i) outcome rounds obeys lt s sound = cut_sound old new i outcome s sound

  -- ---- a switch opens without a command

  opened : (truth : List Position) (i : ℕ) (v : List Bool) → IsSoundTruth m.diagram truth → IsVector m.diagram v
      → i < length m.diagram.switches → (p : Position) → true_at truth i ≡ p → StandsAll m.diagram
      (set truth i Open) v → get_or v i false ≡ false → Apart m.diagram v
  opened truth i v sound whole lt Between at stands shut = subst (Apart m.diagram) (is_itself v i false shut)
      (apart_set truth i Open v false sound whole lt (subst (λ (x : Position). ReadsAs x false) (sym at) tt) stands)
  opened truth i v sound whole lt Open at stands shut = subst (Apart m.diagram) (is_itself v i false shut)
      (apart_set truth i Open v false sound whole lt (subst (λ (x : Position). ReadsAs x false) (sym at) refl) stands)
  opened truth i v sound whole lt Closed at stands shut =
      let closed : Apart m.diagram (set v i true) = apart_set truth i Open v true sound whole lt (subst (λ
      (x : Position). ReadsAs x true) (sym at) refl) stands in
      subst (Apart m.diagram) (set_set v i true false ∙ is_itself v i false shut) (apart_opened m.diagram
      (set v i true) i closed)

  pub opens_sound : (truth : List Position) (i : ℕ) → i < length truth → i < length m.diagram.switches
      → IsSoundTruth m.diagram truth → IsSoundTruth m.diagram (set truth i Open)
  opens_sound truth i inside lt sound v whole resolves =
      let stands = all_stand m.diagram (set truth i Open) v whole resolves in
      let shut : get_or v i false ≡ false = subst (λ (x : Position). ReadsAs x (get_or v i false))
      (get_or-set_same truth i Open Between inside) (stands i lt) in
      opened truth i v sound whole lt (true_at truth i) refl stands shut
