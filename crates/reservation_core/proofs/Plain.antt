-- A world without trips keeps the truth half of the facts, and so each granted operation obeys the rules.
use Rattle.std.proofs.Common.{◌++◌, ◌⊎◌, ◌≡◌, ◌≢◌, ◌<◌, ◌≤◌, cond, ltb, ℕ, Bool, true, false, List, length, get_or}
use Rattle.std.proofs.Common.{slice_get, set, Some, Contains, refl, sym, subst, ap, ◌∙◌, inl, inr, arith}
use Rattle.std.proofs.Common.{get_or-set_other}
use Rattle.std.proofs.lemmas.Bool.{cases_Bool, ltb-true, ltb-false}
use Rattle.std.proofs.lemmas.Option.{slice_get_within}
use Rattle.ilk_base.specs.declared.words.Dbpos.{Dbpos}
use Rattle.ilk_base.specs.declared.words.Dbpos.TheVariants.{Lost}
use Rattle.ilk_base.specs.declared.words.SwitchId.{SwitchId}
use Rattle.station_graph.specs.Diagram.{IsStation}
use Rattle.central_rules.specs.Meaning.{Meaning, Laws, Summarises, IsBay, bay_of}
use Rattle.bay_frames.specs.declared.frame.Frame.{Frame}
use Rattle.bay_frames.specs.declared.frame.Body.TheVariants.{Answer}
use Rattle.bay_protocol.specs.declared.values.Grant.{Grant}
use Rattle.bay_protocol.specs.declared.values.NodeEvent.{NodeEvent}
use Rattle.bay_protocol.specs.declared.values.NodeEvent.TheVariants.{Command as Commanded, Sense as Sensing}
use Rattle.bay_protocol.specs.declared.values.NodeEvent.TheVariants.{Frame as Arrival, Tick as Ticking}
use Rattle.bay_protocol.specs.declared.values.NodeEvent.TheVariants.{Withdraw as Withdrawing, Restart as Restarting}
use Rattle.bay_protocol.specs.declared.values.NodeEvent.TheVariants.{Cut as Cutting}
use Rattle.bay_protocol.specs.State.{State}
use Rattle.reservation_core.specs.Scene.{Scene, node, at_node, posts, moves, stops, true_at, IsTrueWord}
use Rattle.reservation_core.specs.declared.values.Position.{Position}
use Rattle.reservation_core.specs.declared.values.Position.TheVariants.{Between}
use Rattle.reservation_core.specs.declared.values.WorldEvent.{WorldEvent}
use Rattle.reservation_core.specs.declared.values.WorldOutcome.{WorldOutcome}
use Rattle.reservation_core.specs.RoundFacts.{RoundFacts}
use Rattle.reservation_core.specs.Held.{Held, IsSwitchOf}
use Rattle.reservation_core.specs.Facts.{itself, IsGood, PlainFacts, Facts}
use Rattle.reservation_core.specs.Happens.{Happens, InRange, NodeSteps}
use Rattle.reservation_core.proofs.Nodes.{node_here, node_other}
use Rattle.reservation_core.proofs.Rounds.{node_there}
use Rattle.reservation_core.proofs.Sends.{facts_stops}
use Rattle.reservation_core.proofs.Keeping.{happens_keeps}
use Rattle.reservation_core.proofs.Effects.{effect}
use Rattle.reservation_core.proofs.StepEffect.{Effect, IsSensed, IsNewWord}
use Rattle.reservation_core.proofs.Truths.{facts_step}
use Rattle.reservation_core.proofs.TruthChange.{facts_change}
use Rattle.reservation_core.proofs.AlikeNotes.{there_or_new}
use Rattle.reservation_core.proofs.Noting.{NoteStep, held_step, known_after}
use Rattle.reservation_core.proofs.Ways.{Way, way}

lost_is_good : (at : Position) (word : Dbpos) → word ≡ Lost → IsTrueWord word at
lost_is_good at word is = rw is tt

-- a word that was read is true
pub sensed_true : (truth : List Position) (event : NodeEvent) (i : ℕ) (now : Dbpos) →
    ((j : SwitchId) (word : Dbpos) → event ≡ Sensing j word → IsTrueWord word (true_at truth j.0)) →
    IsSensed event i now → IsTrueWord now (true_at truth i)
sensed_true truth (Sensing j word) i now truly is =
    subst (λ (x : ℕ). IsTrueWord now (true_at truth x)) is.0
    (subst (λ (x : Dbpos). IsTrueWord x (true_at truth j.0)) (sym is.1) (truly j word refl))
sensed_true truth (Commanded op) i now truly is = absurd is
sensed_true truth (Arrival f) i now truly is = absurd is
sensed_true truth Ticking i now truly is = absurd is
sensed_true truth Withdrawing i now truly is = absurd is
sensed_true truth Restarting i now truly is = absurd is
sensed_true truth (Cutting j) i now truly is = absurd is

-- ---- what is held beside messages

-- What is held after something has happened: beside the messages of before what it was, and beside a new Answer
-- the words of its sender, of which its summary is made.
pub record Next (m : Meaning) (old new : Scene) (before : PlainFacts m old) : Type 0 where
  pub now : PlainFacts m new
  pub stay : (j i : ℕ) → j < length old.sent → i < length m.diagram.switches →
      now.held.beside j i ≡ before.held.beside j i
  pub fresh : (j : ℕ) (f : Frame) (s : List ℕ) → length old.sent ≤ j → slice_get new.sent j ≡ Some f →
      f.body ≡ Answer s → (i : ℕ) → IsSwitchOf m f.from.0 i →
      now.held.beside j i ≡ get_or (node m.diagram old f.from.0).words i Lost
  pub sums : (j : ℕ) (f : Frame) (s : List ℕ) → length old.sent ≤ j → slice_get new.sent j ≡ Some f →
      f.body ≡ Answer s → Summarises m f.from.0 f.to.0 (node m.diagram old f.from.0).words s

-- nothing was sent at this place
never : {X : Type 0} (sent : List X) (j : ℕ) (x : X) → length sent ≤ j → slice_get sent j ≡ Some x → ⊥
never sent j x le got = let lt : j < length sent = slice_get_within sent j x got in omega (arith, le, lt)

-- nothing was sent, and what is held is as it was
still_held : (m : Meaning) (w : Scene) (facts : PlainFacts m w) → Next m w w facts
still_held m w facts = record {
  now = facts;
  stay = λ j i lt ilt. refl;
  fresh = λ j f s le got. absurd (never w.sent j f le got);
  sums = λ j f s le got. absurd (never w.sent j f le got);
}

-- ---- a step of a node

not_below : (a b : ℕ) → b ≤ a → ltb a b ≡ false
not_below a b le = elim (cases_Bool (ltb a b)) [
  | inl is ↦ absurd (let lt : a < b = ltb-true a b is in omega (arith, lt, le))
  | inr no_less ↦ no_less
]

is_below : (a b : ℕ) → a < b → ltb a b ≡ true
is_below a b lt = elim (cases_Bool (ltb a b)) [
  | inl is ↦ is
  | inr other ↦ absurd (let le : b ≤ a = ltb-false a b other in omega (arith, le, lt))
]

-- whether it is the first
is_first : {A B : Type 0} → A ⊎ B → Bool
is_first (inl a) = true
is_first (inr b) = false

first_yes : {A B : Type 0} (x : A ⊎ B) → is_first x ≡ true → A
unfolding is_first
first_yes (inl a) is = a
first_yes (inr b) is = absurd (cc is)

first_no : {A B : Type 0} (x : A ⊎ B) → is_first x ≡ false → B
unfolding is_first
first_no (inl a) is = absurd (cc is)
first_no (inr b) is = b

module _ (m : Meaning) (w : Scene) (b k : ℕ) (event : NodeEvent) (new : State) (frames : List Frame) (laws : Laws m)
    (rounds : RoundFacts m w) (now : RoundFacts m (posts (at_node w b new) frames)) (bay : IsBay m.diagram b)
    (message : (f : Frame) → event ≡ Arrival f → slice_get w.sent k ≡ Some f)
    (truly : (j : SwitchId) (word : Dbpos) → event ≡ Sensing j word → IsTrueWord word (true_at w.truth j.0))
    (effect : Effect m (node m.diagram w b) event new frames) (old : PlainFacts m w) where
  abbrev held_after : Held Dbpos
  held_after = record {
    own = λ i. get_or (node m.diagram (posts (at_node w b new) frames) (bay_of m.diagram i)).words i Lost;
    beside = λ j i. cond (ltb j (length w.sent)) (old.held.beside j i) (old.held.own i);
    known = known_after m Dbpos Lost w b k event (is_first effect.counted) new old.held;
  }

  within : b < length w.nodes
  within = node_there m w b rounds bay

  here : node m.diagram (posts (at_node w b new) frames) b ≡ new
  here = node_here m.diagram w b new within

  at_bay : (i : ℕ) → bay_of m.diagram i ≡ b → node m.diagram (posts (at_node w b new) frames) (bay_of m.diagram i) ≡ new
  at_bay i is = ap (λ (c : ℕ). node m.diagram (posts (at_node w b new) frames) c) is ∙ here

  was : (i : ℕ) → i < length m.diagram.switches → bay_of m.diagram i ≡ b →
      get_or (node m.diagram w b).words i Lost ≡ old.held.own i
  was i lt is = sym (old.facts.words_are i lt ∙ ap (λ (c : ℕ). get_or (node m.diagram w c).words i Lost) is)

  notes : NoteStep m Dbpos itself (IsGood w) Lost w b k event (is_first effect.counted) new frames old.held held_after
  notes = record {
    words_are = λ i own. ap (λ (s : State). get_or s.words i Lost) (at_bay i own.1);
    elsewhere =
        λ i lt other. ap (λ (s : State). get_or s.words i Lost)
        (node_other m.diagram w b new (bay_of m.diagram i) other) ∙ sym (old.facts.words_are i lt);
    own = λ i own.
        let now_is : get_or new.words i Lost
        ≡ get_or (node m.diagram (posts (at_node w b new) frames) (bay_of m.diagram i)).words i Lost =
        ap (λ (s : State). get_or s.words i Lost) (sym (at_bay i own.1)) in
        elim (effect.words i) [
          | inl same ↦ inl (sym now_is ∙ (same ∙ was i own.0 own.1))
          | inr changed ↦ inr (subst (λ (x : Dbpos). IsNewWord event i x) now_is changed)
        ];
    sensed = λ i lt is. sensed_true w.truth event i _ truly is;
    before = λ j lt i ilt. rw (is_below j (length w.sent) lt) refl;
    beside = λ j f s le got body i own. rw (not_below j (length w.sent) le) refl;
  }

  sent_of : (j : ℕ) (f : Frame) → length w.sent ≤ j → slice_get (w.sent ++ frames) j ≡ Some f → Contains frames f
  sent_of j f le got = elim (there_or_new w.sent frames j f got) [
    | inl p ↦ absurd (omega (arith, le, p.0))
    | inr p ↦ p.1
  ]

  stepped : Next m w (posts (at_node w b new) frames) old
  stepped = record {
    now = record {
      held = held_after;
      facts =
          facts_step m Dbpos itself (IsGood w) w b k event new frames old.held held_after laws rounds now bay within
          (λ i word is. lost_is_good (true_at w.truth i) word is) message effect old.facts
          (held_step m Dbpos itself (IsGood w) Lost w b k event (is_first effect.counted) new frames old.held held_after
          refl (first_yes effect.counted) (first_no effect.counted)
          (λ g has. sym (ap (λ (s : State). s.granted) here)
          ∙ ((now.rounds b bay).collecting g (ap (λ (s : State). s.collecting) here ∙ has)).no_grant) notes
          (λ c i lt. refl));
    };
    stay = λ j i lt ilt. rw (is_below j (length w.sent) lt) refl;
    fresh =
        λ j f s le got body i own. rw (not_below j (length w.sent) le)
        (old.facts.words_are i own.0 ∙ ap (λ (c : ℕ). get_or (node m.diagram w c).words i Lost) own.1);
    sums = λ j f s le got body.
        let said = effect.answers f s (sent_of j f le got) body in
        let from : f.from.0 ≡ b = said.from ∙ rounds.shape.named b in
        subst (λ (c : ℕ). Summarises m c f.to.0 (node m.diagram w c).words s) (sym from)
        (subst (λ (c : ℕ). Summarises m c f.to.0 (node m.diagram w b).words s) (rounds.shape.named b) said.sums);
  }

node_truth : (m : Meaning) (old new : Scene) (b k : ℕ) (event : NodeEvent) (outcome : WorldOutcome) → Laws m →
    RoundFacts m old → RoundFacts m new → IsBay m.diagram b →
    ((f : Frame) → event ≡ Arrival f → slice_get old.sent k ≡ Some f) →
    ((j : SwitchId) (word : Dbpos) → event ≡ Sensing j word → IsTrueWord word (true_at old.truth j.0)) →
    NodeSteps m old b event new outcome → (facts : PlainFacts m old) → Next m old new facts
node_truth m old new b k event outcome laws rounds now bay message truly s facts =
    subst (λ (w : Scene). Next m old w facts) (sym s.world) (stepped m old b k event s.turn.new s.turn.frames laws
    rounds (subst (RoundFacts m) s.world now) bay message truly
    (effect m (node m.diagram old b) event s.turn (rounds.rounds b bay) s.step) facts)

-- a switch of a granted operation moves
move_truth : (m : Meaning) (w : Scene) (i : ℕ) (g : Grant) (at : Position) (running : Bool) → RoundFacts m w →
    i < length m.diagram.switches → (node m.diagram w (bay_of m.diagram i)).granted ≡ Some g → g.op.switch.0 ≡ i →
    (facts : PlainFacts m w) → Next m w (moves w i at running) facts
move_truth m w i g at running rounds lt has switch old = record {
  now = record {
    held = old.held;
    facts =
        facts_change m Dbpos itself (IsGood w) (IsGood (moves w i at running)) w (set w.truth i at)
        (set w.drives i running) old.held rounds
        (λ j word jlt free good.
        let other : j ≢ i =
        λ same. free g (subst (λ (x : ℕ). (node m.diagram w (bay_of m.diagram x)).granted ≡ Some g) (sym same) has)
        (switch ∙ sym same) in
        subst (λ (x : Position). IsTrueWord word x) (sym (get_or-set_other w.truth i j at Between other)) good)
        (λ j word is. lost_is_good (true_at (set w.truth i at) j) word is) old.facts;
  };
  stay = λ j k jlt klt. refl;
  fresh = λ j f s le got. absurd (never w.sent j f le got);
  sums = λ j f s le got. absurd (never w.sent j f le got);
}

abbrev stop_truth : (m : Meaning) (w : Scene) (i : ℕ) → RoundFacts m w → PlainFacts m w → PlainFacts m (stops w i)
stop_truth m w i rounds old = record {
  held = old.held;
  facts =
      facts_change m Dbpos itself (IsGood w) (IsGood (stops w i)) w w.truth (set w.drives i false) old.held rounds
      (λ j word jlt free good. good) (λ j word is. lost_is_good (true_at w.truth j) word is) old.facts;
}

-- ---- whatever happens

way_truth : (m : Meaning) (old new : Scene) (event : WorldEvent) (outcome : WorldOutcome) → Laws m → RoundFacts m old →
    RoundFacts m new → Way m old event new outcome → (facts : PlainFacts m old) → Next m old new facts
way_truth m old new event outcome laws rounds now (Way.refused which same says) facts =
    subst (λ (w : Scene). Next m old w facts) (sym same) (still_held m old facts)
way_truth m old new event outcome laws rounds now (Way.nothing same none fits) facts =
    subst (λ (w : Scene). Next m old w facts) (sym same) (still_held m old facts)
way_truth m old new event outcome laws rounds now (Way.turns c is fair s) facts =
    node_truth m old new c.bay c.message c.event outcome laws rounds now fair.bay fair.message fair.truly s facts
way_truth m old new event outcome laws rounds now (Way.drives i g at running none lt has switch is says) facts =
    subst (λ (w : Scene). Next m old w facts) (sym is) (move_truth m old i g at running rounds lt has switch facts)
way_truth m old new event outcome laws rounds now (Way.cuts i c is fair s) facts =
    let it =
    node_truth m (stops old i) new c.bay c.message c.event outcome laws (facts_stops m old i rounds) now fair.bay
    fair.message fair.truly s (stop_truth m old i rounds facts) in
    record { now = it.now; stay = it.stay; fresh = it.fresh; sums = it.sums }

-- what is held after whatever happens
pub keeps_truth : (m : Meaning) (old new : Scene) (event : WorldEvent) (outcome : WorldOutcome) → IsStation m.diagram →
    Laws m → (facts : Facts m old) → InRange m.diagram event → Happens m old event new outcome →
    Next m old new facts.truth
keeps_truth m old new event outcome station laws facts range happens =
    way_truth m old new event outcome laws facts.rounds
    (happens_keeps m station old new outcome facts.rounds event range happens)
    (way m station old new outcome facts.rounds event range happens) facts.truth

pub keeps_facts : (m : Meaning) (old new : Scene) (event : WorldEvent) (outcome : WorldOutcome) → IsStation m.diagram →
    Laws m → Facts m old → InRange m.diagram event → Happens m old event new outcome → Facts m new
keeps_facts m old new event outcome station laws facts range happens = record {
  rounds = happens_keeps m station old new outcome facts.rounds event range happens;
  truth = (keeps_truth m old new event outcome station laws facts range happens).now;
}
