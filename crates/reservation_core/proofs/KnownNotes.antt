-- The notes after a step of a node, and what the node knows of the others after hearing.
use Rattle.std.proofs.Common.{◌⊎◌, ◌≡◌, ◌≢◌, ◌<◌, ◌≤◌, ℕ, List, ◌++◌, length, get_or, slice_get, set, Option, Some}
use Rattle.std.proofs.Common.{None, Contains, sym, subst, ap, ◌∙◌, inl, inr, arith, length-set, get_or-set_same}
use Rattle.std.proofs.lemmas.Bool.{cases_eq}
use Rattle.std.proofs.lemmas.Option.{slice_get-get_or}
use Rattle.ilk_base.specs.declared.words.Dbpos.{Dbpos}
use Rattle.ilk_base.specs.declared.words.Dbpos.TheVariants.{Lost}
use Rattle.station_graph.specs.Diagram.{part_count}
use Rattle.station_graph.proofs.PositionLemmas.{slice_get-set_other}
use Rattle.central_rules.specs.Meaning.{Meaning, Laws, bay_of, IsBay}
use Rattle.bay_frames.specs.declared.frame.Frame.{Frame}
use Rattle.bay_frames.specs.declared.frame.Body.TheVariants.{Answer}
use Rattle.bay_protocol.specs.declared.values.Grant.{Grant}
use Rattle.bay_protocol.specs.declared.values.Collection.{Collection}
use Rattle.bay_protocol.specs.declared.values.NodeEvent.{NodeEvent}
use Rattle.bay_protocol.specs.declared.values.NodeEvent.TheVariants.{Frame as Arrival}
use Rattle.bay_protocol.specs.State.{State, under_way, under_way_of}
use Rattle.bay_protocol.specs.Counts.{Counts}
use Rattle.reservation_core.specs.Scene.{Scene, node, at_node, posts}
use Rattle.reservation_core.specs.RoundFacts.{RoundFacts, AnswerSent}
use Rattle.reservation_core.specs.Held.{Held, TruthFacts, HeardGood, KnownGood, IsSwitchOf}
use Rattle.reservation_core.proofs.Nodes.{got_set}
use Rattle.reservation_core.proofs.Rounds.{unheard}
use Rattle.reservation_core.proofs.Keeping.{got_there}
use Rattle.reservation_core.proofs.StepEffect.{Effect, HeardFrom, CountsAt, IsSensed, IsNewWord}
use Rattle.reservation_core.proofs.AlikeNotes.{heard_same, known_same}

-- The notes after a step of node b, at an event that brings the message at place k if it brings one.
pub record HeldStep (m : Meaning) (N : Type 0) (word : N → Dbpos) (Good : ℕ → N → Type 0) (w : Scene) (b k : ℕ)
    (event : NodeEvent) (new : State) (frames : List Frame) (h after : Held N) : Type 0 where
  pub words_are : (i : ℕ) → IsSwitchOf m b i → word (after.own i) ≡ get_or new.words i Lost
  pub elsewhere : (i : ℕ) → i < length m.diagram.switches → bay_of m.diagram i ≢ b → after.own i ≡ h.own i
  pub own : (i : ℕ) → IsSwitchOf m b i → (after.own i ≡ h.own i) ⊎ IsNewWord event i (word (after.own i))
  pub sensed : (i : ℕ) → i < length m.diagram.switches → IsSensed event i (word (after.own i)) → Good i (after.own i)
  pub before : (j : ℕ) → j < length w.sent → (i : ℕ) → i < length m.diagram.switches → after.beside j i ≡ h.beside j i
  pub beside : (j : ℕ) (f : Frame) (s : List ℕ) → length w.sent ≤ j → slice_get (w.sent ++ frames) j ≡ Some f →
      f.body ≡ Answer s → (i : ℕ) → IsSwitchOf m b i → after.beside j i ≡ h.own i
  pub others : (c : ℕ) → c ≢ b → (i : ℕ) → i < length m.diagram.switches → after.known c i ≡ h.known c i
  -- what b knows of the others after hearing
  pub mid : ℕ → N
  pub same : (g : Collection) → (node m.diagram w b).collecting ≡ Some g → ¬ CountsAt m (node m.diagram w b) event →
      (i : ℕ) → i < length m.diagram.switches → mid i ≡ h.known b i
  pub fresh : (node m.diagram w b).collecting ≡ None → (i : ℕ) → i < length m.diagram.switches → word (mid i) ≡ Lost
  pub come : (f : Frame) → event ≡ Arrival f → Counts m m.diagram (node m.diagram w b) f → (i : ℕ) →
      IsSwitchOf m f.from.0 i → mid i ≡ h.beside k i
  pub passed : (f : Frame) → event ≡ Arrival f → Counts m m.diagram (node m.diagram w b) f → (i : ℕ) →
      i < length m.diagram.switches → bay_of m.diagram i ≢ f.from.0 → mid i ≡ h.known b i
  pub collected : (g : Collection) → new.collecting ≡ Some g → (i : ℕ) → i < length m.diagram.switches →
      after.known b i ≡ mid i
  pub stays : (g : Grant) → new.granted ≡ Some g → (node m.diagram w b).granted ≡ Some g → (i : ℕ) →
      i < length m.diagram.switches → after.known b i ≡ h.known b i
  pub granted_own : (g : Grant) → new.granted ≡ Some g → (node m.diagram w b).granted ≡ None → (i : ℕ) →
      IsSwitchOf m b i → i ≢ g.op.switch.0 → after.known b i ≡ h.own i
  pub granted_other : (g : Grant) → new.granted ≡ Some g → (node m.diagram w b).granted ≡ None → (i : ℕ) →
      i < length m.diagram.switches → bay_of m.diagram i ≢ b → after.known b i ≡ mid i

-- ---- a node takes a step

module _ {m : Meaning} {N : Type 0} {word : N → Dbpos} {Good : ℕ → N → Type 0} {w : Scene} {b k : ℕ}
    {event : NodeEvent} {new : State} {frames : List Frame} {h after : Held N} (rounds : RoundFacts m w)
    (bay : IsBay m.diagram b) (message : (f : Frame) → event ≡ Arrival f → slice_get w.sent k ≡ Some f)
    (facts : TruthFacts m N word Good w h) (step : HeldStep m N word Good w b k event new frames h after) where
  one_more_heard : (g : Collection) (f : Frame) (s : List ℕ) → event ≡ Arrival f →
      Counts m m.diagram (node m.diagram w b) f → f.body ≡ Answer s → (node m.diagram w b).collecting ≡ Some g →
      g.round ≡ f.round → HeardGood m N word Good step.mid f.from.0 s
  one_more_heard g f s is counts body has round =
      let got = message f is in
      let running : under_way (node m.diagram w f.to.0) ≡ Some f.round =
      subst (λ (c : ℕ). under_way (node m.diagram w c) ≡ Some f.round) (sym (counts.meant.here ∙ rounds.shape.named b))
      (ap (λ x. under_way_of x (node m.diagram w b).granted) has ∙ ap (λ x. Some x) round) in
      heard_same m N word Good (λ i. h.beside k i) step.mid f.from.0 s (λ i own. step.come f is counts i own) (record {
        allows = (facts.made k f s got body).allows;
        good = facts.answers k f s got body running;
      })

  -- what stands where the sender of the new Answer stands
  set_heard : (g : Collection) (f : Frame) (s : List ℕ) → Contains w.sent f →
      (node m.diagram w b).collecting ≡ Some g → slice_get (set g.heard f.from.0 (Some s)) f.from.0 ≡ Some (Some s)
  set_heard g f s there has =
      let inside : f.from.0 < length g.heard =
      omega (arith, ((rounds.rounds b bay).collecting g has).places, (rounds.bounds.fit f there).sender.0) in
      slice_get-get_or (set g.heard f.from.0 (Some s)) f.from.0 None
      (omega (arith, length-set g.heard f.from.0 (Some s), inside))
      ∙ ap (λ (x : Option (List ℕ)). Some x) (get_or-set_same g.heard f.from.0 (Some s) None inside)

  pub known_here : (g : Collection) → HeardFrom m (node m.diagram w b) event g → KnownGood m N word Good step.mid g
  known_here g (HeardFrom.kept has uncounted) =
      known_same m N word Good (h.known b) step.mid g (step.same g has uncounted) (facts.heard b g has)
  known_here g (HeardFrom.opened none nothing) = record {
    heard =
        λ c s got. absurd (unheard (part_count m.diagram) c s
        (ap (λ (x : List (Option (List ℕ))). slice_get x c) (sym nothing) ∙ got));
    unheard = λ i lt none_heard. step.fresh none i lt;
  }
  known_here g (HeardFrom.one_more old f s is counts body has round same) =
      let there = got_there w.sent k f (message f is) in
      let stands = set_heard old f s there has in
      let at : (c : ℕ) → slice_get g.heard c ≡ slice_get (set old.heard f.from.0 (Some s)) c =
      λ c. ap (λ (x : Collection). slice_get x.heard c) same in
      let before = facts.heard b old has in
      record {
        heard = λ c t got. elim (got_set old.heard f.from.0 (Some s) c (Some t) (sym (at c) ∙ got)) [
          | inl p ↦
              let e : s ≡ t = cc p.1 in
              subst (λ (x : ℕ). HeardGood m N word Good step.mid x t) (sym p.0) (subst
              (λ (x : List ℕ). HeardGood m N word Good step.mid f.from.0 x) e
              (one_more_heard old f s is counts body has round))
          | inr was ↦ elim (cases_eq c f.from.0) [
            | inl from ↦
                let e0 : Some (Some t) ≡ Some (Some s) =
                sym got ∙ (at c ∙ (ap (λ (x : ℕ). slice_get (set old.heard f.from.0 (Some s)) x) from ∙ stands)) in
                let e : s ≡ t = cc e0 in
                subst (λ (x : ℕ). HeardGood m N word Good step.mid x t) (sym from) (subst
                (λ (x : List ℕ). HeardGood m N word Good step.mid f.from.0 x) e
                (one_more_heard old f s is counts body has round))
            | inr other ↦
                heard_same m N word Good (h.known b) step.mid c t
                (λ i own. step.passed f is counts i own.0 (λ from. other (sym own.1 ∙ from))) (before.heard c t was)
          ]
        ];
        unheard = λ i lt none. elim (cases_eq (bay_of m.diagram i) f.from.0) [
          | inl from ↦
              absurd
              (none s (at (bay_of m.diagram i)
              ∙ (ap (λ (x : ℕ). slice_get (set old.heard f.from.0 (Some s)) x) from ∙ stands)))
          | inr other ↦
              ap word (step.passed f is counts i lt other)
              ∙ before.unheard i lt
              (λ t got. none t (at (bay_of m.diagram i)
              ∙ (slice_get-set_other old.heard f.from.0 (bay_of m.diagram i) (Some s) other ∙ got)))
        ];
      }

  pub sent_for : (g : Collection) (x : ℕ) (t : List ℕ) → HeardFrom m (node m.diagram w b) event g →
      slice_get g.heard x ≡ Some (Some t) → AnswerSent w.sent x b g.round t
  sent_for g x t (HeardFrom.kept has uncounted) got = (rounds.heard b x g t has got).answer
  sent_for g x t (HeardFrom.opened none nothing) got =
      absurd (unheard (part_count m.diagram) x t
      (ap (λ (y : List (Option (List ℕ))). slice_get y x) (sym nothing) ∙ got))
  sent_for g x t (HeardFrom.one_more old f s is counts body has round same) got =
      let there = got_there w.sent k f (message f is) in
      let at : slice_get g.heard x ≡ slice_get (set old.heard f.from.0 (Some s)) x =
      ap (λ (y : Collection). slice_get y.heard x) same in
      let round_is : g.round ≡ old.round = ap (λ (y : Collection). y.round) same in
      subst (λ (r : ℕ). AnswerSent w.sent x b r t) (sym round_is)
      (elim (got_set old.heard f.from.0 (Some s) x (Some t) (sym at ∙ got)) [
        | inl p ↦
            let e : s ≡ t = cc p.1 in
            record {
              frame = f;
              there = there;
              from = sym p.0;
              to = counts.meant.here ∙ rounds.shape.named b;
              round = sym round;
              body = body ∙ ap (λ (y : List ℕ). Answer y) e;
            }
        | inr was ↦ (rounds.heard b x old t has was).answer
      ])
