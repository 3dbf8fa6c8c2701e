-- The truth half of the facts stays, for any notion of a good note.
use Rattle.std.proofs.Common.{◌≡◌, ◌≢◌, ◌<◌, ◌≤◌, ℕ, Bool, true, false, List, ◌++◌, length}
use Rattle.std.proofs.Common.{get_or, slice_get, set, Some, None, Contains, refl, sym, subst, ap, ◌∙◌, inl, inr}
use Rattle.std.proofs.Common.{arith, length-set, get_or-set_same, get_or-set_other}
use Rattle.std.proofs.lemmas.Bool.{cases_eq}
use Rattle.ilk_base.specs.declared.words.Dbpos.{Dbpos}
use Rattle.ilk_base.specs.declared.words.Dbpos.TheVariants.{Intermediate, Off, On, Bad, Lost}
use Rattle.ilk_base.specs.declared.words.Op.{Op}
use Rattle.double_points.specs.Words.{Agrees}
use Rattle.station_graph.specs.Alike.{IsVector}
use Rattle.station_graph.specs.CentralRules.{Breaks}
use Rattle.station_graph.proofs.GapLemmas.{moved_same}
use Rattle.station_graph.proofs.PositionLemmas.{slice_get-set_other}
use Rattle.central_rules.specs.Meaning.{Meaning, Laws, CannotExclude, Summarises, bay_of, IsBay}
use Rattle.bay_frames.specs.declared.frame.Frame.{Frame}
use Rattle.bay_frames.specs.declared.frame.Body.TheVariants.{Answer}
use Rattle.bay_protocol.specs.declared.values.Grant.{Grant}
use Rattle.bay_protocol.specs.declared.values.Collection.{Collection}
use Rattle.bay_protocol.specs.declared.values.NodeEvent.{NodeEvent}
use Rattle.bay_protocol.specs.declared.values.NodeEvent.TheVariants.{Frame as Arrival}
use Rattle.bay_protocol.specs.State.{State, under_way}
use Rattle.reservation_core.specs.Scene.{Scene, node, at_node, posts}
use Rattle.reservation_core.specs.RoundFacts.{RoundFacts, NotGranted, AnswerSent, round_bay}
use Rattle.reservation_core.specs.Held.{Held, TruthFacts, Made, KnownGood, Backed, OwnAgreeBut, HeardAllow, IsSwitchOf}
use Rattle.reservation_core.proofs.Nodes.{node_here, node_other}
use Rattle.reservation_core.proofs.Rounds.{unheard}
use Rattle.bay_protocol.proofs.UnderWay.{idle_grant}
use Rattle.reservation_core.proofs.Keeping.{got_there}
use Rattle.reservation_core.proofs.StepEffect.{Effect, Said, Released, IsNewWord}
use Rattle.reservation_core.proofs.AlikeNotes.{switch_of, bay_agrees, there_or_new, grants_it, heard_or_not}
use Rattle.reservation_core.proofs.AlikeNotes.{allows_same, made_same, known_same, sent_still, backed_same}
use Rattle.reservation_core.proofs.KnownNotes.{HeldStep, known_here, sent_for}

-- the position that agrees with a word
agreeing : Dbpos → Bool
agreeing On = true
agreeing Off = false
agreeing Intermediate = false
agreeing Bad = false
agreeing Lost = false

agreeing_agrees : (word : Dbpos) → Agrees word (agreeing word)
unfolding agreeing
agreeing_agrees On = refl
agreeing_agrees Off = refl
agreeing_agrees Intermediate = tt
agreeing_agrees Bad = tt
agreeing_agrees Lost = tt

-- ---- a node takes a step

module _ (m : Meaning) (N : Type 0) (word : N → Dbpos) (Good : ℕ → N → Type 0) (w : Scene) (b k : ℕ)
    (event : NodeEvent) (new : State) (frames : List Frame) (h after : Held N) (laws : Laws m) (rounds : RoundFacts m w)
    (now : RoundFacts m (posts (at_node w b new) frames)) (bay : IsBay m.diagram b) (within : b < length w.nodes)
    (lost : (i : ℕ) (n : N) → word n ≡ Lost → Good i n)
    (message : (f : Frame) → event ≡ Arrival f → slice_get w.sent k ≡ Some f)
    (effect : Effect m (node m.diagram w b) event new frames) (facts : TruthFacts m N word Good w h)
    (step : HeldStep m N word Good w b k event new frames h after) where
  here : node m.diagram (posts (at_node w b new) frames) b ≡ new
  here = node_here m.diagram w b new within

  away : (c : ℕ) → c ≢ b → node m.diagram (posts (at_node w b new) frames) c ≡ node m.diagram w c
  away c other = node_other m.diagram w b new c other

  at_b : (c : ℕ) → c ≡ b → node m.diagram (posts (at_node w b new) frames) c ≡ new
  at_b c is = ap (λ (x : ℕ). node m.diagram (posts (at_node w b new) frames) x) is ∙ here

  -- words

  words_are_here : (i : ℕ) → i < length m.diagram.switches →
      word (after.own i) ≡ get_or (node m.diagram (posts (at_node w b new) frames) (bay_of m.diagram i)).words i Lost
  words_are_here i lt = elim (cases_eq (bay_of m.diagram i) b) [
    | inl is ↦
        step.words_are i (lt, is) ∙ ap (λ (s : State). get_or s.words i Lost) (sym (at_b (bay_of m.diagram i) is))
    | inr other ↦
        ap word (step.elsewhere i lt other)
        ∙ (facts.words_are i lt ∙ ap (λ (s : State). get_or s.words i Lost) (sym (away (bay_of m.diagram i) other)))
  ]

  new_word : (i : ℕ) → i < length m.diagram.switches → IsNewWord event i (word (after.own i)) → Good i (after.own i)
  new_word i lt (inl is) = lost i (after.own i) is
  new_word i lt (inr is) = step.sensed i lt is

  words_here : (i : ℕ) → i < length m.diagram.switches →
      NotGranted (node m.diagram (posts (at_node w b new) frames) (bay_of m.diagram i)) i → Good i (after.own i)
  words_here i lt free = elim (cases_eq (bay_of m.diagram i) b) [
    | inr other ↦
        subst (Good i) (sym (step.elsewhere i lt other))
        (facts.words i lt (subst (λ (s : State). NotGranted s i) (away (bay_of m.diagram i) other) free))
    | inl is ↦
        let free_new : NotGranted new i = subst (λ (s : State). NotGranted s i) (at_b (bay_of m.diagram i) is) free in
        elim (step.own i (lt, is)) [
          | inr changed ↦ new_word i lt changed
          | inl same ↦ elim (grants_it (node m.diagram w b) i) [
            | inr not ↦
                subst (Good i) (sym same)
                (facts.words i lt (subst (λ (c : ℕ). NotGranted (node m.diagram w c) i) (sym is) not))
            | inl p ↦ elim (effect.freed p.0 p.1) [
              | inl still ↦ absurd (free_new p.0 still p.2)
              | inr changed ↦
                  new_word i lt (subst (λ (x : Dbpos). IsNewWord event i x) (sym (step.words_are i (lt, is)))
                  (subst (λ (j : ℕ). IsNewWord event j (get_or new.words j Lost)) p.2 changed))
            ]
          ]
        ]
  ]

  -- Answers

  named : (node m.diagram w b).bay ≡ b
  named = rounds.shape.named b

  said_good : (f : Frame) (s : List ℕ) → Said m (node m.diagram w b) event f s → (i : ℕ) → IsSwitchOf m f.from.0 i →
      Good i (h.own i)
  said_good f s said i own =
      let none : (node m.diagram w b).granted ≡ None =
      idle_grant (node m.diagram w b).collecting (node m.diagram w b).granted said.idle in
      let is : bay_of m.diagram i ≡ b = own.1 ∙ (said.from ∙ named) in
      facts.words i own.0
      (subst (λ (c : ℕ). NotGranted (node m.diagram w c) i) (sym is) (λ g has. absurd (cc (has, none))))

  made_here : (j : ℕ) (f : Frame) (s : List ℕ) → slice_get (w.sent ++ frames) j ≡ Some f → f.body ≡ Answer s →
      Made m (λ i. word (after.beside j i)) f.from.0 f.to.0 s
  made_here j f s got body = elim (there_or_new w.sent frames j f got) [
    | inl old ↦
        made_same m N word f.from.0 f.to.0 s (λ i. h.beside j i) (λ i. after.beside j i) (step.before j old.0)
        (facts.made j f s old.1 body)
    | inr fresh ↦
        let said = effect.answers f s fresh.1 body in
        let from : f.from.0 ≡ b = said.from ∙ named in
        let sums : Summarises m f.from.0 f.to.0 (node m.diagram w b).words s =
        subst (λ (c : ℕ). Summarises m c f.to.0 (node m.diagram w b).words s) (sym said.from) said.sums in
        record {
          fits = sums.fits;
          allows = λ v whole agrees. sums.each v whole (bay_agrees m f.from.0 (node m.diagram w b).words v (λ i own.
              let is : bay_of m.diagram i ≡ b = own.1 ∙ from in
              let note : after.beside j i ≡ h.own i = step.beside j f s fresh.0 got body i (own.0, is) in
              let is_word : word (after.beside j i) ≡ get_or (node m.diagram w b).words i Lost =
              ap word note
              ∙ (facts.words_are i own.0 ∙ ap (λ (c : ℕ). get_or (node m.diagram w c).words i Lost) is) in
              subst (λ (x : Dbpos). Agrees x (get_or v i false)) is_word (agrees i own)));
        }
  ]

  was_running : (f : Frame) (s : List ℕ) → Contains w.sent f → f.body ≡ Answer s →
      under_way (node m.diagram (posts (at_node w b new) frames) f.to.0) ≡ Some f.round →
      under_way (node m.diagram w f.to.0) ≡ Some f.round
  was_running f s there body running = elim (cases_eq f.to.0 b) [
    | inr other ↦ subst (λ (n : State). under_way n ≡ Some f.round) (away f.to.0 other) running
    | inl is ↦
        let low : f.round ≤ (node m.diagram w f.to.0).highest =
        subst (λ x. f.round ≤ (node m.diagram w (round_bay f x)).highest) body (rounds.bounds.frames f there) in
        let at : under_way new ≡ Some f.round =
        subst (λ (n : State). under_way n ≡ Some f.round) (at_b f.to.0 is) running in
        elim (effect.rounds f.round at) [
          | inl old ↦ subst (λ (c : ℕ). under_way (node m.diagram w c) ≡ Some f.round) (sym is) old
          | inr above ↦
              absurd (omega (arith, above, subst (λ (c : ℕ). f.round ≤ (node m.diagram w c).highest) is low))
        ]
  ]

  answers_here : (j : ℕ) (f : Frame) (s : List ℕ) → slice_get (w.sent ++ frames) j ≡ Some f → f.body ≡ Answer s →
      under_way (node m.diagram (posts (at_node w b new) frames) f.to.0) ≡ Some f.round → (i : ℕ) →
      IsSwitchOf m f.from.0 i → Good i (after.beside j i)
  answers_here j f s got body running i own = elim (there_or_new w.sent frames j f got) [
    | inl old ↦
        subst (Good i) (sym (step.before j old.0 i own.0))
        (facts.answers j f s old.1 body (was_running f s (got_there w.sent j f old.1) body running) i own)
    | inr fresh ↦
        let said = effect.answers f s fresh.1 body in
        subst (Good i) (sym (step.beside j f s fresh.0 got body i (own.0, own.1 ∙ (said.from ∙ named))))
        (said_good f s said i own)
  ]

  heard_here : (c : ℕ) (g : Collection) → (node m.diagram (posts (at_node w b new) frames) c).collecting ≡ Some g →
      KnownGood m N word Good (after.known c) g
  heard_here c g has = elim (cases_eq c b) [
    | inr other ↦
        known_same m N word Good (h.known c) (after.known c) g (step.others c other)
        (facts.heard c g (ap (λ (n : State). n.collecting) (sym (away c other)) ∙ has))
    | inl is ↦
        let at : new.collecting ≡ Some g = ap (λ (n : State). n.collecting) (sym (at_b c is)) ∙ has in
        subst (λ (x : ℕ). KnownGood m N word Good (after.known x) g) (sym is)
        (known_same m N word Good step.mid (after.known b) g (step.collected g at)
        (known_here rounds bay message facts step g (effect.heard g at)))
  ]

  -- grants

  -- a vector with the moved switch as its word says is one that the bay knew
  restored : (g : Grant) (r : Released m (node m.diagram w b) event g) (v : List Bool) → new.granted ≡ Some g →
      IsSwitchOf m b g.op.switch.0 → IsVector m.diagram v →
      OwnAgreeBut m b g.op.switch.0 (λ i. word (after.known b i)) v → HeardAllow m b r.round.heard v → (x : Bool) →
      x ≡ agreeing (get_or (node m.diagram w b).words g.op.switch.0 Lost) →
      CannotExclude m (node m.diagram w b).bay (node m.diagram w b).words r.round.heard (set v g.op.switch.0 x)
  restored g r v has at whole agrees allowed x x_is =
      let inside : g.op.switch.0 < length v = omega (arith, whole, at.0) in
      let length_is : IsVector m.diagram (set v g.op.switch.0 x) = length-set v g.op.switch.0 x ∙ whole in
      record {
        whole = length_is;
        own_agree =
            bay_agrees m (node m.diagram w b).bay (node m.diagram w b).words (set v g.op.switch.0 x)
            (λ i own. elim (cases_eq i g.op.switch.0) [
              | inl is ↦
                  subst (λ (j : ℕ). Agrees (get_or (node m.diagram w b).words j Lost)
                  (get_or (set v g.op.switch.0 x) j false)) (sym is)
                  (subst (λ (y : Bool). Agrees (get_or (node m.diagram w b).words g.op.switch.0 Lost) y)
                  (sym (get_or-set_same v g.op.switch.0 x false inside ∙ x_is))
                  (agreeing_agrees (get_or (node m.diagram w b).words g.op.switch.0 Lost)))
              | inr other ↦
                  let mine : bay_of m.diagram i ≡ b = own.1 ∙ named in
                  let note : word (after.known b i) ≡ get_or (node m.diagram w b).words i Lost =
                  ap word (step.granted_own g has r.free i (own.0, mine) other)
                  ∙ (facts.words_are i own.0 ∙ ap (λ (c : ℕ). get_or (node m.diagram w c).words i Lost) mine) in
                  subst (λ (y : Bool). Agrees (get_or (node m.diagram w b).words i Lost) y)
                  (sym (get_or-set_other v g.op.switch.0 i x false other))
                  (subst (λ (y : Dbpos). Agrees y (get_or v i false)) note (agrees i (own.0, mine) other))
            ]);
        heard_allow = λ c t other got. laws.local c t v (set v g.op.switch.0 x) whole length_is
            (λ i of_c. sym (slice_get-set_other v g.op.switch.0 i x
            (λ same. other
            (sym (switch_of m c i of_c).1 ∙ (ap (λ (y : ℕ). bay_of m.diagram y) same ∙ (at.1 ∙ sym named))))))
            (allowed c t (λ mine. other (mine ∙ sym named)) got);
      }

  -- what is heard is of another bay
  not_mine : (g : Grant) (r : Released m (node m.diagram w b) event g) (c : ℕ) (t : List ℕ) →
      slice_get r.round.heard c ≡ Some (Some t) → (i : ℕ) → bay_of m.diagram i ≡ c → bay_of m.diagram i ≢ b
  not_mine g r c t got i own mine =
      let a = sent_for rounds bay message facts step r.round c t r.heard got in
      (rounds.bounds.fit a.frame a.there).receiver.1 (a.to ∙ (sym mine ∙ (own ∙ sym a.from)))

  backed_new : (g : Grant) → new.granted ≡ Some g → Released m (node m.diagram w b) event g →
      Backed m N word Good (w.sent ++ frames) (after.known b) b g
  backed_new g has r =
      let fits = (now.rounds b bay).kept.granted g (ap (λ (n : State). n.granted) here ∙ has) in
      let op : g.op ≡ r.round.op = ap (λ (x : Grant). x.op) r.is in
      let own = switch_of m (node m.diagram (posts (at_node w b new) frames) b).bay g.op.switch.0 fits.own in
      let at : IsSwitchOf m b g.op.switch.0 = (own.0, own.1 ∙ now.shape.named b) in
      let good = known_here rounds bay message facts step r.round r.heard in
      record {
        good = λ i lt differs. elim (cases_eq (bay_of m.diagram i) b) [
          | inl mine ↦
              subst (Good i) (sym (step.granted_own g has r.free i (lt, mine) differs)) (facts.words i lt
              (subst (λ (c : ℕ). NotGranted (node m.diagram w c) i) (sym mine) (λ x is. absurd (cc (is, r.free)))))
          | inr theirs ↦
              subst (Good i) (sym (step.granted_other g has r.free i lt theirs))
              (elim (heard_or_not r.round.heard (bay_of m.diagram i)) [
                | inl p ↦ (good.heard (bay_of m.diagram i) p.0 p.1).good i (lt, refl)
                | inr none ↦ lost i (step.mid i) (good.unheard i lt none)
              ])
        ];
        heard = r.round.heard;
        answers =
            λ c t got. sent_still m N word w.sent frames c b g.round t (subst (λ (x : ℕ). AnswerSent w.sent c b x t)
            (sym (ap (λ (x : Grant). x.round) r.is)) (sent_for rounds bay message facts step r.round c t r.heard got));
        allows =
            λ c t got. allows_same m N word c t step.mid (after.known b)
            (λ i own. step.granted_other g has r.free i own.0 (not_mine g r c t got i own.1))
            (good.heard c t got).allows;
        unheard = λ i lt theirs none. ap word (step.granted_other g has r.free i lt theirs) ∙ good.unheard i lt none;
        none = λ v whole agrees allowed.
            let x : Bool = agreeing (get_or (node m.diagram w b).words g.op.switch.0 Lost) in
            let knows =
            restored g r v has at whole agrees allowed
            (agreeing (get_or (node m.diagram w b).words g.op.switch.0 Lost)) refl in
            let breaks : Breaks m.diagram
            (set v g.op.switch.0 (agreeing (get_or (node m.diagram w b).words g.op.switch.0 Lost))) g.op None =
            subst (λ (y : Op). Breaks m.diagram
            (set v g.op.switch.0 (agreeing (get_or (node m.diagram w b).words g.op.switch.0 Lost))) y None) (sym op)
            (r.none (set v g.op.switch.0 (agreeing (get_or (node m.diagram w b).words g.op.switch.0 Lost))) knows) in
            moved_same m.diagram
            (set v g.op.switch.0 (agreeing (get_or (node m.diagram w b).words g.op.switch.0 Lost))) v g.op None
            (length-set v g.op.switch.0 (agreeing (get_or (node m.diagram w b).words g.op.switch.0 Lost)))
            (λ i other. slice_get-set_other v g.op.switch.0 i
            (agreeing (get_or (node m.diagram w b).words g.op.switch.0 Lost)) other) breaks;
      }

  grants_here : (c : ℕ) (g : Grant) → (node m.diagram (posts (at_node w b new) frames) c).granted ≡ Some g →
      Backed m N word Good (w.sent ++ frames) (after.known c) c g
  grants_here c g has = elim (cases_eq c b) [
    | inr other ↦
        backed_same m N word Good w.sent frames (h.known c) (after.known c) c g (step.others c other)
        (facts.grants c g (ap (λ (n : State). n.granted) (sym (away c other)) ∙ has))
    | inl is ↦
        let at : new.granted ≡ Some g = ap (λ (n : State). n.granted) (sym (at_b c is)) ∙ has in
        subst (λ (x : ℕ). Backed m N word Good (w.sent ++ frames) (after.known x) x g) (sym is)
        (elim (effect.grants g at) [
          | inl old ↦
              backed_same m N word Good w.sent frames (h.known b) (after.known b) b g (step.stays g at old)
              (facts.grants b g old)
          | inr released ↦ backed_new g at released
        ])
  ]

  pub facts_step : TruthFacts m N word Good (posts (at_node w b new) frames) after
  facts_step = record {
    words_are = words_are_here;
    words = words_here;
    made = made_here;
    answers = answers_here;
    heard = heard_here;
    grants = grants_here;
  }
