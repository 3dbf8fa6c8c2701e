-- What a step of a node does to its words, its grant, what it has heard, and the Answers that it sends.
use Rattle.std.proofs.Common.{◌⊎◌, ◌≡◌, ◌<◌, ℕ, List, [], ◌∷◌, length, get_or, set, replicate, Option, Some, None}
use Rattle.std.proofs.Common.{Contains, refl, sym, subst, ap, ◌∙◌, inl, inr, arith, get_or-set_same}
use Rattle.std.proofs.lemmas.Option.{slice_get_within}
use Rattle.ilk_base.specs.declared.words.Dbpos.{Dbpos}
use Rattle.ilk_base.specs.declared.words.Dbpos.TheVariants.{Lost}
use Rattle.station_graph.specs.Diagram.{Diagram, part_count}
use Rattle.central_rules.specs.declared.verdict.Verdict.TheVariants.{Release}
use Rattle.central_rules.specs.Meaning.{Meaning, Summarises}
use Rattle.bay_frames.specs.declared.frame.Frame.{Frame}
use Rattle.bay_frames.specs.declared.frame.Body.{Body}
use Rattle.bay_frames.specs.declared.frame.Body.TheVariants.{Reserve, Answer, Over}
use Rattle.bay_protocol.specs.declared.values.Grant.{Grant}
use Rattle.bay_protocol.specs.declared.values.Collection.{Collection}
use Rattle.bay_protocol.specs.declared.values.Outcome.{Outcome}
use Rattle.bay_protocol.specs.declared.values.NodeEvent.{NodeEvent}
use Rattle.bay_protocol.specs.declared.values.NodeEvent.TheVariants.{Command as Commanded, Sense as Sensing}
use Rattle.bay_protocol.specs.declared.values.NodeEvent.TheVariants.{Frame as Arrival, Tick as Ticking}
use Rattle.bay_protocol.specs.declared.values.NodeEvent.TheVariants.{Withdraw as Withdrawing, Restart as Restarting}
use Rattle.bay_protocol.specs.declared.values.NodeEvent.TheVariants.{Cut as Cutting}
use Rattle.bay_protocol.specs.Sends.{frame, to_each, overs}
use Rattle.bay_protocol.specs.State.{State, others, under_way, under_way_of, collects, grants, drops}
use Rattle.bay_protocol.specs.State.{hears, senses, ends}
use Rattle.bay_protocol.specs.Fits.{IsNode, IsOwn}
use Rattle.bay_protocol.specs.Step.{Turn, StepEnds, Deciding, IsVerdict}
use Rattle.bay_protocol.specs.Counts.{Counts}
use Rattle.reservation_core.proofs.Nodes.{get_set}
use Rattle.reservation_core.proofs.Rounds.{dropped_round, ended_round}
use Rattle.reservation_core.proofs.Steps.{contains_cons, none_there}

-- the word was read at this event
abbrev pub IsSensed : NodeEvent → ℕ → Dbpos → Type 0
IsSensed (Sensing j word) i now = (j.0 ≡ i) × (now ≡ word)
IsSensed (Commanded op) i now = ⊥
IsSensed (Arrival f) i now = ⊥
IsSensed Ticking i now = ⊥
IsSensed Withdrawing i now = ⊥
IsSensed Restarting i now = ⊥
IsSensed (Cutting j) i now = ⊥

abbrev pub IsNewWord : NodeEvent → ℕ → Dbpos → Type 0
IsNewWord event i now = (now ≡ Lost) ⊎ IsSensed event i now

-- an Answer comes that the node counts
abbrev pub CountsAt : Meaning → State → NodeEvent → Type 0
CountsAt m old (Arrival f) = Counts m m.diagram old f
CountsAt m old (Commanded op) = ⊥
CountsAt m old (Sensing j word) = ⊥
CountsAt m old Ticking = ⊥
CountsAt m old Withdrawing = ⊥
CountsAt m old Restarting = ⊥
CountsAt m old (Cutting j) = ⊥

-- nobody was heard
abbrev pub nobody : Diagram → List (Option (List ℕ))
nobody d = replicate (part_count d) None

-- where what a round has heard comes from
pub data HeardFrom (m : Meaning) (old : State) (event : NodeEvent) (g : Collection) : Type 0 where
  kept : old.collecting ≡ Some g → ¬ CountsAt m old event → HeardFrom m old event g
  opened : old.collecting ≡ None → g.heard ≡ nobody m.diagram → HeardFrom m old event g
  one_more : (h : Collection) (f : Frame) (s : List ℕ) → event ≡ Arrival f → Counts m m.diagram old f →
      f.body ≡ Answer s → old.collecting ≡ Some h → h.round ≡ f.round → g ≡ hears h f.from.0 s → HeardFrom m old event g

abbrev pub grant_of : Collection → Grant
grant_of g = record { round = g.round; op = g.op }

-- the operation was released at this step
pub record Released (m : Meaning) (old : State) (event : NodeEvent) (g : Grant) : Type 0 where
  pub round : Collection
  pub is : g ≡ grant_of round
  pub free : old.granted ≡ None
  pub heard : HeardFrom m old event round
  pub none : IsVerdict m old round Release

-- a Reserve comes
abbrev pub IsAsked : NodeEvent → Type 0
IsAsked (Arrival f) = f.body ≡ Reserve
IsAsked (Commanded op) = ⊥
IsAsked (Sensing j word) = ⊥
IsAsked Ticking = ⊥
IsAsked Withdrawing = ⊥
IsAsked Restarting = ⊥
IsAsked (Cutting j) = ⊥

-- an Answer is made of the words of a free bay that a Reserve reaches
pub record Said (m : Meaning) (old : State) (event : NodeEvent) (f : Frame) (s : List ℕ) : Type 0 where
  pub asked : IsAsked event
  pub from : f.from.0 ≡ old.bay
  pub idle : under_way old ≡ None
  pub sums : Summarises m old.bay f.to.0 old.words s

pub record Effect (m : Meaning) (old : State) (event : NodeEvent) (new : State) (frames : List Frame) : Type 0 where
  pub counted : CountsAt m old event ⊎ ¬ CountsAt m old event
  pub words : (i : ℕ) →
      (get_or new.words i Lost ≡ get_or old.words i Lost) ⊎ IsNewWord event i (get_or new.words i Lost)
  pub grants : (g : Grant) → new.granted ≡ Some g → (old.granted ≡ Some g) ⊎ Released m old event g
  pub freed : (g : Grant) → old.granted ≡ Some g →
      (new.granted ≡ Some g) ⊎ IsNewWord event g.op.switch.0 (get_or new.words g.op.switch.0 Lost)
  pub heard : (g : Collection) → new.collecting ≡ Some g → HeardFrom m old event g
  pub rounds : (q : ℕ) → under_way new ≡ Some q → (under_way old ≡ Some q) ⊎ (old.highest < q)
  pub answers : (f : Frame) (s : List ℕ) → Contains frames f → f.body ≡ Answer s → Said m old event f s
  pub alone : (f : Frame) (s : List ℕ) → Contains frames f → f.body ≡ Answer s → length frames ≡ 1

-- an Answer counts for no node that collects nothing
idle_uncounted : (m : Meaning) (old : State) (event : NodeEvent) → old.collecting ≡ None → ¬ CountsAt m old event
idle_uncounted m old (Arrival f) idle counts = cc (idle, counts.collects)
idle_uncounted m old (Commanded op) idle never = never
idle_uncounted m old (Sensing j word) idle never = never
idle_uncounted m old Ticking idle never = never
idle_uncounted m old Withdrawing idle never = never
idle_uncounted m old Restarting idle never = never
idle_uncounted m old (Cutting j) idle never = never

counted_of : (m : Meaning) (old : State) (event : NodeEvent) (g : Collection) → HeardFrom m old event g →
    CountsAt m old event ⊎ ¬ CountsAt m old event
counted_of m old event g (HeardFrom.kept has uncounted) = inr uncounted
counted_of m old event g (HeardFrom.opened idle nothing) = inr (idle_uncounted m old event idle)
counted_of m old event g (HeardFrom.one_more h f s is counts body has round same) =
    inl (subst (CountsAt m old) (sym is) counts)

-- ---- frames

same_body : (b r : ℕ) (body : Body) (tos : List ℕ) (f : Frame) → Contains (to_each b r body tos) f → f.body ≡ body
same_body b r body [] f there = absurd (none_there f there)
same_body b r body (x ∷ xs) f there = elim (contains_cons (frame b x r body) (to_each b r body xs) f there) [
  | inl is ↦ ap (λ (y : Frame). y.body) (sym is)
  | inr later ↦ same_body b r body xs f later
]

abbrev NoAnswer : List Frame → Type 0
NoAnswer frames = (f : Frame) (s : List ℕ) → Contains frames f → f.body ≡ Answer s → ⊥

pub no_frame : NoAnswer []
no_frame f s there is = none_there f there

pub no_each : (b r : ℕ) (body : Body) (tos : List ℕ) → ((s : List ℕ) → body ≡ Answer s → ⊥) →
    NoAnswer (to_each b r body tos)
no_each b r body tos never f s there is = never s (sym (same_body b r body tos f there) ∙ is)

no_over : (d : Diagram) (s : State) (r : ℕ) → NoAnswer (overs d s r)
no_over d s r = no_each s.bay r Over (others d s.bay) (λ t is. cc is)

pub one_frame : (g : Frame) → ((s : List ℕ) → g.body ≡ Answer s → ⊥) → NoAnswer (g ∷ [])
one_frame g never f s there is = elim (contains_cons g [] f there) [
  | inl same ↦ never s (subst (λ (x : Frame). x.body ≡ Answer s) (sym same) is)
  | inr none ↦ none_there f none
]

-- a switch of the node has a word
has_word : (d : Diagram) (s : State) (i : ℕ) → IsNode d s → IsOwn d s.bay i → i < length s.words
has_word d s i ok own =
    let lt : i < length d.switches = slice_get_within d.switches i own.0 own.1 in
    omega (arith, ok.words, lt)

-- a round decides, in a state s that differs from the old one in its round alone
pub record RoundOf (old s : State) : Type 0 where
  pub bay : s.bay ≡ old.bay
  pub words : s.words ≡ old.words
  pub granted : s.granted ≡ old.granted

module _ (m : Meaning) (old : State) (event : NodeEvent) (turn : Turn) (ok : IsNode m.diagram old) where
  abbrev EffectOf : Type 0
  EffectOf = Effect m old event turn.new turn.frames

  pub ended : (new : State) (outcome : Outcome) (frames : List Frame) → StepEnds turn new outcome frames →
      Effect m old event new frames → EffectOf
  ended new outcome frames end effect = rw (end.state, end.sends) effect

  -- nothing but frames that are no Answers
  pub still : (outcome : Outcome) (frames : List Frame) → ¬ CountsAt m old event → NoAnswer frames →
      StepEnds turn old outcome frames → EffectOf
  still outcome frames uncounted none end = ended old outcome frames end (record {
    counted = inr uncounted;
    words = λ i. inl refl;
    grants = λ g is. inl is;
    freed = λ g is. inl is;
    heard = λ g is. HeardFrom.kept is uncounted;
    rounds = λ q is. inl is;
    answers = λ f s there is. absurd (none f s there is);
    alone = λ f s there is. absurd (none f s there is);
  })

  pub dropped : (outcome : Outcome) (r : ℕ) → ¬ CountsAt m old event →
      StepEnds turn (drops old) outcome (overs m.diagram old r) → EffectOf
  dropped outcome r uncounted end = ended (drops old) outcome (overs m.diagram old r) end (record {
    counted = inr uncounted;
    words = λ i. inl refl;
    grants = λ g is. inl is;
    freed = λ g is. inl is;
    heard = λ g is. absurd (cc is);
    rounds = λ q is. inl (dropped_round old.collecting old.granted q (λ g has. (ok.collecting g has).no_grant) is);
    answers = λ f s there is. absurd (no_over m.diagram old r f s there is);
    alone = λ f s there is. absurd (no_over m.diagram old r f s there is);
  })

  pub decided : (s : State) (g : Collection) → RoundOf old s → old.granted ≡ None → HeardFrom m old event g →
      (under_way old ≡ Some g.round) ⊎ (old.highest < g.round) → Deciding m m.diagram s g turn → EffectOf
  decided s g same free heard round (Deciding.release none end) = ended (grants s g) _ [] end (record {
    counted = counted_of m old event g heard;
    words = λ i. elim (get_set s.words g.op.switch.0 Lost i Lost) [
      | inl p ↦ inr (inl p.1)
      | inr p ↦ inl (p ∙ ap (λ (x : List Dbpos). get_or x i Lost) same.words)
    ];
    grants = λ k is. inr (record {
      round = g;
      is = let e : k ≡ grant_of g = cc is in e;
      free = free;
      heard = heard;
      none = rw (← same.bay, ← same.words) none;
    });
    freed = λ k is. absurd (cc (is, free));
    heard = λ k is. absurd (cc is);
    rounds = λ q is.
        let e : g.round ≡ q = cc is in
        subst (λ (x : ℕ). (under_way old ≡ Some x) ⊎ (old.highest < x)) e round;
    answers = λ f t there is. absurd (no_frame f t there is);
    alone = λ f t there is. absurd (no_frame f t there is);
  })
  decided s g same free heard round (Deciding.denial rule v verdict end) =
      ended (drops s) _ (overs m.diagram s g.round) end (record {
        counted = counted_of m old event g heard;
        words = λ i. inl (ap (λ (x : List Dbpos). get_or x i Lost) same.words);
        grants = λ k is. inl (sym same.granted ∙ is);
        freed = λ k is. inl (same.granted ∙ is);
        heard = λ k is. absurd (cc is);
        rounds = λ q is.
            let none : under_way_of None s.granted ≡ None = ap (λ x. under_way_of None x) (same.granted ∙ free) in
            absurd (cc (none, is));
        answers = λ f t there is. absurd (no_over m.diagram s g.round f t there is);
        alone = λ f t there is. absurd (no_over m.diagram s g.round f t there is);
      })

  -- a granted operation ends with a new word of its switch
  pub finished : (outcome : Outcome) (g : Grant) (i : ℕ) (word : Dbpos) → ¬ CountsAt m old event →
      old.granted ≡ Some g → g.op.switch.0 ≡ i → IsNewWord event i word →
      StepEnds turn (ends (senses old i word)) outcome (overs m.diagram old g.round) → EffectOf
  finished outcome g i word uncounted has switch fresh_word end =
      let inside : i < length old.words =
      subst (λ (x : ℕ). x < length old.words) switch
      (has_word m.diagram old g.op.switch.0 ok (ok.kept.granted g has).own) in
      ended (ends (senses old i word)) outcome (overs m.diagram old g.round) end (record {
        counted = inr uncounted;
        words = λ j. elim (get_set old.words i word j Lost) [
          | inl p ↦
              inr (subst (λ (x : Dbpos). IsNewWord event j x) (sym p.1)
              (subst (λ (x : ℕ). IsNewWord event x word) (sym p.0) fresh_word))
          | inr p ↦ inl p
        ];
        grants = λ k is. absurd (cc is);
        freed = λ k is.
            let e : k ≡ g = cc (is, has) in
            let at : k.op.switch.0 ≡ i = ap (λ (x : Grant). x.op.switch.0) e ∙ switch in
            inr (subst (λ (x : ℕ). IsNewWord event x (get_or (set old.words i word) x Lost)) (sym at)
            (subst (λ (x : Dbpos). IsNewWord event i x) (sym (get_or-set_same old.words i word Lost inside))
            fresh_word));
        heard = λ k is. HeardFrom.kept is uncounted;
        rounds = λ q is. inl (ended_round old.collecting old.granted q is);
        answers = λ f s there is. absurd (no_over m.diagram old g.round f s there is);
        alone = λ f s there is. absurd (no_over m.diagram old g.round f s there is);
      })

  -- the words are as they were, and only what has been said is changed
  pub changed : (new : State) (outcome : Outcome) (frames : List Frame) →
      CountsAt m old event ⊎ ¬ CountsAt m old event → StepEnds turn new outcome frames → new.words ≡ old.words →
      new.granted ≡ old.granted →
      ((g : Collection) → new.collecting ≡ Some g → HeardFrom m old event g) →
      ((q : ℕ) → under_way new ≡ Some q → (under_way old ≡ Some q) ⊎ (old.highest < q)) → NoAnswer frames → EffectOf
  changed new outcome frames counted end words granted heard rounds none = ended new outcome frames end (record {
    counted = counted;
    words = λ i. inl (ap (λ (x : List Dbpos). get_or x i Lost) words);
    grants = λ g is. inl (sym granted ∙ is);
    freed = λ g is. inl (granted ∙ is);
    heard = heard;
    rounds = rounds;
    answers = λ f s there is. absurd (none f s there is);
    alone = λ f s there is. absurd (none f s there is);
  })
