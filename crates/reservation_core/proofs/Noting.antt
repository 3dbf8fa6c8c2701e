-- Notes that are kept so are a step of what is held.
use Rattle.std.proofs.Common.{◌⊎◌, ◌≡◌, ◌≢◌, ◌<◌, ◌≤◌, ◌==◌, cond, ℕ, Bool, true, false, List, ◌++◌, length, get_or}
use Rattle.std.proofs.Common.{slice_get, Option, Some, None, refl, sym, subst, ap, ◌∙◌, inl, inr}
use Rattle.std.proofs.lemmas.Bool.{cases_Bool}
use Rattle.std.proofs.lemmas.Bool.Decides.{eqb_tells}
use Rattle.ilk_base.specs.declared.words.Dbpos.{Dbpos}
use Rattle.ilk_base.specs.declared.words.Dbpos.TheVariants.{Lost}
use Rattle.central_rules.specs.Meaning.{Meaning, bay_of}
use Rattle.bay_frames.specs.declared.frame.Frame.{Frame}
use Rattle.bay_frames.specs.declared.frame.Body.TheVariants.{Answer}
use Rattle.bay_protocol.specs.declared.values.Grant.{Grant}
use Rattle.bay_protocol.specs.declared.values.Collection.{Collection}
use Rattle.bay_protocol.specs.declared.values.NodeEvent.{NodeEvent}
use Rattle.bay_protocol.specs.declared.values.NodeEvent.TheVariants.{Command as Commanded, Sense as Sensing}
use Rattle.bay_protocol.specs.declared.values.NodeEvent.TheVariants.{Frame as Arrival, Tick as Ticking}
use Rattle.bay_protocol.specs.declared.values.NodeEvent.TheVariants.{Withdraw as Withdrawing, Restart as Restarting}
use Rattle.bay_protocol.specs.declared.values.NodeEvent.TheVariants.{Cut as Cutting}
use Rattle.bay_protocol.specs.State.{State}
use Rattle.bay_protocol.specs.Counts.{Counts}
use Rattle.reservation_core.specs.Scene.{Scene, node}
use Rattle.reservation_core.specs.Held.{Held, IsSwitchOf}
use Rattle.reservation_core.proofs.StepEffect.{CountsAt, IsSensed, IsNewWord}
use Rattle.reservation_core.proofs.KnownNotes.{HeldStep}

-- at a message that counts, the notes beside it are those of its bay's switches
abbrev pub comes : (N : Type 0) → NodeEvent → ℕ → N → N → N
comes N (Arrival f) bay beside known = cond (bay == f.from.0) beside known
comes N (Commanded op) bay beside known = known
comes N (Sensing i word) bay beside known = known
comes N Ticking bay beside known = known
comes N Withdrawing bay beside known = known
comes N Restarting bay beside known = known
comes N (Cutting i) bay beside known = known

-- nothing is known where no round was collected
abbrev pub heard_of : (N : Type 0) → N → Option Collection → Bool → NodeEvent → ℕ → N → N → N
heard_of N lost None counted event bay beside known = lost
heard_of N lost (Some g) false event bay beside known = known
heard_of N lost (Some g) true event bay beside known = comes N event bay beside known

-- at a grant the own notes come to it
abbrev pub known_of : (N : Type 0) → Option Collection → Option Grant → ℕ → ℕ → N → N → N → N
known_of N (Some g) old bay b own mid known = mid
known_of N None (Some g) bay b own mid known = known
known_of N None None bay b own mid known = cond (bay == b) own mid

-- what bay c knows of switch i after a step of node b, at which an Answer counted or not, and which leaves the
-- node in this state
abbrev pub known_after : (m : Meaning) → (N : Type 0) → N → Scene → ℕ → ℕ → NodeEvent → Bool → State → Held N → ℕ → ℕ →
    N
known_after m N lost w b k event counted new h c i =
    cond (c == b)
    (known_of N new.collecting (node m.diagram w b).granted (bay_of m.diagram i) b (h.own i)
    (heard_of N lost (node m.diagram w b).collecting counted event (bay_of m.diagram i) (h.beside k i) (h.known b i))
    (h.known b i))
    (h.known c i)

if_same : {X : Type 0} (a b : ℕ) (x y : X) → a ≡ b → cond (a == b) x y ≡ x
if_same a b x y is = elim (eqb_tells a b) [ inl p ↦ rw p.0 refl | inr p ↦ absurd (p.1 is) ]

if_other : {X : Type 0} (a b : ℕ) (x y : X) → a ≢ b → cond (a == b) x y ≡ y
if_other a b x y differs = elim (eqb_tells a b) [ inl p ↦ absurd (differs p.1) | inr p ↦ rw p.0 refl ]

heard_kept : (N : Type 0) (lost : N) (x : Option Collection) (counted : Bool) (event : NodeEvent) (bay : ℕ)
    (beside known : N) (g : Collection) → x ≡ Some g → counted ≡ false →
    heard_of N lost x counted event bay beside known ≡ known
heard_kept N lost x counted event bay beside known g has none = rw (has, none) refl

heard_none : (N : Type 0) (lost : N) (x : Option Collection) (counted : Bool) (event : NodeEvent) (bay : ℕ)
    (beside known : N) → x ≡ None → heard_of N lost x counted event bay beside known ≡ lost
heard_none N lost x counted event bay beside known none = rw none refl

heard_new : (N : Type 0) (lost : N) (x : Option Collection) (counted : Bool) (event : NodeEvent) (bay : ℕ)
    (beside known : N) (g : Collection) (f : Frame) → x ≡ Some g → counted ≡ true → event ≡ Arrival f →
    heard_of N lost x counted event bay beside known ≡ cond (bay == f.from.0) beside known
heard_new N lost x counted event bay beside known g f has is arrives = rw (has, is, arrives) refl

known_mid : (N : Type 0) (x : Option Collection) (old : Option Grant) (bay b : ℕ) (own mid known : N) (g : Collection) →
    x ≡ Some g → known_of N x old bay b own mid known ≡ mid
known_mid N x old bay b own mid known g has = rw has refl

known_stays : (N : Type 0) (x : Option Collection) (old : Option Grant) (bay b : ℕ) (own mid known : N) (g : Grant) →
    x ≡ None → old ≡ Some g → known_of N x old bay b own mid known ≡ known
known_stays N x old bay b own mid known g none has = rw (none, has) refl

known_granted : (N : Type 0) (x : Option Collection) (old : Option Grant) (bay b : ℕ) (own mid known : N) → x ≡ None →
    old ≡ None → known_of N x old bay b own mid known ≡ cond (bay == b) own mid
known_granted N x old bay b own mid known none free = rw (none, free) refl

which : (x : Option Collection) → ((g : Collection) × (x ≡ Some g)) ⊎ (x ≡ None)
which None = inr refl
which (Some g) = inl (g, refl)

module _ (m : Meaning) (N : Type 0) (word : N → Dbpos) (Good : ℕ → N → Type 0) (lost : N) (w : Scene) (b k : ℕ)
    (event : NodeEvent) (counted : Bool) (new : State) (frames : List Frame) (h after : Held N) where
  -- what a step of the notes is to be, but for what is known
  pub record NoteStep : Type 0 where
    pub words_are : (i : ℕ) → IsSwitchOf m b i → word (after.own i) ≡ get_or new.words i Lost
    pub elsewhere : (i : ℕ) → i < length m.diagram.switches → bay_of m.diagram i ≢ b → after.own i ≡ h.own i
    pub own : (i : ℕ) → IsSwitchOf m b i → (after.own i ≡ h.own i) ⊎ IsNewWord event i (word (after.own i))
    pub sensed : (i : ℕ) → i < length m.diagram.switches → IsSensed event i (word (after.own i)) → Good i (after.own i)
    pub before : (j : ℕ) → j < length w.sent → (i : ℕ) → i < length m.diagram.switches → after.beside j i ≡ h.beside j i
    pub beside : (j : ℕ) (f : Frame) (s : List ℕ) → length w.sent ≤ j → slice_get (w.sent ++ frames) j ≡ Some f →
        f.body ≡ Answer s → (i : ℕ) → IsSwitchOf m b i → after.beside j i ≡ h.own i

  pub held_step : word lost ≡ Lost → (counted ≡ true → CountsAt m (node m.diagram w b) event) →
      (counted ≡ false → ¬ CountsAt m (node m.diagram w b) event) →
      ((g : Collection) → new.collecting ≡ Some g → new.granted ≡ None) → NoteStep →
      ((c i : ℕ) → i < length m.diagram.switches →
      after.known c i ≡ known_after m N lost w b k event counted new h c i) →
      HeldStep m N word Good w b k event new frames h after
  held_step lost_is when_true when_false alone notes known =
      let here : (i : ℕ) → i < length m.diagram.switches →
      after.known b i
      ≡ known_of N new.collecting (node m.diagram w b).granted (bay_of m.diagram i) b (h.own i) (heard_of N lost
      (node m.diagram w b).collecting counted event (bay_of m.diagram i) (h.beside k i) (h.known b i)) (h.known b i) =
      λ i lt. known b i lt ∙ if_same b b _ (h.known b i) refl in
      let no_round : (g : Grant) → new.granted ≡ Some g → new.collecting ≡ None = λ g has. elim (which new.collecting) [
        | inl p ↦ absurd (cc (alone p.0 p.1, has))
        | inr none ↦ none
      ] in
      let uncounted : ¬ CountsAt m (node m.diagram w b) event → counted ≡ false = λ never. elim (cases_Bool counted) [
        | inl is ↦ absurd (never (when_true is))
        | inr is ↦ is
      ] in
      let is_counted : (f : Frame) → event ≡ Arrival f → Counts m m.diagram (node m.diagram w b) f → counted ≡ true =
      λ f is counts. elim (cases_Bool counted) [
        | inl it ↦ it
        | inr not ↦ absurd (when_false not (subst (CountsAt m (node m.diagram w b)) (sym is) counts))
      ] in
      record {
        words_are = notes.words_are;
        elsewhere = notes.elsewhere;
        own = notes.own;
        sensed = notes.sensed;
        before = notes.before;
        beside = notes.beside;
        others = λ c other i lt. known c i lt ∙ if_other c b _ (h.known c i) other;
        mid =
            λ i. heard_of N lost (node m.diagram w b).collecting counted event (bay_of m.diagram i) (h.beside k i)
            (h.known b i);
        same =
            λ g has never i lt. heard_kept N lost (node m.diagram w b).collecting counted event (bay_of m.diagram i)
            (h.beside k i) (h.known b i) g has (uncounted never);
        fresh =
            λ none i lt. ap word (heard_none N lost (node m.diagram w b).collecting counted event (bay_of m.diagram i)
            (h.beside k i) (h.known b i) none) ∙ lost_is;
        come =
            λ f is counts i own. heard_new N lost (node m.diagram w b).collecting counted event (bay_of m.diagram i)
            (h.beside k i) (h.known b i) counts.round f counts.collects (is_counted f is counts) is
            ∙ if_same (bay_of m.diagram i) f.from.0 (h.beside k i) (h.known b i) own.1;
        passed =
            λ f is counts i lt own. heard_new N lost (node m.diagram w b).collecting counted event (bay_of m.diagram i)
            (h.beside k i) (h.known b i) counts.round f counts.collects (is_counted f is counts) is
            ∙ if_other (bay_of m.diagram i) f.from.0 (h.beside k i) (h.known b i) own;
        collected =
            λ g has i lt. here i lt
            ∙ known_mid N new.collecting (node m.diagram w b).granted (bay_of m.diagram i) b (h.own i) _ (h.known b i)
            g has;
        stays =
            λ g has was i lt. here i lt
            ∙ known_stays N new.collecting (node m.diagram w b).granted (bay_of m.diagram i) b (h.own i) _ (h.known b i)
            g (no_round g has) was;
        granted_own =
            λ g has free i own other. here i own.0
            ∙ (known_granted N new.collecting (node m.diagram w b).granted (bay_of m.diagram i) b (h.own i) _
            (h.known b i) (no_round g has) free ∙ if_same (bay_of m.diagram i) b (h.own i) _ own.1);
        granted_other =
            λ g has free i lt own. here i lt
            ∙ (known_granted N new.collecting (node m.diagram w b).granted (bay_of m.diagram i) b (h.own i) _
            (h.known b i) (no_round g has) free ∙ if_other (bay_of m.diagram i) b (h.own i) _ own);
      }
