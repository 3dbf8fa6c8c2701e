-- What is kept of a world, whatever happens to its scene.
use Rattle.std.proofs.Common.{◌≡◌, ◌+◌, ◌<◌, ◌≤◌, ◌++◌, ◌↔◌, ℕ, zero, suc, List, [], ◌∷◌, length, map, drop, slice_get}
use Rattle.std.proofs.Common.{Option, Some, Contains, inl, inr, Result, Ok, Err, refl, sym, subst, ap, ◌∙◌, arith}
use Rattle.std.specs.Prelude.{IfOk, OnErr}
use Rattle.std.proofs.Math.Seq.{drop-length}
use Rattle.std.proofs.lemmas.List.{length-append, length-map, length-drop, append-nil}
use Rattle.ilk_base.specs.declared.words.Dbpos.{Dbpos}
use Rattle.station_graph.specs.Diagram.{Diagram, IsStation}
use Rattle.station_graph.specs.declared.limits.TheConstants.{BAYS}
use Rattle.central_rules.specs.Meaning.{Meaning, Laws}
use Rattle.bay_frames.specs.declared.frame.Frame.{Frame}
use Rattle.bay_frames.specs.declared.frame.Body.{Body}
use Rattle.bay_frames.specs.declared.frame.Body.TheVariants.{Answer}
use Rattle.reservation_core.specs.Scene.{Scene, node, true_at, IsTrueWord}
use Rattle.reservation_core.specs.World.{World, WorldRounds, WorldFacts, WordsHeld, AreWordsKept, KeepsWords}
use Rattle.reservation_core.specs.World.{OutputFits, kept_beside, words_beside, sent_since}
use Rattle.reservation_core.specs.Beside.{AnswersAlone}
use Rattle.reservation_core.specs.Facts.{IsSoundTruth}
use Rattle.reservation_core.specs.Happens.{Happens, InRange}
use Rattle.reservation_core.specs.Premises.{BreaksPremise}
use Rattle.reservation_core.specs.RoundFacts.{RoundFacts}
use Rattle.reservation_core.specs.declared.values.Which.{Which}
use Rattle.reservation_core.specs.declared.values.WorldEvent.{WorldEvent}
use Rattle.reservation_core.specs.declared.values.WorldOutcome.{WorldOutcome}
use Rattle.reservation_core.specs.declared.values.WorldOutcome.TheVariants.{Premise}
use Rattle.reservation_core.proofs.Keeping.{happens_keeps}
use Rattle.reservation_core.proofs.Plain.{Next, keeps_truth}
use Rattle.reservation_core.proofs.TrueWords.{obeys_first_two}
use Rattle.reservation_core.proofs.AlikeNotes.{there_or_new}
use Rattle.reservation_core.proofs.Soundness.{happens_sound}
use Rattle.reservation_core.proofs.Ways.{Way, way, premise_same}
use Rattle.reservation_core.proofs.Gives.{gives}
use Rattle.reservation_core.proofs.Exact.{exact}
use Rattle.reservation_core.proofs.Added.{Added, since}

-- no message is lost
pub record Longer (old new : Scene) : Type 0 where
  pub frames : List Frame
  pub is : new.sent ≡ old.sent ++ frames

as_long : (old new : Scene) → new.sent ≡ old.sent → Longer old new
as_long old new same = record { frames = []; is = same ∙ sym (append-nil old.sent) }

way_longer : (m : Meaning) (old new : Scene) (event : WorldEvent) (outcome : WorldOutcome) →
    Way m old event new outcome → Longer old new
way_longer m old new event outcome (Way.refused which same says) = as_long old new (ap (λ (w : Scene). w.sent) same)
way_longer m old new event outcome (Way.nothing same none fits) = as_long old new (ap (λ (w : Scene). w.sent) same)
way_longer m old new event outcome (Way.turns c some fair s) = record {
  frames = s.turn.frames;
  is = ap (λ (w : Scene). w.sent) s.world;
}
way_longer m old new event outcome (Way.drives i g at running none lt has switch is says) =
    as_long old new (ap (λ (w : Scene). w.sent) is)
way_longer m old new event outcome (Way.cuts i c some fair s) = record {
  frames = s.turn.frames;
  is = ap (λ (w : Scene). w.sent) s.world;
}

longer : (m : Meaning) (station : IsStation m.diagram) (old new : Scene) (event : WorldEvent)
    (outcome : WorldOutcome) → RoundFacts m old → InRange m.diagram event → Happens m old event new outcome →
    Longer old new
longer m station old new event outcome rounds range happens =
    way_longer m old new event outcome (way m station old new outcome rounds event range happens)

pub grows : (m : Meaning) (station : IsStation m.diagram) (old new : Scene) (event : WorldEvent)
    (outcome : WorldOutcome) → RoundFacts m old → InRange m.diagram event → Happens m old event new outcome →
    length old.sent ≤ length new.sent
grows m station old new event outcome rounds range happens =
    let it = longer m station old new event outcome rounds range happens in
    let more = ap length it.is ∙ length-append old.sent it.frames in
    omega (arith, more)

-- ---- what stands beside a message

-- what stands in the front of a list
left_get : {X : Type 0} (xs ys : List X) (k : ℕ) → k < length xs → slice_get (xs ++ ys) k ≡ slice_get xs k
left_get [] ys k low = absurd (omega (arith, low))
left_get (x ∷ xs) ys zero low = refl
left_get (x ∷ xs) ys (suc k) low = left_get xs ys k (omega (arith, low))

map_get : {X Y : Type 0} (g : X → Y) (xs : List X) (k : ℕ) (x : X) → slice_get xs k ≡ Some x →
    slice_get (map g xs) k ≡ Some (g x)
map_get g [] k x got = absurd (cc got)
map_get g (y ∷ ys) zero x got = let e : y ≡ x = cc got in ap (λ z. Some (g z)) e
map_get g (y ∷ ys) (suc k) x got = map_get g ys k x got

-- what is made of what was added
added_get : {X Y : Type 0} (g : X → Y) (bs : List Y) (xs zs : List X) (k : ℕ) (x : X) → length bs ≡ length xs →
    length xs ≤ k → slice_get zs k ≡ Some x → slice_get (bs ++ map g (drop (length xs) zs)) k ≡ Some (g x)
added_get g [] [] zs k x same low got = map_get g zs k x got
added_get g [] (y ∷ xs) zs k x same low got = absurd (omega (arith, same))
added_get g (b ∷ bs) [] zs k x same low got = absurd (omega (arith, same))
added_get g (b ∷ bs) (y ∷ xs) [] k x same low got = absurd (cc got)
added_get g (b ∷ bs) (y ∷ xs) (z ∷ zs) zero x same low got = absurd (omega (arith, low))
added_get g (b ∷ bs) (y ∷ xs) (z ∷ zs) (suc k) x same low got =
    added_get g bs xs zs k x (omega (arith, same)) (omega (arith, low)) got

kept_answer : (words : List Dbpos) (body : Body) (s : List ℕ) → body ≡ Answer s →
    kept_beside (Some words) body ≡ Some words
kept_answer words body s is = rw is refl

module _ (m : Meaning) (old new : World) (facts : WorldFacts m old)
    (next : Next m old.scene new.scene facts.facts.truth) (more : Longer old.scene new.scene)
    (keeps : KeepsWords m.diagram old new) where
  before_held : (k : ℕ) (f : Frame) (s : List ℕ) → k < length old.scene.sent → slice_get old.scene.sent k ≡ Some f →
      f.body ≡ Answer s → WordsHeld m new next.now.held.beside k f s
  before_held k f s low got body =
      let was = facts.words k f s got body in
      record {
        words = was.words;
        kept =
            ap (λ xs. slice_get xs k) keeps
            ∙ (left_get old.beside (map (words_beside m.diagram old.scene) (sent_since old.scene new.scene)) k
            (omega (arith, low, facts.count)) ∙ was.kept);
        made = was.made;
        held = λ i own. next.stay k i low own.0 ∙ was.held i own;
      }

  new_held : (k : ℕ) (f : Frame) (s : List ℕ) → length old.scene.sent ≤ k → slice_get new.scene.sent k ≡ Some f →
      f.body ≡ Answer s → WordsHeld m new next.now.held.beside k f s
  new_held k f s late got body = record {
    words = (node m.diagram old.scene f.from.0).words;
    kept =
        ap (λ xs. slice_get xs k) keeps
        ∙ (added_get (words_beside m.diagram old.scene) old.beside old.scene.sent new.scene.sent k f facts.count
        late got
        ∙ ap (λ x. Some x) (kept_answer (node m.diagram old.scene f.from.0).words f.body s body));
    made = next.sums k f s late got body;
    held = λ i own. next.fresh k f s late got body i own;
  }

  words_held : (k : ℕ) (f : Frame) (s : List ℕ) → slice_get new.scene.sent k ≡ Some f → f.body ≡ Answer s →
      WordsHeld m new next.now.held.beside k f s
  words_held k f s got body =
      elim (there_or_new old.scene.sent more.frames k f (ap (λ xs. slice_get xs k) (sym more.is) ∙ got)) [
        | inl p ↦ before_held k f s p.0 p.1 body
        | inr p ↦ new_held k f s p.0 got body
      ]

-- what is kept beside an Answer is true while its round is under way
pub are_kept : (m : Meaning) (w : World) → WorldFacts m w → AreWordsKept m w
are_kept m w facts k f s got body =
    let it = facts.words k f s got body in
    record {
      words = it.words;
      kept = it.kept;
      made = it.made;
      truly =
          λ running i own. subst (λ (x : Dbpos). IsTrueWord x (true_at w.scene.truth i)) (it.held i own)
          (facts.facts.truth.facts.answers k f s got body running i own);
    }

-- there is something beside each message
count_kept : (d : Diagram) (old new : World) → length old.beside ≡ length old.scene.sent →
    length old.scene.sent ≤ length new.scene.sent → KeepsWords d old new → length new.beside ≡ length new.scene.sent
count_kept d old new count low keeps =
    let more =
    ap length keeps ∙ length-append old.beside (map (words_beside d old.scene) (sent_since old.scene new.scene)) in
    let part = length-map (sent_since old.scene new.scene) (words_beside d old.scene) in
    let rest = length-drop (length old.scene.sent) new.scene.sent in
    omega (arith, more, part, rest, count, low)

-- where the scene is as it was, so is the world
world_same : (d : Diagram) (old new : World) → new.scene ≡ old.scene → KeepsWords d old new → new ≡ old
world_same d old new same keeps =
    let none : sent_since old.scene new.scene ≡ [] =
    ap (λ (w : Scene). drop (length old.scene.sent) w.sent) same ∙ drop-length old.scene.sent in
    let beside : new.beside ≡ old.beside =
    keeps ∙ (ap (λ xs. old.beside ++ map (words_beside d old.scene) xs) none ∙ append-nil old.beside) in
    ap (λ (w : Scene). record { scene = w; beside = new.beside }) same
    ∙ ap (λ (b : List (Option (List Dbpos))). record { scene = old.scene; beside = b }) beside

in_range : (m : Meaning) (d : Diagram) (same : m.diagram ≡ d) (event : WorldEvent) → InRange d event →
    InRange m.diagram event
in_range m d same event range = subst (λ (x : Diagram). InRange x event) (sym same) range

module _ {E : Type 0} (m : Meaning) (d : Diagram) (same : m.diagram ≡ d) (station : IsStation m.diagram)
    (old new : World) (event : WorldEvent) (range : InRange d event) where
  abbrev Steps : Result WorldOutcome E → Type 0
  Steps r = IfOk r (λ out. Happens m old.scene event new.scene out)

  abbrev Keeps : Result WorldOutcome E → Type 0
  Keeps r = IfOk r (λ out. KeepsWords d old new)

  abbrev Unchanged : Result WorldOutcome E → Type 0
  Unchanged r = OnErr r (new ≡ old)

  module _ (rounds : RoundFacts m old.scene) where
    pub exactly : (r : Result WorldOutcome E) → Steps r →
        IfOk r (λ out. (which : Which) → (out ≡ Premise which) ↔ BreaksPremise d old.scene event which)
    exactly (Ok out) happens =
        λ which. subst (λ (x : Diagram). (out ≡ Premise which) ↔ BreaksPremise x old.scene event which) same
        (exact m old.scene new.scene out which event happens)
    exactly (Err e) happens = tt

    pub unchanged : (r : Result WorldOutcome E) → Steps r → Keeps r →
        IfOk r (λ out. (which : Which) → out ≡ Premise which → new ≡ old)
    unchanged (Ok out) happens keeps =
        λ which is. world_same d old new (premise_same m old.scene new.scene event out which is
        (way m station old.scene new.scene out rounds event (in_range m d same event range) happens)) keeps
    unchanged (Err e) happens keeps = tt

    pub outputs : (r : Result WorldOutcome E) → Steps r → IfOk r (OutputFits d)
    outputs (Ok out) happens =
        subst (λ (x : Diagram). OutputFits x out) same
        (gives m station old.scene new.scene event out rounds (in_range m d same event range) happens).output
    outputs (Err e) happens = tt

    pub few : (r : Result WorldOutcome E) → Steps r → Unchanged r → length new.scene.sent < length old.scene.sent + BAYS
    few (Ok out) happens same_world =
        (gives m station old.scene new.scene event out rounds (in_range m d same event range) happens).few
    few (Err e) happens same_world = let bays : BAYS ≡ 64 = refl in rw same_world (omega (arith, bays))

  pub rounds_kept : (r : Result WorldOutcome E) → WorldRounds m old → Steps r → Keeps r → Unchanged r →
      WorldRounds m new
  rounds_kept (Ok out) facts happens keeps same_world = record {
    rounds = happens_keeps m station old.scene new.scene out facts.rounds event (in_range m d same event range) happens;
    count =
        count_kept d old new facts.count
        (grows m station old.scene new.scene event out facts.rounds (in_range m d same event range) happens) keeps;
  }
  rounds_kept (Err e) facts happens keeps same_world = subst (WorldRounds m) (sym same_world) facts

  pub facts_kept : (r : Result WorldOutcome E) → Laws m → WorldFacts m old → Steps r → Keeps r → Unchanged r →
      WorldFacts m new
  facts_kept (Ok out) laws facts happens keeps same_world =
      let within = in_range m d same event range in
      let next = keeps_truth m old.scene new.scene event out station laws facts.facts within happens in
      record {
        facts = record {
          rounds = happens_keeps m station old.scene new.scene out facts.facts.rounds event within happens;
          truth = next.now;
        };
        count =
            count_kept d old new facts.count
            (grows m station old.scene new.scene event out facts.facts.rounds within happens) keeps;
        words =
            words_held m old new facts next
            (longer m station old.scene new.scene event out facts.facts.rounds within happens)
            (subst (λ (x : Diagram). KeepsWords x old new) (sym same) keeps);
      }
  facts_kept (Err e) laws facts happens keeps same_world = subst (WorldFacts m) (sym same_world) facts

  pub sound_kept : (r : Result WorldOutcome E) → WorldFacts m old → Steps r → Unchanged r →
      IsSoundTruth d old.scene.truth → IsSoundTruth d new.scene.truth
  sound_kept (Ok out) facts happens same_world sound =
      subst (λ (x : Diagram). IsSoundTruth x new.scene.truth) same
      (happens_sound m old.scene new.scene event out facts.facts.rounds (obeys_first_two m old.scene facts.facts)
      (in_range m d same event range) happens
      (subst (λ (x : Diagram). IsSoundTruth x old.scene.truth) (sym same) sound))
  sound_kept (Err e) facts happens same_world sound =
      subst (λ (w : World). IsSoundTruth d w.scene.truth) (sym same_world) sound

-- ---- what the code keeps beside

module _ (m : Meaning) (d : Diagram) (same : m.diagram ≡ d) (inside old new : Scene) (is : inside ≡ old)
    (copy : Option (List Dbpos)) (it : Added m.diagram inside new copy) (count : ℕ)
    (counted : count ≡ length inside.sent) (sent : List Frame) (got : sent ≡ drop count new.sent) where
  frames_are : sent ≡ it.frames
  frames_are = got ∙ (ap (λ (n : ℕ). drop n new.sent) counted ∙ since m.diagram inside new copy it)

  pub answers_alone : AnswersAlone sent
  answers_alone =
      λ f s there body. ap length frames_are
      ∙ it.alone f s (subst (λ (xs : List Frame). Contains xs f) frames_are there) body

  pub sent_few : length new.sent < length inside.sent + BAYS → length sent < BAYS
  sent_few few =
      let more = ap length it.sent ∙ length-append inside.sent it.frames in
      omega (arith, few, more, ap length frames_are)

  pub words_kept : (before now kept : List (Option (List Dbpos))) → now ≡ before →
      kept ≡ now ++ map (λ (f : Frame). kept_beside copy f.body) sent →
      kept ≡ before ++ map (words_beside d old) (sent_since old new)
  words_kept before now kept was is_kept =
      let each : map (λ (f : Frame). kept_beside copy f.body) sent
      ≡ map (words_beside m.diagram inside) (sent_since inside new) =
      ap (λ xs. map (λ (f : Frame). kept_beside copy f.body) xs) frames_are
      ∙ (it.same ∙ ap (λ xs. map (words_beside m.diagram inside) xs) (sym (since m.diagram inside new copy it))) in
      is_kept ∙ (ap (λ xs. xs ++ map (λ (f : Frame). kept_beside copy f.body) sent) was ∙ ap (λ xs. before ++ xs) (each
      ∙ (ap (λ (x : Diagram). map (words_beside x inside) (sent_since inside new)) same
      ∙ ap (λ (w : Scene). map (words_beside d w) (sent_since w new)) is)))
