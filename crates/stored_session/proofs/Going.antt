-- More lines of a stored session.
use Rattle.std.proofs.Common.{◌≡◌, ◌∙◌, ◌≤◌, ◌⊎◌, ◌*◌, ◌++◌, [], ℕ, List, Option, length, refl, sym, subst}
use Rattle.std.proofs.Common.{arith}
use Rattle.std.specs.Io.KnownBytes.{Appends}
use Rattle.std.proofs.lemmas.List.{append-nil, length-append}
use Rattle.station_graph.specs.Diagram.{Diagram}
use Rattle.central_rules.specs.Meaning.{Meaning}
use Rattle.bay_protocol.specs.State.{State, kept_of}
use Rattle.node_session.specs.SessionEnds.{Streams}
use Rattle.node_session.proofs.Going.{appends_nothing, appends_both}
use Rattle.node_store.specs.declared.store.Store.{Store}
use Rattle.node_store.specs.Device.{Told, Becomes, RisesBy}
use Rattle.node_store.specs.Image.{IsImageOf}
use Rattle.node_store.proofs.Runs.{one_content, weaker, then_more, begins as start_run}
use Rattle.stored_session.specs.View.{View, Leaves}
use Rattle.stored_session.proofs.Time.{KeepsTime}
use Rattle.stored_session.specs.Kept.{IsKept}
use Rattle.stored_session.specs.Stored.{StoredSession}
use Rattle.stored_session.specs.Along.{StandsAlong}
use Rattle.stored_session.specs.Progress.{StandsAfter}
use Rattle.stored_session.proofs.Along.{session_more, along_none, along_more, along_lower, along_either}

-- so many calls for each line, and for each line more
pub rises_on : (done more : List (List ℕ)) (a b c : ℕ) → RisesBy (6 * length done) a b → RisesBy (6 * length more) b c
    → RisesBy (6 * length (done ++ more)) a c
rises_on done more a b c first second = record {
  grows = omega (arith, first.grows, second.grows);
  most = omega (arith, first.most, second.most, length-append done more);
}

appends_none : (a b c : Option (List ℕ)) (text : List ℕ) → Appends a b text → Appends b c [] → Appends a c text
appends_none a b c text first second =
    subst (λ (t : List ℕ). Appends a c t) (append-nil text) (appends_both a b c text [] first second)

-- a crash leaves the record before the lines or after them
abbrev pub LeavesEither : {D : Type 0} → View D → D → D → State → State → Type 0
LeavesEither v device new state next =
    Told (v.content device) (λ _. Leaves v device new (λ c. IsImageOf c (kept_of state) ⊎ IsImageOf c (kept_of next)))

-- the record of this state stands on the device
abbrev pub Keeps : {D : Type 0} → View D → D → D → Store → State → Type 0
Keeps v old device store state =
    Becomes (v.content old) (v.content device) (λ _ image. IsKept v.moment v.since device store image (kept_of state))

module _ {D : Type 0} (v : View D) (time : KeepsTime v) (m : Meaning) (d : Diagram) (b : ℕ) (start : State)
    (before : Streams) (old : D) where
  abbrev pub Now : Streams → D → List (List ℕ) → Store → State → Type 0
  Now now device done store state = StandsAfter v m d b start before now old device done store state

  -- a crash leaves the record after some of these lines
  abbrev pub Along : D → List (List ℕ) → List ℕ → State → Type 0
  Along device done text state =
      Told (v.content old) (λ _. Leaves v old device (StandsAlong m d b start done text state 0))

  -- after lines that were being answered, a crash leaves the record after some of the lines
  pub crash_more : (device new : D) (done : List (List ℕ)) (text : List ℕ) (store : Store) (state : State)
      → (more : List (List ℕ)) (answer : List ℕ) (next : State)
      → StoredSession m d b start done text state → StoredSession m d b state more answer next
      → Keeps v old device store state → Along device done text state → LeavesEither v device new state next
      → Along new (done ++ more) (text ++ answer) next
  crash_more device new done text store state more answer next session answers kept before_it in_it image told =
      let here = kept.told image told in
      let Old : List ℕ → Type 0 = StandsAlong m d b start done text state 0 in
      let Either : List ℕ → Type 0 = λ c. IsImageOf c (kept_of state) ⊎ IsImageOf c (kept_of next) in
      let All : List ℕ → Type 0 = StandsAlong m d b start (done ++ more) (text ++ answer) next 0 in
      then_more v.moment v.between v.since time old device new All
      (weaker v.moment v.between v.since time old device Old All (before_it image told)
      (λ c along. along_more m d b start done text state 0 more answer next c answers along))
      (weaker v.moment v.between v.since time device new Either All (in_it here.0 here.1)
      (λ c either. along_lower m d b start (done ++ more) (text ++ answer) next (length done) 0 c (omega arith)
      (along_either m d b start done text state more answer next c session answers either)))

  -- what is kept now, from what was kept before
  kept_more : (device new : D) (store next_store : Store) (state next : State)
      → Keeps v old device store state → Keeps v device new next_store next → Keeps v old new next_store next
  kept_more device new store next_store state next first second = record {
    told = λ image told. let here = first.told image told in second.told here.0 here.1;
    untold = λ image told. let here = second.untold image told in first.untold here.0 here.1;
  }

  -- the record stands on the device as it is now
  pub kept_now : (now : Streams) (device : D) (done : List (List ℕ)) (store : Store) (state : State)
      → Now now device done store state
      → Told (v.content device) (λ image. IsKept v.moment v.since device store image (kept_of state))
  kept_now now device done store state at image told =
      let first = at.kept.untold image told in
      let here = at.kept.told first.0 first.1 in
      subst (λ (i : List ℕ). IsKept v.moment v.since device store i (kept_of state)) (one_content (sym here.1
      ∙ told)) here.2

  -- more lines are answered
  pub stands_more : (now after : Streams) (device new : D) (done : List (List ℕ)) (store next_store : Store)
      → (state : State) (more : List (List ℕ)) (answer : List ℕ) (next : State)
      → Now now device done store state
      → LeavesEither v device new state next → Keeps v device new next_store next
      → StoredSession m d b state more answer next → Appends now.out after.out answer
      → RisesBy (6 * length more) (v.calls device) (v.calls new)
      → v.writes device ≤ v.writes new → now.reads ≤ after.reads → now.writes ≤ after.writes
      → Now after new (done ++ more) next_store next
  stands_more now after device new done store next_store state more answer next at in_it kept answers wrote called
      stores reads writes = record {
        text = at.text ++ answer;
        session = session_more m d b start done at.text state more answer next at.session answers;
        wrote = appends_both before.out now.out after.out at.text answer at.wrote wrote;
        kept = kept_more device new store next_store state next at.kept kept;
        crash = crash_more device new done at.text store state more answer next at.session answers at.kept at.crash
            in_it;
        called = rises_on done more (v.calls old) (v.calls device) (v.calls new) at.called called;
        stores_grow = omega (arith, at.stores_grow, stores);
        reads_grow = omega (arith, at.reads_grow, reads);
        writes_grow = omega (arith, at.writes_grow, writes);
      }

  -- the input is asked, and nothing else
  pub stands_read : (now after : Streams) (device : D) (done : List (List ℕ)) (store : Store) (state : State)
      → Now now device done store state → after.out ≡ now.out → now.reads ≤ after.reads → now.writes ≤ after.writes
      → Now after device done store state
  stands_read now after device done store state at same reads writes = record {
    text = at.text;
    session = at.session;
    wrote = subst (λ (o : Option (List ℕ)). Appends before.out o at.text) (sym same) at.wrote;
    kept = at.kept;
    crash = at.crash;
    called = at.called;
    stores_grow = at.stores_grow;
    reads_grow = omega (arith, at.reads_grow, reads);
    writes_grow = omega (arith, at.writes_grow, writes);
  }

  -- nothing was written, and the device was left alone
  pub stands_still : (now after : Streams) (device new : D) (done : List (List ℕ)) (store : Store) (state : State)
      → Now now device done store state → new ≡ device → Appends now.out after.out []
      → now.reads ≤ after.reads → now.writes ≤ after.writes → Now after new done store state
  stands_still now after device new done store state at same nothing reads writes =
      subst (λ (e : D). Now after e done store state) (sym same) (record {
        text = at.text;
        session = at.session;
        wrote = appends_none before.out now.out after.out at.text at.wrote nothing;
        kept = at.kept;
        crash = at.crash;
        called = at.called;
        stores_grow = at.stores_grow;
        reads_grow = omega (arith, at.reads_grow, reads);
        writes_grow = omega (arith, at.writes_grow, writes);
      })

  runs_none : (image : List ℕ) (store : Store) → IsKept v.moment v.since old store image (kept_of start)
      → Leaves v old old (StandsAlong m d b start [] [] start 0)
  runs_none image store is =
      start_run v.moment v.between v.since time old image (StandsAlong m d b start [] [] start 0) is.settled
      (along_none m d b start image is.stands)

  -- no line is answered yet
  pub stands_first : (store : Store)
      → Told (v.content old) (λ image. IsKept v.moment v.since old store image (kept_of start))
      → Now before old [] store start
  stands_first store kept = record {
    text = [];
    session = (refl, refl);
    wrote = appends_nothing before.out;
    kept = record { told = λ image told. (image, told, kept image told); untold = λ image told. (image, told) };
    crash = λ image told. runs_none image store (kept image told);
    called = record { grows = omega arith; most = omega arith };
    stores_grow = omega arith;
    reads_grow = omega arith;
    writes_grow = omega arith;
  }
