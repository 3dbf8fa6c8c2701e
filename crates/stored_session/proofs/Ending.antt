-- How a stored session ends, between two lines or at one.
use Rattle.std.proofs.Common.{◌≡◌, ◌∙◌, ◌≤◌, ◌<◌, ◌⊎◌, ◌+◌, ◌*◌, ◌++◌, ◌∷◌, [], inl, inr, ℕ, List, length, take, refl, sym}
use Rattle.std.proofs.Common.{ap, subst, arith}
use Rattle.std.proofs.Math.Seq.{take-append-add, take-length}
use Rattle.std.proofs.lemmas.List.{append-nil, append_assoc, length-append}
use Rattle.std.specs.Io.KnownBytes.{Appends}
use Rattle.ilk_base.specs.Outside.{Rose, AppendsFront}
use Rattle.ilk_base.proofs.Fronts.{rose_earlier}
use Rattle.station_graph.specs.Diagram.{Diagram}
use Rattle.central_rules.specs.Meaning.{Meaning}
use Rattle.bay_protocol.specs.State.{State, kept_of}
use Rattle.node_session.specs.declared.end.TheConstants.{MOST_LINES}
use Rattle.node_session.specs.SessionEnds.{Streams}
use Rattle.node_session.proofs.Going.{appends_both}
use Rattle.node_store.specs.declared.store.Store.{Store}
use Rattle.node_store.specs.Device.{Told, RisesBy}
use Rattle.node_store.proofs.Runs.{is_since, weaker}
use Rattle.stored_session.specs.View.{View}
use Rattle.stored_session.proofs.Time.{KeepsTime}
use Rattle.stored_session.specs.Kept.{LeavesNow}
use Rattle.stored_session.specs.Along.{StandsAlong}
use Rattle.stored_session.specs.Stored.{StoredSession, StoredLineFails}
use Rattle.stored_session.specs.Through.{TakesNear}
use Rattle.stored_session.specs.Progress.{IsEndAt}
use Rattle.stored_session.specs.Ends.{WritesAll, EndsSo, BegunEnds}
use Rattle.stored_session.specs.declared.line.LineEnd.{LineEnd}
use Rattle.stored_session.specs.declared.line.LineEnd.TheVariants as l
use Rattle.stored_session.specs.declared.end.StoredEnd.{StoredEnd}
use Rattle.stored_session.specs.declared.end.StoredEnd.TheVariants as e
use Rattle.stored_session.proofs.Changing.{leaves_now}
use Rattle.stored_session.proofs.Lines.{has_long}
use Rattle.stored_session.proofs.Along.{session_more, session_one, along_all, along_either}
use Rattle.stored_session.proofs.Going.{LeavesEither, Now, crash_more, stands_still, rises_on}
use Rattle.stored_session.proofs.Locating.{locate, front_text}
use Rattle.stored_session.proofs.Holding.{TookLines, asked_later}

rises_none : (n a b : ℕ) → RisesBy n a b → RisesBy (0 + n) a b
rises_none n a b rises = record { grows = rises.grows; most = omega (arith, rises.most) }

not_done : e.WriteFault ≡ e.Done → ⊥
not_done is = cc is

module _ {D : Type 0} (v : View D) (time : KeepsTime v) (m : Meaning) (d : Diagram) (b : ℕ) (start : State)
    (before : Streams) (old : D) where
  abbrev pub EndsNow : Streams → D → StoredEnd → Type 0
  EndsNow now device end = BegunEnds v m d b 0 start before now old device end

  -- the session ends between two lines
  pub ends_here : (now : Streams) (device : D) (done : List (List ℕ)) (store : Store) (state : State) (end : StoredEnd)
      → Now v time m d b start before old now device done store state
      → ((text : List ℕ) → WritesAll before now done text (length done)
      → EndsSo m d b start before now (Rose (v.writes old) (v.writes device)) done text (length done) end)
      → EndsNow now device end
  ends_here now device done store state end at so = record {
    lines = done;
    text = at.text;
    last = state;
    session = at.session;
    low = length done;
    so = so at.text (record { wrote = at.wrote; all = refl });
    taken = record {
      done = done;
      more = [];
      parts = sym (append-nil done);
      count = refl;
      text = at.text;
      state = state;
      session = at.session;
      front = length at.text;
      wrote = subst (λ (t : List ℕ). Appends before.out now.out t) (sym (take-length at.text)) at.wrote;
    };
    crash = λ image told. weaker v.moment v.between v.since time old device
        (StandsAlong m d b start done at.text state 0)
        (λ c. v.since old (v.moment old) c ⊎ StandsAlong m d b start done at.text state 0 c) (at.crash image told)
        (λ c along. inr along);
    at_return = λ image told c left.
        let here = at.kept.told image told in
        along_all m d b start done at.text state c at.session
        (leaves_now v.moment v.between v.since device store here.0 (kept_of state) here.2 c left);
    whole = λ is. record {
      told = λ image told. let here = at.kept.told image told in (here.0, here.1, (here.2.settled, here.2.stands));
      untold = at.kept.untold;
    };
    called = rises_none (6 * length done) (v.calls old) (v.calls device) at.called;
  }

  called_more : (device new : D) (done more : List (List ℕ)) → RisesBy (6 * length done) (v.calls old) (v.calls device)
      → RisesBy (6 * length more) (v.calls device) (v.calls new)
      → RisesBy (0 + 6 * length (done ++ more)) (v.calls old) (v.calls new)
  called_more device new done more first second = rises_none (6 * length (done ++ more)) (v.calls old) (v.calls new)
      (rises_on done more (v.calls old) (v.calls device) (v.calls new) first second)

  -- lines are stepped, and not stored
  pub ends_unstored : (now after : Streams) (device new : D) (done : List (List ℕ)) (store : Store) (state : State)
      → (line : List ℕ) (more : List (List ℕ)) (answer : List ℕ) (next : State)
      → Now v time m d b start before old now device done store state → TookLines before after done (line ∷ more)
      → LeavesEither v device new state next → StoredSession m d b state (line ∷ more) answer next
      → Appends now.out after.out [] → Rose (v.writes device) (v.writes new)
      → RisesBy (6 * length (line ∷ more)) (v.calls device) (v.calls new) → EndsNow after new e.WriteFault
  ends_unstored now after device new done store state line more answer next at took in_it session nothing rose called =
      let lines : List (List ℕ) = done ++ line ∷ more in
      let (one, mid, answers, rest, others, is) = session in
      let crash = crash_more v time m d b start before old device new done at.text store state (line ∷ more) answer next
      at.session session at.kept at.crash in_it in
      record {
        lines = lines;
        text = at.text ++ answer;
        last = next;
        session = session_more m d b start done at.text state (line ∷ more) answer next at.session session;
        low = length done;
        so = (
          took.begins,
          took.near,
          record {
            done = done;
            line = line;
            more = more;
            parts = refl;
            text_done = at.text;
            answer = one;
            text_more = rest;
            texts = ap (λ t. at.text ++ t) is;
            state = state;
            session = at.session;
            next = mid;
            answers = answers;
            near = subst (λ (l : List (List ℕ)). TakesNear before.input after.input (l ++ line ∷ [])) (append-nil done)
                (took.each [] line more refl);
            asked = took.asked;
            front = 0;
            wrote = appends_both before.out now.out after.out at.text [] at.wrote nothing;
            cause = inl (rose_earlier _ _ _ at.stores_grow rose, refl, refl);
          },
        );
        taken = record {
          done = done;
          more = line ∷ more;
          parts = refl;
          count = refl;
          text = at.text;
          state = state;
          session = at.session;
          front = length at.text;
          wrote = subst (λ (t : List ℕ). Appends before.out after.out t)
              (append-nil at.text ∙ sym (take-length at.text))
              (appends_both before.out now.out after.out at.text [] at.wrote nothing);
        };
        crash = λ image told. weaker v.moment v.between v.since time old new
            (StandsAlong m d b start lines (at.text ++ answer) next 0)
            (λ c. v.since old (v.moment old) c ⊎ StandsAlong m d b start lines (at.text ++ answer) next 0 c)
            (crash image told) (λ c along. inr along);
        at_return = λ image told c left.
            let here = at.kept.told image told in
            let in_line = in_it here.0 here.1 in
            along_either m d b start done at.text state (line ∷ more) answer next c at.session session
            (in_line.each c (is_since v.moment v.between v.since time device new c in_line.past.later left));
        whole = λ is. absurd (not_done is);
        called = called_more device new done (line ∷ more) at.called called;
      }

  -- of which none is there, nothing is put, so that nothing fails
  pub ends_unput : (now after : Streams) (device new : D) (done : List (List ℕ)) (store : Store) (state : State)
      → (more : List (List ℕ)) (answer : List ℕ) (next : State)
      → Now v time m d b start before old now device done store state → TookLines before after done more
      → LeavesEither v device new state next → StoredSession m d b state more answer next → 0 < length more
      → Appends now.out after.out [] → Rose (v.writes device) (v.writes new)
      → RisesBy (6 * length more) (v.calls device) (v.calls new) → EndsNow after new e.WriteFault
  ends_unput now after device new done store state [] answer next at took in_it session some nothing rose called =
      absurd (omega (arith, some))
  ends_unput now after device new done store state (line ∷ more) answer next at took in_it session some nothing rose
      called = ends_unstored now after device new done store state line more answer next at took in_it session nothing
      rose called

  -- lines are stored, and of their text a front written
  pub ends_unwritten : (now after : Streams) (device new : D) (done : List (List ℕ)) (store : Store) (state : State)
      → (more : List (List ℕ)) (answer : List ℕ) (next : State)
      → Now v time m d b start before old now device done store state → TookLines before after done more
      → LeavesEither v device new state next → StoredSession m d b state more answer next
      → Told (v.content device) (λ _. LeavesNow v.moment v.since new (kept_of next))
      → AppendsFront now.out after.out answer → Rose now.writes after.writes
      → RisesBy (6 * length more) (v.calls device) (v.calls new) → EndsNow after new e.WriteFault
  ends_unwritten now after device new done store state more answer next at took in_it answers leaves front rose called =
      let lines : List (List ℕ) = done ++ more in
      let session = session_more m d b start done at.text state more answer next at.session answers in
      let crash = crash_more v time m d b start before old device new done at.text store state more answer next
      at.session answers at.kept at.crash in_it in
      let cut = locate m d b state more answer next front.0 answers front.1 in
      let wrote = appends_both before.out now.out after.out at.text (take front.0 answer) at.wrote front.2 in
      record {
        lines = lines;
        text = at.text ++ answer;
        last = next;
        session = session;
        low = length lines;
        so = (
          took.begins,
          took.near,
          record {
            done = done ++ cut.earlier;
            line = cut.line;
            more = cut.later;
            parts = ap (λ k. done ++ k) cut.parts ∙ sym (append_assoc done cut.earlier (cut.line ∷ cut.later));
            text_done = at.text ++ cut.text_earlier;
            answer = cut.answer;
            text_more = cut.text_later;
            texts = ap (λ t. at.text ++ t) cut.texts
                ∙ sym (append_assoc at.text cut.text_earlier (cut.answer ++ cut.text_later));
            state = cut.state;
            session = session_more m d b start done at.text state cut.earlier cut.text_earlier cut.state at.session cut.session;
            next = cut.next;
            answers = cut.answers;
            near = took.each cut.earlier cut.line cut.later cut.parts;
            asked = asked_later before.input after.asked (length done) (length (done ++ cut.earlier))
                (omega (arith, length-append done cut.earlier)) took.asked;
            front = cut.front;
            wrote = subst (λ (t : List ℕ). Appends before.out after.out t)
                (ap (λ t. at.text ++ t) (front_text m d b state more answer front.0 cut)
                ∙ sym (append_assoc at.text cut.text_earlier (take cut.front cut.answer))) wrote;
            cause = inr (rose_earlier _ _ _ at.writes_grow rose, cut.within, refl);
          },
        );
        taken = record {
          done = lines;
          more = [];
          parts = sym (append-nil lines);
          count = refl;
          text = at.text ++ answer;
          state = next;
          session = session;
          front = length at.text + front.0;
          wrote = subst (λ (t : List ℕ). Appends before.out after.out t)
              (sym (take-append-add at.text answer front.0)) wrote;
        };
        crash = λ image told. weaker v.moment v.between v.since time old new
            (StandsAlong m d b start lines (at.text ++ answer) next 0)
            (λ c. v.since old (v.moment old) c ⊎ StandsAlong m d b start lines (at.text ++ answer) next 0 c)
            (crash image told) (λ c along. inr along);
        at_return = λ image told c left.
            let here = at.kept.told image told in
            along_all m d b start lines (at.text ++ answer) next c session (leaves here.0 here.1 c left);
        whole = λ is. absurd (not_done is);
        called = called_more device new done more at.called called;
      }

  -- the session ends at a line
  pub ends_line : (now after : Streams) (device new : D) (done : List (List ℕ)) (store : Store) (state : State)
      → (line : List ℕ) (next : State) (count : ℕ) (end : LineEnd) (result : StoredEnd) → length done ≡ count
      → count < MOST_LINES
      → Now v time m d b start before old now device done store state → TookLines before after done (line ∷ [])
      → LeavesEither v device new state next
      → (end ≡ l.OutFailed → Told (v.content device) (λ _. LeavesNow v.moment v.since new (kept_of next)))
      → ((end ≡ l.Memory) ⊎ (end ≡ l.Refused) → new ≡ device)
      → RisesBy 6 (v.calls device) (v.calls new) → now.reads ≤ after.reads → now.writes ≤ after.writes
      → StoredLineFails m d b state line next now.out after.out (Rose (v.writes device) (v.writes new))
      (Rose now.writes after.writes) end
      → IsEndAt count end result → EndsNow after new result
  ends_line now after device new done store state line next count l.Memory result counted few at took in_it
      stored quiet called reads writes nothing is =
      let still = stands_still v time m d b start before old now after device new done store state at (quiet
      (inl refl)) nothing reads writes in
      subst (λ (r : StoredEnd). EndsNow after new r) (sym is)
      (ends_here after new done store state e.Memory still (λ text wrote.
      (has_long before.input done line took.begins, wrote)))
  ends_line now after device new done store state line next count l.Refused result counted few at took in_it
      stored quiet called reads writes (refused, nothing) is =
      let still = stands_still v time m d b start before old now after device new done store state at (quiet
      (inr refl)) nothing reads writes in
      let number : count + 1 ≡ length done + 1 = omega (arith, counted) in
      let fewer : length done < MOST_LINES = omega (arith, counted, few) in
      subst (λ (r : StoredEnd). EndsNow after new r) (sym is)
      (ends_here after new done store state (e.Refused (count + 1)) still
      (λ text wrote. (number, fewer, (line, took.begins, refused), wrote)))
  ends_line now after device new done store state line next count l.StoreFailed result counted few at took in_it
      stored quiet called reads writes (stores, (answer, answers), nothing) is =
      subst (λ (r : StoredEnd). EndsNow after new r) (sym is)
      (ends_unstored now after device new done store state line [] answer next at took in_it
      (session_one m d b state line answer next answers) nothing stores called)
  ends_line now after device new done store state line next count l.OutFailed result counted few at took in_it
      stored quiet called reads writes (rose, tells) is =
      subst (λ (r : StoredEnd). EndsNow after new r) (sym is)
      (ends_unwritten now after device new done store state (line ∷ []) tells.text next at took in_it
      (session_one m d b state line tells.text next tells.answers) (stored refl) tells.wrote rose called)
