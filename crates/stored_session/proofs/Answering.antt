-- Lines that are held are answered together.
use Rattle.std.proofs.Common.{◌≡◌, ◌≢◌, ◌≤◌, ◌<◌, ◌⊎◌, ◌+◌, ◌*◌, ◌++◌, ◌∷◌, [], ℕ, List, Option, Some, None, length}
use Rattle.std.proofs.Common.{refl, sym, subst, arith}
use Rattle.std.specs.Prelude.{IfNone}
use Rattle.std.specs.Io.KnownBytes.{Appends}
use Rattle.std.proofs.lemmas.List.{length-append}
use Rattle.ilk_base.specs.Outside.{Rose, AppendsFront}
use Rattle.station_graph.specs.Diagram.{Diagram}
use Rattle.central_rules.specs.Meaning.{Meaning}
use Rattle.bay_protocol.specs.declared.values.Kept.{Kept}
use Rattle.bay_protocol.specs.State.{State, kept_of}
use Rattle.bay_protocol.specs.Output.{IsKeep}
use Rattle.node_session.specs.declared.end.TheConstants.{MOST_LINES}
use Rattle.node_session.specs.declared.request.LineTrouble.{LineTrouble}
use Rattle.node_session.specs.declared.request.LineTrouble.TheVariants as t
use Rattle.node_session.specs.SessionEnds.{Streams, streams, LastAsked}
use Rattle.node_store.specs.declared.store.Store.{Store}
use Rattle.node_store.specs.Device.{Told, Becomes, RisesBy}
use Rattle.node_store.specs.Image.{IsImageOf}
use Rattle.stored_session.specs.View.{View, Leaves}
use Rattle.stored_session.specs.Kept.{IsKept}
use Rattle.stored_session.specs.Holding.{HoldsLine, HoldsLines}
use Rattle.stored_session.specs.Stored.{StoredSession}
use Rattle.stored_session.specs.Through.{ReadsThrough}
use Rattle.stored_session.specs.Batch.{StopsSo, StepsHeld}
use Rattle.stored_session.specs.Progress.{StoredStands}
use Rattle.stored_session.specs.declared.batch.Batch.{Batch}
use Rattle.stored_session.specs.declared.end.StoredEnd.TheVariants as e
use Rattle.stored_session.proofs.Time.{KeepsTime}
use Rattle.stored_session.proofs.Changing.{leaves_now}
use Rattle.stored_session.proofs.Stepping.{keep_is, some_kept, some_text, rises_lines}
use Rattle.stored_session.proofs.Holding.{TookLines, reads_lines, took_held, asked_later}
use Rattle.stored_session.proofs.Lines.{begins, has_next}
use Rattle.stored_session.proofs.Going.{LeavesEither, Now, stands_more}
use Rattle.stored_session.proofs.Ending.{EndsNow, ends_here, ends_unput, ends_unwritten}

-- where a put of this change leaves the record from before it or after it
abbrev pub MayPut : {D : Type 0} → View D → D → D → Option Kept → Type 0
MayPut v device new keep = Told (v.content device) (λ image. (old kept : Kept) → IsImageOf image old
    → IsKeep old kept keep → Leaves v device new (λ c. IsImageOf c old ⊎ IsImageOf c kept))

-- where it is put
abbrev pub HasPut : {D : Type 0} → View D → D → D → Option Kept → Store → Type 0
HasPut v device new keep store = Becomes (v.content device) (v.content new) (λ image after. (old kept : Kept)
    → IsImageOf image old → IsKeep old kept keep → IsKept v.moment v.since new store after kept)

module _ {D : Type 0} (v : View D) (time : KeepsTime v) (m : Meaning) (d : Diagram) (b : ℕ) (start : State)
    (before : Streams) (old : D) (input asked : Option (List ℕ)) (reads : ℕ) where
  -- the session stood so when these lines were stepped, and their record was to be put
  pub record Puts (out : Option (List ℕ)) (writes : ℕ) (device new : D) (done : List (List ℕ)) (store : Store)
      (state : State) (held : List ℕ) (lines : List (List ℕ)) (text : List ℕ) (next : State) (past : List ℕ)
      (keep : Option Kept) : Type 0 where
    pub stands : Now v time m d b start before old (streams input asked reads out writes) device done store state
    pub reads_so : ReadsThrough before.input input held done
    pub holds : HoldsLine held
    pub last : LastAsked before.input asked (length done)
    pub cut : HoldsLines held lines past
    pub session : StoredSession m d b state lines text next
    pub change : IsKeep (kept_of state) (kept_of next) keep
    pub kept : Told (v.content device) (λ image. IsKept v.moment v.since device store image (kept_of state))
    pub may_put : MayPut v device new keep
    pub alone : IfNone keep (new ≡ device)
    pub called : RisesBy 6 (v.calls device) (v.calls new)

  module _ (out : Option (List ℕ)) (writes : ℕ) (device new : D) (done : List (List ℕ)) (store : Store)
      (state : State) (held : List ℕ) (lines : List (List ℕ)) (text : List ℕ) (next : State) (past : List ℕ)
      (keep : Option Kept)
      (p : Puts out writes device new done store state held lines text next past keep) where
    either : LeavesEither v device new state next
    either image told = p.may_put image told (kept_of state) (kept_of next) (p.kept image told).stands p.change

    few_calls : RisesBy (6 * length lines) (v.calls device) (v.calls new)
    few_calls = rises_lines m d b state v.calls device new lines text next keep p.session p.change p.alone p.called

    took : (after : Streams) → after.input ≡ input → after.asked ≡ asked → 0 < length lines
        → TookLines before after done lines
    took after same_input same_asked some = took_held before after held past done lines
        (subst (λ (i : Option (List ℕ)). ReadsThrough before.input i held done) (sym same_input) p.reads_so)
        p.holds p.cut some
        (subst (λ (a : Option (List ℕ)). LastAsked before.input a (length done)) (sym same_asked) p.last)

    reads_on : ReadsThrough before.input input past (done ++ lines)
    reads_on = reads_lines before.input input held past done lines p.reads_so p.cut

    -- the record is not put
    pub fails_to_put : keep ≢ None → Rose (v.writes device) (v.writes new) → Appends out out []
        → EndsNow v time m d b start before old (streams input asked reads out writes) new e.WriteFault
    fails_to_put some rose nothing =
        let lines_some = some_kept m d b state lines text next keep p.session p.change some in
        let now : Streams = streams input asked reads out writes in
        ends_unput v time m d b start before old now now device new done store state lines text next p.stands
        (took now refl refl lines_some) either p.session lines_some nothing rose few_calls

    module _ (next_store : Store) (put : HasPut v device new keep next_store) (out_new : Option (List ℕ))
        (writes_new : ℕ) where
      -- the texts are not written whole
      pub fails_to_write : AppendsFront out out_new text → Rose writes writes_new
          → EndsNow v time m d b start before old (streams input asked reads out_new writes_new) new e.WriteFault
      fails_to_write front rose =
          let some = some_text m d b state lines text next front.0 p.session front.1 in
          let now : Streams = streams input asked reads out writes in
          let after : Streams = streams input asked reads out_new writes_new in
          ends_unwritten v time m d b start before old now after device new done store state lines text next p.stands
          (took after refl refl some) either p.session
          (λ image told.
          let done = put.told image told in
          leaves_now v.moment v.between v.since new next_store done.0 (kept_of next)
          (done.2 (kept_of state) (kept_of next) (p.kept image told).stands p.change))
          front rose few_calls

      -- they are written
      pub answers_all : Appends out out_new text → v.writes device ≤ v.writes new → writes ≤ writes_new
          → Now v time m d b start before old (streams input asked reads out_new writes_new) new (done ++ lines)
          next_store next
      answers_all wrote stores grows = stands_more v time m d b start before old (streams input asked reads out writes)
          (streams input asked reads out_new writes_new) device new done store next_store state lines text next p.stands
          either
          (record {
            told = λ image told.
                let done = put.told image told in
                (done.0, done.1, done.2 (kept_of state) (kept_of next) (p.kept image told).stands p.change);
            untold = put.untold;
          })
          p.session wrote few_calls stores (omega arith) grows

      -- and memory is wanting for the next
      pub wants_more : Appends out out_new text → v.writes device ≤ v.writes new → writes ≤ writes_new
          → EndsNow v time m d b start before old (streams input asked reads out_new writes_new) new e.Memory
      wants_more wrote stores grows =
          ends_here v time m d b start before old (streams input asked reads out_new writes_new) new (done ++ lines)
          next_store next e.Memory (answers_all wrote stores grows)
          (λ text wrote. (begins before.input (done ++ lines) input past reads_on, wrote))

      -- and the next is refused
      pub refuses_next : (count : ℕ) (new_state : State) (held_new : List ℕ) (stop : Option LineTrouble)
          (trouble : LineTrouble) → Appends out out_new text
          → v.writes device ≤ v.writes new → writes ≤ writes_new
          → length (done ++ lines) ≡ count → count < MOST_LINES
          → stop ≡ Some trouble → trouble ≡ t.Refused → StopsSo d b next past new_state held_new stop
          → EndsNow v time m d b start before old (streams input asked reads out_new writes_new) new
          (e.Refused (count + 1))
      refuses_next count new_state held_new stop trouble wrote stores grows counted few is which stops =
          let (line, rest, first, refused) = subst
          (λ (u : LineTrouble). StopsSo d b next past new_state held_new (Some u)) which
          (subst (λ (s : Option LineTrouble). StopsSo d b next past new_state held_new s) is stops) in
          let number : count + 1 ≡ length (done ++ lines) + 1 = omega (arith, counted) in
          let fewer : length (done ++ lines) < MOST_LINES = omega (arith, counted, few) in
          let comes = has_next before.input (done ++ lines) input rest line
          (reads_lines before.input input past rest (done ++ lines) (line ∷ []) reads_on first) in
          ends_here v time m d b start before old (streams input asked reads out_new writes_new) new (done ++ lines)
          next_store next (e.Refused (count + 1)) (answers_all wrote stores grows)
          (λ text wrote. (number, fewer, (line, comes, refused), wrote))

      -- and more may be asked for
      pub stands_on : (count : ℕ) (new_state : State) (held_new : List ℕ) → Appends out out_new text
          → v.writes device ≤ v.writes new → writes ≤ writes_new → length (done ++ lines) ≡ count
          → StopsSo d b next past new_state held_new None
          → StoredStands v m d b start before (streams input asked reads out_new writes_new) old new held_new count
          next_store new_state
      stands_on count new_state held_new wrote stores grows counted (same, here) = record {
        done = done ++ lines;
        counted = counted;
        reads = subst (λ (h : List ℕ). ReadsThrough before.input input h (done ++ lines)) (sym here) reads_on;
        asked = λ some. asked_later before.input asked (length done) count
            (omega (arith, counted, length-append done lines)) p.last;
        after = subst (λ (s : State). Now v time m d b start before old
            (streams input asked reads out_new writes_new) new (done ++ lines) next_store s) (sym same)
            (answers_all wrote stores grows);
      }

  -- that it stood so
  pub puts : (out : Option (List ℕ)) (writes : ℕ) (device new : D) (done : List (List ℕ)) (store : Store)
      (state : State) (held : List ℕ) (new_state : State) (held_new : List ℕ) (batch : Batch) (kept : Kept)
      (keep : Option Kept)
      → Now v time m d b start before old (streams input asked reads out writes) device done store state
      → ReadsThrough before.input input held done → HoldsLine held → LastAsked before.input asked (length done)
      → (steps : StepsHeld m d b state held new_state held_new batch)
      → kept ≡ kept_of state → IsKeep kept batch.kept keep
      → Told (v.content device) (λ image. IsKept v.moment v.since device store image (kept_of state))
      → MayPut v device new keep → IfNone keep (new ≡ device) → RisesBy 6 (v.calls device) (v.calls new)
      → Puts out writes device new done store state held steps.steps.lines batch.text steps.state steps.past keep
  puts out writes device new done store state held new_state held_new batch kept keep at reads_so holds last steps is
      changed there may_put alone called = record {
        stands = at;
        reads_so = reads_so;
        holds = holds;
        last = last;
        cut = steps.steps.cut;
        session = steps.steps.session;
        change = keep_is kept batch.kept (kept_of state) (kept_of steps.state) keep is steps.steps.kept_is changed;
        kept = there;
        may_put = may_put;
        alone = alone;
        called = called;
      }
