-- How the next line of a session goes.
use Rattle.std.proofs.Common.{◌≡◌, ◌∙◌, refl, sym, ap, subst, arith, ℕ, ◌+◌, ◌<◌, ◌≤◌, ◌==◌, Bool, true, false, List}
use Rattle.std.proofs.Common.{[], ◌∷◌, ◌++◌, length, take, drop, Option, Some, None}
use Rattle.std.specs.Str.Lines.{strip_carriage_return}
use Rattle.std.specs.Io.KnownBytes.{Appends, Consumes, Keeps, IsAtEnd}
use Rattle.std.proofs.lemmas.List.{append-nil, length-append}
use Rattle.std.proofs.Math.Seq.{take-append_seam, drop-append-add}
use Rattle.ilk_base.specs.Outside.{Rose}
use Rattle.ilk_base.proofs.Fronts.{rose_earlier}
use Rattle.station_graph.specs.Diagram.{Diagram}
use Rattle.central_rules.specs.Meaning.{Meaning}
use Rattle.bay_protocol.specs.State.{State, nothing_kept, resumed}
use Rattle.node_session.specs.declared.reader.Front.TheVariants.{Line, TooLong, Last}
use Rattle.node_session.specs.declared.reader.InputTrouble.TheVariants.{Memory, Failed}
use Rattle.node_session.specs.declared.end.TheConstants.{MOST_LINES}
use Rattle.node_session.specs.declared.end.SessionEnd.{SessionEnd}
use Rattle.node_session.specs.declared.end.SessionEnd.TheVariants as e
use Rattle.node_session.specs.Requests.{IsRequest}
use Rattle.node_session.specs.SessionEnds.{Streams, SessionEnds, IsDone, IsStopped, IsLong, IsReadFault, IsWant}
use Rattle.node_session.specs.SessionEnds.{LastAsked}
use Rattle.node_session.specs.Reading.{HasNoFeed, AsksNeeded, Grows, TakesPiece, BeginsLine, Fills, MoreFails}
use Rattle.node_session.specs.Reading.{FillFails}
use Rattle.node_session.specs.Progress.{AnswersLine, LineFails, HasServed, HasAsked, Stands}
use Rattle.node_session.proofs.Going.{appends_nothing, appends_both, stands_more, stands_past}
use Rattle.node_session.proofs.Asking.{asks_needed, asked_line}
use Rattle.node_session.proofs.Ending.{want, read_fault, done_empty, long}
use Rattle.node_session.proofs.Stopping.{stopped_line, stopped_long, stopped_last}
use Rattle.node_session.proofs.Ending.{write_fault_line, write_fault_last, done_last}

keeps_consumes : (a b : Option (List ℕ)) → Keeps a b → Consumes a b []
keeps_consumes None b keeps = tt
keeps_consumes (Some x) None keeps = absurd keeps
keeps_consumes (Some x) (Some y) keeps = sym keeps

-- only the input was asked
pub record Asked (now after : Streams) : Type 0 where
  pub out : after.out ≡ now.out
  pub reads : now.reads ≤ after.reads
  pub writes : now.writes ≤ after.writes

-- only `out` was
pub record Written (now after : Streams) : Type 0 where
  pub input : after.input ≡ now.input
  pub asked : after.asked ≡ now.asked
  pub reads : now.reads ≤ after.reads
  pub writes : now.writes ≤ after.writes

module _ (m : Meaning) (d : Diagram) (b : ℕ) (before now : Streams) (held : List ℕ) (count : ℕ) (state : State)
    (at : HasServed m d b before now held count state) where
  module _ (mid : Streams) (asked : Asked now mid) (held_new : List ℕ) where
    filled : Grows held held_new now.input mid.input → HasServed m d b before mid held_new count state
    filled grows =
        stands_more m d b before now mid held held_new count state at grows asked.out asked.reads asked.writes

    pub next_asked : HasAsked before now held count → AsksNeeded held held_new now.input now.asked mid.asked →
        HasAsked before mid held_new count
    next_asked earlier needed =
        asks_needed before.input now.input now.asked mid.asked at.taken held held_new count at.feeds at.consumed earlier
        needed

    pub next_read_fault : FillFails held held_new now.input mid.input (Rose now.reads mid.reads) Failed →
        IsReadFault m d b before mid
    next_read_fault (rose, grows, none) =
        read_fault m d b before mid held_new count state (filled grows) none (rose_earlier _ _ _ at.reads rose)

    pub next_long : Fills held held_new now.input mid.input TooLong → count < MOST_LINES →
        IsStopped m d b before mid count
    next_long fills few =
        stopped_long m d b before mid held_new count state (filled fills.grows) fills.is.0 fills.is.1 few fills.few

    pub next_done : Fills held held_new now.input mid.input Last → held_new ≡ [] → count < MOST_LINES →
        IsDone m d b before mid
    next_done fills empty few =
        done_empty m d b before mid held_new count state (filled fills.grows) empty fills.is.1 (omega (arith, few))

    -- after as many lines as there may be: more comes
    pub last_long : TakesPiece held held_new now.input mid.input true → count ≡ MOST_LINES → IsLong m d b before mid
    last_long takes all =
        long m d b before mid held_new count state
        (filled (record { piece = takes.piece; parts = takes.parts; consumed = takes.consumed }))
        (omega (arith, takes.some refl, ap length takes.parts, length-append held takes.piece)) all

    -- none comes
    pub last_done : TakesPiece held held_new now.input mid.input false → held ≡ [] → count ≡ MOST_LINES →
        IsDone m d b before mid
    last_done takes empty all =
        let (nothing, at_end) = takes.none refl in
        done_empty m d b before mid held_new count state
        (filled (record { piece = takes.piece; parts = takes.parts; consumed = takes.consumed }))
        (takes.parts ∙ ap (λ l. held ++ l) nothing ∙ append-nil held ∙ empty) at_end (omega (arith, all))

    -- the input fails
    pub last_read_fault : MoreFails held held_new now.input mid.input (Rose now.reads mid.reads) Failed → held ≡ [] →
        IsReadFault m d b before mid
    last_read_fault (rose, same, keeps) empty =
        read_fault m d b before mid held_new count state (filled
        (record {
          piece = [];
          parts = same ∙ sym (append-nil held);
          consumed = keeps_consumes now.input mid.input keeps;
        }))
        (subst HasNoFeed (sym (same ∙ empty)) refl) (rose_earlier _ _ _ at.reads rose)

    module _ (after : Streams) (written : Written mid after) where
      -- nothing was written, and no line answered
      unwritten : HasServed m d b before mid held_new count state → Appends mid.out after.out [] →
          HasServed m d b before after held_new count state
      unwritten there nothing = record {
        taken = there.taken;
        done = there.done;
        text = there.text;
        consumed =
            subst (λ (i : Option (List ℕ)). Consumes before.input i (there.taken ++ held_new)) (sym written.input)
            there.consumed;
        ends = there.ends;
        feeds = there.feeds;
        bay = there.bay;
        counted = there.counted;
        session = there.session;
        wrote =
            subst (λ (t : List ℕ). Appends before.out after.out t) (append-nil there.text)
            (appends_both before.out mid.out after.out there.text [] there.wrote nothing);
        reads = omega (arith, there.reads, written.reads);
        writes = omega (arith, there.writes, written.writes);
      }

      at_line : (n : ℕ) (line past : List ℕ) → length line ≡ n → held_new ≡ line ++ 10 ∷ past →
          (take n held_new ≡ line) × (drop (n + 1) held_new ≡ past)
      at_line n line past len parts = (
        ap (take n) parts ∙ ap (λ k. take k (line ++ 10 ∷ past)) (sym len) ∙ take-append_seam line (10 ∷ past),
        ap (drop (n + 1)) parts ∙ ap (λ k. drop (k + 1) (line ++ 10 ∷ past)) (sym len)
            ∙ drop-append-add line (10 ∷ past) 1,
      )

      asked_there : HasAsked before mid held_new count → 0 < length held_new → LastAsked before.input after.asked count
      asked_there asks some =
          subst (λ (a : Option (List ℕ)). LastAsked before.input a count) (sym written.asked)
          (asks (omega (arith, some)))

      is_some : (line past : List ℕ) → held_new ≡ line ++ 10 ∷ past → 0 < length held_new
      is_some line past parts = omega (arith, ap length parts, length-append line (10 ∷ past))

      pub next_line : (n : ℕ) (next : State) → HasAsked before mid held_new count →
          Fills held held_new now.input mid.input (Line n) →
          AnswersLine m d (count == 0) state (strip_carriage_return (take n held_new)) next mid.out after.out →
          next.bay ≡ b
          → Stands m d b before after (drop (n + 1) held_new) (count + 1) next
      next_line n next asks fills answered bay =
          let (line, past, len, begins) = fills.is in
          let there = at_line n line past len begins.parts in
          record {
            served =
                subst (λ (l : List ℕ). HasServed m d b before after l (count + 1) next) (sym there.1)
                (stands_past m d b before mid after held_new past count state line next (filled fills.grows) begins
                (subst (λ (l : List ℕ). AnswersLine m d (count == 0) state (strip_carriage_return l) next mid.out
                after.out) there.0 answered) bay written.input written.reads written.writes);
            asked = λ some.
                asked_line before.input after.asked count
                (asked_there asks (is_some line past begins.parts));
          }

      line_fails : (line past : List ℕ) (end : SessionEnd) → HasAsked before mid held_new count →
          Fills held held_new now.input mid.input (Line (length line)) → BeginsLine held_new line past →
          count < MOST_LINES
          → LineFails m d count state (strip_carriage_return line) mid.out after.out (Rose mid.writes after.writes)
          end → SessionEnds m d b before after end
      line_fails line past e.Done asks fills begins few fails = absurd fails
      line_fails line past (e.Refused number) asks fills begins few (is, refused, nothing) = (
        count,
        is,
        stopped_line m d b before after held_new count state (unwritten (filled fills.grows) nothing) line past begins
            (subst (λ (k : ℕ). ¬ IsRequest d k (count == 0) (strip_carriage_return line)) at.bay refused) few fills.few,
      )
      line_fails line past e.Long asks fills begins few fails = absurd fails
      line_fails line past e.ReadFault asks fills begins few fails = absurd fails
      line_fails line past e.WriteFault asks fills begins few (rose, tells) =
          let there = filled fills.grows in
          write_fault_line m d b before mid held_new count state there after written.input line past begins
          (asked_there asks (is_some line past begins.parts))
          (rose_earlier _ _ _ there.writes rose) tells
      line_fails line past e.Memory asks fills begins few nothing =
          want m d b before after held_new count state (unwritten (filled fills.grows) nothing)

      pub next_line_fails : (n : ℕ) (end : SessionEnd) → HasAsked before mid held_new count →
          Fills held held_new now.input mid.input (Line n) →
          count < MOST_LINES
          → LineFails m d count state (strip_carriage_return (take n held_new)) mid.out after.out
          (Rose mid.writes after.writes) end → SessionEnds m d b before after end
      next_line_fails n end asks fills few fails =
          let (line, past, len, begins) = fills.is in
          let there = at_line n line past len begins.parts in
          line_fails line past end asks (subst (λ (k : ℕ). Fills held held_new now.input mid.input (Line k)) (sym len) fills)
          begins few
          (subst (λ (l : List ℕ). LineFails m d count state (strip_carriage_return l) mid.out after.out
          (Rose mid.writes after.writes) end) there.0 fails)

      pub next_last : (next : State) → Fills held held_new now.input mid.input Last → 0 < length held_new →
          AnswersLine m d (count == 0) state held_new next mid.out after.out → count < MOST_LINES →
          IsDone m d b before after
      next_last next fills some answered few =
          done_last m d b before mid held_new count state (filled fills.grows) after written.input next fills.is.0 some
          fills.is.1 answered few

      pub next_last_fails : (end : SessionEnd) → HasAsked before mid held_new count →
          Fills held held_new now.input mid.input Last → 0 < length held_new →
          count < MOST_LINES
          → LineFails m d count state held_new mid.out after.out (Rose mid.writes after.writes) end →
          SessionEnds m d b before after end
      next_last_fails e.Done asks fills some few fails = absurd fails
      next_last_fails (e.Refused number) asks fills some few (is, refused, nothing) = (
        count,
        is,
        stopped_last m d b before after held_new count state (unwritten (filled fills.grows) nothing) fills.is.0 some
            (subst IsAtEnd (sym written.input) fills.is.1)
            (subst (λ (k : ℕ). ¬ IsRequest d k (count == 0) held_new) at.bay refused) few fills.few,
      )
      next_last_fails e.Long asks fills some few fails = absurd fails
      next_last_fails e.ReadFault asks fills some few fails = absurd fails
      next_last_fails e.WriteFault asks fills some few (rose, tells) =
          let there = filled fills.grows in
          write_fault_last m d b before mid held_new count state there after written.input fills.is.0 some fills.is.1
          (asked_there asks some)
          (rose_earlier _ _ _ there.writes rose) tells
      next_last_fails e.Memory asks fills some few nothing =
          want m d b before after held_new count state (unwritten (filled fills.grows) nothing)

  -- what was read is lost
  pub next_want : (mid : Streams) → Asked now mid → (held_new : List ℕ) →
      FillFails held held_new now.input mid.input (Rose now.reads mid.reads) Memory → IsWant m d b before mid
  next_want mid asked held_new (piece, consumed) =
      want m d b before mid (held ++ piece) count state
      (filled mid asked (held ++ piece) (record { piece = piece; parts = refl; consumed = consumed }))

consumes_nothing : (a : Option (List ℕ)) → Consumes a a []
consumes_nothing None = tt
consumes_nothing (Some x) = refl

-- before the first line
pub stands_first : (m : Meaning) (d : Diagram) (b : ℕ) (now : Streams) (held : List ℕ) (state : State) → held ≡ [] →
    state ≡ resumed d b nothing_kept → HasServed m d b now now held 0 state
stands_first m d b now held state empty is = subst (λ (s : State). HasServed m d b now now held 0 s) (sym is) (record {
  taken = [];
  done = [];
  text = [];
  consumed = subst (λ (l : List ℕ). Consumes now.input now.input l) (sym empty) (consumes_nothing now.input);
  ends = λ rest. refl;
  feeds = refl;
  bay = refl;
  counted = refl;
  session = (refl, refl);
  wrote = appends_nothing now.out;
  reads = omega arith;
  writes = omega arith;
})

-- what a test for emptiness says
zero_is : (n : ℕ) → (n == 0) ≡ true → n ≡ 0
zero_is n is = grind arith

some_is : (n : ℕ) → (n == 0) ≡ false → 0 < n
some_is n is = grind arith

nothing_is : (l : List ℕ) → length l ≡ 0 → l ≡ []
nothing_is [] none = refl
nothing_is (x ∷ l) none = absurd (omega (arith, none))

pub held_none : (l held : List ℕ) (r : Bool) → held ≡ l → r ≡ (length held == 0) → r ≡ true → l ≡ []
held_none l held r same test is = nothing_is l (zero_is (length l) (ap (λ k. length k == 0) (sym same) ∙ sym test ∙ is))

pub held_some : (l held : List ℕ) (r : Bool) → held ≡ l → r ≡ (length held == 0) → r ≡ false → 0 < length l
held_some l held r same test is = some_is (length l) (ap (λ k. length k == 0) (sym same) ∙ sym test ∙ is)

-- what the last read gave is lost
pub last_want : (m : Meaning) (d : Diagram) (b : ℕ) (before now : Streams) (held : List ℕ) (count : ℕ) (state : State)
    (at : HasServed m d b before now held count state) (mid : Streams) → Asked now mid → (held_new : List ℕ)
    → MoreFails held held_new now.input mid.input (Rose now.reads mid.reads) Memory → IsWant m d b before mid
last_want m d b before now held count state at mid asked held_new (piece, consumed) =
    next_want m d b before now held count state at mid asked held_new (piece, consumed)
