-- How a session ends.
use Rattle.std.proofs.Common.{◌≡◌, ◌∙◌, sym, ap, subst, arith, ℕ, ◌+◌, ◌<◌, ◌≤◌, ◌==◌, List, [], ◌∷◌, ◌++◌, length}
use Rattle.std.proofs.Common.{take, Option}
use Rattle.std.specs.Prelude.{count_by}
use Rattle.std.specs.Str.Lines.{lines, strip_carriage_return}
use Rattle.std.specs.Io.KnownBytes.{Consumes, IsAtEnd}
use Rattle.std.proofs.lemmas.List.{append-nil, append_assoc, length-append}
use Rattle.ilk_base.specs.Outside.{Rose}
use Rattle.station_graph.specs.Diagram.{Diagram}
use Rattle.central_rules.specs.Meaning.{Meaning}
use Rattle.bay_protocol.specs.State.{State}
use Rattle.node_session.specs.declared.end.TheConstants.{MOST_LINES}
use Rattle.node_session.specs.SessionEnds.{Streams, Takes, Answered, IsDone, IsLong, IsReadFault, IsWriteFault, IsWant}
use Rattle.node_session.specs.SessionEnds.{LastAsked}
use Rattle.node_session.specs.Reading.{is_feed, HasNoFeed, BeginsLine}
use Rattle.node_session.specs.Progress.{AnswersLine, TellsFront, HasServed}
use Rattle.node_session.proofs.Feeds.{feeds-append, lines-line, lines-no_end, some_line}
use Rattle.node_session.proofs.Going.{appends_both}
use Rattle.node_session.proofs.AnsweredLines.{taken_one_more, takes_some, takes_all, cut, cut_all}
use Rattle.node_session.proofs.AnsweredLines.{answered_of, one_more_of}

module _ (m : Meaning) (d : Diagram) (b : ℕ) (before now : Streams) (held : List ℕ) (count : ℕ) (state : State)
    (at : HasServed m d b before now held count state) where
  pub want : IsWant m d b before now
  want =
      let (rest, takes) = takes_some at in
      record {
        content = (at.taken ++ held) ++ rest;
        text = at.text;
        taken = at.taken ++ held;
        takes = takes;
        count = count;
        answered = answered_of at ((at.taken ++ held) ++ rest) (lines (held ++ rest)) (cut at rest);
        wrote = at.wrote;
      }

  pub read_fault : HasNoFeed held → Rose before.reads now.reads → IsReadFault m d b before now
  read_fault none rose =
      let (rest, takes) = takes_some at in
      let feeds : count_by is_feed (at.taken ++ held) ≡ count =
      feeds-append at.taken held ∙ omega (arith, none, at.feeds) in
      record {
        rose = rose;
        content = (at.taken ++ held) ++ rest;
        text = at.text;
        taken = at.taken ++ held;
        takes = takes;
        answered =
            subst (λ (n : ℕ). Answered m d b ((at.taken ++ held) ++ rest) n at.text) (sym feeds)
            (answered_of at ((at.taken ++ held) ++ rest) (lines (held ++ rest)) (cut at rest));
        wrote = at.wrote;
      }

  -- all is answered, and nothing is held
  pub done_empty : held ≡ [] → IsAtEnd now.input → count ≤ MOST_LINES → IsDone m d b before now
  done_empty empty at_end few =
      let parts : lines (at.taken ++ held) ≡ at.done =
      cut_all at ∙ ap (λ l. at.done ++ lines l) empty ∙ append-nil at.done in
      let all : count ≡ length (lines (at.taken ++ held)) = sym at.counted ∙ sym (ap length parts) in
      record {
        content = at.taken ++ held;
        text = at.text;
        takes = takes_all at at_end;
        few = omega (arith, all, few);
        answered =
            subst (λ (n : ℕ). Answered m d b (at.taken ++ held) n at.text) all
            (answered_of at (at.taken ++ held) [] (parts ∙ sym (append-nil at.done)));
        wrote = at.wrote;
      }

  -- there are more lines than there may be
  pub long : 0 < length held → count ≡ MOST_LINES → IsLong m d b before now
  long some all =
      let (rest, takes) = takes_some at in
      let more : 0 < length (lines (held ++ rest)) =
      some_line (held ++ rest) (omega (arith, some, length-append held rest)) in
      record {
        content = (at.taken ++ held) ++ rest;
        text = at.text;
        taken = at.taken ++ held;
        takes = takes;
        more =
            omega (arith, ap length (cut at rest), length-append at.done (lines (held ++ rest)), at.counted, more, all);
        answered =
            subst (λ (n : ℕ). Answered m d b ((at.taken ++ held) ++ rest) n at.text) all
            (answered_of at ((at.taken ++ held) ++ rest) (lines (held ++ rest)) (cut at rest));
        wrote = at.wrote;
      }

  module _ (after : Streams) (same : after.input ≡ now.input) where
    takes_after : (content taken : List ℕ) → Takes before now content taken → Takes before after content taken
    takes_after content taken takes = record {
      told = takes.told;
      rest = takes.rest;
      whole = takes.whole;
      consumed = subst (λ (i : Option (List ℕ)). Consumes before.input i taken) (sym same) takes.consumed;
    }

    -- the text of a whole line was not written, or a front of it
    pub write_fault_line : (line past : List ℕ) → BeginsLine held line past →
        LastAsked before.input after.asked count → Rose before.writes after.writes →
        TellsFront m d (count == 0) state (strip_carriage_return line) now.out after.out →
        IsWriteFault m d b before after
    write_fault_line line past begins asked rose tells =
        let (rest, takes) = takes_some at in
        let content = (at.taken ++ held) ++ rest in
        let parts : lines content ≡ at.done ++ strip_carriage_return line ∷ lines (past ++ rest) =
        cut at rest
        ∙ ap (λ l. at.done ++ l) (ap (λ l. lines (l ++ rest)) begins.parts
        ∙ ap lines (append_assoc line (10 ∷ past) rest) ∙ lines-line line (past ++ rest) begins.whole) in
        let (front, proper, wrote) = tells.wrote in
        record {
          rose = rose;
          content = content;
          taken = at.taken ++ held;
          takes = takes_after content (at.taken ++ held) takes;
          count = count;
          text = at.text;
          earlier = answered_of at content (strip_carriage_return line ∷ lines (past ++ rest)) parts;
          answer = tells.text;
          answered =
              one_more_of at content (strip_carriage_return line) tells.text tells.new (lines (past ++ rest)) parts
              tells.answers;
          near = record {
            through = at.taken ++ (line ++ 10 ∷ []);
            past = past;
            parts =
                ap (λ l. at.taken ++ l) (begins.parts ∙ sym (append_assoc line (10 ∷ []) past))
                ∙ sym (append_assoc at.taken (line ++ 10 ∷ []) past);
            ended = at.ends (line ++ 10 ∷ []) ∙ ap (λ l. at.done ++ l) (lines-line line [] begins.whole)
                ∙ sym (ap (take (count + 1)) parts
                ∙ ap (λ n. take (n + 1) (at.done ++ strip_carriage_return line ∷ lines (past ++ rest))) (sym at.counted)
                ∙ taken_one_more at.done (strip_carriage_return line) (lines (past ++ rest)));
            near = begins.near;
          };
          asked = asked;
          front = front;
          proper = proper;
          wrote = appends_both before.out now.out after.out at.text (take front tells.text) at.wrote wrote;
        }

    -- the same of the last line, which has no end
    pub write_fault_last : HasNoFeed held → 0 < length held → IsAtEnd now.input →
        LastAsked before.input after.asked count → Rose before.writes after.writes →
        TellsFront m d (count == 0) state held now.out after.out → IsWriteFault m d b before after
    write_fault_last none some at_end asked rose tells =
        let content = at.taken ++ held in
        let parts : lines content ≡ at.done ++ held ∷ [] =
        cut_all at ∙ ap (λ l. at.done ++ l) (lines-no_end held none some) in
        let (front, proper, wrote) = tells.wrote in
        record {
          rose = rose;
          content = content;
          taken = content;
          takes = takes_after content content (takes_all at at_end);
          count = count;
          text = at.text;
          earlier = answered_of at content (held ∷ []) parts;
          answer = tells.text;
          answered = one_more_of at content held tells.text tells.new [] parts tells.answers;
          near = record {
            through = content;
            past = [];
            parts = sym (append-nil content);
            ended =
                parts
                ∙ sym (ap (take (count + 1)) parts ∙ ap (λ n. take (n + 1) (at.done ++ held ∷ [])) (sym at.counted)
                ∙ taken_one_more at.done held []);
            near = omega arith;
          };
          asked = asked;
          front = front;
          proper = proper;
          wrote = appends_both before.out now.out after.out at.text (take front tells.text) at.wrote wrote;
        }

    -- the last line is answered
    pub done_last : (next : State) → HasNoFeed held → 0 < length held → IsAtEnd now.input →
        AnswersLine m d (count == 0) state held next now.out after.out → count < MOST_LINES → IsDone m d b before after
    done_last next none some at_end answered few =
        let content = at.taken ++ held in
        let parts : lines content ≡ at.done ++ held ∷ [] =
        cut_all at ∙ ap (λ l. at.done ++ l) (lines-no_end held none some) in
        let all : count + 1 ≡ length (lines content) =
        omega (arith, ap length parts, length-append at.done (held ∷ []), at.counted) in
        record {
          content = content;
          text = at.text ++ answered.text;
          takes = takes_after content content (takes_all at at_end);
          few = omega (arith, all, few);
          answered =
              subst (λ (n : ℕ). Answered m d b content n (at.text ++ answered.text)) all
              (one_more_of at content held answered.text next [] parts answered.answers);
          wrote = appends_both before.out now.out after.out at.text answered.text at.wrote answered.wrote;
        }
