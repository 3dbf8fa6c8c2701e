-- A session that ends at a line which is refused.
use Rattle.std.proofs.Common.{◌≡◌, ◌∙◌, refl, sym, ap, arith, ℕ, ◌+◌, ◌<◌, ◌≤◌, ◌==◌, true, List, [], ◌∷◌, ◌++◌, length}
use Rattle.std.proofs.Common.{take, slice_get}
use Rattle.std.specs.Str.Lines.{lines, strip_carriage_return}
use Rattle.std.specs.Io.KnownBytes.{IsAtEnd}
use Rattle.std.proofs.lemmas.List.{append_assoc}
use Rattle.station_graph.specs.Diagram.{Diagram}
use Rattle.central_rules.specs.Meaning.{Meaning}
use Rattle.bay_protocol.specs.State.{State}
use Rattle.node_session.specs.declared.request.TheConstants.{MOST_LINE}
use Rattle.node_session.specs.declared.reader.TheConstants.{CHUNK}
use Rattle.node_session.specs.declared.end.TheConstants.{MOST_LINES}
use Rattle.node_session.specs.Requests.{IsRequest}
use Rattle.node_session.specs.SessionEnds.{Streams, IsStopped}
use Rattle.node_session.specs.Reading.{is_long, HasNoFeed, BeginsLine}
use Rattle.node_session.specs.Progress.{HasServed}
use Rattle.node_session.proofs.Feeds.{lines-line, lines-no_end, long_line}
use Rattle.node_session.proofs.AnsweredLines.{stands_there, takes_some, takes_all, cut, cut_all, first_lines}
use Rattle.node_session.proofs.AnsweredLines.{answered_of, taken_lines}

module _ (m : Meaning) (d : Diagram) (b : ℕ) (before now : Streams) (held : List ℕ) (count : ℕ) (state : State)
    (at : HasServed m d b before now held count state) where
  -- the next line is refused, whatever follows what is held
  stopped : (line : List ℕ → List ℕ) (more : List ℕ → List (List ℕ)) →
      ((rest : List ℕ) → lines (held ++ rest) ≡ line rest ∷ more rest) →
      ((rest : List ℕ) → ¬ IsRequest d b (count == 0) (line rest))
      → count < MOST_LINES → length held ≤ MOST_LINE + 1 + CHUNK → IsStopped m d b before now count
  stopped line more first refused few near =
      let (rest, takes) = takes_some at in
      let parts = cut at rest ∙ ap (λ l. at.done ++ l) (first rest) in
      record {
        content = (at.taken ++ held) ++ rest;
        text = at.text;
        taken = at.taken ++ held;
        takes = takes;
        few = few;
        answered = answered_of at ((at.taken ++ held) ++ rest) (line rest ∷ more rest) parts;
        refused = record {
          line = line rest;
          stands =
              ap (λ l. slice_get l count) parts
              ∙ ap (λ n. slice_get (at.done ++ line rest ∷ more rest) n) (sym at.counted)
              ∙ stands_there at.done (line rest) (more rest);
          refused = refused rest;
        };
        near = record {
          through = at.taken;
          past = held;
          parts = refl;
          ended = taken_lines at ∙ sym (ap (take count) parts ∙ first_lines at (line rest ∷ more rest));
          near = near;
        };
        wrote = at.wrote;
      }

  -- a whole line is refused
  pub stopped_line : (line past : List ℕ) → BeginsLine held line past →
      ¬ IsRequest d b (count == 0) (strip_carriage_return line) → count < MOST_LINES →
      length held ≤ MOST_LINE + 1 + CHUNK → IsStopped m d b before now count
  stopped_line line past begins refused few near =
      stopped (λ rest. strip_carriage_return line) (λ rest. lines (past ++ rest))
      (λ rest. ap (λ l. lines (l ++ rest)) begins.parts ∙ ap lines (append_assoc line (10 ∷ past) rest)
      ∙ lines-line line (past ++ rest) begins.whole)
      (λ rest. refused) few near

  -- a line is too long already
  pub stopped_long : HasNoFeed held → is_long held ≡ true → count < MOST_LINES → length held ≤ MOST_LINE + 1 + CHUNK →
      IsStopped m d b before now count
  stopped_long none long few near =
      stopped (λ rest. (long_line held rest none long).0) (λ rest. (long_line held rest none long).1)
      (λ rest. (long_line held rest none long).2)
      (λ rest request.
      let most = request.short in
      let more = (long_line held rest none long).3 in
      omega (arith, most, more)) few near

  -- the last line, which has no end, is refused
  pub stopped_last : HasNoFeed held → 0 < length held → IsAtEnd now.input → ¬ IsRequest d b (count == 0) held →
      count < MOST_LINES → length held ≤ MOST_LINE + 1 + CHUNK → IsStopped m d b before now count
  stopped_last none some at_end refused few near =
      let parts = cut_all at ∙ ap (λ l. at.done ++ l) (lines-no_end held none some) in
      record {
        content = at.taken ++ held;
        text = at.text;
        taken = at.taken ++ held;
        takes = takes_all at at_end;
        few = few;
        answered = answered_of at (at.taken ++ held) (held ∷ []) parts;
        refused = record {
          line = held;
          stands =
              ap (λ l. slice_get l count) parts ∙ ap (λ n. slice_get (at.done ++ held ∷ []) n) (sym at.counted)
              ∙ stands_there at.done held [];
          refused = refused;
        };
        near = record {
          through = at.taken;
          past = held;
          parts = refl;
          ended = taken_lines at ∙ sym (ap (take count) parts ∙ first_lines at (held ∷ []));
          near = near;
        };
        wrote = at.wrote;
      }
