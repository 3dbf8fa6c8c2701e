-- One more line of a session.
use Rattle.std.proofs.Common.{◌≡◌, ◌∙◌, refl, sym, ap, subst, arith, ℕ, ◌+◌, ◌≤◌, ◌==◌, Bool, true, false, List, []}
use Rattle.std.proofs.Common.{◌∷◌, ◌++◌, length, Option, Some, None}
use Rattle.std.specs.Str.Lines.{lines, strip_carriage_return}
use Rattle.std.specs.Io.KnownBytes.{Appends, Consumes}
use Rattle.std.proofs.lemmas.List.{append-nil, append_assoc, length-append}
use Rattle.station_graph.specs.Diagram.{Diagram}
use Rattle.central_rules.specs.Meaning.{Meaning}
use Rattle.bay_protocol.specs.State.{State, nothing_kept, resumed}
use Rattle.node_session.specs.Session.{AnswersWith, Session}
use Rattle.node_session.specs.SessionEnds.{Streams}
use Rattle.node_session.specs.Reading.{Grows, BeginsLine}
use Rattle.node_session.specs.Progress.{AnswersLine, HasServed}
use Rattle.node_session.proofs.Feeds.{feeds-append, lines-line}
use Rattle.node_session.proofs.Filling.{consumes_both}

-- whether the line after these is the first
abbrev is_next_first : Bool → List (List ℕ) → Bool
is_next_first first [] = first
is_next_first first (line ∷ done) = false

never_again : (done : List (List ℕ)) → is_next_first false done ≡ false
never_again [] = refl
never_again (line ∷ done) = refl

at_first : (done : List (List ℕ)) → is_next_first true done ≡ (length done == 0)
at_first [] = refl
at_first (line ∷ done) = grind arith

more : (m : Meaning) (d : Diagram) (first : Bool) (start : State) (done : List (List ℕ)) (text : List ℕ) (state : State)
    (line answer : List ℕ) (next : State)
    → Session m d first start done text state → AnswersWith m d (is_next_first first done) state line answer next →
    Session m d first start (done ++ line ∷ []) (text ++ answer) next
more m d first start [] text state line answer next (nothing, same) answers = (
  answer,
  next,
  subst (λ (s : State). AnswersWith m d first s line answer next) same answers,
  [],
  (refl, refl),
  ap (λ t. t ++ answer) nothing ∙ sym (append-nil answer),
)
more m d first start (l ∷ done) text state line answer next (one, mid, answered, rest, session, is) answers = (
  one,
  mid,
  answered,
  rest ++ answer,
  more m d false mid done rest state line answer next session
      (subst (λ t. AnswersWith m d t state line answer next) (sym (never_again done)) answers),
  ap (λ t. t ++ answer) is ∙ append_assoc one rest answer,
)

-- the lines that are answered, and one more
pub session_more : (m : Meaning) (d : Diagram) (start : State) (done : List (List ℕ)) (text : List ℕ) (state : State)
    (line answer : List ℕ) (next : State) (count : ℕ)
    → length done ≡ count → Session m d true start done text state →
    AnswersWith m d (count == 0) state line answer next →
    Session m d true start (done ++ line ∷ []) (text ++ answer) next
session_more m d start done text state line answer next count counted session answers =
    more m d true start done text state line answer next session
    (subst (λ t. AnswersWith m d t state line answer next) (sym (at_first done ∙ ap (λ n. n == 0) counted)) answers)

pub appends_nothing : (a : Option (List ℕ)) → Appends a a []
appends_nothing None = tt
appends_nothing (Some x) = sym (append-nil x)

pub appends_both : (a b c : Option (List ℕ)) (p q : List ℕ) → Appends a b p → Appends b c q → Appends a c (p ++ q)
appends_both None b c p q first second = tt
appends_both (Some x) None c p q first second = absurd first
appends_both (Some x) (Some y) None p q first second = absurd second
appends_both (Some x) (Some y) (Some z) p q first second = second ∙ ap (λ l. l ++ q) first ∙ append_assoc x p q

-- the same bytes, cut at the end of the line instead of before it
past_line : (taken held line past rest : List ℕ) → held ≡ line ++ 10 ∷ past →
    (taken ++ (line ++ 10 ∷ [])) ++ (past ++ rest) ≡ taken ++ (held ++ rest)
past_line taken held line past rest parts =
    append_assoc taken (line ++ 10 ∷ []) (past ++ rest)
    ∙ ap (λ l. taken ++ l) (append_assoc line (10 ∷ []) (past ++ rest) ∙ sym (append_assoc line (10 ∷ past) rest)
    ∙ ap (λ l. l ++ rest) (sym parts))

module _ (m : Meaning) (d : Diagram) (b : ℕ) (before now after : Streams) (held held_new : List ℕ) (count : ℕ)
    (state : State) where
  -- more is held
  pub stands_more : HasServed m d b before now held count state → Grows held held_new now.input after.input →
      after.out ≡ now.out → now.reads ≤ after.reads → now.writes ≤ after.writes
      → HasServed m d b before after held_new count state
  stands_more at grows same reads writes = record {
    taken = at.taken;
    done = at.done;
    text = at.text;
    consumed =
        subst (λ (l : List ℕ). Consumes before.input after.input l)
        (append_assoc at.taken held grows.piece ∙ ap (λ l. at.taken ++ l) (sym grows.parts))
        (consumes_both before.input now.input after.input (at.taken ++ held) grows.piece at.consumed grows.consumed);
    ends = at.ends;
    feeds = at.feeds;
    bay = at.bay;
    counted = at.counted;
    session = at.session;
    wrote = subst (λ (o : Option (List ℕ)). Appends before.out o at.text) (sym same) at.wrote;
    reads = omega (arith, at.reads, reads);
    writes = omega (arith, at.writes, writes);
  }

  -- the first line of what is held is answered
  pub stands_past : (line : List ℕ) (next : State) → HasServed m d b before now held count state →
      BeginsLine held line held_new
      → AnswersLine m d (count == 0) state (strip_carriage_return line) next now.out after.out → next.bay ≡ b →
      after.input ≡ now.input → now.reads ≤ after.reads → now.writes ≤ after.writes
      → HasServed m d b before after held_new (count + 1) next
  stands_past line next at begins answered bay same reads writes = record {
    taken = at.taken ++ (line ++ 10 ∷ []);
    done = at.done ++ strip_carriage_return line ∷ [];
    text = at.text ++ answered.text;
    consumed =
        subst (λ (i : Option (List ℕ)). Consumes before.input i ((at.taken ++ (line ++ 10 ∷ [])) ++ held_new))
        (sym same)
        (subst (λ (l : List ℕ). Consumes before.input now.input l)
        (sym (ap (λ l. (at.taken ++ (line ++ 10 ∷ [])) ++ l) (sym (append-nil held_new))
        ∙ past_line at.taken held line held_new [] begins.parts ∙ ap (λ l. at.taken ++ l) (append-nil held)))
        at.consumed);
    ends = λ rest.
        ap lines (append_assoc at.taken (line ++ 10 ∷ []) rest)
        ∙ at.ends ((line ++ 10 ∷ []) ++ rest)
        ∙ ap (λ l. at.done ++ l) (ap lines (append_assoc line (10 ∷ []) rest) ∙ lines-line line rest begins.whole)
        ∙ sym (append_assoc at.done (strip_carriage_return line ∷ []) (lines rest));
    feeds = omega (arith, feeds-append at.taken (line ++ 10 ∷ []), feeds-append line (10 ∷ []), begins.whole, at.feeds);
    bay = bay;
    counted = omega (arith, length-append at.done (strip_carriage_return line ∷ []), at.counted);
    session =
        session_more m d (resumed d b nothing_kept) at.done at.text state (strip_carriage_return line) answered.text
        next count at.counted at.session answered.answers;
    wrote = appends_both before.out now.out after.out at.text answered.text at.wrote answered.wrote;
    reads = omega (arith, at.reads, reads);
    writes = omega (arith, at.writes, writes);
  }
