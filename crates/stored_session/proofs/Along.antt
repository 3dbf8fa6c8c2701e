-- A session goes on by some lines.
use Rattle.std.proofs.Common.{◌∙◌, ◌≤◌, ◌⊎◌, ◌++◌, ◌∷◌, [], ⊎_elim, ℕ, List, length, refl, sym, ap, subst, arith}
use Rattle.std.proofs.lemmas.List.{append-nil, append_assoc, length-append}
use Rattle.station_graph.specs.Diagram.{Diagram}
use Rattle.central_rules.specs.Meaning.{Meaning}
use Rattle.bay_protocol.specs.State.{State, kept_of}
use Rattle.node_store.specs.Image.{IsImageOf}
use Rattle.stored_session.specs.Stored.{AnswersStored, StoredSession}
use Rattle.stored_session.specs.Along.{StandsAlong}

module _ (m : Meaning) (d : Diagram) (b : ℕ) where
  -- more lines
  pub session_more : (start : State) (done : List (List ℕ)) (text : List ℕ) (state : State) (more : List (List ℕ))
      (answer : List ℕ) (next : State)
      → StoredSession m d b start done text state → StoredSession m d b state more answer next
      → StoredSession m d b start (done ++ more) (text ++ answer) next
  session_more start [] text state more answer next (nothing, same) answers =
      subst (λ (t : List ℕ). StoredSession m d b start more (t ++ answer) next) (sym nothing)
      (subst (λ (s : State). StoredSession m d b s more answer next) same answers)
  session_more start (l ∷ done) text state more answer next (one, mid, answered, rest, session, is) answers = (
    one,
    mid,
    answered,
    rest ++ answer,
    session_more mid done rest state more answer next session answers,
    ap
        (λ t. t ++ answer) is ∙ append_assoc one rest answer,
  )

  -- one line
  pub session_one : (state : State) (line answer : List ℕ) (next : State) → AnswersStored m d b state line answer next
      → StoredSession m d b state (line ∷ []) answer next
  session_one state line answer next answers = (answer, next, answers, [], (refl, refl), sym (append-nil answer))

  -- after no line
  pub along_none : (start : State) (c : List ℕ) → IsImageOf c (kept_of start) → StandsAlong m d b start [] [] start 0 c
  along_none start c stands = record {
    done = [];
    more = [];
    parts = refl;
    enough = omega arith;
    text_done = [];
    text_more = [];
    texts = refl;
    between = start;
    first = (refl, refl);
    second = (refl, refl);
    stands = stands;
  }

  -- after all lines
  pub along_all : (start : State) (lines : List (List ℕ)) (text : List ℕ) (last : State) (c : List ℕ)
      → StoredSession m d b start lines text last → IsImageOf c (kept_of last)
      → StandsAlong m d b start lines text last (length lines) c
  along_all start lines text last c session stands = record {
    done = lines;
    more = [];
    parts = sym (append-nil lines);
    enough = omega arith;
    text_done = text;
    text_more = [];
    texts = sym (append-nil text);
    between = last;
    first = session;
    second = (refl, refl);
    stands = stands;
  }

  -- what stood before more lines stands after them
  pub along_more : (start : State) (lines : List (List ℕ)) (text : List ℕ) (last : State) (low : ℕ)
      (more : List (List ℕ)) (answer : List ℕ) (next : State) (c : List ℕ)
      → StoredSession m d b last more answer next → StandsAlong m d b start lines text last low c
      → StandsAlong m d b start (lines ++ more) (text ++ answer) next low c
  along_more start lines text last low more answer next c answers s = record {
    done = s.done;
    more = s.more ++ more;
    parts = ap (λ l. l ++ more) s.parts ∙ append_assoc s.done s.more more;
    enough = s.enough;
    text_done = s.text_done;
    text_more = s.text_more ++ answer;
    texts = ap (λ t. t ++ answer) s.texts ∙ append_assoc s.text_done s.text_more answer;
    between = s.between;
    first = s.first;
    second = session_more s.between s.more s.text_more last more answer next s.second answers;
    stands = s.stands;
  }

  -- fewer lines are asked for
  pub along_lower : (start : State) (lines : List (List ℕ)) (text : List ℕ) (last : State) (low less : ℕ) (c : List ℕ)
      → less ≤ low
      → StandsAlong m d b start lines text last low c → StandsAlong m d b start lines text last less c
  along_lower start lines text last low less c le s = record {
    done = s.done;
    more = s.more;
    parts = s.parts;
    enough = omega (arith, le, s.enough);
    text_done = s.text_done;
    text_more = s.text_more;
    texts = s.texts;
    between = s.between;
    first = s.first;
    second = s.second;
    stands = s.stands;
  }

  -- a crash in more lines leaves the record before them or after them, and no fewer lines than before
  pub along_either : (start : State) (lines : List (List ℕ)) (text : List ℕ) (last : State) (more : List (List ℕ))
      (answer : List ℕ) (next : State) (c : List ℕ)
      → StoredSession m d b start lines text last → StoredSession m d b last more answer next
      → IsImageOf c (kept_of last) ⊎ IsImageOf c (kept_of next)
      → StandsAlong m d b start (lines ++ more) (text ++ answer) next (length lines) c
  along_either start lines text last more answer next c session answers stands = ⊎_elim
      (λ (h : IsImageOf c (kept_of last)). along_more start lines text last (length lines) more answer next c answers
      (along_all start lines text last c session h))
      (λ (h : IsImageOf c (kept_of next)).
      along_lower start (lines ++ more) (text ++ answer) next (length (lines ++ more)) (length lines) c
      (omega (arith, length-append lines more))
      (along_all start (lines ++ more) (text ++ answer) next c
      (session_more start lines text last more answer next session answers) h))
      stands
