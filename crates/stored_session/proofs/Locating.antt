-- The line in whose text a number of bytes of a session's text ends.
use Rattle.std.proofs.Common.{◌≡◌, ◌∙◌, ◌≤◌, ◌<◌, ◌+◌, ◌-◌, ◌++◌, ◌∷◌, [], ℕ, List, true, false, nat_lt, length}
use Rattle.std.proofs.Common.{take, refl, sym, ap, subst, arith}
use Rattle.std.proofs.lemmas.List.{append_assoc, length-append, take-append-le}
use Rattle.std.proofs.Math.Seq.{take-append-add}
use borrow.Author.Tests.{ltb-true, ltb-false}
use Rattle.station_graph.specs.Diagram.{Diagram}
use Rattle.central_rules.specs.Meaning.{Meaning}
use Rattle.bay_protocol.specs.State.{State}
use Rattle.stored_session.specs.Stored.{AnswersStored, StoredSession}

-- in the text of this line, of which a front that is not all is within
pub record Located (m : Meaning) (d : Diagram) (b : ℕ) (start : State) (lines : List (List ℕ)) (text : List ℕ)
    (n : ℕ) : Type 0 where
  pub earlier : List (List ℕ)
  pub line : List ℕ
  pub later : List (List ℕ)
  pub parts : lines ≡ earlier ++ line ∷ later
  pub text_earlier : List ℕ
  pub answer : List ℕ
  pub text_later : List ℕ
  pub texts : text ≡ text_earlier ++ (answer ++ text_later)
  pub state : State
  pub session : StoredSession m d b start earlier text_earlier state
  pub next : State
  pub answers : AnswersStored m d b state line answer next
  pub front : ℕ
  pub count : n ≡ length text_earlier + front
  pub within : front < length answer

module _ (m : Meaning) (d : Diagram) (b : ℕ) where
  -- one line earlier
  behind : (start : State) (line answer : List ℕ) (next : State) (lines : List (List ℕ)) (rest : List ℕ) (n : ℕ)
      → AnswersStored m d b start line answer next → length answer ≤ n
      → Located m d b next lines rest (n - length answer) → Located m d b start (line ∷ lines) (answer ++ rest) n
  behind start line answer next lines rest n answers past l = record {
    earlier = line ∷ l.earlier;
    line = l.line;
    later = l.later;
    parts = ap (λ k. line ∷ k) l.parts;
    text_earlier = answer ++ l.text_earlier;
    answer = l.answer;
    text_later = l.text_later;
    texts = ap (λ t. answer ++ t) l.texts ∙ sym (append_assoc answer l.text_earlier (l.answer ++ l.text_later));
    state = l.state;
    session = (answer, next, answers, l.text_earlier, l.session, refl);
    next = l.next;
    answers = l.answers;
    front = l.front;
    count = omega (arith, past, l.count, length-append answer l.text_earlier);
    within = l.within;
  }

  pub locate : (start : State) (lines : List (List ℕ)) (text : List ℕ) (last : State) (n : ℕ)
      → StoredSession m d b start lines text last → n < length text → Located m d b start lines text n
  locate start [] text last n (nothing, same) within = absurd (omega (arith, within, ap length nothing))
  locate start (line ∷ lines) text last n (answer, next, answers, rest, session, is) within =
      elim (nat_lt n (length answer)) as (λ t. nat_lt n (length answer) ≡ t
      → Located m d b start (line ∷ lines) text n) [
        | true ↦ λ e. record {
          earlier = [];
          line = line;
          later = lines;
          parts = refl;
          text_earlier = [];
          answer = answer;
          text_later = rest;
          texts = is;
          state = start;
          session = (refl, refl);
          next = next;
          answers = answers;
          front = n;
          count = omega arith;
          within = ltb-true _ _ e;
        }
        | false ↦ λ e.
            let past : length answer ≤ n = ltb-false _ _ e in
            subst (λ (t : List ℕ). Located m d b start (line ∷ lines) t n) (sym is)
            (behind start line answer next lines rest n answers past
            (locate next lines rest last (n - length answer) session
            (omega (arith, past, within, ap length is, length-append answer rest))))
      ] refl

  -- what is within
  pub front_text : (start : State) (lines : List (List ℕ)) (text : List ℕ) (n : ℕ)
      (l : Located m d b start lines text n) → take n text ≡ l.text_earlier ++ take l.front l.answer
  front_text start lines text n l =
      let few : l.front ≤ length l.answer = omega (arith, l.within) in
      ap (take n) l.texts
      ∙ ap (λ k. take k (l.text_earlier ++ (l.answer ++ l.text_later))) l.count
      ∙ take-append-add l.text_earlier (l.answer ++ l.text_later) l.front
      ∙ ap (λ t. l.text_earlier ++ t) (take-append-le l.front l.answer l.text_later few)
