-- What a session has answered when it ends, and what it has taken of its input.
use Rattle.std.proofs.Common.{◌≡◌, ◌∙◌, refl, sym, ap, subst, arith, ℕ, ◌+◌, ◌==◌, true, List, [], ◌∷◌, ◌++◌, length}
use Rattle.std.proofs.Common.{take, slice_get, Option, Some, None}
use Rattle.std.specs.Prelude.{IfSome}
use Rattle.std.specs.Str.Lines.{lines}
use Rattle.std.specs.Io.KnownBytes.{Consumes, IsAtEnd}
use Rattle.std.proofs.lemmas.List.{append-nil, append_assoc, length-append}
use Rattle.std.proofs.Math.Seq.{take-append_seam}
use Rattle.station_graph.specs.Diagram.{Diagram}
use Rattle.central_rules.specs.Meaning.{Meaning}
use Rattle.bay_protocol.specs.State.{State, nothing_kept, resumed}
use Rattle.node_session.specs.Session.{AnswersWith, Session}
use Rattle.node_session.specs.SessionEnds.{Streams, Takes, Answered}
use Rattle.node_session.specs.Progress.{HasServed}
use Rattle.node_session.proofs.Going.{session_more}

rest_of : (a b : Option (List ℕ)) (taken : List ℕ) → Consumes a b taken →
    (rest : List ℕ) × IfSome a (λ known. known ≡ taken ++ rest)
rest_of None b taken consumed = ([], tt)
rest_of (Some x) None taken consumed = absurd consumed
rest_of (Some x) (Some y) taken consumed = (y, consumed)

all_of : (a b : Option (List ℕ)) (taken : List ℕ) → Consumes a b taken → IsAtEnd b → IfSome a (λ known. known ≡ taken)
all_of None b taken consumed at_end = tt
all_of (Some x) None taken consumed at_end = absurd consumed
all_of (Some x) (Some y) taken consumed at_end = consumed ∙ ap (λ l. taken ++ l) at_end ∙ append-nil taken

-- a list with one element more
pub taken_one_more : (done : List (List ℕ)) (line : List ℕ) (rest : List (List ℕ)) →
    take (length done + 1) (done ++ line ∷ rest) ≡ done ++ line ∷ []
taken_one_more done line rest =
    let e : length done + 1 ≡ length (done ++ line ∷ []) = omega (arith, length-append done (line ∷ [])) in
    ap (λ n. take n (done ++ line ∷ rest)) e
    ∙ ap (take (length (done ++ line ∷ []))) (sym (append_assoc done (line ∷ []) rest))
    ∙ take-append_seam (done ++ line ∷ []) rest

pub stands_there : (done : List (List ℕ)) (line : List ℕ) (rest : List (List ℕ)) →
    slice_get (done ++ line ∷ rest) (length done) ≡ Some line
stands_there [] line rest = refl
stands_there (l ∷ done) line rest = stands_there done line rest

module _ {m : Meaning} {d : Diagram} {b : ℕ} {before now : Streams} {held : List ℕ} {count : ℕ} {state : State}
    (at : HasServed m d b before now held count state) where
  -- an input of which what is held is the last that was taken
  pub takes_some : (rest : List ℕ) × Takes before now ((at.taken ++ held) ++ rest) (at.taken ++ held)
  takes_some =
      let (rest, told) = rest_of before.input now.input (at.taken ++ held) at.consumed in
      (rest, record { told = told; rest = rest; whole = refl; consumed = at.consumed })

  pub takes_all : IsAtEnd now.input → Takes before now (at.taken ++ held) (at.taken ++ held)
  takes_all at_end = record {
    told = all_of before.input now.input (at.taken ++ held) at.consumed at_end;
    rest = [];
    whole = sym (append-nil (at.taken ++ held));
    consumed = at.consumed;
  }

  pub cut : (rest : List ℕ) → lines ((at.taken ++ held) ++ rest) ≡ at.done ++ lines (held ++ rest)
  cut rest = ap lines (append_assoc at.taken held rest) ∙ at.ends (held ++ rest)

  pub cut_all : lines (at.taken ++ held) ≡ at.done ++ lines held
  cut_all = at.ends held

  pub first_lines : (rest : List (List ℕ)) → take count (at.done ++ rest) ≡ at.done
  first_lines rest = ap (λ n. take n (at.done ++ rest)) (sym at.counted) ∙ take-append_seam at.done rest

  -- the lines that are answered, of any input that goes on from them
  pub answered_of : (content : List ℕ) (rest : List (List ℕ)) → lines content ≡ at.done ++ rest →
      Answered m d b content count at.text
  answered_of content rest parts = record {
    within = omega (arith, ap length parts, length-append at.done rest, at.counted);
    session = (
      state,
      subst (λ (l : List (List ℕ)). Session m d true (resumed d b nothing_kept) l at.text state)
          (sym (ap (take count) parts ∙ first_lines rest)) at.session,
    );
  }

  -- and one more
  pub one_more_of : (content line answer : List ℕ) (next : State) (rest : List (List ℕ)) →
      lines content ≡ at.done ++ line ∷ rest → AnswersWith m d (count == 0) state line answer next
      → Answered m d b content (count + 1) (at.text ++ answer)
  one_more_of content line answer next rest parts answers =
      let front : take (count + 1) (lines content) ≡ at.done ++ line ∷ [] =
      ap (take (count + 1)) parts ∙ ap (λ n. take (n + 1) (at.done ++ line ∷ rest)) (sym at.counted)
      ∙ taken_one_more at.done line rest in
      record {
        within = omega (arith, ap length parts, length-append at.done (line ∷ rest), at.counted);
        session = (
          next,
          subst (λ (l : List (List ℕ)). Session m d true (resumed d b nothing_kept) l (at.text ++ answer) next)
              (sym front) (session_more m d (resumed d b nothing_kept) at.done at.text state line answer next count
              at.counted at.session answers),
        );
      }

  pub taken_lines : lines at.taken ≡ at.done
  taken_lines = ap lines (sym (append-nil at.taken)) ∙ at.ends [] ∙ append-nil at.done
