-- Reading an input line by line.
use Rattle.std.proofs.Common.{◌≡◌, ◌∙◌, ◌≤◌, ◌<◌, ◌+◌, ◌++◌, ◌∷◌, [], ℕ, List, Option, Some, None, Ok, Err, length}
use Rattle.std.proofs.Common.{true, refl, sym, ap, subst, arith}
use Rattle.std.specs.Prelude.{IfSome}
use Rattle.std.specs.Str.Lines.{lines, strip_carriage_return}
use Rattle.std.specs.Io.KnownBytes.{Consumes, IsAtEnd}
use Rattle.std.proofs.lemmas.List.{append-nil, append_assoc, length-append}
use Rattle.node_session.specs.declared.request.TheConstants.{MOST_LINE}
use Rattle.node_session.specs.declared.reader.TheConstants.{CHUNK}
use Rattle.node_session.specs.declared.reader.Front.TheVariants.{Line, TooLong, Last}
use Rattle.node_session.specs.declared.reader.InputTrouble.{InputTrouble}
use Rattle.node_session.specs.declared.reader.InputTrouble.TheVariants.{Memory, Failed}
use Rattle.node_session.specs.Reading.{HasNoFeed, is_long, AsksNeeded, Grows, Fills, FillFails}
use Rattle.node_session.specs.SessionEnds.{LastAsked}
use Rattle.node_session.proofs.Feeds.{feeds-append, lines-line, lines-no_end, long_line}
use Rattle.node_session.proofs.Asking.{asks_needed}
use Rattle.node_session.proofs.Filling.{consumes_both}
use Rattle.stored_session.specs.Holding.{HoldsLine}
use Rattle.stored_session.specs.Through.{ReadsThrough, TakesNear, BeginsStored, IsAll, HasNext, GoesOn}
use Rattle.stored_session.specs.declared.read.NextLine.TheVariants.{Whole}

rest_of : (a b : Option (List ℕ)) (taken : List ℕ) → Consumes a b taken → (rest : List ℕ) × IfSome a
    (λ known. known ≡ taken ++ rest)
rest_of None b taken consumed = ([], tt)
rest_of (Some x) None taken consumed = absurd consumed
rest_of (Some x) (Some y) taken consumed = (y, consumed)

all_of : (a b : Option (List ℕ)) (taken : List ℕ) → Consumes a b taken → IsAtEnd b → IfSome a (λ known. known ≡ taken)
all_of None b taken consumed at_end = tt
all_of (Some x) None taken consumed at_end = absurd consumed
all_of (Some x) (Some y) taken consumed at_end = consumed ∙ ap (λ l. taken ++ l) at_end ∙ append-nil taken

consumes_none : (a : Option (List ℕ)) → Consumes a a []
consumes_none None = tt
consumes_none (Some x) = refl

-- what is held begins with a whole line, whatever was read
pub holds_whole : (left left_new : Option (List ℕ)) (held held_new : List ℕ) (rose : Type 0)
    → ((before : Option (List ℕ)) (done : List (List ℕ)) → ReadsThrough before left held done
    → GoesOn before left_new held_new done rose (Ok Whole))
    → HoldsLine held_new
holds_whole left left_new held held_new rose goes =
    let (reads, holds) = goes None [] (record { taken = []; consumed = tt; ends = λ rest. refl; feeds = refl }) in
    holds

module _ (before : Option (List ℕ)) (done : List (List ℕ)) where
  -- nothing is read yet
  pub reads_none : ReadsThrough before before [] []
  reads_none = record { taken = []; consumed = consumes_none before; ends = λ rest. refl; feeds = refl }

  -- more is held
  reads_more : (now after : Option (List ℕ)) (held held_new : List ℕ) → ReadsThrough before now held done
      → Grows held held_new now after → ReadsThrough before after held_new done
  reads_more now after held held_new at grows = record {
    taken = at.taken;
    consumed = subst (λ (l : List ℕ). Consumes before after l) (append_assoc at.taken held grows.piece ∙ ap
        (λ l. at.taken ++ l) (sym grows.parts))
        (consumes_both before now after (at.taken ++ held) grows.piece at.consumed grows.consumed);
    ends = at.ends;
    feeds = at.feeds;
  }

  module _ (now : Option (List ℕ)) (held : List ℕ) (at : ReadsThrough before now held done) where
    cut : (rest : List ℕ) → lines ((at.taken ++ held) ++ rest) ≡ done ++ lines (held ++ rest)
    cut rest = ap lines (append_assoc at.taken held rest) ∙ at.ends (held ++ rest)

    -- the input begins with the lines that were read
    pub begins : BeginsStored before done
    begins =
        let (rest, told) = rest_of before now (at.taken ++ held) at.consumed in
        ((at.taken ++ held) ++ rest, lines (held ++ rest), record { told = told; cut = cut rest })

    -- the next one is too long
    long_next : HasNoFeed held → is_long held ≡ true → (line : List ℕ) × HasNext before done line
        × (MOST_LINE < length line)
    long_next none long =
        let (rest, told) = rest_of before now (at.taken ++ held) at.consumed in
        let (line, more, is, most) = long_line held rest none long in (
          line,
          (
            (at.taken ++ held) ++ rest,
            more,
            record {
              told = told;
              cut = cut rest ∙ ap (λ l. done ++ l) is ∙ sym
                  (append_assoc done (line ∷ []) more);
            },
          ),
          most,
        )

    -- the last one has no end
    last_next : HasNoFeed held → 0 < length held → IsAtEnd now → IsAll before now (done ++ held ∷ [])
    last_next none some at_end = (
      at.taken ++ held,
      record {
        told = all_of before now (at.taken ++ held) at.consumed at_end;
        cut = at.ends held ∙ ap (λ l. done ++ l) (lines-no_end held none some);
      },
      at.consumed,
    )

    -- the first line of what is held is passed
    pub reads_line : (line past : List ℕ) → held ≡ line ++ 10 ∷ past → HasNoFeed line → ReadsThrough before now past
        (done ++ strip_carriage_return line ∷ [])
    reads_line line past parts whole = record {
      taken = at.taken ++ (line ++ 10 ∷ []);
      consumed = subst (λ (l : List ℕ). Consumes before now l)
          (ap (λ l. at.taken ++ l) (parts ∙ sym (append_assoc line (10 ∷ []) past)) ∙ sym (append_assoc at.taken
          (line ++ 10 ∷ []) past)) at.consumed;
      ends = λ rest.
          ap lines (append_assoc at.taken (line ++ 10 ∷ []) rest)
          ∙ at.ends ((line ++ 10 ∷ []) ++ rest)
          ∙ ap (λ l. done ++ l) (ap lines (append_assoc line (10 ∷ []) rest) ∙ lines-line line rest whole)
          ∙ sym (append_assoc done (strip_carriage_return line ∷ []) (lines rest));
      feeds = omega (
        arith,
        feeds-append at.taken (line ++ 10 ∷ []),
        feeds-append line (10 ∷ []),
        whole,
        at.feeds,
        length-append done (strip_carriage_return line ∷ []),
      );
    }

  -- little is held past lines that were read
  pub near_line : (now : Option (List ℕ)) (held : List ℕ) → length held ≤ CHUNK → ReadsThrough before now held done
      → TakesNear before now done
  near_line now held few at = record {
    through = at.taken;
    past = held;
    consumed = at.consumed;
    ended = ap lines (sym (append-nil at.taken)) ∙ at.ends [] ∙ append-nil done;
    near = few;
  }

  -- and nothing where they are all
  pub near_last : (now : Option (List ℕ)) → IsAll before now done → TakesNear before now done
  near_last now (content, has, consumed) = record {
    through = content;
    past = [];
    consumed = subst (λ (l : List ℕ). Consumes before now l) (sym (append-nil content)) consumed;
    ended = has.cut;
    near = omega arith;
  }

  -- lines that were read are lines of the input
  pub has_next : (now : Option (List ℕ)) (held line : List ℕ) → ReadsThrough before now held (done ++ line ∷ [])
      → HasNext before done line
  has_next now held line at =
      let (rest, told) = rest_of before now (at.taken ++ held) at.consumed in (
        (at.taken ++ held) ++ rest,
        lines (held ++ rest),
        record {
          told = told;
          cut = ap lines
              (append_assoc at.taken held rest) ∙ at.ends (held ++ rest);
        },
      )

  -- so is one that is held
  pub has_held : (now : Option (List ℕ)) (held : List ℕ) → ReadsThrough before now held done → HoldsLine held
      → (line : List ℕ) × HasNext before done line
  has_held now held at (line, past, begins) = (
    strip_carriage_return line,
    has_next now past (strip_carriage_return line) (reads_line now held at line past begins.parts begins.whole),
  )

  pub has_last : (now : Option (List ℕ)) (line : List ℕ) → IsAll before now (done ++ line ∷ [])
      → HasNext before done line
  has_last now line all = (
    all.0,
    [],
    record {
      told = all.1.told;
      cut = all.1.cut ∙ sym (append-nil
          (done ++ line ∷ []));
    },
  )

  pub has_long : (line : List ℕ) → HasNext before done line → BeginsStored before done
  has_long line comes = (
    comes.0,
    line ∷ comes.1,
    record {
      told = comes.2.told;
      cut = comes.2.cut ∙ append_assoc done
          (line ∷ []) comes.1;
    },
  )

module _ (before : Option (List ℕ)) (done : List (List ℕ)) (now after : Option (List ℕ)) (held held_new : List ℕ)
    (at : ReadsThrough before now held done) where
  -- the last call of the input was needed for what is at the front
  asked_for : (asked asked_new : Option (List ℕ)) → (0 < length done + length held → LastAsked before asked
      (length done))
      → AsksNeeded held held_new now asked asked_new → 0 < length held_new → LastAsked before asked_new (length done)
  asked_for asked asked_new earlier needed some =
      asks_needed before now asked asked_new at.taken held held_new (length done) at.feeds at.consumed earlier needed
      (omega (arith, some))

  -- for a line with an end
  pub line_asked : (asked asked_new : Option (List ℕ)) (n : ℕ)
      → (0 < length done + length held → LastAsked before asked (length done))
      → AsksNeeded held held_new now asked asked_new → Fills held held_new now after (Line n)
      → LastAsked before asked_new (length done)
  line_asked asked asked_new n earlier needed fills =
      let (line, past, len, first) = fills.is in
      asked_for asked asked_new earlier needed
      (omega (arith, ap length first.parts, length-append line (10 ∷ past)))

  -- for the last one, without an end
  pub last_asked : (asked asked_new : Option (List ℕ))
      → (0 < length done + length held → LastAsked before asked (length done))
      → AsksNeeded held held_new now asked asked_new → 0 < length held_new → LastAsked before asked_new (length done)
  last_asked asked asked_new earlier needed some = asked_for asked asked_new earlier needed some

  -- a line with an end comes next
  pub line_comes : (n : ℕ) → Fills held held_new now after (Line n)
      → ReadsThrough before after held_new done × HoldsLine held_new
  line_comes n fills =
      let (line, past, len, first) = fills.is in
      (reads_more before done now after held held_new at fills.grows, (line, past, first))

  -- one that is too long
  pub long_comes : Fills held held_new now after TooLong → (line : List ℕ) × HasNext before done line
      × (MOST_LINE < length line)
  long_comes fills = long_next before done after held_new
      (reads_more before done now after held held_new at fills.grows) fills.is.0 fills.is.1

  -- the last one, without an end
  pub last_comes : Fills held held_new now after Last → 0 < length held_new → IsAll before after (done ++ held_new ∷ [])
  last_comes fills some = last_next before done after held_new
      (reads_more before done now after held held_new at fills.grows) fills.is.0 some fills.is.1

  -- it is not known
  pub fails_so : (rose : Type 0) (trouble : InputTrouble) → FillFails held held_new now after rose trouble
      → GoesOn before after held_new done rose (Err trouble)
  fails_so rose Memory fails = begins before done now held at
  fails_so rose Failed (risen, grows, none) = (
    risen,
    record {
      held = held_new;
      reads =
          reads_more before done now after held held_new at grows;
      unended = none;
    },
  )
