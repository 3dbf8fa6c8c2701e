-- What is known of the front of what is held.
use Rattle.std.proofs.Common.{◌≡◌, ◌∙◌, refl, sym, ap, subst, arith, ℕ, ◌+◌, ◌≤◌, Bool, true, false, List, [], ◌++◌}
use Rattle.std.proofs.Common.{length, take, drop, position, Option, Some, None}
use Rattle.std.specs.Prelude.{IfSome}
use Rattle.std.specs.List.{position_or_len}
use Rattle.std.specs.Io.KnownBytes.{Consumes, Keeps}
use Rattle.std.proofs.lemmas.List.{append-nil, append_assoc, length-append, length-drop, length-take-le}
use Rattle.node_session.specs.declared.request.TheConstants.{MOST_LINE}
use Rattle.node_session.specs.declared.reader.TheConstants.{CHUNK}
use Rattle.node_session.specs.declared.reader.Front.TheVariants.{Line, TooLong, Last}
use Rattle.node_session.specs.declared.reader.InputTrouble.{InputTrouble}
use Rattle.node_session.specs.declared.reader.InputTrouble.TheVariants.{Memory, Failed}
use Rattle.node_session.specs.Reading.{is_feed, is_long, HasNoFeed, AskedBehind, Grows, TakesPiece, BeginsLine, Fills}
use Rattle.node_session.specs.Reading.{MoreFails, FillFails}
use Rattle.node_session.proofs.Feeds.{first-behind, no_feed-before, no_feed-none, few_unless_long, split-at_feed}

-- all but a piece of what is held is known to have no feed
pub record Recent (held : List ℕ) : Type 0 where
  pub front : List ℕ
  pub tail : List ℕ
  pub parts : held ≡ front ++ tail
  pub whole : HasNoFeed front
  pub near : length tail ≤ CHUNK

pub recent_more : (held held_new : List ℕ) (left left_new : Option (List ℕ)) → position is_feed held ≡ None →
    TakesPiece held held_new left left_new true → Recent held_new
recent_more held held_new left left_new none takes = record {
  front = held;
  tail = takes.piece;
  parts = takes.parts;
  whole = no_feed-none held none;
  near = takes.few;
}

pub few_more : (held held_new : List ℕ) (left left_new : Option (List ℕ)) → is_long held ≡ false →
    TakesPiece held held_new left left_new true → length held_new ≤ MOST_LINE + 1 + CHUNK
few_more held held_new left left_new short takes =
    omega (arith, few_unless_long held short, takes.few, ap length takes.parts, length-append held takes.piece)

pub consumes_both : (a b c : Option (List ℕ)) (p q : List ℕ) → Consumes a b p → Consumes b c q → Consumes a c (p ++ q)
consumes_both None b c p q first second = tt
consumes_both (Some x) None c p q first second = absurd first
consumes_both (Some x) (Some y) None p q first second = absurd second
consumes_both (Some x) (Some y) (Some z) p q first second = first ∙ ap (λ l. p ++ l) second ∙ sym (append_assoc p q z)

consumes_keeps : (a b c : Option (List ℕ)) (p : List ℕ) → Consumes a b p → Keeps b c → Consumes a c p
consumes_keeps None b c p first second = tt
consumes_keeps (Some x) None c p first second = absurd first
consumes_keeps (Some x) (Some y) None p first second = absurd second
consumes_keeps (Some x) (Some y) (Some z) p first second = first ∙ ap (λ l. p ++ l) (sym second)

pub grows_more : (held mid held_new : List ℕ) (left between left_new : Option (List ℕ)) (more : Bool) →
    Grows held mid left between → TakesPiece mid held_new between left_new more → Grows held held_new left left_new
grows_more held mid held_new left between left_new more grows takes = record {
  piece = grows.piece ++ takes.piece;
  parts = takes.parts ∙ ap (λ l. l ++ takes.piece) grows.parts ∙ append_assoc held grows.piece takes.piece;
  consumed = consumes_both left between left_new grows.piece takes.piece grows.consumed takes.consumed;
}

is_called : (left between asked : Option (List ℕ)) (piece : List ℕ) → Consumes left between piece →
    IfSome asked (λ b. between ≡ Some b) → IfSome asked (λ rest. Consumes left (Some rest) piece)
is_called left between None piece consumed called = tt
is_called left between (Some rest) piece consumed called =
    subst (λ (o : Option (List ℕ)). Consumes left o piece) called consumed

-- one more call was needed
pub asked_more : (held mid : List ℕ) (left between asked : Option (List ℕ)) → Grows held mid left between →
    position is_feed mid ≡ None → IfSome asked (λ b. between ≡ Some b) → AskedBehind held left asked
asked_more held mid left between asked grows none called = (
  grows.piece,
  is_called left between asked grows.piece grows.consumed called,
  subst HasNoFeed grows.parts (no_feed-none mid none),
)

-- a line that is found is at the front, and little follows it
begins : (held : List ℕ) (n : ℕ) → position is_feed held ≡ Some n → Recent held →
    BeginsLine held (take n held) (drop (n + 1) held)
begins held n at recent =
    let (within, first, parts) = split-at_feed held n at in
    let place = ap (position_or_len is_feed) recent.parts ∙ first-behind recent.front recent.tail recent.whole in
    record {
      parts = parts;
      whole = subst (λ (k : ℕ). HasNoFeed (take k held)) first (no_feed-before held);
      near = omega (
        arith,
        within,
        first,
        place,
        recent.near,
        length-drop (n + 1) held,
        ap length recent.parts ∙ length-append recent.front recent.tail,
      );
    }

pub fills_line : (held0 held : List ℕ) (left0 left : Option (List ℕ)) (n : ℕ) → Grows held0 held left0 left →
    length held ≤ MOST_LINE + 1 + CHUNK → Recent held → position is_feed held ≡ Some n →
    Fills held0 held left0 left (Line n)
fills_line held0 held left0 left n grows few recent at =
    let within = (split-at_feed held n at).0 in
    record {
      grows = grows;
      is = (take n held, drop (n + 1) held, length-take-le n held (omega (arith, within)), begins held n at recent);
      few = few;
    }

pub fills_long : (held0 held : List ℕ) (left0 left : Option (List ℕ)) → Grows held0 held left0 left →
    length held ≤ MOST_LINE + 1 + CHUNK → position is_feed held ≡ None → is_long held ≡ true →
    Fills held0 held left0 left TooLong
fills_long held0 held left0 left grows few none long = record {
  grows = grows;
  is = (no_feed-none held none, long);
  few = few;
}

pub fills_last : (held0 mid held : List ℕ) (left0 between left : Option (List ℕ)) → Grows held0 mid left0 between →
    length mid ≤ MOST_LINE + 1 + CHUNK → position is_feed mid ≡ None → TakesPiece mid held between left false →
    Fills held0 held left0 left Last
fills_last held0 mid held left0 between left grows few none takes =
    let (nothing, at_end) = takes.none refl in
    let same : held ≡ mid = takes.parts ∙ ap (λ l. mid ++ l) nothing ∙ append-nil mid in
    record {
      grows = grows_more held0 mid held left0 between left false grows takes;
      is = (subst HasNoFeed (sym same) (no_feed-none mid none), at_end);
      few = omega (arith, few, ap length same);
    }

pub fill_fails : (held0 mid held : List ℕ) (left0 between left : Option (List ℕ)) (rose0 rose : Type 0)
    (trouble : InputTrouble) → (rose → rose0) → Grows held0 mid left0 between → position is_feed mid ≡ None →
    MoreFails mid held between left rose trouble → FillFails held0 held left0 left rose0 trouble
fill_fails held0 mid held left0 between left rose0 rose Memory earlier grows none (piece, consumed) =
    (grows.piece ++ piece, consumes_both left0 between left grows.piece piece grows.consumed consumed)
fill_fails held0 mid held left0 between left rose0 rose Failed earlier grows none (is, same, keeps) = (
  earlier is,
  record {
    piece = grows.piece;
    parts = same ∙ grows.parts;
    consumed = consumes_keeps left0 between left grows.piece grows.consumed keeps;
  },
  subst HasNoFeed (sym same) (no_feed-none mid none),
)
