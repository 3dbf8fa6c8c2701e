-- The input is asked only for what is needed.
use Rattle.std.proofs.Common.{◌≡◌, ◌∙◌, sym, ap, subst, arith, ℕ, ◌+◌, ◌<◌, ◌≤◌, List, ◌++◌, length, Option, Some, None}
use Rattle.std.proofs.Common.{inl, inr}
use Rattle.std.specs.Prelude.{IfSome, count_by}
use Rattle.std.specs.Io.KnownBytes.{Consumes}
use Rattle.std.proofs.lemmas.List.{append_assoc}
use Rattle.node_session.specs.SessionEnds.{LastAsked}
use Rattle.node_session.specs.Reading.{is_feed, HasNoFeed, AsksNeeded}
use Rattle.node_session.proofs.Feeds.{feeds-append}

-- behind so many lines and what is held, no line ended when the last call began
behind : (input now asked : Option (List ℕ)) (taken held piece : List ℕ) (count : ℕ) → count_by is_feed taken ≡ count →
    Consumes input now (taken ++ held) → IfSome asked (λ rest. Consumes now (Some rest) piece) →
    HasNoFeed (held ++ piece) → LastAsked input asked count
behind None now asked taken held piece count feeds consumed called none = tt
behind (Some content) now None taken held piece count feeds consumed called none = tt
behind (Some content) None (Some rest) taken held piece count feeds consumed called none = absurd consumed
behind (Some content) (Some y) (Some rest) taken held piece count feeds consumed called none = (
  taken ++ (held ++ piece),
  consumed ∙ ap (λ l. (taken ++ held) ++ l) called ∙ sym (append_assoc (taken ++ held) piece rest)
      ∙ ap (λ l. l ++ rest) (append_assoc taken held piece),
  omega (arith, feeds-append taken (held ++ piece), feeds, none),
)

-- where anything was read, the last call was needed
pub asks_needed : (input now asked asked_new : Option (List ℕ)) (taken held held_new : List ℕ) (count : ℕ) →
    count_by is_feed taken ≡ count → Consumes input now (taken ++ held) →
    (0 < count + length held → LastAsked input asked count) → AsksNeeded held held_new now asked asked_new →
    0 < count + length held_new → LastAsked input asked_new count
asks_needed input now asked asked_new taken held held_new count feeds consumed before (inl (same, as_before)) some =
    subst (λ (a : Option (List ℕ)). LastAsked input a count) (sym as_before)
    (before (omega (arith, some, ap length same)))
asks_needed input now asked asked_new taken held held_new count feeds consumed before (inr (piece, called, none)) some =
    behind input now asked_new taken held piece count feeds consumed called none

-- it was, too, where one more line is answered
pub asked_line : (input asked : Option (List ℕ)) (count : ℕ) → LastAsked input asked count →
    LastAsked input asked (count + 1)
asked_line None asked count last = tt
asked_line (Some content) None count last = tt
asked_line (Some content) (Some rest) count (earlier, parts, few) = (earlier, parts, omega (arith, few))
