-- Whole lines that are held, and passed.
use Rattle.std.proofs.Common.{◌≡◌, ◌∙◌, ◌≤◌, ◌<◌, ◌+◌, ◌++◌, ◌∷◌, [], ℕ, List, Option, Some, None, length, take, drop}
use Rattle.std.proofs.Common.{position, refl, sym, ap, subst, arith}
use Rattle.std.specs.Prelude.{count_by}
use Rattle.std.specs.List.{position_or_len}
use Rattle.std.specs.Str.Lines.{strip_carriage_return}
use Rattle.std.proofs.lemmas.List.{append-nil, append_assoc, length-append}
use Rattle.node_session.specs.declared.reader.TheConstants.{CHUNK}
use Rattle.node_session.specs.SessionEnds.{Streams, LastAsked}
use Rattle.node_session.specs.Reading.{is_feed, HasNoFeed}
use Rattle.node_session.proofs.Feeds.{feeds-append, first-behind, no_feed-none, no_feed-before, split-at_feed}
use Rattle.stored_session.specs.Holding.{HoldsLine, HoldsLines}
use Rattle.stored_session.specs.Through.{ReadsThrough, TakesNear, BeginsStored, IsAll}
use Rattle.stored_session.proofs.Lines.{begins, reads_line, near_line, near_last, has_last}

-- lines, and those behind them
pub holds_more : (held : List ℕ) (a : List (List ℕ)) (mid : List ℕ) (b : List (List ℕ)) (past : List ℕ)
    → HoldsLines held a mid → HoldsLines mid b past → HoldsLines held (a ++ b) past
holds_more held [] mid b past is second = subst (λ (h : List ℕ). HoldsLines h b past) (sym is) second
holds_more held (line ∷ a) mid b past (front, rest, parts, whole, text, more) second =
    (front, rest, parts, whole, text, holds_more rest a mid b past more second)

pub holds_front : (held : List ℕ) (a b : List (List ℕ)) (past : List ℕ) → HoldsLines held (a ++ b) past
    → (mid : List ℕ) × HoldsLines held a mid
holds_front held [] b past all = (held, refl)
holds_front held (line ∷ a) b past (front, rest, parts, whole, text, more) =
    let first = holds_front rest a b past more in (first.0, (front, rest, parts, whole, text, first.1))

-- the line at the first feed
pub holds_first : (held : List ℕ) (n : ℕ) (line past : List ℕ) → position is_feed held ≡ Some n
    → line ≡ strip_carriage_return (take n held) → past ≡ drop (n + 1) held → HoldsLines held (line ∷ []) past
holds_first held n line past at is rest =
    let (within, first, parts) = split-at_feed held n at in (
      take n held,
      drop (n + 1) held,
      parts,
      subst (λ (k : ℕ). HasNoFeed (take k held)) first (no_feed-before held),
      is,
      sym rest,
    )

-- where a whole line is held there is a feed
pub has_feed : (held : List ℕ) → HoldsLine held → position is_feed held ≡ None → ⊥
has_feed held (line, past, first) none =
    let nothing : HasNoFeed held = no_feed-none held none in
    absurd (omega (
      arith,
      nothing,
      ap (count_by is_feed) first.parts,
      feeds-append line (10 ∷ past),
      feeds-append (10 ∷ []) past,
    ))

shorter : (held : List ℕ) (lines : List (List ℕ)) (past : List ℕ) → HoldsLines held lines past
    → length past ≤ length held
shorter held [] past is = omega (arith, ap length is)
shorter held (line ∷ lines) past (front, rest, parts, whole, text, more) =
    omega (arith, ap length parts, length-append front (10 ∷ rest), shorter rest lines past more)

first_at : (line past : List ℕ) → HasNoFeed line → position_or_len is_feed (line ++ 10 ∷ past) ≡ length line
first_at line past none = first-behind line (10 ∷ past) none ∙ omega arith

-- little follows lines of which the first is followed by little
pub few_past : (held : List ℕ) (lines : List (List ℕ)) (past : List ℕ) → HoldsLine held → HoldsLines held lines past
    → 0 < length lines → length past ≤ CHUNK
few_past held [] past holds cut some = absurd (omega (arith, some))
few_past held (line ∷ lines) past (first, behind, starts) (front, rest, parts, whole, text, more) some = omega (
  arith,
  starts.near,
  shorter rest lines past more,
  first_at first behind starts.whole,
  first_at front rest whole,
  ap (position_or_len is_feed) starts.parts,
  ap (position_or_len is_feed) parts,
  ap length starts.parts,
  ap length parts,
  length-append first (10 ∷ behind),
  length-append front (10 ∷ rest),
)

-- lines that are held are passed
pub reads_lines : (before now : Option (List ℕ)) (held past : List ℕ) (done lines : List (List ℕ))
    → ReadsThrough before now held done → HoldsLines held lines past → ReadsThrough before now past (done ++ lines)
reads_lines before now held past done [] at is =
    subst (λ (l : List (List ℕ)). ReadsThrough before now past l) (sym (append-nil done))
    (subst (λ (h : List ℕ). ReadsThrough before now h done) is at)
reads_lines before now held past done (line ∷ lines) at (front, rest, parts, whole, text, more) =
    let next : ReadsThrough before now rest (done ++ line ∷ []) =
    subst (λ (t : List ℕ). ReadsThrough before now rest (done ++ t ∷ [])) (sym text)
    (reads_line before done now held at front rest parts whole) in
    subst (λ (l : List (List ℕ)). ReadsThrough before now past l) (append_assoc done (line ∷ []) lines)
    (reads_lines before now rest past (done ++ line ∷ []) lines next more)

-- These lines were taken of the input behind those that are answered; its last call was needed for the first of them,
-- and little was taken past each.
pub record TookLines (before after : Streams) (done more : List (List ℕ)) : Type 0 where
  pub begins : BeginsStored before.input (done ++ more)
  pub near : TakesNear before.input after.input (done ++ more)
  pub each : (a : List (List ℕ)) (line : List ℕ) (c : List (List ℕ)) → more ≡ a ++ line ∷ c
      → TakesNear before.input after.input ((done ++ a) ++ line ∷ [])
  pub asked : LastAsked before.input after.asked (length done)

module _ (before now : Option (List ℕ)) (held : List ℕ) (done : List (List ℕ)) (at : ReadsThrough before now held done)
    (holds : HoldsLine held) where
  -- little was taken past them
  pub near_lines : (lines : List (List ℕ)) (past : List ℕ) → HoldsLines held lines past → 0 < length lines
      → TakesNear before now (done ++ lines)
  near_lines lines past cut some = near_line before (done ++ lines) now past (few_past held lines past holds cut some)
      (reads_lines before now held past done lines at cut)

  -- nor past each of them
  pub near_each : (lines : List (List ℕ)) (past : List ℕ) → HoldsLines held lines past
      → (a : List (List ℕ)) (line : List ℕ) (c : List (List ℕ)) → lines ≡ a ++ line ∷ c
      → TakesNear before now ((done ++ a) ++ line ∷ [])
  near_each lines past cut a line c is =
      let all = subst (λ (l : List (List ℕ)). HoldsLines held l past) (is ∙ sym (append_assoc a (line ∷ []) c)) cut in
      let front = holds_front held (a ++ line ∷ []) c past all in
      subst (λ (l : List (List ℕ)). TakesNear before now l) (sym (append_assoc done a (line ∷ [])))
      (near_lines (a ++ line ∷ []) front.0 front.1 (omega (arith, length-append a (line ∷ []))))

-- what no more than so many lines needed, no more than a greater number did
pub asked_later : (input asked : Option (List ℕ)) (count later : ℕ) → count ≤ later → LastAsked input asked count
    → LastAsked input asked later
asked_later None asked count later le last = tt
asked_later (Some content) None count later le last = tt
asked_later (Some content) (Some rest) count later le (earlier, parts, few) =
    (earlier, parts, omega (arith, few, le))

-- of lines that are held
pub took_held : (before after : Streams) (held past : List ℕ) (done lines : List (List ℕ))
    → ReadsThrough before.input after.input held done → HoldsLine held → HoldsLines held lines past
    → 0 < length lines → LastAsked before.input after.asked (length done) → TookLines before after done lines
took_held before after held past done lines at holds cut some asked = record {
  begins = begins before.input (done ++ lines) after.input past
      (reads_lines before.input after.input held past done lines at cut);
  near = near_lines before.input after.input held done at holds lines past cut some;
  each = near_each before.input after.input held done at holds lines past cut;
  asked = asked;
}

only_line : (a : List (List ℕ)) (last line : List ℕ) (c : List (List ℕ)) → last ∷ [] ≡ a ++ line ∷ c
    → (done : List (List ℕ)) → done ++ last ∷ [] ≡ (done ++ a) ++ line ∷ []
only_line [] last line c is done =
    let same : last ≡ line = cc is in
    ap (λ x. done ++ x ∷ []) same ∙ ap (λ x. x ++ line ∷ []) (sym (append-nil done))
only_line (x ∷ a) last line c is done = absurd (omega (arith, ap length is, length-append a (line ∷ c)))

-- of the last one, which has no end
pub took_last : (before after : Streams) (done : List (List ℕ)) (last : List ℕ)
    → IsAll before.input after.input (done ++ last ∷ []) → LastAsked before.input after.asked (length done)
    → TookLines before after done (last ∷ [])
took_last before after done last all asked =
    let near = near_last before.input (done ++ last ∷ []) after.input all in
    record {
      begins = has_last before.input done after.input last all;
      near = near;
      each = λ a line c is. subst (λ (l : List (List ℕ)). TakesNear before.input after.input l)
          (only_line a last line c is done) near;
      asked = asked;
    }
