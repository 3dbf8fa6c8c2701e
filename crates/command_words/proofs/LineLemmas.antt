-- The command line: at which words it has no fault, and what it reads.
use Rattle.std.proofs.Common.{◌≡◌, ◌∙◌, ◌==◌, ◌<◌, ◌≤◌, ◌&&◌, ◌⊎◌, ◌++◌, ap, ap₂, sym, subst, refl, ℕ, Bool, true}
use Rattle.std.proofs.Common.{false, List, [], ◌∷◌, codes, is_some, Option, Some, None, length, map, fold, option_map}
use Rattle.std.proofs.Common.{inl, inr, arith, append-nil, append_assoc}
use Rattle.std.specs.Prelude.{find}
use Rattle.std.specs.Str.{bytes_eq}
use Rattle.std.specs.List.{list_all, filter_map}
use Rattle.std.proofs.lemmas.Bool.{cases_Bool}
use Rattle.std.proofs.lemmas.Slice.Eq.{bytes_eq-Decides}
use Rattle.clap.specs.Words.{App, Shape, Rule, Text, Row, Kinds, first_of, fault_of, built, is_simple}
use Rattle.clap.specs.Words.{is_simple_and_free, subcommand_of}
use Rattle.clap.specs.Walk.{Held, Waiting, Walk, Names, idle, walked, walk, walk_from, nothing_held, settled, finished}
use Rattle.clap.specs.Walk.{rows_after, answers_to, stop_after}
use Rattle.clap.specs.Simple.{entered, names_of, label_of, rows_at}
use Rattle.clap.specs.Kinds.{or_else}
use Rattle.clap.specs.Faults.{walk_fault, turn_fault, built_fault, entered_fault, level_fault, settle_fault}
use Rattle.clap.specs.Faults.{defaults_fault, check_fault}
use Rattle.clap.specs.declared.error.ErrorKind.{ErrorKind}
use Rattle.clap.specs.declared.error.ErrorKind.TheVariants as kind
use Rattle.clap.proofs.OnLiterals.{clap_on_literals}
use Rattle.command_words.specs.Rows.{are_few, is_between, is_plain, is_row, row_of, rows}
use Rattle.command_words.specs.App.{command_line, ids}
use Rattle.command_words.proofs.FindLemmas.{find-holds, find-all}
use Rattle.command_words.proofs.LeafLemmas.{leaf_exactly, leaf_reads, Exactly}
use Rattle.command_words.proofs.WordCounts.{top, leaf, leaf_fault, leaf_given, IsNoFlag, AreNoFlags}

-- a command line with these commands, as it is built
abbrev whole : List Shape → App
whole subs = record { top = top; subs = subs }

line_is : built command_line ≡ whole (map leaf rows)
line_is = refl

pub simple : is_simple command_line ≡ true
simple = refl

pub free : is_simple_and_free command_line ≡ true
unfolding clap_on_literals
free = refl

-- ---- the walk, after the name of a command

stays : (c : List Rule) (names : Names) (h : Held) (wt : Waiting) (p : ℕ) (t : Bool) (n : Text) (acc rest : List Text)
    → fold (walked c names) (record { held = h; waiting = wt; position = p; is_trailing = t; stopped = Some (n, acc) })
    rest
    ≡ record { held = h; waiting = wt; position = p; is_trailing = t; stopped = Some (n, acc ++ rest) }
unfolding walked
stays c names h wt p t n acc [] = rw append-nil refl
stays c names h wt p t n acc (r ∷ rest) = stays c names h wt p t n (acc ++ r ∷ []) rest ∙ rw append_assoc refl

no_more : (s : Shape) (names : Names) (h : Held) (wt : Waiting) (p : ℕ) (t : Bool) (n : Text) (acc rest : List Text)
    → walk_fault s names (record { held = h; waiting = wt; position = p; is_trailing = t; stopped = Some (n, acc) })
    rest ≡ []
unfolding walk_fault walked
no_more s names h wt p t n acc [] = refl
no_more s names h wt p t n acc (r ∷ rest) = no_more s names h wt p t n (acc ++ r ∷ []) rest

stop_at : Text → List Text → Walk
stop_at n words = record {
  held = nothing_held;
  waiting = idle;
  position = 1;
  is_trailing = false;
  stopped = Some (n, words);
}

first_word : (names : Names) (w : Text) (s : Text × List Text) → find (answers_to w) names ≡ Some s →
    walked [] names (walk_from nothing_held) w ≡ stop_at s.0 []
unfolding walked stop_at
first_word names w s e = rw e refl

all_words : (names : Names) (w : Text) (rest : List Text) (s : Text × List Text) → find (answers_to w) names ≡ Some s →
    walk [] names nothing_held (w ∷ rest) ≡ stop_at s.0 rest
unfolding stop_at
all_words names w rest s e =
    ap (λ x. fold (walked [] names) x rest) (first_word names w s e)
    ∙ stays [] names nothing_held idle 1 false s.0 [] rest

first_turn : (names : Names) (w : Text) (s : Text × List Text) → find (answers_to w) names ≡ Some s →
    turn_fault top names (walk_from nothing_held) w ≡ []
first_turn names w s e = elim (cases_Bool (bytes_eq s.0 (codes "help"))) [
  | inl holds ↦ rw (e, holds) refl
  | inr fails ↦ rw (e, fails) refl
]

no_walk_fault : (names : Names) (w : Text) (rest : List Text) (s : Text × List Text) →
    find (answers_to w) names ≡ Some s → walk_fault top names (walk_from nothing_held) (w ∷ rest) ≡ []
unfolding walk_fault stop_at
no_walk_fault names w rest s e =
    ap₂ (λ f x. or_else f (walk_fault top names x rest)) (first_turn names w s e) (first_word names w s e)
    ∙ no_more top names nothing_held idle 1 false s.0 [] rest

-- ---- the faults above a command

by_walk : App → Walk → Kinds → Kinds
by_walk a e f =
    or_else f (or_else (entered_fault a e.stopped) (or_else (settle_fault a.top.rules a.top.args_override_self e.held)
    (or_else (defaults_fault (settled a.top.rules e.held).rows a.top.rules)
    (check_fault a.top (finished a.top.rules e.held) (is_some (entered a e.stopped))))))

built_fault-walk : (a : App) (words : List Text) →
    built_fault a nothing_held words
    ≡ by_walk a (walk a.top.rules (names_of a) nothing_held words)
    (walk_fault a.top (names_of a) (walk_from nothing_held) words)
unfolding by_walk
built_fault-walk a words = refl

or_else-nil : (ks : Kinds) → or_else ks [] ≡ ks
or_else-nil [] = refl
or_else-nil (k ∷ ks) = refl

fault_entered : (subs : List Shape) (w : Text) (rest : List Text) (s : Text × List Text) (r : Shape) →
    find (answers_to w) (names_of (whole subs)) ≡ Some s → find (λ x. answers_to s.0 (label_of x)) subs ≡ Some r
    → built_fault (whole subs) nothing_held (w ∷ rest) ≡ level_fault r [] nothing_held rest false []
unfolding by_walk stop_at defaults_fault
fault_entered subs w rest s r named found =
    built_fault-walk (whole subs) (w ∷ rest)
    ∙ ap₂ (by_walk (whole subs)) (all_words (names_of (whole subs)) w rest s named)
    (no_walk_fault (names_of (whole subs)) w rest s named)
    ∙ rw found (or_else-nil _)

fault_unknown : (subs : List Shape) (w : Text) (rest : List Text) → IsNoFlag w →
    find (answers_to w) (names_of (whole subs)) ≡ None
    → built_fault (whole subs) nothing_held (w ∷ rest) ≡ kind.UnknownArgument ∷ kind.InvalidSubcommand ∷ []
unfolding clap_on_literals
fault_unknown subs w rest (a, b) e = simp (e, a, b)

fault_empty : (subs : List Shape) → built_fault (whole subs) nothing_held [] ≡ kind.MissingSubcommand ∷ []
unfolding clap_on_literals
fault_empty subs = refl

-- ---- the command of a name

found_name : (w : Text) (rs : List (Text × ℕ × ℕ)) →
    find (answers_to w) (map label_of (map leaf rs)) ≡ option_map (λ r. (r.0, [])) (find (λ r. bytes_eq r.0 w) rs)
found_name w [] = refl
found_name w (r ∷ rs) = elim (cases_Bool (bytes_eq r.0 w)) [
  | inl holds ↦ rw holds refl
  | inr fails ↦ rw fails (found_name w rs)
]

found_leaf : (w : Text) (rs : List (Text × ℕ × ℕ)) →
    find (λ s. answers_to w (label_of s)) (map leaf rs) ≡ option_map leaf (find (λ r. bytes_eq r.0 w) rs)
found_leaf w [] = refl
found_leaf w (r ∷ rs) = elim (cases_Bool (bytes_eq r.0 w)) [
  | inl holds ↦ rw holds refl
  | inr fails ↦ rw fails (found_leaf w rs)
]

-- what is known of the row of a name
record IsFound (w : Text) (r : Text × ℕ × ℕ) : Type 0 where
  named : find (answers_to w) (names_of (whole (map leaf rows))) ≡ Some (r.0, [])
  entered : find (λ x. answers_to r.0 (label_of x)) (map leaf rows) ≡ Some (leaf r)
  few : are_few r.1 r.2 ≡ true

found : (w : Text) (r : Text × ℕ × ℕ) → row_of w ≡ Some r → IsFound w r
found w r e =
    let same : r.0 ≡ w = (bytes_eq-Decides r.0 w).0 (find-holds (λ x. bytes_eq x.0 w) rows r e) in
    record {
      named = found_name w rows ∙ ap (option_map (λ x. (x.0, []))) e;
      entered = found_leaf r.0 rows ∙ ap (option_map leaf) (ap row_of same ∙ e);
      few = find-all (λ x. bytes_eq x.0 w) (λ x. are_few x.1 x.2) rows r refl e;
    }

fault_is : (words : List Text) → fault_of command_line words ≡ built_fault (whole (map leaf rows)) nothing_held words
fault_is words = ap (λ a. built_fault a nothing_held words) line_is

-- the words have no fault exactly where they are those of a row
pub line_exactly : (words : List Text) → AreNoFlags words → Exactly (fault_of command_line words) (is_row words)
line_exactly [] p =
    let e : fault_of command_line [] ≡ kind.MissingSubcommand ∷ [] = fault_is [] ∙ fault_empty (map leaf rows) in
    (λ none. absurd (cc), λ holds. absurd (cc))
line_exactly (w ∷ rest) p = go (row_of w) refl
  where
    go : (o : Option (Text × ℕ × ℕ)) → row_of w ≡ o → Exactly (fault_of command_line (w ∷ rest)) (is_row (w ∷ rest))
    go None e =
        let unnamed : find (answers_to w) (names_of (whole (map leaf rows))) ≡ None =
        found_name w rows ∙ ap (option_map (λ x. (x.0, []))) e in
        let fault : fault_of command_line (w ∷ rest) ≡ kind.UnknownArgument ∷ kind.InvalidSubcommand ∷ [] =
        fault_is (w ∷ rest) ∙ fault_unknown (map leaf rows) w rest p.0 unnamed in
        let row : is_row (w ∷ rest) ≡ false = rw e refl in
        (λ none. absurd (cc), λ holds. absurd (cc))
    go (Some r) e =
        let f = found w r e in
        let fault : fault_of command_line (w ∷ rest) ≡ leaf_fault r rest =
        fault_is (w ∷ rest) ∙ fault_entered (map leaf rows) w rest (r.0, []) (leaf r) f.named f.entered in
        let row : is_row (w ∷ rest) ≡ is_between r.1 r.2 (length rest) = rw e refl in
        let ends = leaf_exactly r.0 r.1 r.2 f.few rest p.1 in
        (λ none. row ∙ ends.0 (sym fault ∙ none), λ holds. fault ∙ ends.1 (sym row ∙ holds))

-- what is read of the words of a row: its name, and the words after it
pub record Reads (words : List Text) : Type 0 where
  pub name : Text
  pub rows_read : List Row
  pub entered : subcommand_of command_line words ≡ Some (name, rows_read)
  pub are : name ∷ filter_map (λ id. first_of id rows_read) ids ≡ words

pub line_reads : (words : List Text) → AreNoFlags words → is_row words ≡ true → Reads words
unfolding stop_at
line_reads [] p is = absurd (cc)
line_reads (w ∷ rest) p is = go (row_of w) refl
  where
    go : (o : Option (Text × ℕ × ℕ)) → row_of w ≡ o → Reads (w ∷ rest)
    go None e =
        let row : is_row (w ∷ rest) ≡ false = rw e refl in
        absurd (cc)
    go (Some r) e =
        let f = found w r e in
        let same : r.0 ≡ w = (bytes_eq-Decides r.0 w).0 (find-holds (λ x. bytes_eq x.0 w) rows r e) in
        let row : is_row (w ∷ rest) ≡ is_between r.1 r.2 (length rest) = rw e refl in
        let subs = map leaf rows in
        record {
          name = r.0;
          rows_read = rows_after (leaf r).rules [] rest;
          entered =
              ap (λ a. entered a (stop_after a.top.rules (names_of a) (w ∷ rest))) line_is
              ∙ ap (λ x. entered (whole subs) x.stopped) (all_words (names_of (whole subs)) w rest (r.0, []) f.named)
              ∙ ap (option_map (λ x. rows_at x rest)) f.entered;
          are =
              ap₂ (λ n ws. n ∷ ws) same
              (leaf_reads r.0 r.1 r.2 f.few rest p.1 (sym row ∙ is));
        }
