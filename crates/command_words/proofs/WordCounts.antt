-- The fault of a command with one to four words at each count of words, and what it then reads.
use Rattle.std.proofs.Common.{◌≡◌, ◌∙◌, ap, ap₂, fold, refl, ℕ, true, false, List, [], ◌∷◌, None}
use Rattle.std.specs.Str.{bytes_eq}
use Rattle.std.specs.List.{filter_map}
use Rattle.std.specs.Option.{option_map_or}
use Rattle.clap.specs.Lexer.{strip_byte}
use Rattle.clap.specs.Words.{Shape, Rule, Text, Kinds, first_of}
use Rattle.clap.specs.Walk.{Held, Walk, idle, nothing_held, walk, walk_from, walked, settled, finished}
use Rattle.clap.specs.Walk.{rows_after, arg_by_index, to_positional}
use Rattle.clap.specs.Simple.{built_leaf, inherited}
use Rattle.clap.specs.Kinds.{or_else}
use Rattle.clap.specs.Faults.{level_fault, walk_fault, turn_fault, positional_fault, stray_fault, settle_fault}
use Rattle.clap.specs.Faults.{defaults_fault, check_fault}
use Rattle.clap.specs.declared.error.ErrorKind.TheVariants as kind
use Rattle.clap.proofs.OnLiterals.{clap_on_literals}
use Rattle.command_words.specs.App.{bare, ids, row_shape}

-- the command line above its commands, as it is built
abbrev pub top : Shape
top = record bare.top { is_leaf = false; is_built = true }

-- the command of a row, as it is built
abbrev pub leaf : Text × ℕ × ℕ → Shape
leaf r = built_leaf (inherited top (row_shape r))

-- the fault of the command at the words after its name
abbrev pub leaf_fault : Text × ℕ × ℕ → List Text → Kinds
leaf_fault r rest = level_fault (leaf r) [] nothing_held rest false []

-- what it reads of them
abbrev pub leaf_given : Text × ℕ × ℕ → List Text → List Text
leaf_given r rest = filter_map (λ id. first_of id (rows_after (leaf r).rules [] rest)) ids

-- a word that is no flag for `clap`
abbrev pub IsNoFlag : Text → Type 0
IsNoFlag w = (strip_byte 45 w ≡ None) × (bytes_eq w (45 ∷ 45 ∷ []) ≡ false)

abbrev pub AreNoFlags : List Text → Type 0
AreNoFlags [] = Unit {0}
AreNoFlags (w ∷ ws) = IsNoFlag w × AreNoFlags ws

abbrev missing : Kinds
missing = kind.MissingRequiredArgument ∷ []

abbrev unknown : Kinds
unknown = kind.UnknownArgument ∷ []

pub one_0 : (n : Text) → leaf_fault (n, 1, 1) ([]) ≡ missing
unfolding clap_on_literals
one_0 n = refl

pub one_1 : (n : Text) (a : Text) (ha : IsNoFlag a) → leaf_fault (n, 1, 1) (a ∷ []) ≡ []
unfolding clap_on_literals
one_1 n a ha = simp (ha.0, ha.1)

pub one_more : (n : Text) (a b : Text) (rest : List Text) (ha : IsNoFlag a) (hb : IsNoFlag b) →
    leaf_fault (n, 1, 1) (a ∷ b ∷ rest) ≡ unknown
unfolding clap_on_literals
one_more n a b rest ha hb = simp (ha.0, ha.1, hb.0, hb.1)

pub one_given : (n : Text) (a : Text) (ha : IsNoFlag a) → leaf_given (n, 1, 1) (a ∷ []) ≡ a ∷ []
unfolding clap_on_literals
one_given n a ha = simp (ha.0, ha.1)

pub two_0 : (n : Text) → leaf_fault (n, 2, 2) ([]) ≡ missing
unfolding clap_on_literals
two_0 n = refl

pub two_1 : (n : Text) (a : Text) (ha : IsNoFlag a) → leaf_fault (n, 2, 2) (a ∷ []) ≡ missing
unfolding clap_on_literals
two_1 n a ha = simp (ha.0, ha.1)

pub two_2 : (n : Text) (a b : Text) (ha : IsNoFlag a) (hb : IsNoFlag b) → leaf_fault (n, 2, 2) (a ∷ b ∷ []) ≡ []
unfolding clap_on_literals
two_2 n a b ha hb = simp (ha.0, ha.1, hb.0, hb.1)

pub two_more : (n : Text) (a b c : Text) (rest : List Text) (ha : IsNoFlag a) (hb : IsNoFlag b) (hc : IsNoFlag c) →
    leaf_fault (n, 2, 2) (a ∷ b ∷ c ∷ rest) ≡ unknown
unfolding clap_on_literals
two_more n a b c rest ha hb hc = simp (ha.0, ha.1, hb.0, hb.1, hc.0, hc.1)

pub two_given : (n : Text) (a b : Text) (ha : IsNoFlag a) (hb : IsNoFlag b) →
    leaf_given (n, 2, 2) (a ∷ b ∷ []) ≡ a ∷ b ∷ []
unfolding clap_on_literals
two_given n a b ha hb = simp (ha.0, ha.1, hb.0, hb.1)

pub three_0 : (n : Text) → leaf_fault (n, 3, 3) ([]) ≡ missing
unfolding clap_on_literals
three_0 n = refl

pub three_1 : (n : Text) (a : Text) (ha : IsNoFlag a) → leaf_fault (n, 3, 3) (a ∷ []) ≡ missing
unfolding clap_on_literals
three_1 n a ha = simp (ha.0, ha.1)

pub three_2 : (n : Text) (a b : Text) (ha : IsNoFlag a) (hb : IsNoFlag b) → leaf_fault (n, 3, 3) (a ∷ b ∷ []) ≡ missing
unfolding clap_on_literals
three_2 n a b ha hb = simp (ha.0, ha.1, hb.0, hb.1)

pub three_3 : (n : Text) (a b c : Text) (ha : IsNoFlag a) (hb : IsNoFlag b) (hc : IsNoFlag c) →
    leaf_fault (n, 3, 3) (a ∷ b ∷ c ∷ []) ≡ []
unfolding clap_on_literals
three_3 n a b c ha hb hc = simp (ha.0, ha.1, hb.0, hb.1, hc.0, hc.1)

pub three_more : (n : Text) (a b c d : Text) (rest : List Text) (ha : IsNoFlag a) (hb : IsNoFlag b) (hc : IsNoFlag c)
    (hd : IsNoFlag d) → leaf_fault (n, 3, 3) (a ∷ b ∷ c ∷ d ∷ rest) ≡ unknown
unfolding clap_on_literals
three_more n a b c d rest ha hb hc hd = simp (ha.0, ha.1, hb.0, hb.1, hc.0, hc.1, hd.0, hd.1)

pub three_given : (n : Text) (a b c : Text) (ha : IsNoFlag a) (hb : IsNoFlag b) (hc : IsNoFlag c) →
    leaf_given (n, 3, 3) (a ∷ b ∷ c ∷ []) ≡ a ∷ b ∷ c ∷ []
unfolding clap_on_literals
three_given n a b c ha hb hc = simp (ha.0, ha.1, hb.0, hb.1, hc.0, hc.1)

pub four_0 : (n : Text) → leaf_fault (n, 4, 4) ([]) ≡ missing
unfolding clap_on_literals
four_0 n = refl

pub four_1 : (n : Text) (a : Text) (ha : IsNoFlag a) → leaf_fault (n, 4, 4) (a ∷ []) ≡ missing
unfolding clap_on_literals
four_1 n a ha = simp (ha.0, ha.1)

pub four_2 : (n : Text) (a b : Text) (ha : IsNoFlag a) (hb : IsNoFlag b) → leaf_fault (n, 4, 4) (a ∷ b ∷ []) ≡ missing
unfolding clap_on_literals
four_2 n a b ha hb = simp (ha.0, ha.1, hb.0, hb.1)

pub four_3 : (n : Text) (a b c : Text) (ha : IsNoFlag a) (hb : IsNoFlag b) (hc : IsNoFlag c) →
    leaf_fault (n, 4, 4) (a ∷ b ∷ c ∷ []) ≡ missing
unfolding clap_on_literals
four_3 n a b c ha hb hc = simp (ha.0, ha.1, hb.0, hb.1, hc.0, hc.1)

-- where the walk stands between two words, before the word that goes to place p
abbrev state : Held → ℕ → Walk
state h p = record { held = h; waiting = idle; position = p; is_trailing = false; stopped = None }

-- a word that is no flag goes to its place
abbrev onward : List Rule → ℕ → Text → Walk → Walk
onward c p word w = to_positional c (arg_by_index c p) word w w.held

step : (c : List Rule) (h : Held) (p : ℕ) (word : Text) → IsNoFlag word →
    walked c [] (state h p) word ≡ onward c p word (state h p)
unfolding walked
step c h p word (a, b) = simp (a, b)

turn : (s : Shape) (h : Held) (p : ℕ) (word : Text) → IsNoFlag word
    → turn_fault s [] (state h p) word
    ≡ option_map_or (λ a. positional_fault s.rules s.args_override_self a h) (arg_by_index s.rules p) (stray_fault s)
turn s h p word (a, b) = simp (a, b)

-- where the walk over these rules stands after one word, two, three and four
abbrev after_1 : List Rule → Text → Walk
after_1 rules a = onward rules 1 a (walk_from nothing_held)

abbrev after_2 : List Rule → Text → Text → Walk
after_2 rules a b = onward rules 2 b (after_1 rules a)

abbrev after_3 : List Rule → Text → Text → Text → Walk
after_3 rules a b c = onward rules 3 c (after_2 rules a b)

abbrev after_4 : List Rule → Text → Text → Text → Text → Walk
after_4 rules a b c d = onward rules 4 d (after_3 rules a b c)

abbrev four_rules : List Rule
four_rules = (leaf ([], 4, 4)).rules

four_walk : (a b c d : Text) → IsNoFlag a → IsNoFlag b → IsNoFlag c → IsNoFlag d →
    walk four_rules [] nothing_held (a ∷ b ∷ c ∷ d ∷ []) ≡ after_4 four_rules a b c d
four_walk a b c d ha hb hc hd =
    ap (λ x. fold (walked four_rules []) x (b ∷ c ∷ d ∷ [])) (step four_rules nothing_held 1 a ha)
    ∙ ap (λ x. fold (walked four_rules []) x (c ∷ d ∷ [])) (step four_rules (after_1 four_rules a).held 2 b hb)
    ∙ ap (λ x. fold (walked four_rules []) x (d ∷ [])) (step four_rules (after_2 four_rules a b).held 3 c hc)
    ∙ step four_rules (after_3 four_rules a b c).held 4 d hd

-- the faults of the words, one after another
one_word : (s : Shape) (h : Held) (p : ℕ) (word : Text) (rest : List Text) → IsNoFlag word
    → walk_fault s [] (state h p) (word ∷ rest)
    ≡ or_else (option_map_or (λ a. positional_fault s.rules s.args_override_self a h) (arg_by_index s.rules p)
    (stray_fault s)) (walk_fault s [] (onward s.rules p word (state h p)) rest)
unfolding walk_fault
one_word s h p word rest f =
    ap₂ (λ k x. or_else k (walk_fault s [] x rest)) (turn s h p word f) (step s.rules h p word f)

four_fault : (n a b c d : Text) → IsNoFlag a → IsNoFlag b → IsNoFlag c → IsNoFlag d →
    walk_fault (leaf (n, 4, 4)) [] (walk_from nothing_held) (a ∷ b ∷ c ∷ d ∷ []) ≡ []
unfolding walk_fault
four_fault n a b c d ha hb hc hd =
    one_word (leaf (n, 4, 4)) nothing_held 1 a (b ∷ c ∷ d ∷ []) ha
    ∙ one_word (leaf (n, 4, 4)) (after_1 four_rules a).held 2 b (c ∷ d ∷ []) hb
    ∙ one_word (leaf (n, 4, 4)) (after_2 four_rules a b).held 3 c (d ∷ []) hc
    ∙ one_word (leaf (n, 4, 4)) (after_3 four_rules a b c).held 4 d [] hd

-- what a level adds to the faults of its walk
abbrev level_by : Shape → Walk → Kinds → Kinds
level_by s e f = or_else f (or_else [] (or_else (settle_fault s.rules s.args_override_self e.held)
    (or_else (defaults_fault (settled s.rules e.held).rows s.rules) (check_fault s (finished s.rules e.held) false))))

pub four_4 : (n a b c d : Text) (ha : IsNoFlag a) (hb : IsNoFlag b) (hc : IsNoFlag c) (hd : IsNoFlag d) →
    leaf_fault (n, 4, 4) (a ∷ b ∷ c ∷ d ∷ []) ≡ []
unfolding defaults_fault
four_4 n a b c d ha hb hc hd =
    ap₂ (level_by (leaf (n, 4, 4))) (four_walk a b c d ha hb hc hd) (four_fault n a b c d ha hb hc hd)

pub four_more : (n : Text) (a b c d e : Text) (rest : List Text) (ha : IsNoFlag a) (hb : IsNoFlag b) (hc : IsNoFlag c)
    (hd : IsNoFlag d) (he : IsNoFlag e) → leaf_fault (n, 4, 4) (a ∷ b ∷ c ∷ d ∷ e ∷ rest) ≡ unknown
unfolding clap_on_literals
four_more n a b c d e rest ha hb hc hd he = simp (ha.0, ha.1, hb.0, hb.1, hc.0, hc.1, hd.0, hd.1, he.0, he.1)

pub four_given : (n a b c d : Text) (ha : IsNoFlag a) (hb : IsNoFlag b) (hc : IsNoFlag c) (hd : IsNoFlag d) →
    leaf_given (n, 4, 4) (a ∷ b ∷ c ∷ d ∷ []) ≡ a ∷ b ∷ c ∷ d ∷ []
four_given n a b c d ha hb hc hd =
    ap (λ (e : Walk). filter_map (λ id. first_of id (finished four_rules e.held)) ids) (four_walk a b c d ha hb hc hd)

-- ---- the second of two words may be left out

pub either_0 : (n : Text) → leaf_fault (n, 1, 2) ([]) ≡ missing
unfolding clap_on_literals
either_0 n = refl

pub either_1 : (n : Text) (a : Text) (ha : IsNoFlag a) → leaf_fault (n, 1, 2) (a ∷ []) ≡ []
unfolding clap_on_literals
either_1 n a ha = simp (ha.0, ha.1)

pub either_2 : (n : Text) (a b : Text) (ha : IsNoFlag a) (hb : IsNoFlag b) → leaf_fault (n, 1, 2) (a ∷ b ∷ []) ≡ []
unfolding clap_on_literals
either_2 n a b ha hb = simp (ha.0, ha.1, hb.0, hb.1)

pub either_more : (n : Text) (a b c : Text) (rest : List Text) (ha : IsNoFlag a) (hb : IsNoFlag b)
    (hc : IsNoFlag c) → leaf_fault (n, 1, 2) (a ∷ b ∷ c ∷ rest) ≡ unknown
unfolding clap_on_literals
either_more n a b c rest ha hb hc = simp (ha.0, ha.1, hb.0, hb.1, hc.0, hc.1)

pub either_given_1 : (n : Text) (a : Text) (ha : IsNoFlag a) → leaf_given (n, 1, 2) (a ∷ []) ≡ a ∷ []
unfolding clap_on_literals
either_given_1 n a ha = simp (ha.0, ha.1)

pub either_given_2 : (n : Text) (a b : Text) (ha : IsNoFlag a) (hb : IsNoFlag b) →
    leaf_given (n, 1, 2) (a ∷ b ∷ []) ≡ a ∷ b ∷ []
unfolding clap_on_literals
either_given_2 n a b ha hb = simp (ha.0, ha.1, hb.0, hb.1)

-- ---- the last two of four words may be left out

pub span_0 : (n : Text) → leaf_fault (n, 2, 4) ([]) ≡ missing
unfolding clap_on_literals
span_0 n = refl

pub span_1 : (n : Text) (a : Text) (ha : IsNoFlag a) → leaf_fault (n, 2, 4) (a ∷ []) ≡ missing
unfolding clap_on_literals
span_1 n a ha = simp (ha.0, ha.1)

pub span_2 : (n : Text) (a b : Text) (ha : IsNoFlag a) (hb : IsNoFlag b) → leaf_fault (n, 2, 4) (a ∷ b ∷ []) ≡ []
unfolding clap_on_literals
span_2 n a b ha hb = simp (ha.0, ha.1, hb.0, hb.1)

pub span_3 : (n : Text) (a b c : Text) (ha : IsNoFlag a) (hb : IsNoFlag b) (hc : IsNoFlag c) →
    leaf_fault (n, 2, 4) (a ∷ b ∷ c ∷ []) ≡ []
unfolding clap_on_literals
span_3 n a b c ha hb hc = simp (ha.0, ha.1, hb.0, hb.1, hc.0, hc.1)

abbrev span_rules : List Rule
span_rules = (leaf ([], 2, 4)).rules

span_walk : (a b c d : Text) → IsNoFlag a → IsNoFlag b → IsNoFlag c → IsNoFlag d →
    walk span_rules [] nothing_held (a ∷ b ∷ c ∷ d ∷ []) ≡ after_4 span_rules a b c d
span_walk a b c d ha hb hc hd =
    ap (λ x. fold (walked span_rules []) x (b ∷ c ∷ d ∷ [])) (step span_rules nothing_held 1 a ha)
    ∙ ap (λ x. fold (walked span_rules []) x (c ∷ d ∷ [])) (step span_rules (after_1 span_rules a).held 2 b hb)
    ∙ ap (λ x. fold (walked span_rules []) x (d ∷ [])) (step span_rules (after_2 span_rules a b).held 3 c hc)
    ∙ step span_rules (after_3 span_rules a b c).held 4 d hd

span_fault : (n a b c d : Text) → IsNoFlag a → IsNoFlag b → IsNoFlag c → IsNoFlag d →
    walk_fault (leaf (n, 2, 4)) [] (walk_from nothing_held) (a ∷ b ∷ c ∷ d ∷ []) ≡ []
unfolding walk_fault
span_fault n a b c d ha hb hc hd =
    one_word (leaf (n, 2, 4)) nothing_held 1 a (b ∷ c ∷ d ∷ []) ha
    ∙ one_word (leaf (n, 2, 4)) (after_1 span_rules a).held 2 b (c ∷ d ∷ []) hb
    ∙ one_word (leaf (n, 2, 4)) (after_2 span_rules a b).held 3 c (d ∷ []) hc
    ∙ one_word (leaf (n, 2, 4)) (after_3 span_rules a b c).held 4 d [] hd

pub span_4 : (n a b c d : Text) (ha : IsNoFlag a) (hb : IsNoFlag b) (hc : IsNoFlag c) (hd : IsNoFlag d) →
    leaf_fault (n, 2, 4) (a ∷ b ∷ c ∷ d ∷ []) ≡ []
unfolding defaults_fault
span_4 n a b c d ha hb hc hd =
    ap₂ (level_by (leaf (n, 2, 4))) (span_walk a b c d ha hb hc hd) (span_fault n a b c d ha hb hc hd)

pub span_more : (n : Text) (a b c d e : Text) (rest : List Text) (ha : IsNoFlag a) (hb : IsNoFlag b) (hc : IsNoFlag c)
    (hd : IsNoFlag d) (he : IsNoFlag e) → leaf_fault (n, 2, 4) (a ∷ b ∷ c ∷ d ∷ e ∷ rest) ≡ unknown
unfolding clap_on_literals
span_more n a b c d e rest ha hb hc hd he = simp (ha.0, ha.1, hb.0, hb.1, hc.0, hc.1, hd.0, hd.1, he.0, he.1)

pub span_given_2 : (n : Text) (a b : Text) (ha : IsNoFlag a) (hb : IsNoFlag b) →
    leaf_given (n, 2, 4) (a ∷ b ∷ []) ≡ a ∷ b ∷ []
unfolding clap_on_literals
span_given_2 n a b ha hb = simp (ha.0, ha.1, hb.0, hb.1)

pub span_given_3 : (n : Text) (a b c : Text) (ha : IsNoFlag a) (hb : IsNoFlag b) (hc : IsNoFlag c) →
    leaf_given (n, 2, 4) (a ∷ b ∷ c ∷ []) ≡ a ∷ b ∷ c ∷ []
unfolding clap_on_literals
span_given_3 n a b c ha hb hc = simp (ha.0, ha.1, hb.0, hb.1, hc.0, hc.1)

pub span_given_4 : (n a b c d : Text) (ha : IsNoFlag a) (hb : IsNoFlag b) (hc : IsNoFlag c) (hd : IsNoFlag d) →
    leaf_given (n, 2, 4) (a ∷ b ∷ c ∷ d ∷ []) ≡ a ∷ b ∷ c ∷ d ∷ []
span_given_4 n a b c d ha hb hc hd =
    ap (λ (e : Walk). filter_map (λ id. first_of id (finished span_rules e.held)) ids) (span_walk a b c d ha hb hc hd)
