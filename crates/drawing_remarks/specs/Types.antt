-- The types of conducting equipment (IEC 61850-6), and words that differ from them in case alone.
use Rattle.std.specs.Prelude.{ℕ, Bool, List, map}
use Rattle.std.specs.Borrow.{Bor}
use Rattle.std.specs.Char.{to_ascii_lowercase}
use Rattle.std.specs.List.{list_any}
use Rattle.std.specs.Str.{bytes_eq}
use Rattle.drawing_remarks.specs.declared.types.TheConstants.{TYPES, EARTHED_TYPES, READ_TAGS}

-- Texts in memory.
abbrev pub texts : List (Bor (List ℕ)) → List (List ℕ)
texts words = map (λ word. word.now) words

-- The types.
abbrev pub types : List (List ℕ)
types = map (λ word. word.now) TYPES

-- Those that stand between a node and earth by their nature.
abbrev pub earthed_types : List (List ℕ)
earthed_types = map (λ word. word.now) EARTHED_TYPES

-- The tags that are read, but for nodes and terminals.
abbrev pub read_tags : List (List ℕ)
read_tags = map (λ word. word.now) READ_TAGS

-- The word is one of these.
abbrev pub is_among : List (List ℕ) → List ℕ → Bool
is_among words word = list_any (bytes_eq word) words

-- The words have the same letters, in whatever case.
abbrev pub same_letters : List ℕ → List ℕ → Bool
same_letters a b = bytes_eq (map to_ascii_lowercase a) (map to_ascii_lowercase b)

-- The word has the letters of one of these.
abbrev pub is_spelled : List (List ℕ) → List ℕ → Bool
is_spelled words word = list_any (same_letters word) words
