-- The pieces of a text, each with its one spelling: character data, comments, instructions, CDATA sections, tags and
-- references of XML 1.0 (2.4 to 2.7, 3.1 and 4.1), as far as the files of IEC 61850-6 need them.
use Rattle.std.specs.Prelude.{◌≡◌, ℕ, ◌+◌, ◌-◌, ◌<◌, Bool, true, false, ◌==◌, ◌&&◌, ◌||◌, not, nat_le, nat_lt, nat_eq}
use Rattle.std.specs.Prelude.{List, [], ◌∷◌, ◌++◌, length, take, map, Option, Some, None, is_some, zero, suc}
use Rattle.std.specs.Prelude.{encode_utf8, if◌then◌else◌, codes, ◌⊎◌}
use Rattle.std.specs.List.{list_all, flat_map, starts_with, position_or_len, AllByRecursion, IsDistinct}
use Rattle.std.specs.Option.{option_map, option_map_or}
use Rattle.std.specs.Char.{digit_value}
use Rattle.std.specs.Str.{bytes_eq}
use Rattle.std.specs.Str.Parse.{digits_value}

-- Space, tab, CR, LF.
unfoldable pub is_white : ℕ → Bool
is_white b = b == 32 || b == 9 || b == 13 || b == 10

-- An ASCII letter, `_`, `:`, or a byte of a character past ASCII.
unfoldable pub starts_name : ℕ → Bool
starts_name b = (nat_le 65 b && nat_le b 90) || (nat_le 97 b && nat_le b 122) || b == 95 || b == 58 || nat_le 128 b

-- These, digits, `-` and `.`.
unfoldable pub in_name : ℕ → Bool
in_name b = starts_name b || (nat_le 48 b && nat_le b 57) || b == 45 || b == 46

-- White space alone.
abbrev pub IsWhite : List ℕ → Type 0
IsWhite bs = list_all is_white bs ≡ true

-- A name: it begins as a name does, and goes on so.
abbrev pub is_name : List ℕ → Bool
is_name [] = false
is_name (b ∷ bs) = starts_name b && list_all in_name bs

-- Digits of a base, which name a character other than 0.
abbrev pub is_scalar : ℕ → Bool
is_scalar c = nat_lt c 0xD800 || (nat_le 0xE000 c && nat_lt c 0x110000)

-- A digit of the base.
abbrev pub is_digit : ℕ → ℕ → Bool
is_digit base b = nat_lt (digit_value b) base

-- The number that digits of the base spell.
unfoldable pub numbered : ℕ → List ℕ → Option ℕ
numbered base digits =
    let n = digits_value base digits in
    if list_all (is_digit base) digits && not (n == 0) && is_scalar n then Some n else None

-- After a `#`.
unfoldable pub number_of : List ℕ → Option ℕ
number_of [] = None
number_of (b ∷ bs) = if b == 120 then numbered 16 bs else numbered 10 (b ∷ bs)

-- What stands between `&` and `;` names a character.
unfoldable pub named : List ℕ → Option ℕ
named [] = None
named (b ∷ bs) =
    if b == 35 then number_of bs
    else if bytes_eq (b ∷ bs) (codes "lt") then Some 60
    else if bytes_eq (b ∷ bs) (codes "gt") then Some 62
    else if bytes_eq (b ∷ bs) (codes "amp") then Some 38
    else if bytes_eq (b ∷ bs) (codes "apos") then Some 39
    else if bytes_eq (b ∷ bs) (codes "quot") then Some 34
    else None

-- Behind an `&`: the character of the reference and how long it is with its `;`.
unfoldable pub reference : List ℕ → Option (ℕ × ℕ)
reference bs =
    let n = position_or_len (λ b. b == 59) bs in
    if nat_lt n (length bs) then option_map (λ c. (c, n + 1)) (named (take n bs)) else None

-- Each `&` begins a reference.
unfoldable pub all_references : List ℕ → Bool
all_references [] = true
all_references (b ∷ bs) = (if b == 38 then is_some (reference bs) else true) && all_references bs

-- ---- attributes

-- An attribute as it is written: the gap before it, its name, what surrounds the equals sign, the quote, the raw text.
pub record Attribute : Type 0 where
  pub gap : List ℕ
  pub name : List ℕ
  pub left : List ℕ
  pub right : List ℕ
  pub quote : ℕ
  pub raw : List ℕ

-- White space, the name, `=` with white space or none on both sides, and the value in its quotes.
abbrev pub attribute : Attribute → List ℕ
attribute a = a.gap ++ (a.name ++ (a.left ++ (61 ∷ (a.right ++ (a.quote ∷ (a.raw ++ (a.quote ∷ [])))))))

-- The byte may stand in a raw text between these quotes.
abbrev pub stays : ℕ → ℕ → Bool
stays quote b = not (b == quote) && not (b == 60)

-- What makes an attribute one.
pub record IsAttribute (a : Attribute) : Type 0 where
  pub gap : IsWhite a.gap
  pub some_gap : 0 < length a.gap
  pub name : is_name a.name ≡ true
  pub left : IsWhite a.left
  pub right : IsWhite a.right
  pub quote : (a.quote ≡ 34) ⊎ (a.quote ≡ 39)
  pub raw : list_all (stays a.quote) a.raw ≡ true
  pub references : all_references a.raw ≡ true

-- ---- pieces

-- A piece of a text.
pub data Piece : Type 0 where
  comment : List ℕ → Piece
  instruction : List ℕ → Piece
  cdata : List ℕ → Piece
  -- a name, attributes, white space or none, and whether it ends by `/>`
  start : List ℕ → List Attribute → List ℕ → Bool → Piece
  end : List ℕ → List ℕ → Piece
  -- character data
  run : List ℕ → Piece

-- How a start tag ends: as an empty element, or not.
abbrev pub close : Bool → List ℕ
close b = if b then codes "/>" else codes ">"

-- The bytes of a piece.
abbrev pub spelling : Piece → List ℕ
spelling (comment x) = codes "<!--" ++ (x ++ codes "-->")
spelling (instruction x) = codes "<?" ++ (x ++ codes "?>")
spelling (cdata x) = codes "<![CDATA[" ++ (x ++ codes "]]>")
spelling (start name attributes gap closed) =
    codes "<" ++ (name ++ (flat_map attribute attributes ++ (gap ++ close closed)))
spelling (end name gap) = codes "</" ++ (name ++ (gap ++ codes ">"))
spelling (run x) = x

-- The mark stands at no place of x and the mark behind it before that behind it.
abbrev pub IsUpTo : List ℕ → List ℕ → Type 0
IsUpTo mark [] = Unit {0}
IsUpTo mark (b ∷ x) = (starts_with nat_eq ((b ∷ x) ++ mark) mark ≡ false) × IsUpTo mark x

-- The first of each pair.
abbrev pub firsts : List (List ℕ × List ℕ) → List (List ℕ)
firsts ps = map (λ p. p.0) ps

-- The names of the attributes.
abbrev pub names : List Attribute → List (List ℕ)
names attributes = map (λ a. a.name) attributes

-- What makes a piece one.
abbrev pub IsPiece : Piece → Type 0
IsPiece (comment x) = IsUpTo (codes "-->") x
IsPiece (instruction x) = IsUpTo (codes "?>") x
IsPiece (cdata x) = IsUpTo (codes "]]>") x
IsPiece (start name attributes gap closed) = (is_name name ≡ true) × AllByRecursion IsAttribute attributes
    × IsDistinct bytes_eq (names attributes) × IsWhite gap
IsPiece (end name gap) = (is_name name ≡ true) × IsWhite gap
IsPiece (run x) = (0 < length x) × (list_all (λ b. not (b == 60)) x ≡ true)

-- Character data goes on up to a `<` or the end.
abbrev pub StopsThere : Piece → List ℕ → Type 0
StopsThere (run x) [] = Unit {0}
StopsThere (run x) (b ∷ bs) = b ≡ 60
StopsThere _ rest = Unit {0}

-- The text is this piece, and then the rest.
pub record Begins (text : List ℕ) (p : Piece) (rest : List ℕ) : Type 0 where
  pub whole : text ≡ spelling p ++ rest
  pub good : IsPiece p
  pub ends : StopsThere p rest

-- ---- the decoded value of an attribute

-- A byte that stands for itself.
unfoldable pub is_plain : ℕ → Bool
is_plain b = not (b == 38) && not (is_white b)

-- The character for which the bytes in front stand, where the first does not stand for itself, and how many they are.
unfoldable pub special : List ℕ → ℕ × ℕ
special [] = (32, 1)
special (b ∷ bs) =
    if b == 38 then option_map_or (λ r. (r.0, r.1 + 1)) (reference bs) (38, 1)
    else if b == 13 && starts_with nat_eq bs (10 ∷ []) then (32, 2)
    else (32, 1)

-- Each reference is its character, each CR LF, CR, LF and tab one space; skip bytes are passed over first.
unfoldable pub value_from : ℕ → List ℕ → List ℕ
value_from skip [] = []
value_from (suc k) (b ∷ bs) = value_from k bs
value_from zero (b ∷ bs) =
    if is_plain b then b ∷ value_from 0 bs
    else (let s = special (b ∷ bs) in encode_utf8 s.0 ++ value_from (s.1 - 1) bs)

-- The decoded value of a raw text.
abbrev pub value_of : List ℕ → List ℕ
value_of raw = value_from 0 raw
