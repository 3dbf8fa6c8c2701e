-- The grammar of an accepted text: elements that stand in one another, at most 64 deep and at most 200,000 of them.
use Rattle.std.specs.Prelude.{◌≡◌, ◌≤◌, ℕ, suc, Bool, true, false, List, [], ◌∷◌, ◌++◌, IsUtf8}
use Rattle.std.specs.Prelude.{drop, map, count_by}
use Rattle.ssd_text.specs.Grammar.{Piece, Begins}
use Rattle.ssd_text.specs.Nesting.{mark_len, shape, Shape, passed, literal, characters, opens, closes}
use Rattle.ssd_text.specs.declared.limits.TheConstants.{DEPTH, ELEMENTS}

-- The text is these pieces, one after another.
abbrev pub IsCut : List ℕ → List Piece → Type 0
IsCut text [] = text ≡ []
IsCut text (p ∷ ps) = (rest : List ℕ) × Begins text p rest × IsCut rest ps

-- What may stand beside the root.
abbrev pub IsBeside : List Shape → Type 0
IsBeside [] = Unit {0}
IsBeside (passed ∷ ss) = IsBeside ss
IsBeside (characters true ∷ ss) = IsBeside ss
IsBeside (_ ∷ ss) = ⊥

-- An element that is at most so many deep is one tag, or a start tag, its content and an end tag of the same name.
-- Content is a list of elements and of pieces that are no tags.
mutual
  pub data IsElement : ℕ → List Shape → Type 0 where
    at_once : (deep : ℕ) (name : List ℕ) (ps : List (List ℕ × List ℕ)) → IsElement (suc deep) (opens name ps true ∷ [])
    with_content : (deep : ℕ) (name : List ℕ) (ps : List (List ℕ × List ℕ)) (content : List Shape) →
        IsContent deep content → IsElement (suc deep) (opens name ps false ∷ (content ++ (closes name ∷ [])))

  pub data IsContent : ℕ → List Shape → Type 0 where
    none : (deep : ℕ) → IsContent deep []
    pass : (deep : ℕ) (ss : List Shape) → IsContent deep ss → IsContent deep (passed ∷ ss)
    data_section : (deep : ℕ) (ss : List Shape) → IsContent deep ss → IsContent deep (literal ∷ ss)
    text : (deep : ℕ) (b : Bool) (ss : List Shape) → IsContent deep ss → IsContent deep (characters b ∷ ss)
    child : (deep : ℕ) (element ss : List Shape) → IsElement deep element → IsContent deep ss →
        IsContent deep (element ++ ss)

-- Whether an element begins with the piece.
abbrev pub begins_element : Shape → Bool
begins_element (opens name ps c) = true
begins_element _ = false

-- One root, with nothing but comments, instructions and white space beside it.
abbrev pub IsDocument : List Shape → Type 0
IsDocument ss = (before : List Shape) × (root : List Shape) × (behind : List Shape) × (ss ≡ before ++ (root ++ behind))
    × IsBeside before × IsElement DEPTH root × IsBeside behind × (count_by begins_element ss ≤ ELEMENTS)

-- The text is UTF-8, and behind its byte order mark it is pieces that make a document.
abbrev pub SpellsDocument : List ℕ → Type 0
SpellsDocument bytes = IsUtf8 bytes × (ps : List Piece) × IsCut (drop (mark_len bytes) bytes) ps
    × IsDocument (map shape ps)
