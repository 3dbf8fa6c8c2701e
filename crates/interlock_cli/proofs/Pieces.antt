-- The line of a fault of the drawing, from the pieces that are written.
use Rattle.std.proofs.Common.{◌≡◌, ℕ, List, [], ◌++◌, Option, Some, None, refl, sym}
use Rattle.std.specs.Prelude.{codes}
use Rattle.std.specs.Fmt.{decimal}
use Rattle.std.proofs.lemmas.List.{append-nil, append_assoc}
use Rattle.interlock_cli.specs.Lines.{fault_line, labelled}
use Rattle.interlock_cli.specs.Pieces.{label_where, digits_of}

-- the two pieces of a number
joined : (label : List ℕ) (n : Option ℕ) (rest : List ℕ) →
    label_where label n ++ (digits_of n ++ rest) ≡ labelled label n ++ rest
joined label None rest = refl
joined label (Some n) rest = sym (append_assoc label (decimal n) rest)

nested : (h d a w m l : List ℕ) → h ++ (d ++ (a ++ (w ++ (m ++ (l ++ []))))) ≡ h ++ d ++ a ++ w ++ m ++ l
nested h d a w m l = simp (append-nil, append_assoc) refl

-- the pieces of the line, one after another
pub record ArePieces (n : ℕ) (at what many : Option ℕ) (head digits a1 a2 w1 w2 m1 m2 last : List ℕ) : Type 0 where
  pub head_is : head ≡ codes "interlock: station refused "
  pub digits_is : digits ≡ decimal n
  pub at_label : a1 ≡ label_where (codes " at ") at
  pub at_digits : a2 ≡ digits_of at
  pub what_label : w1 ≡ label_where (codes " limit ") what
  pub what_digits : w2 ≡ digits_of what
  pub many_label : m1 ≡ label_where (codes " count ") many
  pub many_digits : m2 ≡ digits_of many
  pub last_is : last ≡ codes "\n"

whole : (h d l a w m : List ℕ) (at what many : Option ℕ) →
    h
    ++ (d
    ++ (label_where a at
    ++ (digits_of at ++ (label_where w what
    ++ (digits_of what ++ (label_where m many ++ (digits_of many ++ (l ++ []))))))))
    ≡ h ++ d ++ labelled a at ++ labelled w what ++ labelled m many ++ l
whole h d l a w m at what many =
    rw (
      joined m many (l ++ []),
      joined w what (labelled m many ++ (l ++ [])),
      joined a at (labelled w what ++ (labelled m many ++ (l ++ []))),
    )
    (nested h d (labelled a at) (labelled w what) (labelled m many) l)

pub line_is : (n : ℕ) (at what many : Option ℕ) (head digits a1 a2 w1 w2 m1 m2 last : List ℕ) →
    ArePieces n at what many head digits a1 a2 w1 w2 m1 m2 last
    → head ++ (digits ++ (a1 ++ (a2 ++ (w1 ++ (w2 ++ (m1 ++ (m2 ++ (last ++ [])))))))) ≡ fault_line n at what many
line_is n at what many head digits a1 a2 w1 w2 m1 m2 last p =
    rw (
      p.head_is,
      p.digits_is,
      p.at_label,
      p.at_digits,
      p.what_label,
      p.what_digits,
      p.many_label,
      p.many_digits,
      p.last_is,
    )
    (whole (codes "interlock: station refused ") (decimal n) (codes "\n") (codes " at ") (codes " limit ")
    (codes " count ") at what many)
