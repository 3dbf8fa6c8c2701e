-- The lines of remarks and counts, one more at a time.
use Rattle.std.proofs.Common.{◌≡◌, ℕ, ◌<◌, ◌+◌, List, [], ◌∷◌, ◌++◌, length, take, map, get_or, Bool, true, false, cond}
use Rattle.std.proofs.Common.{refl, ap, ◌∙◌, sym, arith, append_assoc, zero, suc}
use Rattle.std.specs.List.{filter}
use Rattle.std.proofs.lemmas.List.{take_more, map-append, append-nil, length-append}
use Rattle.std.proofs.lemmas.List.Concat.{flat_map-append}
use Rattle.ssd_read.specs.Elements.{Element, element_at}
use Rattle.ssd_read.specs.Names.{is_node}
use Rattle.station_lines.specs.Rows.{Row, row_text, text_of}
use Rattle.drawing_remarks.specs.Station.{node_number}
use Rattle.drawing_remarks.specs.StationText.{count_row}

filter_case : {X : Type 0} (b : Bool) (x : X) (us vs ws : List X) → us ≡ vs ++ ws →
    cond b (x ∷ us) us ≡ cond b (x ∷ vs) vs ++ ws
filter_case {X = X} true x us vs ws h = ap (λ (l : List X). x ∷ l) h
filter_case false x us vs ws h = h

filter_both : {X : Type 0} (p : X → Bool) (xs ys : List X) → filter p (xs ++ ys) ≡ filter p xs ++ filter p ys
filter_both p [] ys = refl
filter_both p (x ∷ xs) ys =
    filter_case (p x) x (filter p (xs ++ ys)) (filter p xs) (filter p ys) (filter_both p xs ys)

-- one more text
pub text_more : (old mid new : List ℕ) (rows more : List Row) → mid ≡ old ++ text_of rows → new ≡ mid ++ text_of more →
    new ≡ old ++ text_of (rows ++ more)
text_more old mid new rows more h g =
    g ∙ (ap (λ (t : List ℕ). t ++ text_of more) h
    ∙ (append_assoc old (text_of rows) (text_of more)
    ∙ ap (λ (t : List ℕ). old ++ t) (sym (flat_map-append row_text rows more))))

pub row_more : (old mid new : List ℕ) (rows : List Row) (row : Row) → mid ≡ old ++ text_of rows →
    new ≡ mid ++ row_text row → new ≡ old ++ text_of (rows ++ row ∷ [])
row_more old mid new rows row h g =
    text_more old mid new rows (row ∷ []) h
    (g ∙ ap (λ (t : List ℕ). mid ++ t) (sym (append-nil (row_text row))))

-- the line of a remark that is said
pub text_said : {X : Type 0} (row : X → Row) (mid new : List ℕ) (b c : Bool) (x : X) →
    new ≡ mid ++ text_of (cond b (row x ∷ []) []) → b ≡ c → new ≡ mid ++ text_of (cond c (row x ∷ []) [])
text_said row mid new b c x h e = h ∙ ap (λ (t : Bool). mid ++ text_of (cond t (row x ∷ []) [])) e

pub count_line : (old mid new : List ℕ) (rows : List Row) (word : List ℕ) (n m : ℕ) → n ≡ m → mid ≡ old ++ text_of rows →
    new ≡ mid ++ row_text (count_row word n) → new ≡ old ++ text_of (rows ++ count_row word m ∷ [])
count_line old mid new rows word n m e h g =
    row_more old mid new rows (count_row word m) h
    (g ∙ ap (λ (k : ℕ). mid ++ row_text (count_row word k)) e)

pub no_rows : (old : List ℕ) → old ≡ old ++ text_of []
no_rows old = sym (append-nil old)

pub whole_text : (start one two three : List ℕ) (a b c : List Row) → start ≡ [] → one ≡ start ++ text_of a →
    two ≡ one ++ text_of b → three ≡ two ++ text_of c → three ≡ text_of (a ++ (b ++ c))
whole_text start one two three a b c s h g f =
    text_more start two three (a ++ b) c (text_more start one two a b h g) f
    ∙ (ap (λ (t : List ℕ). t ++ text_of ((a ++ b) ++ c)) s ∙ ap text_of (append_assoc a b c))

module _ {X : Type 0} (row : X → Row) (p : X → Bool) (xs : List X) (i : ℕ) (x : X) (inside : i < length xs)
    (at : get_or xs i x ≡ x) where
  chosen_more : filter p (take (i + 1) xs) ≡ filter p (take i xs) ++ cond (p x) (x ∷ []) []
  chosen_more =
      ap (filter p) (take_more xs i x inside ∙ ap (λ (y : X). take i xs ++ y ∷ []) at)
      ∙ filter_both p (take i xs) (x ∷ [])

  row_case : (b : Bool) → map row (cond b (x ∷ []) []) ≡ cond b (row x ∷ []) []
  row_case true = refl
  row_case false = refl

  one_case : (b : Bool) → length (cond b (x ∷ []) []) ≡ cond b 1 0
  one_case true = refl
  one_case false = refl

  pub rows_more : map row (filter p (take (i + 1) xs)) ≡ map row (filter p (take i xs)) ++ cond (p x) (row x ∷ []) []
  rows_more =
      ap (map row) chosen_more
      ∙ (map-append row (filter p (take i xs)) (cond (p x) (x ∷ []) [])
      ∙ ap (λ (l : List Row). map row (filter p (take i xs)) ++ l) (row_case (p x)))

  pub count_more : length (filter p (take (i + 1) xs)) ≡ length (filter p (take i xs)) + cond (p x) 1 0
  count_more =
      ap length chosen_more
      ∙ (length-append (filter p (take i xs)) (cond (p x) (x ∷ []) [])
      ∙ ap (λ (n : ℕ). length (filter p (take i xs)) + n) (one_case (p x)))

-- the nodes before the next element
number_step : (b : Bool) (x : Element) (xs : List Element) → length (cond b (x ∷ xs) xs) ≡ length xs + cond b 1 0
number_step true x xs = omega arith
number_step false x xs = omega arith

number_suc : (all : List Element) (i : ℕ) → i < length all →
    node_number all (suc i) ≡ node_number all i + cond (is_node (element_at all i)) 1 0
number_suc [] i h = absurd (omega arith)
number_suc (x ∷ xs) zero h = number_step (is_node x) x []
number_suc (x ∷ xs) (suc i) h =
    let rest : node_number xs (suc i) ≡ node_number xs i + cond (is_node (element_at xs i)) 1 0 =
    number_suc xs i (omega arith) in
    let here : node_number (x ∷ xs) (suc (suc i)) ≡ node_number xs (suc i) + cond (is_node x) 1 0 =
    number_step (is_node x) x (filter is_node (take (suc i) xs)) in
    let there : node_number (x ∷ xs) (suc i) ≡ node_number xs i + cond (is_node x) 1 0 =
    number_step (is_node x) x (filter is_node (take i xs)) in
    omega (arith, rest, here, there)

pub number_more : (all : List Element) (i : ℕ) → i < length all →
    node_number all (i + 1) ≡ node_number all i + cond (is_node (element_at all i)) 1 0
number_more all i h =
    let e : i + 1 ≡ suc i = omega arith in
    ap (node_number all) e ∙ number_suc all i h
