-- What is shown at a line, read back from its rows.
use Rattle.std.proofs.Common.{◌≡◌, ◌≢◌, ◌<◌, ◌∙◌, sym, ap, refl, subst, ℕ, zero, suc, Bool, true, false, List, [], ◌∷◌}
use Rattle.std.proofs.Common.{◌++◌, length, inl, inr, arith, Some}
use Rattle.std.specs.Prelude.{slice_get, slice_set, slice_index_or, codes, decimal, if◌then◌else◌}
use Rattle.std.specs.Str.{bytes_eq}
use Rattle.std.specs.Str.Parse.{digits_value}
use Rattle.std.proofs.lemmas.Bool.{cases_Bool}
use Rattle.std.proofs.lemmas.Bool.Decides.{eqb_tells}
use Rattle.std.proofs.lemmas.Fmt.{decimal_is_IsNumeral}
use Rattle.std.proofs.lemmas.Slice.Eq.{bytes_eq-Decides}
use Rattle.ilk_base.specs.declared.words.Direction.{Direction}
use Rattle.ilk_base.specs.declared.words.Direction.TheVariants.{ToOff, ToOn}
use Rattle.ilk_base.specs.declared.words.Op.{Op}
use Rattle.ilk_base.specs.declared.words.Rule.{Rule}
use Rattle.ilk_base.specs.declared.words.Rule.TheVariants.{R1, R2, R3}
use Rattle.station_graph.specs.Diagram.{Diagram, IsStation, switch_path}
use Rattle.central_rules.specs.Names.{rule_name}
use Rattle.bay_protocol.specs.declared.values.Outcome.{Outcome}
use Rattle.bay_protocol.specs.declared.values.Outcome.TheVariants.{UnderWay, HeldBy, There, Spent, Collecting, Granted}
use Rattle.bay_protocol.specs.declared.values.Outcome.TheVariants.{Denied, BusyBy, Finished, Withdrawn, Stopped}
use Rattle.reservation_core.specs.Hearing.{listed}
use Rattle.reservation_core.specs.Lines.{shown}
use Rattle.reservation_core.specs.ReportLines.{line_prefix}
use Rattle.log_replay.specs.Telling.{Is32Bits}
use Rattle.log_replay.proofs.TextRows.{Each, decimal_free, cut, cut_at}
use Rattle.log_replay.proofs.ReportRows.{op_says, with_row, with_rows}
use Rattle.log_replay.proofs.RowFacts.{no_blank, wide, with_each, prefix_cut}

-- ---- words of a text

abbrev pub first : List ℕ → List ℕ
first t = (cut 32 t).0

abbrev pub behind : List ℕ → List ℕ
behind t = (cut 32 t).1

abbrev pub number_in : List ℕ → ℕ
number_in t = digits_value 10 t

pub number_is : (n : ℕ) → Is32Bits n → number_in (decimal n) ≡ n
number_is n few = (decimal_is_IsNumeral n (wide n few)).1

-- a number before a blank
number_cut : (n : ℕ) (t : List ℕ) → Is32Bits n → cut 32 (decimal n ++ 32 ∷ t) ≡ (decimal n, t)
number_cut n t few = cut_at 32 (decimal n) t (decimal_free 32 n no_blank (wide n few))

pub number_first : (n : ℕ) (t : List ℕ) → Is32Bits n → number_in (first (decimal n ++ 32 ∷ t)) ≡ n
number_first n t few = ap (λ (p : List ℕ × List ℕ). number_in p.0) (number_cut n t few) ∙ number_is n few

pub number_behind : (n : ℕ) (t : List ℕ) → Is32Bits n → behind (decimal n ++ 32 ∷ t) ≡ t
number_behind n t few = ap (λ (p : List ℕ × List ℕ). p.1) (number_cut n t few)

-- what a row says behind its prefix
abbrev pub said : List ℕ → List ℕ
said r = behind (behind r)

abbrev pub bay_in : List ℕ → ℕ
bay_in r = number_in (first (behind r))

pub first_of_row : (i b : ℕ) (t : List ℕ) → Is32Bits i → first (line_prefix i b ++ t) ≡ decimal i
first_of_row i b t few = ap (λ (p : List ℕ × List ℕ). p.0) (prefix_cut i b t few)

pub said_of_row : (i b : ℕ) (t : List ℕ) → Is32Bits i → Is32Bits b → said (line_prefix i b ++ t) ≡ t
said_of_row i b t few less = ap (λ (p : List ℕ × List ℕ). behind p.1) (prefix_cut i b t few)
    ∙ ap (λ (p : List ℕ × List ℕ). p.1) (number_cut b t less)

pub bay_of_row : (i b : ℕ) (t : List ℕ) → Is32Bits i → Is32Bits b → bay_in (line_prefix i b ++ t) ≡ b
bay_of_row i b t few less = ap (λ (p : List ℕ × List ℕ). number_in (first p.1)) (prefix_cut i b t few)
    ∙ ap (λ (p : List ℕ × List ℕ). number_in p.0) (number_cut b t less) ∙ number_is b less

-- ---- switches by their paths

abbrev pub place : List (List ℕ) → List ℕ → ℕ
place [] p = 0
place (q ∷ qs) p = if bytes_eq q p then 0 else suc (place qs p)

place_is : (qs : List (List ℕ)) (p : List ℕ) (i : ℕ) → slice_get qs i ≡ Some p → ((j : ℕ) → slice_get qs j ≡ Some p →
    j ≡ i) → place qs p ≡ i
place_is [] p i at only = absurd (cc at)
place_is (q ∷ qs) p zero at only = let same : q ≡ p = cc at in rw ((bytes_eq-Decides q p).1 same) refl
place_is (q ∷ qs) p (suc i) at only = elim (cases_Bool (bytes_eq q p)) [
  | inl e ↦ absurd (let here : 0 ≡ suc i = only 0 (ap (λ (x : List ℕ). Some x) ((bytes_eq-Decides q p).0 e)) in
      omega (arith, here))
  | inr e ↦ rw e (ap suc (place_is qs p i at (λ j got. let it : suc j ≡ suc i = only (suc j) got in omega (arith, it))))
]

get_is : {A : Type 0} (xs : List A) (i : ℕ) (d : A) → i < length xs → slice_get xs i ≡ Some (slice_index_or xs i d)
get_is [] i d less = absurd (omega (arith, less))
get_is (x ∷ xs) zero d less = refl
get_is (x ∷ xs) (suc i) d less = get_is xs i d (omega (arith, less))

path_at : (d : Diagram) → IsStation d → (i : ℕ) → i < length d.switches →
    slice_get d.switch_paths i ≡ Some (switch_path d i)
path_at d station i less = let same = station.items.paths in get_is d.switch_paths i [] (omega (arith, less, same))

one_path : (d : Diagram) → IsStation d → (i j : ℕ) → i < length d.switches → j < length d.switches →
    switch_path d i ≡ switch_path d j → i ≡ j
one_path d station i j first second same = station.paths_differ.switches i j (switch_path d i)
    (path_at d station i first) (path_at d station j second ∙ ap (λ (p : List ℕ). Some p) (sym same))

place_of : (d : Diagram) → IsStation d → (i : ℕ) → i < length d.switches → place d.switch_paths (switch_path d i) ≡ i
place_of d station i less = place_is d.switch_paths (switch_path d i) i (path_at d station i less)
    (λ j got. station.paths_differ.switches j i (switch_path d i) got (path_at d station i less))

-- ---- operations and rules

abbrev pub read_direction : List ℕ → Direction
read_direction t = if bytes_eq t (codes "close") then ToOn else ToOff

abbrev pub read_op : Diagram → List ℕ → Op
read_op d t = record { switch = record { 0 = place d.switch_paths (behind t) }; direction = read_direction (first t) }

op_by : (d : Diagram) → IsStation d → (i : ℕ) (x : Direction) → i < length d.switches →
    read_op d (op_says d x i) ≡ record { switch = record { 0 = i }; direction = x }
op_by d station i ToOff less = ap (λ (k : ℕ). let op : Op = record { switch = record { 0 = k }; direction = ToOff } in
    op) (place_of d station i less)
op_by d station i ToOn less = ap (λ (k : ℕ). let op : Op = record { switch = record { 0 = k }; direction = ToOn } in op)
    (place_of d station i less)

op_read : (d : Diagram) → IsStation d → (op : Op) → op.switch.0 < length d.switches →
    read_op d (op_says d op.direction op.switch.0) ≡ op
op_read d station op less = op_by d station op.switch.0 op.direction less

abbrev pub read_rule : List ℕ → Rule
read_rule t = if bytes_eq t (codes "R1") then R1 else if bytes_eq t (codes "R2") then R2 else R3

rule_first : (rule : Rule) (t : List ℕ) → read_rule (first (rule_name rule ++ 32 ∷ t)) ≡ rule
rule_first R1 t = refl
rule_first R2 t = refl
rule_first R3 t = refl

rule_behind : (rule : Rule) (t : List ℕ) → behind (rule_name rule ++ 32 ∷ t) ≡ t
rule_behind R1 t = refl
rule_behind R2 t = refl
rule_behind R3 t = refl

-- ---- the reading of a denial

abbrev pub any_row : (List ℕ → Bool) → List (List ℕ) → Bool
any_row p [] = false
any_row p (r ∷ rs) = if p r then true else any_row p rs

none_any : (p : List ℕ → Bool) (rs : List (List ℕ)) → Each (λ (r : List ℕ). p r ≡ false) rs → any_row p rs ≡ false
none_any p [] each = refl
none_any p (r ∷ rs) each = rw each.0 (none_any p rs each.1)

any_first : (p : List ℕ → Bool) (xs ys : List (List ℕ)) → any_row p xs ≡ true → any_row p (xs ++ ys) ≡ true
any_first p [] ys is = absurd (cc is)
any_first p (x ∷ xs) ys is = elim (cases_Bool (p x)) [
  | inl e ↦ rw e refl
  | inr e ↦ let rest : any_row p xs ≡ true = sym (ap (λ (b : Bool). if b then true else any_row p xs) e) ∙ is in
      rw e (any_first p xs ys rest)
]

any_last : (p : List ℕ → Bool) (xs ys : List (List ℕ)) → any_row p ys ≡ true → any_row p (xs ++ ys) ≡ true
any_last p [] ys is = is
any_last p (x ∷ xs) ys is = elim (cases_Bool (p x)) [
  | inl e ↦ rw e refl
  | inr e ↦ rw e (any_last p xs ys is)
]

-- the row names this switch
abbrev pub names : Diagram → ℕ → List ℕ → Bool
names d i r = bytes_eq (behind (said r)) (switch_path d i)

with_any : (q : List ℕ → Bool) (p : List ℕ) (d : Diagram) (v : List Bool) (moved i n : ℕ) → i < n → i ≢ moved →
    slice_index_or v i false ≡ true → q (p ++ (codes "with " ++ switch_path d i)) ≡ true →
    any_row q (with_rows p d v moved n) ≡ true
with_any q p d v moved i zero less differ closed is = absurd (omega (arith, less))
with_any q p d v moved i (suc n) less differ closed is = elim (eqb_tells i n) [
  | inl e ↦ any_last q (with_rows p d v moved n) (with_row p d v moved n)
      (subst (λ (k : ℕ). any_row q (with_row p d v moved k) ≡ true) e.1 here)
  | inr e ↦ let below : i < n = omega (arith, less, e.1) in any_first q (with_rows p d v moved n)
      (with_row p d v moved n) (with_any q p d v moved i n below differ closed is)
]
  where
    here : any_row q (with_row p d v moved i) ≡ true
    here = elim (eqb_tells i moved) [
      | inl f ↦ absurd (differ f.1)
      | inr f ↦ rw (f.0, closed, is) refl
    ]

names_row : (d : Diagram) (k b i j : ℕ) → Is32Bits k → Is32Bits b →
    names d i (line_prefix k b ++ (codes "with " ++ switch_path d j)) ≡ bytes_eq (switch_path d j) (switch_path d i)
names_row d k b i j few less = ap (λ (t : List ℕ). bytes_eq (behind t) (switch_path d i))
    (said_of_row k b (codes "with " ++ switch_path d j) few less)

pub reading_at : (d : Diagram) → IsStation d → (k b : ℕ) (v : List Bool) (moved i : ℕ) → Is32Bits k → Is32Bits b →
    slice_index_or v moved false ≡ false → i < length d.switches →
    any_row (names d i) (with_rows (line_prefix k b) d v moved (length d.switches)) ≡ slice_index_or v i false
reading_at d station k b v moved i few less unmoved within = elim (cases_Bool (slice_index_or v i false)) [
  | inl e ↦ with_any (names d i) (line_prefix k b) d v moved i (length d.switches) within
      (λ same. let off : slice_index_or v i false ≡ false = ap (λ (j : ℕ). slice_index_or v j false) same ∙ unmoved in
      absurd (cc (e, off)))
      e (names_row d k b i i few less ∙ (bytes_eq-Decides (switch_path d i) (switch_path d i)).1 refl) ∙ sym e
  | inr e ↦ none_any (names d i) (with_rows (line_prefix k b) d v moved (length d.switches))
      (with_each (λ (r : List ℕ). names d i r ≡ false) (line_prefix k b) d v moved (length d.switches)
      (λ j under differ closed. names_row d k b i j few less ∙ other j under closed e)) ∙ sym e
]
  where
    other : (j : ℕ) → j < length d.switches → slice_index_or v j false ≡ true → slice_index_or v i false ≡ false →
        bytes_eq (switch_path d j) (switch_path d i) ≡ false
    other j under closed off = elim (cases_Bool (bytes_eq (switch_path d j) (switch_path d i))) [
      | inl f ↦
          let same : j ≡ i = one_path d station j i under within
          ((bytes_eq-Decides (switch_path d j) (switch_path d i)).0 f) in
          let on : slice_index_or v i false ≡ true = ap (λ (m : ℕ). slice_index_or v m false) (sym same) ∙ closed in
          absurd (cc (on, off))
      | inr f ↦ f
    ]

pub listed_is : (n : ℕ) (v : List Bool) (f : ℕ → Bool) → length v ≡ n →
    ((i : ℕ) → i < n → f i ≡ slice_index_or v i false) → listed f n ≡ v
listed_is zero [] f long each = refl
listed_is zero (x ∷ v) f long each = absurd (omega (arith, long))
listed_is (suc n) [] f long each = absurd (omega (arith, long))
listed_is (suc n) (x ∷ v) f long each =
    ap (λ (b : Bool). b ∷ listed (λ (i : ℕ). f (suc i)) n) (each 0 (omega arith))
    ∙ ap (λ (w : List Bool). x ∷ w) (listed_is n v (λ (i : ℕ). f (suc i)) (omega (arith, long))
    (λ i less. each (suc i) (omega (arith, less))))

abbrev pub read_vector : Diagram → List (List ℕ) → List Bool
read_vector d rs = listed (λ (i : ℕ). any_row (names d i) rs) (length d.switches)

set_same : (v : List Bool) (m : ℕ) → slice_index_or (slice_set v m false) m false ≡ false
set_same [] zero = refl
set_same [] (suc m) = refl
set_same (x ∷ v) zero = refl
set_same (x ∷ v) (suc m) = set_same v m

abbrev pub reading_of : Outcome → List Bool
reading_of (Denied r op rule v) = v
reading_of o = []

pub unmoved_off : (r : ℕ) (op : Op) (rule : Rule) (v : List Bool) → shown (Denied r op rule v) ≡ Denied r op rule v →
    slice_index_or v op.switch.0 false ≡ false
unmoved_off r op rule v is = sym (ap (λ (o : Outcome). slice_index_or (reading_of o) op.switch.0 false) is)
    ∙ set_same v op.switch.0

-- ---- outcomes

-- an outcome by its word, what stands behind it, and the reading
abbrev pub read_outcome : Diagram → List ℕ → List ℕ → List Bool → Outcome
read_outcome d w t v =
    if bytes_eq w (codes "collecting") then Collecting (number_in t)
    else if bytes_eq w (codes "granted") then Granted (number_in (first t)) (read_op d (behind t))
    else if bytes_eq w (codes "denied") then Denied (number_in (first t)) (read_op d (behind (behind t)))
    (read_rule (first (behind t))) v
    else if bytes_eq w (codes "busy") then BusyBy (number_in (first t))
    (record { 0 = number_in (first (behind (behind t))) })
    (record { 0 = number_in (first (behind (behind (behind (behind t))))) })
    (number_in (behind (behind (behind (behind (behind (behind t)))))))
    else if bytes_eq w (codes "held") then HeldBy (record { 0 = number_in (first t) }) (number_in (behind (behind t)))
    else if bytes_eq w (codes "underway") then UnderWay (number_in t)
    else if bytes_eq w (codes "there") then There
    else if bytes_eq w (codes "spent") then Spent
    else if bytes_eq w (codes "finished") then Finished (number_in t)
    else if bytes_eq w (codes "withdrawn") then Withdrawn (number_in t)
    else Stopped (number_in t)

pub granted_read : (d : Diagram) → IsStation d → (r : ℕ) (op : Op) → Is32Bits r → op.switch.0 < length d.switches →
    Granted (number_in (first (decimal r ++ 32 ∷ op_says d op.direction op.switch.0)))
    (read_op d (behind (decimal r ++ 32 ∷ op_says d op.direction op.switch.0))) ≡ Granted r op
granted_read d station r op few fits = rw (
  number_first r (op_says d op.direction op.switch.0) few,
  number_behind r
      (op_says d op.direction op.switch.0) few,
  op_read d station op fits,
) refl

pub denied_read : (d : Diagram) → IsStation d → (r : ℕ) (op : Op) (rule : Rule) (v : List Bool) (t : List ℕ) →
    t ≡ decimal r ++ 32 ∷ (rule_name rule ++ 32 ∷ op_says d op.direction op.switch.0) → Is32Bits r →
    op.switch.0 < length d.switches → Denied (number_in (first t)) (read_op d (behind (behind t)))
    (read_rule (first (behind t))) v ≡ Denied r op rule v
denied_read d station r op rule v t is few fits =
    let round : number_in (first t) ≡ r = ap (λ (x : List ℕ). number_in (first x)) is
    ∙ number_first r (rule_name rule ++ 32 ∷ op_says d op.direction op.switch.0) few in
    let rest : behind t ≡ rule_name rule ++ 32 ∷ op_says d op.direction op.switch.0 = ap behind is
    ∙ number_behind r (rule_name rule ++ 32 ∷ op_says d op.direction op.switch.0) few in
    rw (
      round,
      rest,
      rule_first rule (op_says d op.direction op.switch.0),
      rule_behind rule
          (op_says d op.direction op.switch.0),
      op_read d station op fits,
    ) refl
