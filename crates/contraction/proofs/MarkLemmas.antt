-- An entry that is set, and what each place has of its class.
use Rattle.std.proofs.Common.{◌≡◌, ℕ, ◌<◌, ◌≤◌, ◌↔◌, zero, suc, Bool, true, false, List, [], ◌∷◌, length, slice_get}
use Rattle.std.proofs.Common.{slice_set, slice_index, get_or, Some, refl, ap, sym, ◌∙◌, arith}
use Rattle.std.proofs.Common.{Result, Ok, Err, IfOk}
use Rattle.std.proofs.lemmas.Option.{slice_get-get_or}
use Rattle.contraction.specs.Merging.{MarkedInEither}
use Rattle.contraction.specs.Restricting.{MarksAt}

pub slice_get-set_same : {X : Type 0} (xs : List X) (i : ℕ) (b : X) → i < length xs →
    slice_get (slice_set xs i b) i ≡ Some b
slice_get-set_same [] i b h = absurd (omega (arith, h))
slice_get-set_same (x ∷ xs) zero b h = refl
slice_get-set_same (x ∷ xs) (suc i) b h = slice_get-set_same xs i b (omega arith)

-- what follows from a fact of whatever value is there
pub if_ok : {X Y : Type 0} (r : Result X Y) (P Q : X → Type 0) → ((x : X) → P x → Q x) → IfOk r P → IfOk r Q
if_ok (Ok x) P Q h p = h x p
if_ok (Err e) P Q h p = tt

-- two facts of whatever value is there are one
pub if_ok_both : {X Y : Type 0} (r : Result X Y) (P Q R : X → Type 0) → ((x : X) → P x → Q x → R x) → IfOk r P →
    IfOk r Q → IfOk r R
if_ok_both (Ok x) P Q R h p q = h x p q
if_ok_both (Err e) P Q R h p q = tt

-- for each place what is told of its class
abbrev spread : List Bool → List ℕ → List Bool
spread classes [] = []
spread classes (x ∷ xs) = get_or classes x false ∷ spread classes xs

length-spread : (classes : List Bool) (labels : List ℕ) → length (spread classes labels) ≡ length labels
length-spread classes [] = refl
length-spread classes (x ∷ xs) = ap suc (length-spread classes xs)

spread_at : (classes : List Bool) (labels : List ℕ) (k : ℕ) → k < length labels →
    slice_index labels k < length classes →
    slice_get (spread classes labels) k ≡ slice_get classes (slice_index labels k)
spread_at classes [] k k_in l_in = absurd (omega (arith, k_in))
spread_at classes (x ∷ xs) zero k_in l_in = sym (slice_get-get_or classes x false l_in)
spread_at classes (x ∷ xs) (suc k) k_in l_in = spread_at classes xs k (omega arith) l_in

pub spread_list : (classes : List Bool) (labels : List ℕ) →
    (w : List Bool) × (length w ≡ length labels)
    × ((k : ℕ) → k < length labels → slice_index labels k < length classes →
    slice_get w k ≡ slice_get classes (slice_index labels k))
spread_list classes labels = (spread classes labels, length-spread classes labels, spread_at classes labels)

-- each of these places has the mark of its class, and the classes are those of the marks of both rows
pub classes_marked : (labels places first : List ℕ) (x : List Bool) (second : List ℕ) (y classes : List Bool) →
    length classes ≡ length labels → ((k : ℕ) → k < length places → slice_index places k < length labels) →
    ((k : ℕ) → k < length labels → slice_index labels k ≤ k) →
    ((c : ℕ) → c < length labels → (slice_get classes c ≡ Some true) ↔
    MarkedInEither labels first x (length first) second y (length second) c) → (row : List Bool) →
    length row ≡ length places → ((k : ℕ) → k < length places →
    slice_get row k ≡ slice_get classes (slice_index labels (slice_index places k))) →
    MarksAt labels places first x second y row
classes_marked labels places first x second y classes room places_in below noted row len mark =
    let wide = spread_list classes labels in
    let label_in : (k : ℕ) → k < length labels → slice_index labels k < length classes =
    λ k k_in. omega (arith, k_in, room, below k k_in) in
    record {
      wide = wide.0;
      composes = record {
        len = wide.1;
        told = λ k k_in.
            let is = wide.2 k k_in (label_in k k_in) in
            let n = noted (slice_index labels k) (omega (arith, room, label_in k k_in)) in
            (λ e. n.0 (sym is ∙ e), λ m. is ∙ n.1 m);
      };
      restricts = record {
        len = len;
        told = λ k k_in.
            let p : ℕ = slice_index places k in
            let p_in = places_in k k_in in
            mark k k_in ∙ sym (wide.2 p p_in (label_in p p_in));
      };
    }
