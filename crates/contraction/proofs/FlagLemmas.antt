-- The bytes of marks, where a class is marked and where none is.
use Rattle.std.proofs.Common.{◌≡◌, ◌≢◌, ℕ, ◌<◌, ◌≤◌, ◌↔◌, zero, suc, Bool, true, false, List, [], ◌∷◌, length, replicate}
use Rattle.std.proofs.Common.{slice_get, slice_index, get_or, Some, refl, ap, sym, ◌∙◌, arith, inl, inr}
use Rattle.std.proofs.lemmas.List.{length-replicate, get_or-replicate}
use Rattle.std.proofs.lemmas.Option.{slice_get_within, slice_get-get_or, get_or_from_slice_get}
use Rattle.contraction.specs.Merging.{MarkedInEither}
use Rattle.contraction.specs.Restricting.{FlagsAt}
use Rattle.contraction.specs.Rows.{flag, flags}
use Rattle.contraction.proofs.MarkLemmas.{spread_list, classes_marked}
use Rattle.contraction.proofs.RowLemmas.{length-flags, same_entries}

-- the byte at a place is that of the mark there
byte_at : (bs : List Bool) (k : ℕ) → slice_index (flags bs) k ≡ flag (get_or bs k false)
byte_at [] k = refl
byte_at (b ∷ bs) zero = refl
byte_at (b ∷ bs) (suc k) = byte_at bs k

-- the bytes of marks of which none is set are 0
none_bytes : (n : ℕ) → flags (replicate n false) ≡ replicate n 0
none_bytes zero = refl
none_bytes (suc n) = ap (λ (l : List ℕ). 0 ∷ l) (none_bytes n)

none_get : (n k : ℕ) → k < n → slice_get (replicate n false) k ≡ Some false
none_get n k k_in =
    slice_get-get_or (replicate n false) k false (omega (arith, k_in, length-replicate n false))
    ∙ ap Some (get_or-replicate n k false false k_in)

false-true : false ≢ true
false-true e = absurd (omega (arith, ap flag e))

none_set : (n k : ℕ) → slice_get (replicate n false) k ≢ Some true
none_set n k e =
    let k_in : k < n = omega (arith, slice_get_within (replicate n false) k true e, length-replicate n false) in
    false-true (sym (get_or-replicate n k false false k_in) ∙ get_or_from_slice_get (replicate n false) k true false e)

module _ (labels places first : List ℕ) (x : List Bool) (second : List ℕ) (y : List Bool)
    (places_in : (k : ℕ) → k < length places → slice_index places k < length labels) (row : List ℕ) where
  -- where neither row has a mark, no place has one
  pub none_flagged : ((k : ℕ) → slice_get x k ≢ Some true) → ((k : ℕ) → slice_get y k ≢ Some true) →
      row ≡ replicate (length places) 0 → FlagsAt labels places first x second y row
  none_flagged none_x none_y is =
      let none : (c : ℕ) → MarkedInEither labels first x (length first) second y (length second) c → ⊥ =
      λ c m. elim m as (λ _. ⊥) [ inl a ↦ none_x a.entry a.marked | inr a ↦ none_y a.entry a.marked ] in
      record {
        marks = replicate (length places) false;
        are = record {
          wide = replicate (length labels) false;
          composes = record {
            len = length-replicate (length labels) false;
            told = λ k k_in.
                (λ e. absurd (none_set (length labels) k e), λ m. absurd (none (slice_index labels k) m));
          };
          restricts = record {
            len = length-replicate (length places) false;
            told = λ k k_in.
                none_get (length places) k k_in
                ∙ sym (none_get (length labels) (slice_index places k) (places_in k k_in));
          };
        };
        bytes = is ∙ sym (none_bytes (length places));
      }

  -- where each place has the byte of its class, and the classes are those of the marks
  pub classes_flagged : (classes : List Bool) → length classes ≡ length labels →
      ((k : ℕ) → k < length labels → slice_index labels k ≤ k) →
      ((c : ℕ) → c < length labels → (slice_get classes c ≡ Some true) ↔
      MarkedInEither labels first x (length first) second y (length second) c) → length row ≡ length places →
      ((k : ℕ) → k < length places →
      slice_index row k ≡ flag (get_or classes (slice_index labels (slice_index places k)) false)) →
      FlagsAt labels places first x second y row
  classes_flagged classes room below noted len byte =
      let wide = spread_list classes labels in
      let marks = spread_list wide.0 places in
      let class_in : (k : ℕ) → k < length places → slice_index labels (slice_index places k) < length classes =
      λ k k_in. omega (arith, room, places_in k k_in, below (slice_index places k) (places_in k k_in)) in
      let mark : (k : ℕ) → k < length places →
      slice_get marks.0 k ≡ slice_get classes (slice_index labels (slice_index places k)) =
      λ k k_in.
      marks.2 k k_in (omega (arith, wide.1, places_in k k_in))
      ∙ wide.2 (slice_index places k) (places_in k k_in) (class_in k k_in) in
      record {
        marks = marks.0;
        are = classes_marked labels places first x second y classes room places_in below noted marks.0 marks.1 mark;
        bytes =
            same_entries row (flags marks.0) (len ∙ sym (length-flags marks.0 ∙ marks.1)) (λ k k_in0.
            let k_in : k < length places = omega (arith, len, k_in0) in
            let class : ℕ = slice_index labels (slice_index places k) in
            let is : get_or marks.0 k false ≡ get_or classes class false =
            get_or_from_slice_get marks.0 k (get_or classes class false) false
            (mark k k_in ∙ slice_get-get_or classes class false (class_in k k_in)) in
            byte k k_in ∙ (sym (ap flag is) ∙ sym (byte_at marks.0 k)));
      }
