-- The first of some places with a label.
use Rattle.std.proofs.Common.{◌≡◌, ◌≢◌, ℕ, ◌+◌, ◌<◌, ◌≤◌, List, length, slice_index, slice_set, sym, ◌∙◌, ap, subst}
use Rattle.std.proofs.Common.{refl, inl, inr, arith}
use Rattle.std.proofs.lemmas.Bool.{cases_lt, cases_eq}
use Rattle.std.proofs.lemmas.List.{get_or-set_same, get_or-set_other, length-set}
use Rattle.contraction.specs.Restricting.{FirstAt, LabelsRestrict}

-- labels that are first places are those of the places alone
module _ (labels places row : List ℕ) (len : length row ≡ length places)
    (h : (k : ℕ) → k < length places → FirstAt labels places k (slice_index row k)) where
  first_not_after : (i j : ℕ) → i < length places → j < length places →
      slice_index labels (slice_index places i) ≡ slice_index labels (slice_index places j) →
      slice_index row j ≤ slice_index row i
  first_not_after i j i_in j_in e = elim (cases_lt (slice_index row i) (slice_index row j)) [
    | inl less ↦ absurd ((h j j_in).least (slice_index row i) less ((h i i_in).label ∙ e))
    | inr more ↦ more
  ]

  pub restricts_by_firsts : LabelsRestrict labels places row
  restricts_by_firsts = record {
    are_labels = record {
      len = len;
      below = λ k k_in. (h k k_in).most;
      steady = λ k k_in.
          let f : ℕ = slice_index row k in
          let f_in : f < length places = omega (arith, (h k k_in).most) in
          omega (
            arith,
            first_not_after k f k_in f_in (sym (h k k_in).label),
            first_not_after f k f_in k_in (h k k_in).label,
          );
    };
    same = λ i j i_in j_in. (
      λ e. sym (h i i_in).label ∙ (ap (λ n. slice_index labels (slice_index places n)) e ∙ (h j j_in).label),
      λ e. omega (arith, first_not_after i j i_in j_in e, first_not_after j i j_in i_in (sym e)),
    );
  }

-- The first place from k on with the label of place j.
pub record FirstFrom (labels places : List ℕ) (k j first : ℕ) : Type 0 where
  pub from : k ≤ first
  pub most : first ≤ j
  pub label : slice_index labels (slice_index places first) ≡ slice_index labels (slice_index places j)
  pub least : (i : ℕ) → k ≤ i → i < first →
      slice_index labels (slice_index places i) ≢ slice_index labels (slice_index places j)

-- For the label of each place from k on the first of them is noted.
pub record NotedFrom (labels places : List ℕ) (k : ℕ) (old firsts : List ℕ) : Type 0 where
  pub len : length firsts ≡ length old
  pub noted : (j : ℕ) → k ≤ j → j < length places →
      FirstFrom labels places k j (slice_index firsts (slice_index labels (slice_index places j)))

module _ (labels places old : List ℕ) where
  pub noted_none : NotedFrom labels places (length places) old old
  noted_none = record { len = refl; noted = λ j from j_in. absurd (omega (arith, from, j_in)) }

  pub noted_more : (k : ℕ) (firsts : List ℕ) → k < length places →
      slice_index labels (slice_index places k) < length old → NotedFrom labels places (k + 1) old firsts →
      NotedFrom labels places k old (slice_set firsts (slice_index labels (slice_index places k)) k)
  noted_more k firsts k_in l_in h =
      let l : ℕ = slice_index labels (slice_index places k) in
      record {
        len = length-set firsts l k ∙ h.len;
        noted = λ j from j_in. elim (cases_eq (slice_index labels (slice_index places j)) l) [
          | inl e ↦
              let is : slice_index (slice_set firsts l k) (slice_index labels (slice_index places j)) ≡ k =
              ap (slice_index (slice_set firsts l k)) e ∙ get_or-set_same firsts l k 0 (omega (arith, h.len)) in
              subst (λ f. FirstFrom labels places k j f) (sym is) (record {
                from = omega arith;
                most = from;
                label = sym e;
                least = λ i i_from i_in. absurd (omega (arith, i_from, i_in));
              })
          | inr ne ↦
              let later : k + 1 ≤ j = elim (cases_lt k j) [
                | inl less ↦ omega arith
                | inr more ↦
                    let at : j ≡ k = omega (arith, from) in
                    absurd (ne (ap (λ i. slice_index labels (slice_index places i)) at))
              ] in
              let is : slice_index (slice_set firsts l k) (slice_index labels (slice_index places j))
              ≡ slice_index firsts (slice_index labels (slice_index places j)) =
              get_or-set_other firsts l (slice_index labels (slice_index places j)) k 0 ne in
              let f = h.noted j later j_in in
              subst (λ f. FirstFrom labels places k j f) (sym is) (record {
                from = omega (arith, f.from);
                most = f.most;
                label = f.label;
                least = λ i i_from i_in. elim (cases_lt k i) [
                  | inl less ↦ f.least i (omega arith) i_in
                  | inr more ↦
                      let at : i ≡ k = omega (arith, i_from) in
                      λ same. ne (sym same ∙ ap (λ i. slice_index labels (slice_index places i)) at)
                ];
              })
        ];
      }

  pub noted_all : (firsts : List ℕ) → NotedFrom labels places 0 old firsts → (j : ℕ) → j < length places →
      FirstAt labels places j (slice_index firsts (slice_index labels (slice_index places j)))
  noted_all firsts h j j_in =
      let f = h.noted j (omega arith) j_in in
      record { most = f.most; label = f.label; least = λ i i_in. f.least i (omega arith) i_in }
