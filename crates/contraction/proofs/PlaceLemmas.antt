-- The places at which named nodes stand, place by place.
use Rattle.std.proofs.Common.{◌≡◌, ℕ, ◌+◌, ◌<◌, Bool, true, false, List, [], ◌∷◌, ◌++◌, length, slice_index}
use Rattle.std.proofs.Common.{slice_index_or, slice_get, get_or, replicate, eqb, eq-eqb, refl, sym, ◌∙◌, subst}
use Rattle.std.proofs.Common.{inl, inr, arith, Some, ap}
use Rattle.std.specs.Prelude.{Contains}
use Rattle.std.specs.List.{IsAnyAnswer}
use Rattle.std.proofs.lemmas.Bool.{false≢true, eqb-true, cases_lt}
use Rattle.std.proofs.lemmas.List.{length_push, get_or_default}
use Rattle.std.proofs.lemmas.Option.{slice_get_within, slice_get-get_or, get_or_from_slice_get, same_Some}
use Rattle.contraction.specs.Answers.{Keeps}
use Rattle.contraction.specs.Restricting.{NamedBelow, PlacesBelow}
use Rattle.contraction.proofs.EmptyLemmas.{no_true, length-replicate_false}
use Rattle.contraction.proofs.MergeLemmas.{push_old, push_new, rises_push}

-- a list that is asked for a node has it or not
pub has_answer : (xs : List ℕ) (n : ℕ) (b : Bool) → IsAnyAnswer (λ y c. eqb y n ≡ c) xs b →
    (b ≡ true → Contains xs n) × (b ≡ false → ¬ Contains xs n)
has_answer xs n true h = (λ e. (h.0, h.1, eqb-true (slice_index_or xs h.0 n) n (h.2 n)), λ e. cc)
has_answer xs n false h =
    (λ e. cc, λ e c. let f = h c.0 n (omega arith) c.1 in let t = eq-eqb (slice_index_or xs c.0 n) n c.2 in cc)

-- what is noted of a node says whether it is named
pub named_answer : (nodes : List ℕ) (old named : List Bool) (size n : ℕ) (b : Bool) → old ≡ replicate size false →
    n < size → NamedBelow nodes (length nodes) old named → b ≡ get_or named n false →
    (b ≡ true → Contains nodes n) × (b ≡ false → ¬ Contains nodes n)
named_answer nodes old named size n b eo n_in h eb =
    let long : length old ≡ size = ap length eo ∙ length-replicate_false size in
    let at : slice_get named n ≡ Some b =
    slice_get-get_or named n false (omega (arith, h.len, long)) ∙ ap Some (sym eb) in
    let told = h.named n (omega (arith, long)) in (
      λ e. elim (told.0 (at ∙ ap Some e)) [
        | inl was ↦ absurd (no_true size n (ap (λ (l : List Bool). slice_get l n) (sym eo) ∙ was))
        | inr is ↦ (is.entry, is.below, get_or_default nodes is.entry n 0 is.below ∙ is.is)
      ],
      λ e c. false≢true (same_Some false true (sym (at ∙ ap Some e) ∙ told.1 (inr (record {
        entry = c.0;
        below = c.1;
        is = get_or_default nodes c.0 0 n c.1 ∙ c.2;
      })))),
    )

-- a list keeps what it has
pub keeps_from_has : (xs : List ℕ) (n : ℕ) → Contains xs n → Keeps xs n
keeps_from_has xs n c = record { place = c.0; at = slice_get-get_or xs c.0 n c.1 ∙ ap Some c.2 }

pub has_from_keeps : (xs : List ℕ) (n : ℕ) → Keeps xs n → Contains xs n
has_from_keeps xs n k = (k.place, slice_get_within xs k.place n k.at, get_or_from_slice_get xs k.place n n k.at)

module _ (nodes kept : List ℕ) (i : ℕ) (places : List ℕ) (h : PlacesBelow nodes kept i places) where
  -- the node at place i is not named
  pub places_passed : (¬ Contains nodes (slice_index kept i)) → PlacesBelow nodes kept (i + 1) places
  places_passed not_named = record {
    below = λ k k_in. omega (arith, h.below k k_in);
    rises = h.rises;
    named = h.named;
    found = λ p p_in c. elim (cases_lt p i) [
      | inl less ↦ h.found p less c
      | inr more ↦
          let at : p ≡ i = omega arith in
          absurd (not_named (subst (λ q. Contains nodes (slice_index kept q)) at c))
    ];
  }

  -- the node at place i is named
  pub places_pushed : Contains nodes (slice_index kept i) → PlacesBelow nodes kept (i + 1) (places ++ i ∷ [])
  places_pushed is_named =
      let len : length (places ++ i ∷ []) ≡ length places + 1 = length_push places i in
      record {
        below = λ k k_in. elim (cases_lt k (length places)) [
          | inl old ↦ omega (arith, push_old places i k old, h.below k old)
          | inr last ↦ let at : k ≡ length places = omega arith in omega (arith, push_new places i k at)
        ];
        rises = rises_push places i h.rises h.below;
        named = λ k k_in. elim (cases_lt k (length places)) [
          | inl old ↦ subst (λ p. Contains nodes (slice_index kept p)) (sym (push_old places i k old)) (h.named k old)
          | inr last ↦
              let at : k ≡ length places = omega arith in
              subst (λ p. Contains nodes (slice_index kept p)) (sym (push_new places i k at)) is_named
        ];
        found = λ p p_in c. elim (cases_lt p i) [
          | inl less ↦ let f = h.found p less c in (f.0, omega (arith, f.1), push_old places i f.0 f.1 ∙ f.2)
          | inr more ↦ (length places, omega arith, push_new places i (length places) refl ∙ omega arith)
        ];
      }
