-- The least and the greatest reading of the words.
use Rattle.std.proofs.Common.{◌≡◌, ℕ, ◌<◌, zero, suc, Bool, true, false, List, [], ◌∷◌, length, slice_get, Some}
use Rattle.std.proofs.Common.{option_map, unwrap_or, refl, sym, ◌∙◌, ap, subst, arith}
use Rattle.std.proofs.lemmas.List.{length-map, same_lists}
use Rattle.std.proofs.lemmas.Option.{same_Some, slice_get-map, slice_get_within, unwrap_or-slice_get}
use Rattle.ilk_base.specs.declared.words.Dbpos.{Dbpos}
use Rattle.ilk_base.specs.declared.words.Dbpos.TheVariants.{Intermediate, Off, On, Bad, Lost}
use Rattle.double_points.specs.Words.{Agrees}
use Rattle.central_rules.specs.Readings.{IsReading}
use Rattle.station_state.specs.State.{closed_where, extreme}
use Rattle.station_state.proofs.GrowLemmas.{Grows}

agrees_where : (uncertain : Bool) (word : Dbpos) → Agrees word (closed_where uncertain word)
agrees_where uncertain On = refl
agrees_where uncertain Off = refl
agrees_where uncertain Intermediate = tt
agrees_where uncertain Bad = tt
agrees_where uncertain Lost = tt

-- the position of a switch in an extreme reading, by its word
extreme_at : (uncertain : Bool) (words : List Dbpos) (i : ℕ) (word : Dbpos) → slice_get words i ≡ Some word →
    slice_get (extreme uncertain words) i ≡ Some (closed_where uncertain word)
extreme_at uncertain words i word at = slice_get-map (closed_where uncertain) words i
    ∙ ap (option_map (closed_where uncertain)) at

pub extreme_reads : (uncertain : Bool) (words : List Dbpos) → IsReading words (extreme uncertain words)
extreme_reads uncertain words = record {
  whole = length-map words (closed_where uncertain);
  agree = λ i word closed from at at_v.
      subst (Agrees word) (same_Some (closed_where uncertain word) closed (sym (extreme_at uncertain words i word at)
      ∙ at_v)) (agrees_where uncertain word);
}

-- a switch that is closed for certain is closed in each reading
closed_surely : (word : Dbpos) (closed : Bool) → closed_where false word ≡ true → Agrees word closed → closed ≡ true
closed_surely On closed e agrees = agrees
closed_surely Off closed e agrees = cc
closed_surely Intermediate closed e agrees = cc
closed_surely Bad closed e agrees = cc
closed_surely Lost closed e agrees = cc

-- a switch that is closed in a reading may be closed
closed_maybe : (word : Dbpos) → Agrees word true → closed_where true word ≡ true
closed_maybe On agrees = refl
closed_maybe Off agrees = cc
closed_maybe Intermediate agrees = refl
closed_maybe Bad agrees = refl
closed_maybe Lost agrees = refl

-- the entry of a list at a place within it
entry : {X : Type 0} (xs : List X) (i : ℕ) → i < length xs → (x : X) × (slice_get xs i ≡ Some x)
entry [] i h = absurd (omega arith)
entry (x ∷ xs) zero h = (x, refl)
entry (x ∷ xs) (suc i) h = entry xs i (omega arith)

module _ (words : List Dbpos) (v : List Bool) (reads : IsReading words v) where
  pub least_grows : Grows (extreme false words) v
  least_grows i at =
      let i_in : i < length (extreme false words) = slice_get_within (extreme false words) i true at in
      let in_words : i < length words = subst (λ n. i < n) (length-map words (closed_where false)) i_in in
      let in_v : i < length v = subst (λ n. i < n) (sym reads.whole) in_words in
      let word = entry words i in_words in
      let closed = entry v i in_v in
      let sure : closed_where false word.0 ≡ true = same_Some (closed_where false word.0) true
      (sym (extreme_at false words i word.0 word.1) ∙ at) in
      let is : closed.0 ≡ true = closed_surely word.0 closed.0 sure (reads.agree i word.0 closed.0 (omega arith) word.1
      closed.1) in
      closed.1 ∙ ap Some is

  pub grows_greatest : Grows v (extreme true words)
  grows_greatest i at =
      let in_words : i < length words = subst (λ n. i < n) reads.whole (slice_get_within v i true at) in
      let word = entry words i in_words in
      extreme_at true words i word.0 word.1
      ∙ ap Some (closed_maybe word.0 (reads.agree i word.0 true (omega arith) word.1 at))

-- lists of one length with the same entries are the same
pub same_entries : {X : Type 0} (xs ys : List X) → length xs ≡ length ys →
    ((k : ℕ) → k < length xs → slice_get xs k ≡ slice_get ys k) → xs ≡ ys
same_entries xs ys len same =
    same_lists xs ys len (λ k d h. sym (unwrap_or-slice_get xs k d) ∙ ap (λ o. unwrap_or o d) (same k h)
    ∙ unwrap_or-slice_get ys k d)
