-- Which places are wanted.
use Rattle.std.proofs.Common.{◌≡◌, ℕ, ◌+◌, ◌<◌, ◌⊎◌, zero, suc, Bool, false, List, [], ◌∷◌, ◌++◌, length, get_or, slice_get}
use Rattle.std.proofs.Common.{Some, refl, sym, ap, ◌∙◌, subst, inl, inr, arith}
use Rattle.std.specs.Prelude.{◌↔◌, IsTrue}
use Rattle.std.proofs.lemmas.List.{length_push}
use Rattle.std.proofs.lemmas.Option.{slice_get_within, same_Some}
use Rattle.decision_graphs.specs.Reaching.{IsSet}
use Rattle.dependence_search.specs.RuleWalks.{AreWanted}

-- what is set is a place of the list
pub set_within : (wanted : List Bool) (t : ℕ) → IsSet wanted t → t < length wanted
set_within [] zero e = cc
set_within [] (suc t) e = cc
set_within (w ∷ ws) zero e = omega arith
set_within (w ∷ ws) (suc t) e = omega (arith, set_within ws t e)

-- a place of the list before the last, and the last
before : (ws : List Bool) (b : Bool) (t : ℕ) → t < length ws → get_or (ws ++ b ∷ []) t false ≡ get_or ws t false
before [] b t lt = absurd (omega (arith, lt))
before (w ∷ ws) b zero lt = refl
before (w ∷ ws) b (suc t) lt = before ws b t (omega (arith, lt))

last : (ws : List Bool) (b : Bool) → get_or (ws ++ b ∷ []) (length ws) false ≡ b
last [] b = refl
last (w ∷ ws) b = last ws b

module _ {X : Type 0} (P : X → Type 0) (xs : List X) where
  -- so far as the first n
  pub record WantedUpto (wanted : List Bool) (n : ℕ) : Type 0 where
    pub len : length wanted ≡ n
    pub each : (t : ℕ) (x : X) → t < n → slice_get xs t ≡ Some x → IsSet wanted t ↔ P x

  pub wanted_more : (wanted : List Bool) (n : ℕ) (b : Bool) (x : X) → WantedUpto wanted n → slice_get xs n ≡ Some x →
      IsTrue b ↔ P x → WantedUpto (wanted ++ b ∷ []) (n + 1)
  wanted_more wanted n b x so at is = record {
    len = omega (arith, length_push wanted b, so.len);
    each = λ t y lt at_y. elim (cases_below t lt) [
      | inl less ↦
          let same = before wanted b t (omega (arith, less, so.len)) in
          let h = so.each t y less at_y in
          (λ e. h.0 (sym same ∙ e), λ p. same ∙ h.1 p)
      | inr equal ↦
          let here : get_or (wanted ++ b ∷ []) t false ≡ b =
          ap (λ k. get_or (wanted ++ b ∷ []) k false) (equal ∙ sym so.len) ∙ last wanted b in
          let y_is : x ≡ y = same_Some x y (sym at ∙ ap (slice_get xs) (sym equal) ∙ at_y) in (
            λ e. subst P y_is (is.0 (sym here ∙ e)),
            λ p. here ∙ is.1 (subst P (sym y_is) p),
          )
    ];
  }
    where
      cases_below : (t : ℕ) → t < n + 1 → (t < n) ⊎ (t ≡ n)
      cases_below t lt = grind arith

  pub wanted_all : (wanted : List Bool) (n : ℕ) → WantedUpto wanted n → length xs ≡ n → AreWanted P xs wanted
  wanted_all wanted n so is = record {
    len = so.len ∙ sym is;
    each = λ t x at. so.each t x (omega (arith, slice_get_within xs t x at, is)) at;
  }
