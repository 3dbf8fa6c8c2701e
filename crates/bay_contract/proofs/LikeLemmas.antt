-- A course found like another, place by place.
use Rattle.std.proofs.Common.{◌≡◌, ℕ, ◌+◌, ◌<◌, List, length, slice_get, get_or, Some, sym, ◌∙◌, ap, subst, inl, inr}
use Rattle.std.proofs.Common.{arith}
use Rattle.std.proofs.lemmas.Bool.{cases_lt}
use Rattle.std.proofs.lemmas.Option.{slice_get-get_or}
use Rattle.contraction.specs.Renaming.{renamed}
use Rattle.bay_contract.specs.declared.course.Turn.{Turn}
use Rattle.bay_contract.specs.declared.course.Course.{Course}
use Rattle.bay_contract.specs.Courses.{AtOnePlace, IsLikeTurn, IsLikeCourse}

-- the entries of one more place are in the relation
pub place_more : {X : Type 0} (P : X → X → Type 0) (xs ys : List X) (j : ℕ) (x y : X) → x ≡ get_or xs j x
    → y ≡ get_or ys j y → j < length xs → j < length ys → P x y → ((k : ℕ) (s t : X) → k < j → slice_get xs k ≡ Some s
    → slice_get ys k ≡ Some t → P s t) → (k : ℕ) (s t : X) → k < j + 1 → slice_get xs k ≡ Some s
    → slice_get ys k ≡ Some t → P s t
place_more {X = X} P xs ys j x y ex ey in_xs in_ys p before k s t lt at_s at_t = elim (cases_lt k j) [
  | inl less ↦ before k s t less at_s at_t
  | inr more ↦
      let here : k ≡ j = omega arith in
      let at_x : slice_get xs j ≡ Some x = slice_get-get_or xs j x in_xs ∙ ap Some (sym ex) in
      let at_y : slice_get ys j ≡ Some y = slice_get-get_or ys j y in_ys ∙ ap Some (sym ey) in
      let es : x ≡ s = cc (at_x, ap (slice_get xs) here, at_s) in
      let et : y ≡ t = cc (at_y, ap (slice_get ys) here, at_t) in
      subst (λ (z : X). P s z) et (subst (λ (z : X). P z y) es p)
]

pub like_course : (x y : Course) (from to : List ℕ) (xs ys : List Turn) → from ≡ x.nodes → to ≡ y.nodes
    → xs ≡ x.turns.items → ys ≡ y.turns.items → length from ≡ length to → y.base ≡ renamed y.base.kept x.base
    → length xs ≡ length ys → ((j : ℕ) (s t : Turn) → slice_get xs j ≡ Some s → slice_get ys j ≡ Some t
    → IsLikeTurn (AtOnePlace from to) s t) → IsLikeCourse x y
like_course x y from to xs ys ef et ex ey len base count turns = record {
  nodes = sym (ap length ef) ∙ (len ∙ ap length et);
  base = base;
  count = sym (ap length ex) ∙ (count ∙ ap length ey);
  turns = λ j s t at_s at_t.
      subst (λ l. IsLikeTurn (AtOnePlace l y.nodes) s t) ef
      (subst (λ l. IsLikeTurn (AtOnePlace from l) s t) et
      (turns j s t (ap (λ (l : List Turn). slice_get l j) ex ∙ at_s) (ap (λ (l : List Turn). slice_get l j) ey
      ∙ at_t)));
}
