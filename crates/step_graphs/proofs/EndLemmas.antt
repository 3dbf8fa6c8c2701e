-- What a value of all items but one switch says of it, where the switch's ends are added to what it keeps.
use Rattle.std.proofs.Common.{◌≡◌, ℕ, ◌+◌, ◌<◌, ◌⊎◌, ◌↔◌, Bool, List, [], ◌∷◌, ◌++◌, length, get_or, slice_get, Some, refl}
use Rattle.std.proofs.Common.{sym, ap, ◌∙◌, subst, inl, inr, arith, append-nil}
use Rattle.std.proofs.lemmas.Bool.{cases_lt}
use Rattle.std.proofs.lemmas.List.{length_push, get_or_push, get_or_append_left}
use Rattle.std.proofs.lemmas.Option.{slice_get_within, same_Some}
use Rattle.station_graph.specs.declared.items.Switch.{Switch}
use Rattle.station_graph.specs.Diagram.{Diagram}
use Rattle.station_graph.specs.Connection.{Item, a_switch}
use Rattle.station_graph.specs.Sharing.{Touches, TouchedBy}
use Rattle.station_graph.specs.Alike.{IsVector}
use Rattle.contraction.specs.Answers.{Answers, Keeps}
use Rattle.contraction.specs.Ends.{EndsKept}
use Rattle.contraction.specs.Stands.{Among, AllBut, IsItem, MeetsKept, GapStandsFor, LoadStandsFor, StandsFor}
use Rattle.judge_pool.specs.declared.view.View.{View}
use Rattle.judge_pool.specs.declared.view.View.TheVariants.{Gap, Load}
use Rattle.judge_pool.specs.Seen.{SeenFor}
use Rattle.judge_intake.specs.Coding.{labels_of, CodeSays, KeepsEnds}
use Rattle.judge_intake.proofs.OuterFits.{seen_over, seen_of}
use Rattle.step_graphs.specs.Ending.{AreAllBut, EndSays, AreEndCodes, IsBare}

-- What a composition keeps, and for what it stands in a view.
pub record IsWhole (x bare whole : Answers) : Type 0 where
  pub kept : (n : ℕ) → Keeps whole.kept n ↔ (Keeps x.kept n ⊎ Keeps bare.kept n)
  pub gap : (items others : List Item) (d : Diagram) (v : List Bool) →
      MeetsKept (Among items) (Among others) d x.kept bare.kept → GapStandsFor (Among items) d v x →
      GapStandsFor (Among others) d v bare → GapStandsFor (Among (items ++ others)) d v whole
  pub load : (items others : List Item) (d : Diagram) (v : List Bool) →
      MeetsKept (Among items) (Among others) d x.kept bare.kept → LoadStandsFor (Among items) d v x →
      LoadStandsFor (Among others) d v bare → LoadStandsFor (Among (items ++ others)) d v whole

module _ (d : Diagram) (m : ℕ) (x bare whole : Answers) (is : IsBare d m bare) (both : IsWhole x bare whole) where
  pub keeps_ends : KeepsEnds d m whole
  keeps_ends s at = record {
    first = (both.kept s.first.0).1 (inr ((is.kept s.first.0).1 (s, at, inl refl)));
    second = λ n e. (both.kept n.0).1 (inr ((is.kept n.0).1 (s, at, inr (n, e, refl))));
  }

  meets : (items : List Item) →
      ((n : ℕ) → TouchedBy (Among items) d n → Touches d (a_switch m) n → Keeps x.kept n) →
      MeetsKept (Among items) (Among []) d x.kept bare.kept
  meets items ends = record {
    in_first = λ n t at. elim at [
      | inl none ↦ absurd none.among
      | inr k ↦ ends n t ((is.kept n).0 k)
    ];
    in_second = λ n none at. absurd none.among;
  }

  seen_whole : (view : View) (items : List Item) (v : List Bool) →
      ((n : ℕ) → TouchedBy (Among items) d n → Touches d (a_switch m) n → Keeps x.kept n) →
      SeenFor view (Among items) d v x → SeenFor view (Among (items ++ [])) d v whole
  seen_whole Gap items v ends s = both.gap items [] d v (meets items ends) s (is.stands d v).gap
  seen_whole Load items v ends s = both.load items [] d v (meets items ends) s (is.stands d v).load

  pub end_says : (view : View) (code : ℕ) → CodeSays view d m whole code → EndSays view d m x code
  end_says view code says items v in_d all ends s =
      says v in_d (seen_over view (Among items) (AllBut (a_switch m)) d v whole all
      (subst (λ xs. SeenFor view (Among xs) d v whole) (append-nil items) (seen_whole view items v ends s)))

-- ---- one by one

-- The first n of the values have their labels.
pub record EndCodesBelow (view : View) (d : Diagram) (m : ℕ) (values : List Answers) (codes : List ℕ)
    (n : ℕ) : Type 0 where
  pub len : length codes ≡ n
  pub each : (t : ℕ) (x : Answers) → t < n → slice_get values t ≡ Some x → EndSays view d m x (get_or codes t 0)
  pub small : (t : ℕ) → t < n → get_or codes t 0 < labels_of view

pub end_codes_none : (view : View) (d : Diagram) (m : ℕ) (values : List Answers) →
    EndCodesBelow view d m values [] 0
end_codes_none view d m values = record {
  len = refl;
  each = λ t x lt at. absurd (omega (arith, lt));
  small = λ t lt. absurd (omega (arith, lt));
}

pub end_codes_more : (view : View) (d : Diagram) (m : ℕ) (values : List Answers) (codes : List ℕ) (n code : ℕ)
    (y : Answers) → EndCodesBelow view d m values codes n → slice_get values n ≡ Some y → EndSays view d m y code →
    code < labels_of view → EndCodesBelow view d m values (codes ++ code ∷ []) (n + 1)
end_codes_more view d m values codes n code y h at_n says small = record {
  len = omega (arith, length_push codes code, h.len);
  each = λ t x lt at. elim (cases_lt t n) [
    | inl less ↦ subst (λ k. EndSays view d m x k) (sym (before t less)) (h.each t x less at)
    | inr more ↦
        let e : n ≡ t = omega (arith, lt, more) in
        let same : y ≡ x = same_Some y x (sym at_n ∙ (ap (slice_get values) e ∙ at)) in
        subst (λ k. EndSays view d m x k) (sym (here t e)) (subst (λ z. EndSays view d m z code) same says)
  ];
  small = λ t lt. elim (cases_lt t n) [
    | inl less ↦ subst (λ k. k < labels_of view) (sym (before t less)) (h.small t less)
    | inr more ↦ subst (λ k. k < labels_of view) (sym (here t (omega (arith, lt, more)))) small
  ];
}
  where
    before : (t : ℕ) → t < n → get_or (codes ++ code ∷ []) t 0 ≡ get_or codes t 0
    before t less = get_or_append_left codes (code ∷ []) 0 t (omega (arith, less, h.len))

    here : (t : ℕ) → n ≡ t → get_or (codes ++ code ∷ []) t 0 ≡ code
    here t e = get_or_push codes code 0 t (h.len ∙ e)

pub end_codes_all : (view : View) (d : Diagram) (m : ℕ) (values : List Answers) (codes : List ℕ) (n : ℕ) →
    EndCodesBelow view d m values codes n → length values ≡ n → AreEndCodes view d m values codes
end_codes_all view d m values codes n h len = record {
  len = h.len ∙ sym len;
  each = λ t x at. h.each t x (omega (arith, slice_get_within values t x at, len)) at;
  small = λ t lt. h.small t (omega (arith, lt, h.len));
}
