-- A list of exchanges with one more.
use Rattle.std.proofs.Common.{◌≡◌, ℕ, List, [], ◌∷◌, ◌++◌, Option, None, MatchOption, length, sym, subst, inl, inr, arith}
use Rattle.std.specs.Prelude.{⊤}
use Rattle.std.proofs.lemmas.Bool.{cases_lt, cases_eq}
use Rattle.std.proofs.lemmas.List.{get_or_append_left, get_or_push, get_or_past, length_push}
use Rattle.station_graph.specs.Diagram.{Diagram}
use Rattle.station_compare.specs.declared.likeness.LikeBays.{LikeBays}
use Rattle.station_compare.specs.Likeness.{AreExchanged}
use Rattle.station_compare.specs.Sharing.{AreLikes}

pub likes_none : (o n : Diagram) → AreLikes o n []
likes_none o n bay = tt

pub likes_more : (o n : Diagram) (likes : List (Option LikeBays)) (x : Option LikeBays) → AreLikes o n likes →
    MatchOption x ⊤ (AreExchanged o n) → AreLikes o n (likes ++ x ∷ [])
likes_more o n likes x are is bay = elim (cases_lt bay (length likes)) [
  | inl less ↦
      subst (λ (l : Option LikeBays). MatchOption l ⊤ (AreExchanged o n))
      (sym (get_or_append_left likes (x ∷ []) None bay less)) (are bay)
  | inr more ↦ elim (cases_eq bay (length likes)) [
    | inl e ↦
        subst (λ (l : Option LikeBays). MatchOption l ⊤ (AreExchanged o n)) (sym (get_or_push likes x None bay (sym e))) is
    | inr ne ↦
        subst (λ (l : Option LikeBays). MatchOption l ⊤ (AreExchanged o n))
        (sym (get_or_past (likes ++ x ∷ []) bay None (omega (arith, more, ne, length_push likes x)))) tt
  ]
]
