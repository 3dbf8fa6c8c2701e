-- Answers, one by one.
use Rattle.std.proofs.Common.{◌≡◌, ℕ, ◌+◌, Bool, List, [], ◌∷◌, ◌++◌, length, slice_get, Option, Some, sym, ap, ◌∙◌, subst}
use Rattle.std.proofs.Common.{inl, inr, arith}
use Rattle.std.proofs.lemmas.List.{length_push}
use Rattle.std.proofs.lemmas.Option.{same_Some}
use Rattle.ilk_base.specs.declared.words.Op.{Op}
use Rattle.ilk_base.specs.declared.words.Rule.{Rule}
use Rattle.station_graph.specs.Diagram.{Diagram}
use Rattle.station_graph.specs.CentralRules.{Breaks}
use Rattle.station_graph.proofs.PathLemmas.{slice_get-push}
use Rattle.commissioning_tests.specs.Answering.{AreAnswers}

pub record AnswersUpto (d : Diagram) (ops : List Op) (v : List Bool) (answers : List (Option Rule)) (n : ℕ) : Type 0 where
  pub len : length answers ≡ n
  pub each : (k : ℕ) (op : Op) (a : Option Rule) → slice_get ops k ≡ Some op → slice_get answers k ≡ Some a →
      Breaks d v op a

pub answers_more : (d : Diagram) (ops : List Op) (v : List Bool) (answers : List (Option Rule)) (n : ℕ) (op : Op)
    (a : Option Rule) → AnswersUpto d ops v answers n → slice_get ops n ≡ Some op → Breaks d v op a →
    AnswersUpto d ops v (answers ++ a ∷ []) (n + 1)
answers_more d ops v answers n op a so at breaks = record {
  len = omega (arith, length_push answers a, so.len);
  each = λ k other b at_k at_b. elim (slice_get-push answers a b k at_b) [
    | inl before ↦ so.each k other b at_k before
    | inr here ↦
        let same : op ≡ other =
        same_Some op other (sym at ∙ (ap (slice_get ops) (sym so.len ∙ sym here.0) ∙ at_k)) in
        subst (λ (x : Op). Breaks d v x b) same (subst (λ (x : Option Rule). Breaks d v op x) here.1 breaks)
  ];
}

pub answers_all : (d : Diagram) (ops : List Op) (v : List Bool) (answers : List (Option Rule)) (n : ℕ) →
    AnswersUpto d ops v answers n → n ≡ length ops → AreAnswers d ops v answers
answers_all d ops v answers n so is = record { len = so.len ∙ is; each = so.each }
