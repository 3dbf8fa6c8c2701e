-- What a value of all items but a switch says of it.
use Rattle.std.proofs.Common.{◌≡◌, ℕ, ◌+◌, ◌<◌, Bool, List, [], ◌∷◌, ◌++◌, length, get_or, slice_get, Option, Some}
use Rattle.std.proofs.Common.{refl, sym, ap, ◌∙◌, subst, arith, inl, inr}
use Rattle.std.proofs.Math.Path.{ap₂}
use Rattle.std.proofs.lemmas.Bool.{cases_lt}
use Rattle.std.proofs.lemmas.List.{length_push, get_or_push, get_or_append_left}
use Rattle.std.proofs.lemmas.Option.{slice_get_within, same_Some}
use Rattle.ilk_base.specs.declared.words.Direction.{Direction}
use Rattle.ilk_base.specs.declared.words.Direction.TheVariants.{ToOn}
use Rattle.ilk_base.specs.declared.words.Op.{Op}
use Rattle.ilk_base.specs.declared.words.Rule.{Rule}
use Rattle.station_graph.specs.Diagram.{Diagram}
use Rattle.station_graph.specs.Connection.{a_switch}
use Rattle.station_graph.specs.Alike.{IsVector}
use Rattle.station_graph.specs.CentralRules.{GapBreaks}
use Rattle.contraction.specs.Answers.{Answers}
use Rattle.contraction.specs.Stands.{AllBut, GapStandsFor}
use Rattle.judge_pool.specs.declared.view.View.{View}
use Rattle.judge_pool.specs.declared.view.View.TheVariants.{Gap, Load}
use Rattle.judge_pool.specs.Graphs.{gap_rule}
use Rattle.judge_intake.specs.Coding.{labels_of, CodeSays, AreCodes}

pub labels_some : (view : View) → 0 < labels_of view
labels_some Gap = omega arith
labels_some Load = omega arith

op_same : (o op : Op) → o.switch.0 ≡ op.switch.0 → o.direction ≡ op.direction → o ≡ op
op_same o op e f =
    (let mk : ℕ → Direction → Op = λ n d. record { switch = record { 0 = n }; direction = d } in ap₂ mk e f)

-- a rule that the label names
pub gap_says : (d : Diagram) (op : Op) (x : Answers) (answer : Option Rule) (code : ℕ) → op.direction ≡ ToOn →
    ((v : List Bool) → IsVector d v → GapStandsFor (AllBut (a_switch op.switch.0)) d v x → GapBreaks d v op answer) →
    ((v : List Bool) (o : Op) → GapBreaks d v o answer → GapBreaks d v o (gap_rule code)) →
    CodeSays Gap d op.switch.0 x code
gap_says d op x answer code closes breaks named v whole s o same to_on =
    let e : op ≡ o = sym (op_same o op same (to_on ∙ sym closes)) in
    named v o (subst (λ p. GapBreaks d v p answer) e (breaks v whole s))

-- ---- one by one

-- The first n of the values have their labels.
pub record CodesBelow (view : View) (d : Diagram) (m : ℕ) (values : List Answers) (codes : List ℕ)
    (n : ℕ) : Type 0 where
  pub len : length codes ≡ n
  pub each : (t : ℕ) (x : Answers) → t < n → slice_get values t ≡ Some x → CodeSays view d m x (get_or codes t 0)
  pub small : (t : ℕ) → t < n → get_or codes t 0 < labels_of view

pub codes_none : (view : View) (d : Diagram) (m : ℕ) (values : List Answers) → CodesBelow view d m values [] 0
codes_none view d m values = record {
  len = refl;
  each = λ t x lt at. absurd (omega (arith, lt));
  small = λ t lt. absurd (omega (arith, lt));
}

pub codes_more : (view : View) (d : Diagram) (m : ℕ) (values : List Answers) (codes : List ℕ) (n code : ℕ)
    (y : Answers) → CodesBelow view d m values codes n → slice_get values n ≡ Some y → CodeSays view d m y code →
    code < labels_of view → CodesBelow view d m values (codes ++ code ∷ []) (n + 1)
codes_more view d m values codes n code y h at_n says small = record {
  len = omega (arith, length_push codes code, h.len);
  each = λ t x lt at. elim (cases_lt t n) [
    | inl less ↦ subst (λ k. CodeSays view d m x k) (sym (before t less)) (h.each t x less at)
    | inr more ↦
        let e : n ≡ t = omega (arith, lt, more) in
        let same : y ≡ x = same_Some y x (sym at_n ∙ (ap (slice_get values) e ∙ at)) in
        subst (λ k. CodeSays view d m x k) (sym (here t e)) (subst (λ z. CodeSays view d m z code) same says)
  ];
  small = λ t lt. elim (cases_lt t n) [
    | inl less ↦ subst (λ k. k < labels_of view) (sym (before t less)) (h.small t less)
    | inr more ↦ subst (λ k. k < labels_of view) (sym (here t (omega (arith, lt, more)))) small
  ];
}
  where
    before : (t : ℕ) → t < n → get_or (codes ++ code ∷ []) t 0 ≡ get_or codes t 0
    before t less = get_or_append_left codes (code ∷ []) 0 t (omega (arith, less, h.len))

    here : (t : ℕ) → n ≡ t → get_or (codes ++ code ∷ []) t 0 ≡ code
    here t e = get_or_push codes code 0 t (h.len ∙ e)

pub codes_all : (view : View) (d : Diagram) (m : ℕ) (values : List Answers) (codes : List ℕ) (n : ℕ) →
    CodesBelow view d m values codes n → length values ≡ n → AreCodes view d m values codes
codes_all view d m values codes n h len = record {
  len = h.len ∙ sym len;
  each = λ t x at. h.each t x (omega (arith, slice_get_within values t x at, len)) at;
  small = λ t lt. h.small t (omega (arith, lt, h.len));
}
