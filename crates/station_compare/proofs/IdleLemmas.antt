-- The load graph of a switch to which the third rule never applies.
use Rattle.std.proofs.Common.{◌≡◌, ℕ, zero, suc, Bool, List, length, replicate, slice_get, Some, get_or}
use Rattle.std.proofs.Common.{refl, sym, ap, ◌∙◌, arith}
use Rattle.std.proofs.lemmas.Option.{same_Some, slice_get_within}
use Rattle.ilk_base.specs.declared.words.Kind.TheVariants.{Disconnector}
use Rattle.station_graph.specs.declared.items.Switch.{Switch}
use Rattle.station_graph.specs.Diagram.{Diagram}
use Rattle.decision_graphs.specs.Label.{Layered, label_of, AreChoices}
use Rattle.judge_pool.specs.declared.view.View.TheVariants.{Gap, Load}
use Rattle.judge_pool.proofs.ChoiceLemmas.{choices_each, same_choices, same_count}
use Rattle.step_graphs.specs.declared.step.Step.{Step}
use Rattle.step_graphs.specs.Moved.{IsMovedGraph, AreGiven}
use Rattle.station_compare.specs.Walking.{HasNoLoad, IsIdleOf}

abbrev nought : ℕ
nought = 0

pub zero_at : (n k : ℕ) → get_or (replicate n nought) k nought ≡ nought
zero_at zero k = refl
zero_at (suc n) zero = refl
zero_at (suc n) (suc k) = zero_at n k

-- another kind than a disconnector
pub no_load : (d : Diagram) (m : ℕ) (x : Switch) → slice_get d.switches m ≡ Some x → ¬ (x.kind ≡ Disconnector) →
    HasNoLoad d m
no_load d m x at other v op same load =
    let one : load.switch ≡ x =
    same_Some load.switch x (sym load.moves ∙ (ap (λ i. slice_get d.switches i) same ∙ at)) in
    other (sym (ap (λ (y : Switch). y.kind) one) ∙ load.is_disconnector)

module _ (d : Diagram) (steps : List Step) (b m : ℕ) (gap : Layered) (h : IsMovedGraph Gap d steps b m gap)
    (none : HasNoLoad d m) where
  allowed : (v : List Bool) (cs : List ℕ) → AreGiven steps b v cs → AreChoices gap.layers cs
  allowed v cs given =
      let len : length cs ≡ length gap.layers = omega (arith, given.count, h.count) in
      choices_each gap.layers cs len (λ i c at.
      omega (arith, given.small i c at, h.choices i (omega (arith, len, slice_get_within cs i c at))))

  pub idle : (g : Layered) → IsIdleOf gap g → IsMovedGraph Load d steps b m g
  idle g i =
      let len : length g.layers ≡ length gap.layers = same_count gap.layers g.layers i.choices in
      record {
        fits = i.fits;
        count = omega (arith, len, h.count);
        choices = λ j lt. same_choices gap.layers g.layers i.choices j ∙ h.choices j (omega (arith, lt, len));
        labels = i.labels;
        reduced = i.reduced;
        says = λ v cs vector given op same.
            let is_zero : label_of g cs ≡ 0 = i.first cs (allowed v cs given) in (
              λ e. absurd (omega (arith, e, is_zero)),
              λ a. absurd (none v op same a),
            );
      }
