-- The terms of the switches of a part, one after another; and the terms of all parts from one on.
use Rattle.std.proofs.Common.{◌≡◌, ◌≢◌, ◌<◌, ◌+◌, ℕ, List, length, slice_get, slice_set, Some, refl, sym, ◌∙◌}
use Rattle.std.proofs.Common.{subst, inl, inr, arith, length-set}
use Rattle.std.proofs.lemmas.Bool.{cases_eq}
use Rattle.std.proofs.lemmas.Option.{slice_get_within}
use Rattle.station_graph.specs.declared.items.Switch.{Switch}
use Rattle.station_graph.specs.Diagram.{Diagram}
use Rattle.station_graph.proofs.PositionLemmas.{slice_get-set_other}
use Rattle.contraction.proofs.MarkLemmas.{slice_get-set_same}
use Rattle.interlock_terms.specs.declared.term.Term.{Term}
use Rattle.interlock_terms.specs.Terms.{Grew}
use Rattle.interlock_terms.proofs.TermLemmas.{grew_solves}
use Rattle.short_equations.specs.declared.view.View.{View}
use Rattle.short_equations.specs.declared.view.View.TheVariants.{Gap, Load, Bond}
use Rattle.short_equations.specs.declared.pair.TermPair.{TermPair}
use Rattle.short_equations.specs.Pairs.{IsExactPair, AreExactFrom, SetsBay, AreExactPairs}

-- terms that grow keep what is exact
pub exact_grew : (view : View) (d : Diagram) (one two : List Term) (i : ℕ) (x : Switch) (p : TermPair) → Grew one two →
    IsExactPair view d one i x p → IsExactPair view d two i x p
exact_grew Gap d one two i x p g h = λ v direction fits solves. h v direction fits (grew_solves one two v g solves)
exact_grew Load d one two i x p g h = λ v direction fits solves. h v direction fits (grew_solves one two v g solves)
exact_grew Bond d one two i x p g h = λ v direction fits solves. h v direction fits (grew_solves one two v g solves)

-- the terms of the switches of the part below k are exact, and those of other parts as they were
pub record SetsBelow (view : View) (d : Diagram) (terms : List Term) (part k : ℕ) (old new : List TermPair) : Type 0 where
  pub len : length new ≡ length old
  pub exact : (i : ℕ) (x : Switch) (p : TermPair) → i < k → slice_get d.switches i ≡ Some x → slice_get new i ≡ Some p →
      x.bay.0 ≡ part → IsExactPair view d terms i x p
  pub others : (i : ℕ) (x : Switch) → slice_get d.switches i ≡ Some x → x.bay.0 ≢ part →
      slice_get new i ≡ slice_get old i

module _ (view : View) (d : Diagram) (part : ℕ) (old : List TermPair) where
  pub sets_none : (terms : List Term) → SetsBelow view d terms part 0 old old
  sets_none terms = record {
    len = refl;
    exact = λ i x p low. absurd (omega (arith, low));
    others = λ i x at other. refl;
  }

  module _ (k : ℕ) (y : Switch) (listed : slice_get d.switches k ≡ Some y) (terms : List Term) (mid : List TermPair)
      (h : SetsBelow view d terms part k old mid) where
    pub sets_one : y.bay.0 ≡ part → (more : List Term) → Grew terms more → (pair : TermPair) → k < length mid →
        IsExactPair view d more k y pair → SetsBelow view d more part (k + 1) old (slice_set mid k pair)
    sets_one own more grew pair within exact = record {
      len = length-set mid k pair ∙ h.len;
      exact = λ i x p low at got here. elim (cases_eq i k) [
        | inl e ↦
            let x_is : y ≡ x = let z = subst (λ j. slice_get d.switches j ≡ Some x) e at in cc (listed, z) in
            let w = slice_get-set_same mid k pair within in
            let z = subst (λ j. slice_get (slice_set mid k pair) j ≡ Some p) e got in
            let p_is : pair ≡ p = cc (w, z) in
            subst (λ j. IsExactPair view d more j x p) (sym e)
            (subst (λ (s : Switch). IsExactPair view d more k s p) x_is
            (subst (λ (r : TermPair). IsExactPair view d more k y r) p_is exact))
        | inr far ↦
            exact_grew view d terms more i x p grew (h.exact i x p (omega (arith, low, far)) at
            (sym (slice_get-set_other mid k i pair far) ∙ got) here)
      ];
      others = λ i x at other. elim (cases_eq i k) [
        | inl e ↦
            let x_is : y ≡ x = let z = subst (λ j. slice_get d.switches j ≡ Some x) e at in cc (listed, z) in
            absurd (other (subst (λ (s : Switch). s.bay.0 ≡ part) x_is own))
        | inr far ↦ slice_get-set_other mid k i pair far ∙ h.others i x at other
      ];
    }

    pub sets_pass : (y.bay.0 ≡ part → ⊥) → SetsBelow view d terms part (k + 1) old mid
    sets_pass none = record {
      len = h.len;
      exact = λ i x p low at got here. elim (cases_eq i k) [
        | inl e ↦
            let x_is : y ≡ x = let z = subst (λ j. slice_get d.switches j ≡ Some x) e at in cc (listed, z) in
            absurd (none (subst (λ (s : Switch). s.bay.0 ≡ part) (sym x_is) here))
        | inr far ↦ h.exact i x p (omega (arith, low, far)) at got here
      ];
      others = h.others;
    }

  pub sets_all : (terms : List Term) (k : ℕ) (new : List TermPair) → k ≡ length d.switches →
      SetsBelow view d terms part k old new → SetsBay view d terms part old new
  sets_all terms k new e h = record {
    len = h.len;
    exact = λ i x p at got own.
        h.exact i x p (let w = slice_get_within d.switches i x at in omega (arith, w, e)) at got own;
    others = h.others;
  }

-- one part more
pub exact_from : (view : View) (d : Diagram) (one two : List Term) (part : ℕ) (old new : List TermPair) → Grew one two →
    AreExactFrom view d one (part + 1) old → SetsBay view d two part old new → AreExactFrom view d two part new
exact_from view d one two part old new grew h s i x p at got high = elim (cases_eq x.bay.0 part) [
  | inl e ↦ s.exact i x p at got e
  | inr far ↦ exact_grew view d one two i x p grew
      (h i x p at (sym (s.others i x at (λ e. far (e))) ∙ got) (omega (arith, high, far)))
]

pub from_grew : (view : View) (d : Diagram) (one two : List Term) (part : ℕ) (pairs : List TermPair) → Grew one two →
    AreExactFrom view d one part pairs → AreExactFrom view d two part pairs
from_grew view d one two part pairs grew h i x p at got high =
    exact_grew view d one two i x p grew (h i x p at got high)

pub from_first : (view : View) (d : Diagram) (terms : List Term) (pairs : List TermPair) →
    AreExactFrom view d terms 0 pairs → AreExactPairs view d terms pairs
from_first view d terms pairs h i x p at got = h i x p at got (omega arith)
