-- What the inner graph of a switch says by the words of its bay alone, whatever label of the outer one it begins with.
use Rattle.std.proofs.Common.{◌≡◌, ℕ, ◌<◌, ◌⊎◌, zero, suc, Bool, List, ◌∷◌, refl, sym, subst, inl, inr}
use Rattle.std.proofs.Common.{arith}
use Rattle.ilk_base.specs.declared.words.Dbpos.{Dbpos}
use Rattle.ilk_base.specs.declared.words.Op.{Op}
use Rattle.judge_pool.specs.Lettered.{Lettered}
use Rattle.decision_graphs.specs.Label.{Layered, layer_at, label_of, AreAllowed, Reaches}
use Rattle.decision_graphs.specs.Reaching.{IsSet, set_at, AreSetsOf}
use Rattle.judge_pool.specs.declared.view.View.{View}
use Rattle.judge_pool.specs.declared.view.View.TheVariants.{Load}
use Rattle.judge_pool.specs.Graphs.{LabelSays, IsOwn}
use Rattle.judge_graphs.specs.Through.{IsOfOthers, SaysThrough}
use Rattle.release_compile.specs.Allowed.{OwnAllowed}
use Rattle.release_compile.specs.Denying.{IsGapFree, IsFree, SaysNoRule}
use Rattle.release_compile.proofs.ChainLemmas.{label_in, split_sets}
use Rattle.release_compile.proofs.WithinLemmas.{choices_within}

zero_or_more : (n : ℕ) → (n ≡ 0) ⊎ (0 < n)
zero_or_more zero = inl refl
zero_or_more (suc n) = inr (omega arith)

-- NO RULE IS SAID where the words of the bay lead to no label that says one, with all labels of the outer graph allowed
module _ (view : View) (a : Lettered) (b m first others : ℕ) (words : List Dbpos) (sets inner_sets : List (List Bool))
    (outer inner : Layered) (is_own : IsOwn a.diagram b m first others) (outer_is : IsOfOthers a b outer)
    (inner_is : SaysThrough view a b m first others outer inner)
    (fits : AreSetsOf outer.layers sets) (inner_fits : AreSetsOf inner.layers inner_sets)
    (own : OwnAllowed first m others words inner_sets)
    (all : (label : ℕ) → label < (layer_at inner.layers 0).choices → IsSet (set_at inner_sets 0) label)
    (none : (label : ℕ) → 0 < label → label < inner.labels → Reaches inner inner_sets label → ⊥) where
  pub says_no_rule : SaysNoRule view a b m words sets
  says_no_rule v within =
      let w =
      choices_within view a b m first others words sets inner_sets outer inner is_own outer_is inner_is fits
      inner_fits own v within in
      let begins = label_of outer w.0 in
      let begins_in = label_in outer sets w.0 outer_is.fits fits w.2 in
      let is_all : IsSet (set_at inner_sets 0) begins =
      all begins (omega (arith, begins_in, inner_is.first_choices)) in
      let split = split_sets inner.layers inner_sets (omega (arith, inner_is.count)) inner_fits in
      let allowed : AreAllowed inner_sets (begins ∷ w.1) =
      subst (λ xs. AreAllowed xs (begins ∷ w.1)) (sym split) (is_all, w.3) in
      let label = label_of inner (begins ∷ w.1) in
      let label_is = label_in inner inner_sets (begins ∷ w.1) inner_is.fits inner_fits allowed in
      elim (zero_or_more label) [
        | inl is ↦ subst (λ l. LabelSays view a.diagram m v l) is w.4
        | inr more ↦ absurd (none label more label_is (begins ∷ w.1, (allowed, refl)))
      ]

module _ (a : Lettered) (b : ℕ) (words : List Dbpos) (sets : List (List Bool)) (op : Op) where
  -- where neither of the first two rules is broken, nor is the third
  pub load_says_none : IsGapFree a b words sets op → SaysNoRule Load a b op.switch.0 words sets →
      IsFree a b words sets op
  load_says_none free says v within =
      let g = free v within in
      (g.0, g.1, λ h. absurd (let e : 0 ≡ 1 = (says v within op refl).1 h in cc))
