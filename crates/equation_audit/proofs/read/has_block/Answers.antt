use Rattle.std.proofs.Common.{◌≡◌, ◌∙◌, sym, ap, subst, refl, ℕ, zero, suc, ◌<◌, true, List, [], ◌∷◌, length, take}
use Rattle.std.proofs.Common.{get_or, arith, inl, inr}
use Rattle.ilk_base.specs.declared.words.Op.{Op}
use Rattle.equation_audit.specs.Equations.{Equation}
use Rattle.equation_audit.specs.BlockLines.{HasBlock}
use Rattle.equation_audit.proofs.PlaceLemmas.{take-next}
use Rattle.equation_audit.proofs.RestLemmas.{HasBlock-push}
use Rattle.equation_audit.proofs.read.has_block.Goals as goal

has_at : (es : List Equation) (k : ℕ) (d : Equation) (op : Op) → k < length es → (get_or es k d).op ≡ op →
    HasBlock es op
has_at [] k d op lt is = absurd (omega (arith, lt))
has_at (e ∷ es) zero d op lt is = inl is
has_at (e ∷ es) (suc k) d op lt is = inr (has_at es k d op (omega (arith, lt)) is)

pub returns-then-is_of : goal.returns-then-is_of
returns-then-is_of c = (
  (λ yes. has_at c.args.blocks.now c.loop-block.block-index c.block-item.result c.args.op c.loop-block-test.true
      (ap (λ (e : Equation). e.op) (sym c.block-item.is) ∙ c.is_of.ensures.0 c.if-is_of.true)),
  (λ has. refl),
)

pub loop-block-preserved : goal.loop-block-preserved
loop-block-preserved c = λ has.
    let next = take-next c.args.blocks.now c.loop-block.block-index c.block-item.result c.loop-block-test.true in
    let more = subst (λ (es : List Equation). HasBlock es c.args.op) next has in
    elim (HasBlock-push (take c.loop-block.block-index c.args.blocks.now)
    (get_or c.args.blocks.now c.loop-block.block-index c.block-item.result) c.args.op more) [
      | inl before ↦ c.loop-block.invariant before
      | inr here ↦ let yes : c.is_of.result ≡ true = c.is_of.ensures.1 (ap (λ (e : Equation). e.op) c.block-item.is
          ∙ here) in absurd (let no_more = c.if-is_of.false in cc)
    ]
