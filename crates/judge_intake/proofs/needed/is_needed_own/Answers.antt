use Rattle.std.proofs.Common.{◌≡◌, List, ℕ, slice_get, Some, sym, ap, ◌∙◌, subst, inl, inr, refl, arith}
use Rattle.std.specs.Prelude.{Contains}
use Rattle.std.proofs.lemmas.Option.{slice_get_read}
use Rattle.contraction.proofs.PlaceLemmas.{has_answer}
use Rattle.judge_intake.proofs.needed.is_needed_own.Goals as goal

pub returns-then-contains : goal.returns-then-contains
returns-then-contains c =
    let shared = c.args.shared.now in
    let b = c.args.bay.0 in
    let row : List ℕ = c.index-shared-from.result in
    let here : slice_get shared b ≡ Some row =
    ap (slice_get shared) (sym c.from.ensures)
    ∙ slice_get_read shared _ c.from.result row refl
    (omega (arith, c.from.ensures, c.requires.bay, c.requires.shared.count)) c.index-shared-from.is in
    let has = (has_answer c.numbers.result.now c.args.node c.contains.result c.contains.ensures.cases).0
    c.if-contains.true in (
      λ h. inl ((c.requires.shared.each b row here c.args.node).0
          (subst (λ l. Contains l c.args.node) c.numbers.ensures has)),
      λ need. c.if-contains.true,
    )

pub returns-else-contains : goal.returns-else-contains
returns-else-contains c =
    let shared = c.args.shared.now in
    let b = c.args.bay.0 in
    let row : List ℕ = c.index-shared-from.result in
    let here : slice_get shared b ≡ Some row =
    ap (slice_get shared) (sym c.from.ensures)
    ∙ slice_get_read shared _ c.from.result row refl
    (omega (arith, c.from.ensures, c.requires.bay, c.requires.shared.count)) c.index-shared-from.is in
    let none = (has_answer c.numbers.result.now c.args.node c.contains.result c.contains.ensures.cases).1
    c.if-contains.false in (
      λ h. inr (c.own_touches.ensures.0 h),
      λ need. elim need [
        | inl own ↦
            absurd
            (none (subst (λ l. Contains l c.args.node) (sym c.numbers.ensures)
            ((c.requires.shared.each b row here c.args.node).1 own)))
        | inr touched ↦ c.own_touches.ensures.1 touched
      ],
    )
