use Rattle.std.proofs.Common.{◌≡◌, ◌∙◌, ◌<◌, length, List, slice_get, Some, refl, sym, ap, subst}
use Rattle.std.proofs.lemmas.Option.{slice_get_within, slice_get_read, same_Some}
use Rattle.judge_pool.specs.declared.pool.Pool.{Pool}
use Rattle.judge_graphs.specs.declared.noted.Intake.{Intake}
use Rattle.judge_graphs.specs.declared.noted.Noted.{Noted}
use Rattle.judge_graphs.specs.Noting.{letter_rows, SameIntake, IsNoted}
use Rattle.judge_pool.proofs.LayeringLemmas.{grows}
use Rattle.judge_graphs.proofs.NotingLemmas.{laid_same, laid_passes}
use Rattle.judge_pool.proofs.ErrorLemmas.{passed_on}
use Rattle.judge_graphs.proofs.noted.taken_again.Goals as goal

pub returns-clause-taken : goal.returns-clause-taken
returns-clause-taken c =
    let (n, at, same) = c.in_ok-place.ensures.noted in
    let place = c.in_ok-place.place in
    let notes = c.noted_at.new.notes.items in
    let held : Noted = c.index-held-place.result in
    let here : slice_get notes place ≡ Some held =
    ap (λ (xs : List Noted). slice_get xs place) (sym c.as_slice-held.ensures.value)
    ∙ slice_get_read c.as_slice-held.result.now _ place held refl (subst (λ (xs : List Noted). place < length xs)
    (sym c.as_slice-held.ensures.value) (slice_get_within notes place n at)) c.index-held-place.is in
    let is : n ≡ held = same_Some n held (sym at ∙ here) in
    (held, here, subst (λ (k : Noted). SameIntake k.intake c.args.intake) is same, c.in_ok-left.ensures.all)

pub returns-in_err-left-clause-wide : goal.returns-in_err-left-clause-wide
returns-in_err-left-clause-wide c =
    passed_on _ _ c.from_residual-in_err-left.result c.from_residual-in_err-left.ensures.1
    (λ trouble same is f plan order fits.
    let p : Pool = c.args.pool.now in
    let q : Pool = c.noted_at.new.pool in
    let i : Intake = c.args.intake in
    let (n, at, as_is) = c.in_ok-place.ensures.noted in
    let place = c.in_ok-place.place in
    let notes = c.noted_at.new.notes.items in
    let held : Noted = c.index-held-place.result in
    let here : slice_get notes place ≡ Some held =
    ap (λ (xs : List Noted). slice_get xs place) (sym c.as_slice-held.ensures.value)
    ∙ slice_get_read c.as_slice-held.result.now _ place held refl (subst (λ (xs : List Noted). place < length xs)
    (sym c.as_slice-held.ensures.value) (slice_get_within notes place n at)) c.index-held-place.is in
    let one : n ≡ held = same_Some n held (sym at ∙ here) in
    let right : IsNoted q held = c.in_ok-place.ensures.notes place held here in
    let past = c.in_err-left.ensures.wide (sym same ∙ is) in
    laid_passes p q i.start (letter_rows i) i.keeps.items held.names.items held.edges c.args.budget right.layers
    (grows p q c.in_ok-place.ensures.grew) c.requires.linked (laid_same q held.intake i held.names.items
    held.names.items held.edges right.layers (subst (λ (k : Noted). SameIntake k.intake i) one as_is) refl right.laid)
    past f plan order fits)
