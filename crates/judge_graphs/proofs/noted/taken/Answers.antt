use Rattle.std.proofs.Common.{◌≡◌, ◌∙◌, ◌<◌, length, List, slice_get, Some, inl, inr, refl, sym, ap, subst, arith}
use Rattle.std.proofs.lemmas.Option.{slice_get_within, slice_get_read, same_Some}
use Rattle.judge_pool.specs.declared.pool.Pool.{Pool}
use Rattle.judge_graphs.specs.declared.noted.Intake.{Intake}
use Rattle.judge_graphs.specs.declared.noted.Noted.{Noted}
use Rattle.judge_graphs.specs.Noting.{letter_rows, SameIntake, IsNoted}
use Rattle.judge_pool.proofs.LayeringLemmas.{grows}
use Rattle.judge_graphs.proofs.NotingLemmas.{laid_same, laid_passes}
use Rattle.judge_pool.proofs.ErrorLemmas.{passed_on}
use Rattle.judge_graphs.proofs.noted.taken.Goals as goal

pub noted_at-requires-clause-notes : goal.noted_at-requires-clause-notes
noted_at-requires-clause-notes c k n at = (c.requires.notes k n at).0

pub returns-clause-notes : goal.returns-clause-notes
returns-clause-notes c k n at = (
  c.in_ok-place.ensures.notes k n at,
  elim (c.in_ok-place.ensures.new k n at) [
    | inl was ↦ (c.requires.notes k n was).1
    | inr few ↦ omega (arith, few, c.requires.budget)
  ],
)

pub returns-clause-taken : goal.returns-clause-taken
returns-clause-taken c =
    let (n, at, same) = c.in_ok-place.ensures.noted in
    let place = c.in_ok-place.place in
    let notes = c.noted_at.new.notes.items in
    let held : Noted = c.index-held-place.result in
    let here : slice_get notes place ≡ Some held =
    ap (λ (xs : List Noted). slice_get xs place) (sym c.as_slice-held.ensures.value)
    ∙ slice_get_read c.as_slice-held.result.now _ place held refl (subst (λ (xs : List Noted). place < length xs)
    (sym c.as_slice-held.ensures.value) (slice_get_within notes place n at)) c.index-held-place.is in
    let is : n ≡ held = same_Some n held (sym at ∙ here) in
    let outer = c.in_ok-outer.ensures in
    record {
      note = held;
      right = c.in_ok-place.ensures.notes place held here;
      same = subst (λ (k : Noted). SameIntake k.intake c.args.intake) is same;
      graph = outer.graph;
      names = outer.names;
      all = outer.all;
    }

pub returns-clause-few : goal.returns-clause-few
returns-clause-few c =
    let (n, at, same) = c.in_ok-place.ensures.noted in
    let place = c.in_ok-place.place in
    let notes = c.noted_at.new.notes.items in
    let held : Noted = c.index-held-place.result in
    let here : slice_get notes place ≡ Some held =
    ap (λ (xs : List Noted). slice_get xs place) (sym c.as_slice-held.ensures.value)
    ∙ slice_get_read c.as_slice-held.result.now _ place held refl (subst (λ (xs : List Noted). place < length xs)
    (sym c.as_slice-held.ensures.value) (slice_get_within notes place n at)) c.index-held-place.is in
    elim (c.in_ok-place.ensures.new place held here) [
      | inl was ↦ omega (arith, (c.requires.notes place held was).1, ap length c.in_ok-outer.ensures.names)
      | inr few ↦ omega (arith, few, c.requires.budget, ap length c.in_ok-outer.ensures.names)
    ]

pub returns-in_err-outer-clause-wide : goal.returns-in_err-outer-clause-wide
returns-in_err-outer-clause-wide c =
    passed_on _ _ c.from_residual-in_err-outer.result c.from_residual-in_err-outer.ensures.1
    (λ trouble same is f plan order fits.
    let p : Pool = c.args.pool.now in
    let q : Pool = c.noted_at.new.pool in
    let i : Intake = c.args.intake in
    let (n, at, as_is) = c.in_ok-place.ensures.noted in
    let place = c.in_ok-place.place in
    let notes = c.noted_at.new.notes.items in
    let held : Noted = c.index-held-place.result in
    let here : slice_get notes place ≡ Some held =
    ap (λ (xs : List Noted). slice_get xs place) (sym c.as_slice-held.ensures.value)
    ∙ slice_get_read c.as_slice-held.result.now _ place held refl (subst (λ (xs : List Noted). place < length xs)
    (sym c.as_slice-held.ensures.value) (slice_get_within notes place n at)) c.index-held-place.is in
    let one : n ≡ held = same_Some n held (sym at ∙ here) in
    let right : IsNoted q held = c.in_ok-place.ensures.notes place held here in
    let past = c.in_err-outer.ensures.wide (sym same ∙ is) in
    laid_passes p q i.start (letter_rows i) i.keeps.items held.names.items held.edges c.args.budget right.layers
    (grows p q c.in_ok-place.ensures.grew) c.requires.linked (laid_same q held.intake i held.names.items
    held.names.items held.edges right.layers (subst (λ (k : Noted). SameIntake k.intake i) one as_is) refl right.laid)
    past f plan order fits)
