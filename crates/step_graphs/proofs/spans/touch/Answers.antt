use Rattle.std.proofs.Common.{◌≡◌, ◌<◌, length, slice_get, slice_set, Some, sym, ap, ◌∙◌, subst, arith}
use Rattle.std.proofs.lemmas.Option.{slice_get-get_or}
use Rattle.step_graphs.specs.Touching.{AreTouched}
use Rattle.step_graphs.proofs.TouchLemmas.{touched_past, touched_one}
use Rattle.step_graphs.proofs.spans.touch.Goals as goal

pub returns-then-place-len : goal.returns-then-place-len
returns-then-place-len c =
    touched_past c.args.node c.args.i c.args.spans.now.items
    (omega (arith, c.if-place-len.true, c.from-place.ensures, c.len.ensures))

pub returns : goal.returns
returns c =
    let xs = c.args.spans.now.items in
    let place = c.from-place.result in
    let lt : place < length xs = omega (arith, c.if-place-len.false, c.len.ensures) in
    let at : slice_get xs place ≡ Some c.index.result.now =
    slice_get-get_or xs place c.index.result.now lt ∙ ap Some (sym c.index.ensures) in
    subst (λ n. AreTouched (λ k. n ≡ k) c.args.i xs (slice_set xs place c.touched.result)) c.from-place.ensures
    (touched_one place c.args.i xs c.index.result.now c.touched.result at c.touched.ensures)
