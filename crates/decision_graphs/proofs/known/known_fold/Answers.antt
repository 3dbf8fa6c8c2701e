use Rattle.std.proofs.Common.{◌≡◌, ◌∙◌, Some, slice_get, refl, sym, ap, subst}
use Rattle.std.proofs.lemmas.Option.{slice_get_read, slice_get_within, same_Some}
use Rattle.decision_graphs.specs.Alone.{IsFoldedAlone}
use Rattle.decision_graphs.specs.Folding.{Folding}
use Rattle.decision_graphs.specs.FoldedView.{folding_of}
use Rattle.decision_graphs.specs.declared.known.Known.{Known}
use Rattle.decision_graphs.proofs.AloneLemmas.{folded_as}
use Rattle.decision_graphs.proofs.known.known_fold.Goals as goal

pub returns-in_ok-copy-in-Some : goal.returns-in_ok-copy-in-Some
returns-in_ok-copy-in-Some c =
    let (k, at, made) = c.in-Some.ensures in
    let place = c.in-Some.place in
    let read : Known = c.index-layers-place.result in
    let at_read : slice_get c.args.layers.now place ≡ Some read =
    slice_get_read c.args.layers.now _ place read refl (slice_get_within c.args.layers.now place k at)
    c.index-layers-place.is in
    let one : k ≡ read = same_Some k read (sym at ∙ at_read) in
    subst (λ (f : Folding). IsFoldedAlone c.args.layer.now f)
    (ap (λ (x : Known). folding_of x.folded) (one ∙ c.index-layers-place.is) ∙ sym c.in_ok-copy-in-Some.ensures)
    (folded_as k c.args.layer.now made (c.requires place k at))
