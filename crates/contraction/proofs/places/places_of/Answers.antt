use Rattle.std.proofs.Common.{◌≡◌, ◌+◌, ◌++◌, ◌∷◌, [], ℕ, false, get_or, slice_index, refl, subst, sym, ap, ◌∙◌, arith}
use Rattle.station_graph.specs.declared.limits.TheConstants.{NODES}
use Rattle.contraction.specs.Restricting.{PlacesBelow}
use Rattle.contraction.proofs.PlaceLemmas.{places_passed, places_pushed, named_answer}
use Rattle.contraction.proofs.places.places_of.Goals.{then-is_named+in_ok-push, else-is_named}
use Rattle.contraction.proofs.places.places_of.Goals as goal

pub loop-place-preserved : goal.loop-place-preserved
loop-place-preserved c =
    let nodes = c.args.nodes.now in
    let kept = c.args.kept.now in
    let i = c.loop-place.place in
    let old = c.loop-place.places.items in
    let n : ℕ = slice_index kept i in
    let named = c.note_named.new.named in
    let told = named_answer nodes _ named NODES n (get_or named n false) refl (c.requires.small i (omega arith))
    c.note_named.ensures refl in
    elim c.if-is_named.branch [
      | then-is_named+in_ok-push w ↦
          let new : c.if-is_named.places.items ≡ old ++ i ∷ [] =
          ap (λ p. p.items) w.places-is ∙ w.in_ok-push.ensures.items in
          subst (PlacesBelow nodes kept (i + 1)) (sym new)
          (places_pushed nodes kept i old c.loop-place.invariant (told.0 w.if-is_named.true))
      | else-is_named w ↦
          let same : c.if-is_named.places.items ≡ old = ap (λ p. p.items) w.places-is in
          subst (PlacesBelow nodes kept (i + 1)) (sym same)
          (places_passed nodes kept i old c.loop-place.invariant (told.1 w.if-is_named.false))
    ]
