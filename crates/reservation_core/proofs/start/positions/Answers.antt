use Rattle.std.proofs.Common.{◌≡◌, ◌<◌, ℕ, Bool, false, List, [], ◌∷◌, length, slice_get, get_or, sym, ap, ◌∙◌, arith}
use Rattle.std.proofs.lemmas.List.{length-append}
use Rattle.std.proofs.lemmas.Option.{slice_get-get_or}
use Rattle.reservation_core.specs.Start.{position_of}
use Rattle.reservation_core.specs.declared.values.Position.{Position}
use Rattle.reservation_core.specs.declared.values.Position.TheVariants.{Between}
use Rattle.reservation_core.proofs.AlikeNotes.{got_or}
use Rattle.reservation_core.proofs.ForCode.{pushed_each}
use Rattle.reservation_core.proofs.start.positions.Goals as goal

pub loop-i-init : goal.loop-i-init
loop-i-init c = record {
  count = ap length c.new-truth.ensures.items;
  each = λ k p got. absurd (cc (ap (λ (xs : List Position). slice_get xs k) (sym c.new-truth.ensures.items) ∙ got));
}

pub loop-i-preserved : goal.loop-i-preserved
loop-i-preserved c = record {
  count =
      let more =
      ap length c.in_ok-push.ensures.items ∙ length-append c.loop-i.truth.items (c.position_of.result ∷ []) in
      omega (arith, more, c.loop-i.invariant.count);
  each =
      λ k p got. pushed_each (λ (j : ℕ) (q : Position). q ≡ position_of (get_or c.args.start.now j false))
      c.loop-i.truth.items c.position_of.result c.loop-i.i c.loop-i.invariant.count c.loop-i.invariant.each
      (c.position_of.ensures
      ∙ ap (λ (x : Bool). position_of x)
      (sym (got_or c.args.start.now c.loop-i.i c.closed.result false c.closed.ensures))) k p
      (ap (λ (xs : List Position). slice_get xs k) (sym c.in_ok-push.ensures.items) ∙ got);
}

pub returns-clause-count : goal.returns-clause-count
returns-clause-count c = omega (
  arith,
  c.loop-i.invariant.count,
  c.loop-i-test.false,
  c.loop-i.auto.i-end,
  c.switch_count-i-end.ensures.count,
)

pub returns-clause-each : goal.returns-clause-each
returns-clause-each c = λ i lt.
    let inside : i < length c.loop-i.truth.items =
    omega (arith, lt, c.loop-i.invariant.count, c.loop-i-test.false, c.switch_count-i-end.ensures.count) in
    c.loop-i.invariant.each i (get_or c.loop-i.truth.items i Between)
    (slice_get-get_or c.loop-i.truth.items i Between inside)
