use Rattle.std.proofs.Common.{◌≡◌, ℕ, true, false, refl, sym, ◌∙◌, below_more, arith}
use Rattle.commissioning_tests.specs.Growing.{FeedsEarth}
use Rattle.commissioning_tests.proofs.SoundLemmas.{apart_if, not_apart}
use Rattle.commissioning_tests.proofs.sound.is_sound.Goals as goal

pub returns-then-feeds : goal.returns-then-feeds
returns-then-feeds c = (
  λ e. cc e,
  λ sound.
      absurd (not_apart c.args.station.now c.args.vector.now c.loop-i.i (c.in_ok-feeds.ensures.0 c.if-feeds.true) sound),
)

pub loop-i-preserved : goal.loop-i-preserved
loop-i-preserved c =
    below_more (λ (i : ℕ). ¬ FeedsEarth c.args.station.now c.args.vector.now i) c.loop-i.i c.loop-i.invariant
    (λ feeds. let both : false ≡ true = sym c.if-feeds.false ∙ c.in_ok-feeds.ensures.1 feeds in cc both)

pub returns : goal.returns
returns c = (
  λ _.
      apart_if c.args.station.now c.args.vector.now
      (λ i lt. c.loop-i.invariant i
      (omega (arith, lt, c.loop-i-test.false, c.loop-i.auto.i-end, c.switch_count-i-end.ensures))),
  λ _. refl,
)
