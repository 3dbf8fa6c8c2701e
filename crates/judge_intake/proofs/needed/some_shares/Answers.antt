use Rattle.std.proofs.Common.{◌≡◌, List, ℕ, slice_get, Some, subst, refl, arith}
use Rattle.std.specs.Prelude.{Contains}
use Rattle.std.proofs.lemmas.Bool.{false≢true}
use Rattle.std.proofs.lemmas.Option.{slice_get_read, slice_get_within}
use Rattle.contraction.proofs.PlaceLemmas.{has_answer}
use Rattle.judge_intake.proofs.NodesLemmas.{list_of_part}
use Rattle.judge_intake.proofs.needed.some_shares.Goals as goal

pub returns-then-contains : goal.returns-then-contains
returns-then-contains c =
    let row : List ℕ = c.index-shared-part.result in
    let here : slice_get c.args.shared.now c.loop-part.part ≡ Some row =
    slice_get_read c.args.shared.now _ c.loop-part.part row refl c.loop-part-test.true c.index-shared-part.is in
    let has = (has_answer c.numbers.result.now c.args.node c.contains.result c.contains.ensures.cases).0
    c.if-contains.true in (
      λ h. (
        c.loop-part.part,
        (c.requires.each c.loop-part.part row here c.args.node).0
            (subst (λ l. Contains l c.args.node) c.numbers.ensures has),
      ),
      λ some. refl,
    )

pub returns : goal.returns
returns c = (
  λ h. absurd (false≢true h),
  λ some.
      let w = list_of_part c.args.station.now c.args.shared.now some.0 c.args.node c.part_count-count.ensures.station
      c.requires some.1 in
      absurd (c.loop-part.invariant some.0 w.0
      (omega (
        arith,
        slice_get_within c.args.shared.now some.0 w.0 w.1,
        c.loop-part-test.false,
        c.loop-part.auto.part-end,
      ))
      w.1 w.2),
)
