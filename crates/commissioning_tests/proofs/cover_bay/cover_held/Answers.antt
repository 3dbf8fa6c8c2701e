use Rattle.std.proofs.Common.{◌+◌, ◌*◌, ◌<◌, List, length, slice_get, Some, sym, ap, ◌∙◌, refl, arith}
use Rattle.std.proofs.lemmas.Option.{slice_get-get_or}
use Rattle.ilk_base.specs.declared.words.Op.{Op}
use Rattle.commissioning_tests.specs.declared.switch_paths.SwitchPaths.{SwitchPaths}
use Rattle.commissioning_tests.proofs.ListLemmas.{operations_long, opening_at, closing_at, operations_in}
use Rattle.commissioning_tests.proofs.CoverLemmas.{covered_both}
use Rattle.commissioning_tests.proofs.cover_bay.cover_held.Goals as goal

pub cover_both-requires-clause-all : goal.cover_both-requires-clause-all
cover_both-requires-clause-all c k op at =
    omega (
      arith,
      operations_in c.args.first.0 (length c.args.bay.now) k op
          (ap (λ (l : List Op). slice_get l k) (sym c.requires.operations) ∙ at),
      c.requires.within,
    )

pub cover_both-requires-clause-room : goal.cover_both-requires-clause-room
cover_both-requires-clause-room c =
    omega (
      arith,
      ap length c.requires.operations,
      operations_long c.args.first.0 (length c.args.bay.now),
      c.loop-i-test.true,
      c.loop-i.auto.i-end,
    )

pub cover_both-requires-clause-opening : goal.cover_both-requires-clause-opening
cover_both-requires-clause-opening c =
    let below : c.loop-i.i < length c.args.bay.now = omega (arith, c.loop-i-test.true, c.loop-i.auto.i-end) in
    ap (λ (l : List Op). slice_get l (2 * c.loop-i.i)) c.requires.operations
    ∙ opening_at c.args.first.0 (length c.args.bay.now) c.loop-i.i below

pub cover_both-requires-clause-closing : goal.cover_both-requires-clause-closing
cover_both-requires-clause-closing c =
    let below : c.loop-i.i < length c.args.bay.now = omega (arith, c.loop-i-test.true, c.loop-i.auto.i-end) in
    ap (λ (l : List Op). slice_get l (2 * c.loop-i.i + 1)) c.requires.operations
    ∙ closing_at c.args.first.0 (length c.args.bay.now) c.loop-i.i below

pub cover_both-requires-clause-held : goal.cover_both-requires-clause-held
cover_both-requires-clause-held c =
    let own : SwitchPaths = c.index-bay-i.result in
    let below : c.loop-i.i < length c.args.bay.now = omega (arith, c.loop-i-test.true, c.loop-i.auto.i-end) in
    c.requires.held c.loop-i.i own
    (slice_get-get_or c.args.bay.now c.loop-i.i own below ∙ ap (λ (p : SwitchPaths). Some p) (sym c.index-bay-i.is))

pub loop-i-preserved : goal.loop-i-preserved
loop-i-preserved c = (
  c.in_ok-cover_both.ensures.more.are,
  covered_both c.args.station.now c.args.operations.now c.args.stands.now c.loop-i.found.positions.items
      c.cover_both.new.found.positions.items c.loop-i.i (2 * c.loop-i.i) refl c.loop-i.invariant.1
      c.in_ok-cover_both.ensures.more.grows c.in_ok-cover_both.ensures.opening
      c.in_ok-cover_both.ensures.closing,
)
