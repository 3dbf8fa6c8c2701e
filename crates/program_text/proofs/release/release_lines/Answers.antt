use Rattle.std.proofs.Common.{◌≡◌, ◌<◌, ◌≤◌, ◌^◌, ◌∙◌, length, get_or, None, ap, subst, sym, arith}
use Rattle.std.specs.Prelude.{Option}
use Rattle.std.proofs.lemmas.Option.{slice_get-get_or}
use Rattle.short_equations.specs.declared.pair.TermPair.{TermPair}
use Rattle.structured_text.specs.declared.line.GapDenial.{GapDenial}
use Rattle.structured_text.specs.declared.line.LoadDenial.{LoadDenial}
use Rattle.structured_text.specs.Within.{FormulaWithin}
use Rattle.program_text.specs.Releases.{gap_denial_in, load_denial_in, release_in, pair_in}
use Rattle.program_text.proofs.ReleaseLemmas.{releases_push}
use Rattle.program_text.proofs.WithinLemmas.{within_pushed, opening_within, closing_within}
use Rattle.program_text.proofs.release.release_lines.Goals as goal

abbrev none : TermPair
none = record { first = None; second = None }

pub loop-i-preserved : goal.loop-i-preserved
loop-i-preserved c =
    let d = c.args.station.now in
    let k = c.loop-i.i in
    let may = c.args.may in
    let sure = c.args.sure in
    let x = c.switch-kind.result in
    let kind = x.kind in
    let count = c.switch_count-i-end.ensures.count in
    let test = c.loop-i-test.true in
    let may_fits = c.ranges.may.fits in
    let sure_fits = c.ranges.sure.fits in
    let few : may ≤ 2 ^ 64 = omega (arith, may_fits) in
    let rare : sure ≤ 2 ^ 64 = omega (arith, sure_fits) in
    let gap_room = c.requires.gap in
    let load_room = c.requires.load in
    let bond_room = c.requires.bond in
    let low : k < length d.switches = omega (arith, count, test) in
    let g = get_or c.args.gap.now k none in
    let l = get_or c.args.load.now k none in
    let b = get_or c.args.bond.now k none in
    let moved : c.load_denial-moved.result ≡ load_denial_in kind (pair_in may l) (pair_in sure b) =
    c.load_denial-moved.ensures
    ∙ (ap (λ (p : TermPair). load_denial_in kind p c.known_pair-bonded.result) c.known_pair-loaded.ensures
    ∙ ap (λ (p : TermPair). load_denial_in kind (pair_in may l) p) c.known_pair-bonded.ensures) in
    let closed : c.gap_denial-closed.result ≡ gap_denial_in kind (pair_in may g) =
    c.gap_denial-closed.ensures ∙ ap (λ (p : TermPair). gap_denial_in kind p) c.known_pair-coupled.ensures in
    let opens : c.release-opens.result ≡ release_in None (load_denial_in kind (pair_in may l) (pair_in sure b)) =
    c.release-opens.ensures ∙ ap (λ (m : Option LoadDenial). release_in None m) moved in
    let closes : c.release-closes.result
    ≡ release_in (gap_denial_in kind (pair_in may g)) (load_denial_in kind (pair_in may l) (pair_in sure b)) =
    c.release-closes.ensures
    ∙ (ap (λ (m : Option GapDenial). release_in m c.load_denial-moved.result) closed
    ∙ ap (λ (m : Option LoadDenial). release_in (gap_denial_in kind (pair_in may g)) m) moved) in
    rw (c.in_ok-push-2.ensures.items, c.in_ok-push.ensures.items) (
      releases_push None d may sure c.args.gap.now c.args.load.now c.args.bond.now k c.loop-i.lines.items c.loop-i.invariant.0 x
          c.switch-kind.ensures.value g l b (slice_get-get_or c.args.gap.now k none (omega (arith, low, gap_room)))
          (slice_get-get_or c.args.load.now k none (omega (arith, low, load_room)))
          (slice_get-get_or c.args.bond.now k none (omega (arith, low, bond_room))) c.release-opens.result
          c.release-closes.result opens closes,
      within_pushed d _ _
          (within_pushed d c.loop-i.lines.items _ c.loop-i.invariant.1 (record {
            heading = tt;
            name = low;
            formula = subst (FormulaWithin (length d.switches)) (sym opens)
                (opening_within (length d.switches) may sure few rare kind l b);
          })) (record {
            heading = tt;
            name = low;
            formula = subst (FormulaWithin (length d.switches)) (sym closes)
                (closing_within (length d.switches) may sure few rare kind g l b);
          }),
    )
