use Rattle.std.proofs.Common.{◌++◌, length, subst, sym}
use Rattle.std.proofs.lemmas.Option.{slice_get_within}
use Rattle.program_text.specs.declared.reading.Reading.TheVariants.{May as AsClosed, Sure as AsOpen}
use Rattle.program_text.specs.TermLines.{ServesReleases}
use Rattle.program_text.specs.Releases.{MeansReleases}
use Rattle.structured_text.specs.Meaning.{after}
use Rattle.structured_text.specs.Order.{IsInput, AreInOrder}
use Rattle.structured_text.specs.Within.{LinesWithin}
use Rattle.program_text.specs.Interlocking.{release_name, IsInterlocking, SetsReleases}
use Rattle.program_text.proofs.InterlockingLemmas.{interlocks}
use Rattle.program_text.proofs.ProgramOrder.{all_in_order, release_set, towards_below}
use Rattle.program_text.proofs.program.program_by.Goals as goal

pub returns-clause-interlocks : goal.returns-clause-interlocks
returns-clause-interlocks c =
    let d = c.args.station.now in
    let count = c.switch_count-count.result in
    let counted = c.switch_count-count.ensures.count in
    let may = c.args.may.now.terms in
    let sure = c.args.sure.now.terms in
    let gap = c.args.may.now.gap.items in
    let load = c.args.may.now.load.items in
    let bond = c.args.sure.now.bond.items in
    let first = c.in_ok-program.program.may.items in
    let second = c.in_ok-program.program.sure.items in
    let third = c.in_ok-releases.releases.items in
    let first_serves : ServesReleases AsClosed (length d.switches) may third first =
    subst (λ n. ServesReleases AsClosed n may third first) counted c.in_ok-program.ensures.may in
    let second_serves : ServesReleases AsOpen (length d.switches) sure third second =
    subst (λ n. ServesReleases AsOpen n sure third second) counted c.in_ok-program.ensures.sure in
    let third_means : MeansReleases d (length may) (length sure) gap load bond (length d.switches) third =
    subst (λ n. MeansReleases d n (length sure) gap load bond (length d.switches) third) c.len-may_count.ensures.count
    (subst (λ n. MeansReleases d c.len-may_count.result n gap load bond (length d.switches) third) c.len-sure_count.ensures.count
    (subst (λ ps. MeansReleases d c.len-may_count.result c.len-sure_count.result ps load bond (length d.switches) third) c.deref.ensures.value
    (subst (λ ps. MeansReleases d c.len-may_count.result c.len-sure_count.result c.deref.result.now ps bond (length d.switches) third)
    c.deref-2.ensures.value
    (subst (λ ps. MeansReleases d c.len-may_count.result c.len-sure_count.result c.deref.result.now c.deref-2.result.now ps
    (length d.switches) third) c.deref-3.ensures.value c.in_ok-releases.ensures.means)))) in
    subst (λ ls. IsInterlocking d (after (first ++ (second ++ ls)))) (sym c.in_ok-program.ensures.releases)
    (interlocks d c.switch_count-count.ensures.station may sure c.len-may_count.ensures.ordered c.len-sure_count.ensures.ordered gap load bond
    c.requires.gap_len c.requires.load_len c.requires.bond_len c.requires.gap c.requires.load c.requires.bond
    first second third first_serves second_serves third_means)

pub returns-clause-may : goal.returns-clause-may
returns-clause-may c = c.in_ok-program.ensures.may_within c.args.station.now (sym c.switch_count-count.ensures.count)

pub returns-clause-sure : goal.returns-clause-sure
returns-clause-sure c = c.in_ok-program.ensures.sure_within c.args.station.now (sym c.switch_count-count.ensures.count)

pub returns-clause-releases : goal.returns-clause-releases
returns-clause-releases c =
    subst (LinesWithin c.args.station.now) (sym c.in_ok-program.ensures.releases) c.in_ok-releases.ensures.within

pub returns-clause-order : goal.returns-clause-order
returns-clause-order c =
    let d = c.args.station.now in
    let count = c.switch_count-count.result in
    let first = c.in_ok-program.program.may.items in
    let second = c.in_ok-program.program.sure.items in
    let third = c.in_ok-releases.releases.items in
    subst (λ ls. AreInOrder IsInput (first ++ (second ++ ls))) (sym c.in_ok-program.ensures.releases)
    (all_in_order d count (length d.switches) c.args.may.now.terms c.args.sure.now.terms c.len-may_count.result
    c.len-sure_count.result c.deref.result.now c.deref-2.result.now c.deref-3.result.now first second third
    c.in_ok-program.ensures.may c.in_ok-program.ensures.sure
    c.len-may_count.ensures.count c.len-sure_count.ensures.count c.in_ok-releases.ensures.means)

pub returns-clause-sets : goal.returns-clause-sets
returns-clause-sets c =
    let d = c.args.station.now in
    let count = c.switch_count-count.result in
    let first = c.in_ok-program.program.may.items in
    let second = c.in_ok-program.program.sure.items in
    let third = c.in_ok-releases.releases.items in
    subst (λ ls. SetsReleases d (first ++ (second ++ ls))) (sym c.in_ok-program.ensures.releases) (λ op x moves.
    release_set d count (length d.switches) c.args.may.now.terms c.args.sure.now.terms c.len-may_count.result
    c.len-sure_count.result c.deref.result.now c.deref-2.result.now c.deref-3.result.now first second third
    c.in_ok-program.ensures.may c.in_ok-program.ensures.sure
    c.len-may_count.ensures.count c.len-sure_count.ensures.count c.in_ok-releases.ensures.means (release_name op)
    (towards_below (length d.switches) op.switch op.direction (slice_get_within d.switches op.switch.0 x moves)))
