use Rattle.std.proofs.Common.{ap, ◌∙◌}
use Rattle.contraction.specs.declared.row.Row.{Row}
use Rattle.contraction.proofs.ReadLemmas.{gap_few, gap_told}
use Rattle.contraction.proofs.value.Contraction.of_gap_row.Goals as goal

pub empty_views_on-requires : goal.empty_views_on-requires
empty_views_on-requires c =
    gap_few c.args.row.now c.bytes-bytes.result.now c.requires.row c.bytes-bytes.ensures

pub invariant_of-result : goal.invariant_of-result
invariant_of-result c =
    let v = c.empty.inside in
    let g = c.in_ok-gap.gap in
    (gap_told c.args.row.now c.bytes-bytes.result.now c.requires.row c.bytes-bytes.ensures v.kept
    c.in_ok-labels.labels c.in_ok-first.first.items c.in_ok-second.second.items g v.row v.bonded
    c.empty.invariant (λ xs e. c.empty.view_is ∙ c.in_ok-empty.ensures xs e) c.in_ok-labels.ensures
    c.in_ok-first.ensures c.in_ok-second.ensures (ap (λ (r : Row). r.labels) c.in_ok-gap.ensures)
    (ap (λ (r : Row). r.first.items) c.in_ok-gap.ensures)
    (ap (λ (r : Row). r.second.items) c.in_ok-gap.ensures)).contraction

pub returns-clause-contraction : goal.returns-clause-contraction
returns-clause-contraction c =
    let v = c.empty.inside in
    let g = c.in_ok-gap.gap in
    (gap_told c.args.row.now c.bytes-bytes.result.now c.requires.row c.bytes-bytes.ensures v.kept
    c.in_ok-labels.labels c.in_ok-first.first.items c.in_ok-second.second.items g v.row v.bonded
    c.empty.invariant (λ xs e. c.empty.view_is ∙ c.in_ok-empty.ensures xs e) c.in_ok-labels.ensures
    c.in_ok-first.ensures c.in_ok-second.ensures (ap (λ (r : Row). r.labels) c.in_ok-gap.ensures)
    (ap (λ (r : Row). r.first.items) c.in_ok-gap.ensures)
    (ap (λ (r : Row). r.second.items) c.in_ok-gap.ensures)).contraction

pub returns-clause-row : goal.returns-clause-row
returns-clause-row c =
    let v = c.empty.inside in
    let g = c.in_ok-gap.gap in
    (gap_told c.args.row.now c.bytes-bytes.result.now c.requires.row c.bytes-bytes.ensures v.kept
    c.in_ok-labels.labels c.in_ok-first.first.items c.in_ok-second.second.items g v.row v.bonded
    c.empty.invariant (λ xs e. c.empty.view_is ∙ c.in_ok-empty.ensures xs e) c.in_ok-labels.ensures
    c.in_ok-first.ensures c.in_ok-second.ensures (ap (λ (r : Row). r.labels) c.in_ok-gap.ensures)
    (ap (λ (r : Row). r.first.items) c.in_ok-gap.ensures)
    (ap (λ (r : Row). r.second.items) c.in_ok-gap.ensures)).row

pub returns-clause-bare : goal.returns-clause-bare
returns-clause-bare c =
    let v = c.empty.inside in
    let g = c.in_ok-gap.gap in
    (gap_told c.args.row.now c.bytes-bytes.result.now c.requires.row c.bytes-bytes.ensures v.kept
    c.in_ok-labels.labels c.in_ok-first.first.items c.in_ok-second.second.items g v.row v.bonded
    c.empty.invariant (λ xs e. c.empty.view_is ∙ c.in_ok-empty.ensures xs e) c.in_ok-labels.ensures
    c.in_ok-first.ensures c.in_ok-second.ensures (ap (λ (r : Row). r.labels) c.in_ok-gap.ensures)
    (ap (λ (r : Row). r.first.items) c.in_ok-gap.ensures)
    (ap (λ (r : Row). r.second.items) c.in_ok-gap.ensures)).bare

pub returns-clause-both : goal.returns-clause-both
returns-clause-both c =
    let v = c.empty.inside in
    let g = c.in_ok-gap.gap in
    (gap_told c.args.row.now c.bytes-bytes.result.now c.requires.row c.bytes-bytes.ensures v.kept
    c.in_ok-labels.labels c.in_ok-first.first.items c.in_ok-second.second.items g v.row v.bonded
    c.empty.invariant (λ xs e. c.empty.view_is ∙ c.in_ok-empty.ensures xs e) c.in_ok-labels.ensures
    c.in_ok-first.ensures c.in_ok-second.ensures (ap (λ (r : Row). r.labels) c.in_ok-gap.ensures)
    (ap (λ (r : Row). r.first.items) c.in_ok-gap.ensures)
    (ap (λ (r : Row). r.second.items) c.in_ok-gap.ensures)).both
