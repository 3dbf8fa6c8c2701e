use Rattle.std.proofs.Common.{ap, ◌∙◌}
use Rattle.contraction.specs.declared.row.Row.{Row}
use Rattle.contraction.proofs.ReadLemmas.{load_few, load_told}
use Rattle.contraction.proofs.value.Contraction.of_load_row.Goals as goal

pub empty_views_on-requires : goal.empty_views_on-requires
empty_views_on-requires c =
    load_few c.args.row.now c.bytes-bytes.result.now c.requires.row c.bytes-bytes.ensures

pub invariant_of-result : goal.invariant_of-result
invariant_of-result c =
    let v = c.empty.inside in
    let l = c.in_ok-load.load in
    (load_told c.args.row.now c.bytes-bytes.result.now c.requires.row c.bytes-bytes.ensures v.kept
    c.in_ok-labels.labels c.in_ok-bonds.bonds c.in_ok-bonded.bonded c.in_ok-first.first.items
    c.in_ok-second.second.items l v.row v.bonded c.empty.invariant
    (λ xs e. c.empty.view_is ∙ c.in_ok-empty.ensures xs e) c.in_ok-labels.ensures c.in_ok-bonds.ensures
    c.in_ok-first.ensures c.in_ok-second.ensures c.in_ok-bonded.ensures
    (ap (λ (r : Row). r.labels) c.in_ok-load.ensures) (ap (λ (r : Row). r.first.items) c.in_ok-load.ensures)
    (ap (λ (r : Row). r.second.items) c.in_ok-load.ensures)).contraction

pub returns-clause-contraction : goal.returns-clause-contraction
returns-clause-contraction c =
    let v = c.empty.inside in
    let l = c.in_ok-load.load in
    (load_told c.args.row.now c.bytes-bytes.result.now c.requires.row c.bytes-bytes.ensures v.kept
    c.in_ok-labels.labels c.in_ok-bonds.bonds c.in_ok-bonded.bonded c.in_ok-first.first.items
    c.in_ok-second.second.items l v.row v.bonded c.empty.invariant
    (λ xs e. c.empty.view_is ∙ c.in_ok-empty.ensures xs e) c.in_ok-labels.ensures c.in_ok-bonds.ensures
    c.in_ok-first.ensures c.in_ok-second.ensures c.in_ok-bonded.ensures
    (ap (λ (r : Row). r.labels) c.in_ok-load.ensures) (ap (λ (r : Row). r.first.items) c.in_ok-load.ensures)
    (ap (λ (r : Row). r.second.items) c.in_ok-load.ensures)).contraction

pub returns-clause-row : goal.returns-clause-row
returns-clause-row c =
    let v = c.empty.inside in
    let l = c.in_ok-load.load in
    (load_told c.args.row.now c.bytes-bytes.result.now c.requires.row c.bytes-bytes.ensures v.kept
    c.in_ok-labels.labels c.in_ok-bonds.bonds c.in_ok-bonded.bonded c.in_ok-first.first.items
    c.in_ok-second.second.items l v.row v.bonded c.empty.invariant
    (λ xs e. c.empty.view_is ∙ c.in_ok-empty.ensures xs e) c.in_ok-labels.ensures c.in_ok-bonds.ensures
    c.in_ok-first.ensures c.in_ok-second.ensures c.in_ok-bonded.ensures
    (ap (λ (r : Row). r.labels) c.in_ok-load.ensures) (ap (λ (r : Row). r.first.items) c.in_ok-load.ensures)
    (ap (λ (r : Row). r.second.items) c.in_ok-load.ensures)).row

pub returns-clause-bare : goal.returns-clause-bare
returns-clause-bare c =
    let v = c.empty.inside in
    let l = c.in_ok-load.load in
    (load_told c.args.row.now c.bytes-bytes.result.now c.requires.row c.bytes-bytes.ensures v.kept
    c.in_ok-labels.labels c.in_ok-bonds.bonds c.in_ok-bonded.bonded c.in_ok-first.first.items
    c.in_ok-second.second.items l v.row v.bonded c.empty.invariant
    (λ xs e. c.empty.view_is ∙ c.in_ok-empty.ensures xs e) c.in_ok-labels.ensures c.in_ok-bonds.ensures
    c.in_ok-first.ensures c.in_ok-second.ensures c.in_ok-bonded.ensures
    (ap (λ (r : Row). r.labels) c.in_ok-load.ensures) (ap (λ (r : Row). r.first.items) c.in_ok-load.ensures)
    (ap (λ (r : Row). r.second.items) c.in_ok-load.ensures)).bare

pub returns-clause-both : goal.returns-clause-both
returns-clause-both c =
    let v = c.empty.inside in
    let l = c.in_ok-load.load in
    (load_told c.args.row.now c.bytes-bytes.result.now c.requires.row c.bytes-bytes.ensures v.kept
    c.in_ok-labels.labels c.in_ok-bonds.bonds c.in_ok-bonded.bonded c.in_ok-first.first.items
    c.in_ok-second.second.items l v.row v.bonded c.empty.invariant
    (λ xs e. c.empty.view_is ∙ c.in_ok-empty.ensures xs e) c.in_ok-labels.ensures c.in_ok-bonds.ensures
    c.in_ok-first.ensures c.in_ok-second.ensures c.in_ok-bonded.ensures
    (ap (λ (r : Row). r.labels) c.in_ok-load.ensures) (ap (λ (r : Row). r.first.items) c.in_ok-load.ensures)
    (ap (λ (r : Row). r.second.items) c.in_ok-load.ensures)).both
