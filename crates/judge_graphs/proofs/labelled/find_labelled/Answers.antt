use Rattle.std.proofs.Common.{◌≡◌, Some, slice_get, IsTrue, true, rules, refl, sym, subst}
use Rattle.std.proofs.lemmas.Option.{slice_get_read}
use Rattle.judge_graphs.specs.declared.labelled.Labelled.{Labelled}
use Rattle.judge_graphs.proofs.labelled.find_labelled.Goals as goal

pub returns-then-is_labelled : goal.returns-then-is_labelled
returns-then-is_labelled c =
    let holds : IsTrue true = search rules in
    let h : IsTrue c.is_labelled.result = subst IsTrue (sym c.if-is_labelled.true) holds in
    let l : Labelled = c.index-known-k.result in
    let at : slice_get c.args.known.now c.loop-k.k ≡ Some l =
    slice_get_read c.args.known.now _ c.loop-k.k l refl c.loop-k-test.true c.index-known-k.is in
    let w = c.is_labelled.ensures h in
    (l, at, w.0, w.1)
