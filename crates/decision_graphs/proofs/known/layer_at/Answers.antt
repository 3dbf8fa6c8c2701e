use Rattle.std.proofs.Common.{◌≡◌, ◌<◌, Some, length, slice_get, IsTrue, true, rules, refl, sym, subst, arith}
use Rattle.std.proofs.lemmas.Option.{slice_get_read}
use Rattle.decision_graphs.specs.declared.known.Known.{Known}
use Rattle.decision_graphs.proofs.known.layer_at.Goals as goal

pub returns-then-is_made_of : goal.returns-then-is_made_of
returns-then-is_made_of c =
    let holds : IsTrue true = search rules in
    let h : IsTrue c.is_made_of.result = subst IsTrue (sym c.if-is_made_of.true) holds in
    let held : Known = c.index-layers-place.result in
    let within : c.args.place < length c.args.layers.now = omega arith in
    let at : slice_get c.args.layers.now c.args.place ≡ Some held =
    slice_get_read c.args.layers.now _ c.args.place held refl within c.index-layers-place.is in
    (held, at, c.is_made_of.ensures h)
