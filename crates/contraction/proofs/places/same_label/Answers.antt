use Rattle.std.proofs.Common.{slice_index, eq-eqb}
use Rattle.std.proofs.lemmas.Bool.{eqb-true}
use Rattle.contraction.proofs.RestrictLemmas.{same_at_places}
use Rattle.contraction.proofs.places.same_label.Goals as goal

pub returns : goal.returns
returns c =
    let kept = c.args.kept.now in
    let labels = c.args.labels.now in
    let i = c.place_of.result in
    let j = c.place_of-2.result in (
      λ e. record {
        first = i;
        second = j;
        at_first = c.place_of.ensures;
        at_second = c.place_of-2.ensures;
        same = eqb-true (slice_index labels i) (slice_index labels j) e;
      },
      λ s. eq-eqb (slice_index labels i) (slice_index labels j)
          (same_at_places kept labels i j c.args.a c.args.b c.requires.rises c.place_of.ensures c.place_of-2.ensures s),
    )
