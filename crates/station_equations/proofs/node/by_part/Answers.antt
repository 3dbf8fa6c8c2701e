use Rattle.std.proofs.Common.{◌≡◌, length, refl, Some}
use Rattle.std.specs.Prelude.{slice_get}
use Rattle.std.proofs.lemmas.Option.{slice_get_within, slice_get_read, slice_get-get_or}
use Rattle.station_equations.specs.declared.goal.Goal.TheVariants.{Node}
use Rattle.station_equations.proofs.FollowLemmas.{by_index}
use Rattle.station_equations.proofs.node.by_part.Goals as goal

pub bounds-goals-index : goal.bounds-goals-index
bounds-goals-index c =
    let parts = c.args.parts.now in
    let has = c.requires.has in
    let at : slice_get parts c.args.part.0 ≡ Some c.index-parts-part.result =
    slice_get_read parts (length parts) c.args.part.0 c.index-parts-part.result refl
    (slice_get_within parts c.args.part.0 has.lines has.listed) c.index-parts-part.is in
    by_index parts c.args.part.0 c.args.goals.now c.index-parts-part.result c.args.vector.now c.index_of-index.result
    has at c.index_of-index.ensures

pub returns : goal.returns
returns c =
    let parts = c.args.parts.now in
    let has = c.requires.has in
    let at : slice_get parts c.args.part.0 ≡ Some c.index-parts-part.result =
    slice_get_read parts (length parts) c.args.part.0 c.index-parts-part.result refl
    (slice_get_within parts c.args.part.0 has.lines has.listed) c.index-parts-part.is in
    let lt = by_index parts c.args.part.0 c.args.goals.now c.index-parts-part.result c.args.vector.now
    c.index_of-index.result has at c.index_of-index.ensures in
    record {
      lines = c.index-parts-part.result;
      index = c.index_of-index.result;
      listed = at;
      leads = c.index_of-index.ensures;
      to = slice_get-get_or c.args.goals.now c.index_of-index.result (Node 0) lt;
    }
