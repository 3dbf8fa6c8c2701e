use Rattle.std.proofs.Common.{subst}
use Rattle.std.proofs.lemmas.Option.{get_or_from_slice_get, slice_get_within}
use Rattle.bay_frames.specs.Row.{IsLawful}
use Rattle.test_world.proofs.outcomes.are_sent.Goals as goal

pub encode-len-requires : goal.encode-len-requires
encode-len-requires c =
    subst IsLawful (get_or_from_slice_get c.args.frames.now c.loop-i.i c.get.result c.get.result c.get.ensures)
    (c.requires c.loop-i.i c.get.result (slice_get_within c.args.frames.now c.loop-i.i c.get.result c.get.ensures))
