use Rattle.std.proofs.Common.{◌<◌, refl, subst, sym, inl, inr}
use Rattle.station_graph.proofs.marks.mark_link.Goals as goal

pub mark-requires : goal.mark-requires
mark-requires c = c.requires c.args.link.first.0 (inl refl)

pub mark-requires-2 : goal.mark-requires-2
mark-requires-2 c =
    subst (λ k. c.args.link.second.0 < k) (sym c.mark.ensures.len) (c.requires c.args.link.second.0 (inr refl))
