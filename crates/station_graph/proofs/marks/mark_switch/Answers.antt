use Rattle.std.proofs.Common.{◌<◌, refl, subst, sym, inl, inr}
use Rattle.station_graph.proofs.marks.mark_switch.Goals as goal

pub mark-requires : goal.mark-requires
mark-requires c = c.requires c.args.switch.first.0 (inl refl)

pub mark-requires-in-Some : goal.mark-requires-in-Some
mark-requires-in-Some c =
    subst (λ k. c.in-Some.second.0 < k) (sym c.mark.ensures.len) (c.requires c.in-Some.second.0
    (inr (c.in-Some.second, c.in-Some.is, refl)))
