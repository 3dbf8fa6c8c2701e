use Rattle.std.proofs.Common.{◌∙◌, sym, ap, inl, inr}
use Rattle.station_graph.specs.Alike.{Partner}
use Rattle.part_alphabets.specs.PartAlphabets.{Alphabets, size_of}
use Rattle.release_compile.specs.Judging.{ground}
use Rattle.release_compile.proofs.judge.GraphJudgeJudge.fits.Goals as goal

pub returns : goal.returns
returns c =
    let j = c.args.self.now in
    let partner : Partner j.diagram c.args.bay.0 c.args.to.0 = c.is_partner.ensures.partner c.if-not-is_partner.false in
    let set = c.is_index_set.ensures (ground j) c.args.bay.0
    (sym (c.size-size.ensures.size ∙ ap (λ (a : Alphabets). size_of a c.args.bay.0) c.parts.ensures.value)) in
    (λ fits. inl (partner, set.0 fits), λ told. elim told [ inl p ↦ set.1 p.1 | inr none ↦ absurd (partner none.0) ])
