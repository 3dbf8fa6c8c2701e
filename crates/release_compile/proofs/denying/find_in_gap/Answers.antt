use Rattle.std.proofs.Common.{Bool, List, refl}
use Rattle.judge_pool.specs.Lettered.{Lettered, lettered}
use Rattle.release_compile.specs.Chaining.{IsGapFound, NoneLeadsTo}
use Rattle.release_compile.specs.Denying.{IsDenial, IsGapFree}
use Rattle.release_compile.specs.declared.search.Found.{Found}
use Rattle.release_compile.specs.declared.search.Side.{Side}
use Rattle.release_compile.proofs.DenyingLemmas.{match_both, gap_denies}
use Rattle.release_compile.proofs.VerdictLemmas.{opening_free, closing_free}
use Rattle.release_compile.proofs.denying.find_in_gap.Goals as goal

pub returns-in-ToOff : goal.returns-in-ToOff
returns-in-ToOff c v within = opening_free c.args.station.now v c.args.op c.in-ToOff.is

pub returns-in_ok-found-in-ToOn : goal.returns-in_ok-found-in-ToOn
returns-in_ok-found-in-ToOn c =
    let a : Lettered = lettered c.args.station.now c.args.parts.now in
    let p = c.args.place in
    let m = c.args.op.switch.0 in
    let own = c.args.own.now in
    let sets : List (List Bool) = c.args.sets.now in
    let s : Side = c.in_ok-side-in-ToOn.side in
    let side = c.in_ok-side-in-ToOn.ensures.side in
    match_both c.in_ok-found-in-ToOn.found (NoneLeadsTo s sets 1 × NoneLeadsTo s sets 2)
    (IsGapFree a p.bay.0 own sets c.args.op)
    (λ (f : Found). IsGapFound s sets f.rule f.choices.outer f.choices.inner)
    (IsDenial a p.bay.0 m p.first p.others own sets c.args.op)
    (closing_free a p.bay.0 m p.first p.others own sets s c.requires.own side c.args.op refl c.in-ToOn.is)
    (gap_denies a p.bay.0 m p.first p.others own sets c.requires.own c.args.op refl s side c.in-ToOn.is)
    c.in_ok-found-in-ToOn.ensures
