use Rattle.std.proofs.Common.{◌≡◌, length, arith}
use Rattle.std.proofs.lemmas.Option.{slice_get_within}
use Rattle.bay_contract.specs.Courses.{AtOnePlace, IsLikeTurn}
use Rattle.bay_contract.proofs.LikeLemmas.{place_more}
use Rattle.bay_contract.proofs.like.are_like_turns.Goals as goal

pub loop-j-preserved : goal.loop-j-preserved
loop-j-preserved c =
    let same : length c.args.turns.now ≡ length c.args.others.now = omega (arith, c.if-turns-others.false) in
    place_more (IsLikeTurn
    (AtOnePlace c.args.from.now c.args.to.now)) c.args.turns.now c.args.others.now c.loop-j.j
    c.index-turns-j.result c.index-others-j.result c.index-turns-j.is c.index-others-j.is
    (omega (arith, c.loop-j-test.true)) (omega (arith, c.loop-j-test.true))
    (c.is_like_turn.ensures c.if-not-is_like_turn.false) c.loop-j.invariant

pub returns-clause-turns : goal.returns-clause-turns
returns-clause-turns c = λ yes j s t at_s at_t.
    c.loop-j.invariant j s t (omega
    (arith, slice_get_within c.args.turns.now j s at_s, c.loop-j-test.false, c.loop-j.auto.j-end)) at_s at_t
