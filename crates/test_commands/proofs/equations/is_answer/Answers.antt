use Rattle.std.proofs.Common.{◌≡◌, ◌∙◌, length, false, sym, ap}
use Rattle.std.proofs.lemmas.List.{length-set, length-replicate}
use Rattle.test_commands.proofs.equations.is_answer.Goals as goal

pub evaluate-requires-clause-vector : goal.evaluate-requires-clause-vector
evaluate-requires-clause-vector c =
    let count : length c.in_ok-vector.vector ≡ length c.args.station.now.switches =
    ap length c.in_ok-vector.ensures ∙ length-replicate (length c.args.station.now.switches) false in
    ap length c.set.ensures
    ∙ (length-set c.in_ok-vector.vector _ _ ∙ (count ∙ (c.requires.two ∙ sym c.requires.ops)))
