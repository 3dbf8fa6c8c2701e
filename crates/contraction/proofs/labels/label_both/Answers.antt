use Rattle.std.proofs.Common.{length}
use Rattle.contraction.proofs.EdgeLemmas.{edges_swapped}
use Rattle.contraction.proofs.labels.label_both.Goals as goal

pub returns-then-first-second : goal.returns-then-first-second
returns-then-first-second c =
    edges_swapped c.args.second.now c.args.second_labels.now c.args.first.now c.args.first_labels.now
    (length c.args.second.now) (length c.args.first.now) (length c.args.labels.now) c.label_in_turn.new.labels
    c.label_in_turn.ensures
