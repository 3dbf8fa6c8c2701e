use Rattle.std.proofs.Common.{arith}
use Rattle.decision_graphs.proofs.CutLemmas.{edges_most}
use Rattle.decision_graphs.proofs.shape.Shape.end.Goals as goal

pub overflow_add-result : goal.overflow_add-result
overflow_add-result c =
    let most = edges_most c.args.self.nodes c.args.self.choices 4294967295 (omega arith) in
    omega (arith, most, c.requires.base, c.requires.few)

pub returns-clause-most : goal.returns-clause-most
returns-clause-most c =
    let most = edges_most c.args.self.nodes c.args.self.choices 4294967295 (omega arith) in
    omega (arith, most, c.requires.base, c.requires.few)
