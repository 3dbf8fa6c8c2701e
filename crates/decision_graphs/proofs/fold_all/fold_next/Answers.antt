use Rattle.std.proofs.Common.{◌≡◌, ℕ, ◌<◌, ◌-◌, suc, length, slice_index, map, ap, sym, subst, arith}
use Rattle.std.proofs.lemmas.List.{length-map}
use Rattle.decision_graphs.specs.Shapes.{size_of, shape_at}
use Rattle.decision_graphs.specs.Folding.{Folding, IsFoldedAt}
use Rattle.decision_graphs.specs.FoldedView.{folding_of}
use Rattle.decision_graphs.specs.LaidOut.{lists_in}
use Rattle.decision_graphs.proofs.AloneLemmas.{edge_alone, folded_among}
use Rattle.decision_graphs.proofs.StackLemmas.{stack_len, stack_in, folding_read}
use Rattle.decision_graphs.proofs.fold_all.fold_next.Goals as goal

pub fold_once-requires-clause-layer : goal.fold_once-requires-clause-layer
fold_once-requires-clause-layer c =
    let g = lists_in c.args.graph.now in
    let stack = c.args.stack.now in
    let fs = map folding_of stack in
    let len = length-map stack folding_of in
    let lt : length stack - 1 < length stack = omega (arith, len, c.requires.stack.some) in
    let read = folding_read stack (length stack - 1) c.index-stack-stack.result lt c.index-stack-stack.is in
    let top = stack_len g fs (length stack - 1) c.requires.stack (omega (arith, lt, len)) in
    let here : length g.shapes - (length stack - 1) ≡ suc c.args.layer =
    omega (arith, c.requires.layer, len, c.requires.stack.some) in
    let within : c.args.layer < length g.shapes = omega (arith, c.requires.layer, len, c.requires.stack.some) in
    let in_top = λ (i : ℕ). stack_in g fs (length stack - 1) i c.requires.stack (omega (arith, lt, len)) in
    let in_below = subst (λ (f : Folding). (i : ℕ) → i < length f.classes → slice_index f.classes i < f.count) read in_top in
    record {
      fits = omega (arith, c.in_ok-edges.ensures.len);
      choices = (c.requires.whole.laid.stands c.args.layer within).choices;
      leads = λ k b node choice. omega (
        arith,
        edge_alone (shape_at g c.args.layer) c.in_ok-edges.edges g.edges c.in_ok-edges.ensures.each k b node choice,
        c.requires.whole.edges c.args.layer k b within node choice,
        top,
        ap (λ n. size_of g n) here,
        ap (λ (f : Folding). length f.classes) read,
      );
      next = in_below;
    }

pub returns-clause-folded : goal.returns-clause-folded
returns-clause-folded c =
    let g = lists_in c.args.graph.now in
    let stack = c.args.stack.now in
    let len = length-map stack folding_of in
    let lt : length stack - 1 < length stack = omega (arith, len, c.requires.stack.some) in
    let read = folding_read stack (length stack - 1) c.index-stack-stack.result lt c.index-stack-stack.is in
    let alone = folded_among (shape_at g c.args.layer) c.in_ok-edges.edges g.edges c.index-stack-stack.result.classes
    c.index-stack-stack.result.count (folding_of c.in_ok-folded.folded) c.in_ok-edges.ensures.each
    c.in_ok-folded.ensures.folded in
    subst (λ (f : Folding). IsFoldedAt g c.args.layer f (folding_of c.in_ok-folded.folded)) (sym read) alone
