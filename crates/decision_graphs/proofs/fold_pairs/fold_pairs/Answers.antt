use Rattle.std.proofs.Common.{ℕ, ◌≡◌, ◌<◌, ◌+◌, ◌++◌, ◌*◌, [], ◌∷◌, length, refl, sym, ◌∙◌, ap, subst, arith, inl, inr}
use Rattle.std.proofs.Common.{List}
use Rattle.std.proofs.lemmas.List.{append_assoc}
use Rattle.decision_graphs.specs.Folding.{Folding, IsFolded}
use Rattle.decision_graphs.specs.RowIndex.{same_pair, pair_row}
use Rattle.decision_graphs.proofs.FoldLemmas.{IsFolded-same}
use Rattle.decision_graphs.proofs.RowIndexLemmas.{IsIndex-same}
use Rattle.decision_graphs.proofs.PairLemmas.{fold_known, fold_new}
use Rattle.decision_graphs.proofs.fold_pairs.fold_pairs.Goals.{
  then-class-count+in_ok-push+in_ok-push-2,
  else-class-count,
}
use Rattle.decision_graphs.proofs.fold_pairs.fold_pairs.Goals as goal

pub loop-node-preserved : goal.loop-node-preserved
loop-node-preserved c =
    let s = c.args.shape in
    let es = c.args.edges.now in
    let next = c.args.next.now in
    let pair = c.pair_at-pair.result in
    let old = c.loop-node.invariant in
    let rows : List ℕ = c.loop-node.rows.items in
    let so_far : Folding = record { count = c.loop-node.count; rows = rows; classes = c.loop-node.classes.items } in
    let len : length rows ≡ c.loop-node.count * 2 = old.folded.rows_len
    ∙ ap (λ w. c.loop-node.count * w) c.requires.two in
    let lt : c.loop-node.node < s.nodes = omega (arith, c.loop-node-test.true) in
    let class = c.in_ok-class.ensures rows old.index len in
    let pushed = c.in_ok-push-3.ensures.items in
    elim c.if-class-count.branch [
      | then-class-count+in_ok-push+in_ok-push-2 w ↦
          (let rows_are : c.if-class-count.rows.items ≡ rows ++ pair_row pair =
          ap (λ v. v.items) w.rows-is
          ∙ (w.in_ok-push-2.ensures.items
          ∙ (ap (λ xs. xs ++ pair.second ∷ []) w.in_ok-push.ensures.items
          ∙ append_assoc rows (pair.first ∷ []) (pair.second ∷ []))) in
          elim class [
            | inl known ↦ absurd (omega (arith, known.before, w.if-class-count.true))
            | inr new ↦ record {
              folded = IsFolded-same s es next c.args.bound (c.loop-node.node + 1) _ _ _ _ _ _
                  (sym w.count-is) (sym rows_are) (ap (λ k. so_far.classes ++ k ∷ []) (sym new.behind) ∙ sym pushed)
                  (fold_new s es next c.args.bound c.loop-node.node so_far pair c.requires.two
                  c.pair_at-pair.ensures.first c.pair_at-pair.ensures.second old.folded c.requires.fold lt new.none);
              index = IsIndex-same same_pair pair_row 2 _ _ _ _ _ _ (sym w.count-is) (sym rows_are) refl new.index;
            }
          ])
      | else-class-count w ↦
          (let rows_are : c.if-class-count.rows.items ≡ rows = ap (λ v. v.items) w.rows-is in
          elim class [
            | inl known ↦ record {
              folded = IsFolded-same s es next c.args.bound (c.loop-node.node + 1) _ _ _ _ _ _
                  (sym w.count-is) (sym rows_are) (sym pushed)
                  (fold_known s es next c.args.bound c.loop-node.node so_far pair c.requires.two
                  c.pair_at-pair.ensures.first c.pair_at-pair.ensures.second old.folded c.in_ok-class.class
                  known.before known.row);
              index = IsIndex-same same_pair pair_row 2 _ _ _ _ _ _ (sym w.count-is) (sym rows_are) refl
                  known.index;
            }
            | inr new ↦ absurd (omega (arith, new.behind, w.if-class-count.false))
          ])
    ]

pub returns : goal.returns
returns c =
    let end : c.loop-node.node ≡ c.args.shape.nodes = omega (arith, c.loop-node.auto.node-end, c.loop-node-test.false) in
    subst (λ n. IsFolded c.args.shape c.args.edges.now c.args.next.now c.args.bound n (record {
      count = c.loop-node.count;
      rows = c.loop-node.rows.items;
      classes = c.loop-node.classes.items;
    })) end c.loop-node.invariant.folded
