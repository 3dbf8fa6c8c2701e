use Rattle.std.proofs.Common.{List, ℕ, sym, subst}
use Rattle.std.specs.Prelude.{IfOk}
use Rattle.contraction.specs.Answers.{Answers}
use Rattle.contraction.specs.Composing.{IsGapRowOfBoth, IsLoadRowOfBoth}
use Rattle.judge_pool.specs.declared.view.View.TheVariants.{Gap, Load}
use Rattle.judge_pool.specs.Pooling.{IsRowOfBoth}
use Rattle.judge_pool.proofs.PoolLemmas.{if_ok}
use Rattle.judge_pool.proofs.batches.composed_row.Goals as goal

pub returns-in-Gap : goal.returns-in-Gap
returns-in-Gap c =
    let x : Answers = c.args.x.now in
    let y : Answers = c.args.y.now in
    let nodes : List ℕ = c.args.selection.now.nodes in
    subst (λ w. IfOk c.composed_gap_row.result (IsRowOfBoth w nodes x y)) (sym c.in-Gap.is) (if_ok
    c.composed_gap_row.result (IsGapRowOfBoth nodes x y) (IsRowOfBoth Gap nodes x y) (λ t h. record {
      value = h.value;
      contraction = h.contraction;
      kept = h.kept;
      composes = h.composes;
      row = h.row;
    }) c.composed_gap_row.ensures)

pub returns-in-Load : goal.returns-in-Load
returns-in-Load c =
    let x : Answers = c.args.x.now in
    let y : Answers = c.args.y.now in
    let nodes : List ℕ = c.args.selection.now.nodes in
    subst (λ w. IfOk c.composed_load_row.result (IsRowOfBoth w nodes x y)) (sym c.in-Load.is) (if_ok
    c.composed_load_row.result (IsLoadRowOfBoth nodes x y) (IsRowOfBoth Load nodes x y) (λ t h. record {
      value = h.value;
      contraction = h.contraction;
      kept = h.kept;
      composes = h.composes;
      row = h.row;
    }) c.composed_load_row.ensures)
