use Rattle.std.proofs.Common.{List, ℕ, sym, subst}
use Rattle.std.specs.Prelude.{IfOk, Result, Ok, Err}
use Rattle.judge_pool.specs.declared.view.View.TheVariants.{Gap, Load}
use Rattle.judge_pool.specs.Pooling.{IsRowIn, IsToldBy}
use Rattle.judge_pool.proofs.batches.value_of.Goals as goal

-- three facts of whatever value is there are one
if_ok_three : {X Y : Type 0} (r : Result X Y) (P Q R S : X → Type 0) → ((x : X) → P x → Q x → R x → S x) → IfOk r P →
    IfOk r Q → IfOk r R → IfOk r S
if_ok_three (Ok x) P Q R S h p q r = h x p q r
if_ok_three (Err e) P Q R S h p q r = tt

pub of_gap_row-requires : goal.of_gap_row-requires
of_gap_row-requires c =
    let h : IsRowIn Gap c.args.row.now = subst (λ w. IsRowIn w c.args.row.now) c.in-Gap.is c.requires in
    record { row = record { value = h.value; contraction = h.contraction; row = h.row } }

pub of_load_row-requires : goal.of_load_row-requires
of_load_row-requires c =
    let h : IsRowIn Load c.args.row.now = subst (λ w. IsRowIn w c.args.row.now) c.in-Load.is c.requires in
    record { row = record { value = h.value; contraction = h.contraction; row = h.row } }

pub returns-in-Gap : goal.returns-in-Gap
returns-in-Gap c =
    let bytes : List ℕ = c.args.row.now in
    let e = c.of_gap_row.ensures in
    subst (λ w. IfOk c.of_gap_row.result (IsToldBy w bytes)) (sym c.in-Gap.is)
    (if_ok_three c.of_gap_row.result _ _ _ (IsToldBy Gap bytes) (λ z well row both. record {
      contraction = well;
      row = row;
      composes =
          λ nodes x y h. (both nodes x y (record {
            value = h.value;
            contraction = h.contraction;
            kept = h.kept;
            composes = h.composes;
            row = h.row;
          })).composes;
      kept =
          λ nodes x y h. (both nodes x y (record {
            value = h.value;
            contraction = h.contraction;
            kept = h.kept;
            composes = h.composes;
            row = h.row;
          })).kept;
    }) e.contraction e.row e.both)

pub returns-in-Load : goal.returns-in-Load
returns-in-Load c =
    let bytes : List ℕ = c.args.row.now in
    let e = c.of_load_row.ensures in
    subst (λ w. IfOk c.of_load_row.result (IsToldBy w bytes)) (sym c.in-Load.is)
    (if_ok_three c.of_load_row.result _ _ _ (IsToldBy Load bytes) (λ z well row both. record {
      contraction = well;
      row = row;
      composes =
          λ nodes x y h. (both nodes x y (record {
            value = h.value;
            contraction = h.contraction;
            kept = h.kept;
            composes = h.composes;
            row = h.row;
          })).composes;
      kept =
          λ nodes x y h. (both nodes x y (record {
            value = h.value;
            contraction = h.contraction;
            kept = h.kept;
            composes = h.composes;
            row = h.row;
          })).kept;
    }) e.contraction e.row e.both)
