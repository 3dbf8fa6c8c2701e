use Rattle.std.proofs.Common.{◌≡◌, ◌<◌, length, get_or, sym, ◌∙◌, ap, subst, inl, inr, arith, ◌∷◌, []}
use Rattle.std.proofs.lemmas.Bool.{cases_eq}
use Rattle.std.proofs.lemmas.List.{get_or_push, get_or_append_left, length_push}
use Rattle.judge_graphs.specs.PartnerLabels.{IsLeastOf}
use Rattle.judge_graphs.specs.PartnerNames.{entries}
use Rattle.judge_graphs.proofs.PartnerNaming.{least_of_first}
use Rattle.judge_graphs.proofs.label_names.names_of.Goals as goal

pub loop-label-preserved : goal.loop-label-preserved
loop-label-preserved c =
    let old = c.loop-label.invariant in
    let items = c.in_ok-push.ensures.items in
    let here = c.in_ok-row.ensures in
    let made = c.in_ok-name.ensures (entries c.args.inners.now) old.index (sym here) in
    let least = least_of_first c.args.labels c.args.inners.now c.loop-label.label c.in_ok-name.name
    c.in_ok-row.row.items c.requires c.loop-label-test.true made.0 here made.1 in
    record {
      len = ap length items ∙ omega (arith, length_push c.loop-label.names.items c.in_ok-name.name, old.len);
      each = λ x lt. elim (cases_eq x c.loop-label.label) [
        | inl e ↦
            let read : get_or c.push.new.self.items x 0 ≡ c.in_ok-name.name =
            ap (λ xs. get_or xs x 0) items
            ∙ get_or_push c.loop-label.names.items c.in_ok-name.name 0 x (old.len ∙ sym e) in
            subst (λ n. IsLeastOf c.args.inners.now x n) (sym read)
            (subst (λ n. IsLeastOf c.args.inners.now n c.in_ok-name.name) (sym e) least)
        | inr ne ↦
            let below : x < c.loop-label.label = omega (arith, lt, ne) in
            let read : get_or c.push.new.self.items x 0 ≡ get_or c.loop-label.names.items x 0 =
            ap (λ xs. get_or xs x 0) items
            ∙ get_or_append_left c.loop-label.names.items (c.in_ok-name.name ∷ []) 0 x
            (omega (arith, below, old.len)) in
            subst (λ n. IsLeastOf c.args.inners.now x n) (sym read) (old.each x below)
      ];
      index = made.2;
    }
