use Rattle.std.proofs.Common.{◌≡◌, Some, None, rules, refl, sym, ap, ◌∙◌, inl, inr}
use Rattle.std.specs.HashMap.{get}
use Rattle.std.specs.HashMap.Entry.{entry_value, map_with_value}
use Rattle.decision_graphs.specs.RowIndex.{same_pair, pair_row}
use Rattle.decision_graphs.proofs.RowIndexLemmas.{IsIndex-entries, IsIndex-put, pairs_tell}
use Rattle.decision_graphs.proofs.fold_pairs.class_of.Goals as goal

pub returns-in-Occupied : goal.returns-in-Occupied
returns-in-Occupied c rows index len =
    let at : get same_pair c.args.index.now c.args.pair ≡ Some c.get.result.now =
    sym c.in_ok-entry.ensures.value ∙ (ap entry_value c.in-Occupied.is ∙ c.get.ensures) in
    let known = index.found c.args.pair c.get.result.now refl at in
    inl (record {
      before = known.0;
      row = known.1;
      index = IsIndex-entries same_pair pair_row 2 c.args.next rows c.args.index.now _ (search rules) index;
    })

pub returns-in-Vacant : goal.returns-in-Vacant
returns-in-Vacant c rows index len =
    let none : get same_pair c.args.index.now c.args.pair ≡ None = search rules in
    inr (record {
      behind = refl;
      none = index.missing c.args.pair refl none;
      index =
          IsIndex-put same_pair pair_row pairs_tell 2 c.args.next rows c.args.index.now
          (map_with_value c.in_ok-entry.field-0 c.args.next) _ c.args.pair index refl len
          (c.in_ok-entry.ensures.update.0 c.args.next) (search rules);
    })
