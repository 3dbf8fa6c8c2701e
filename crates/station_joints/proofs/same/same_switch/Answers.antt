use Rattle.std.proofs.Common.{[], sym, ◌∙◌}
use Rattle.std.proofs.lemmas.Option.{get_or_from_slice_get}
use Rattle.station_joints.proofs.PairLemmas.{only_same}
use Rattle.station_joints.proofs.same.same_switch.Goals as goal

pub returns-then-is_alike-clause-found : goal.returns-then-is_alike-clause-found
returns-then-is_alike-clause-found c =
    let o = c.args.one.now in
    let n = c.args.other.now in
    let alike = c.is_alike.ensures.0 c.if-is_alike.true in
    record {
      old = c.switch-switch.result;
      new = c.switch-twin.result;
      old_at = c.switch-switch.ensures.value;
      new_at = c.switch-twin.ensures.value;
      path =
          get_or_from_slice_get o.switch_paths c.args.id.0 c.switch_path-path.result.now []
          c.switch_path-path.ensures.value
          ∙ sym (get_or_from_slice_get n.switch_paths c.in-Some.found.0 c.switch_path-path.result.now []
          c.in-Some.ensures.found);
      bay =
          get_or_from_slice_get o.part_paths c.switch-switch.result.bay.0 c.part_path-bay.result.now []
          c.part_path-bay.ensures.value
          ∙ alike.0
          ∙ sym (get_or_from_slice_get n.part_paths c.switch-twin.result.bay.0 c.part_path-twin_bay.result.now []
          c.part_path-twin_bay.ensures.value);
      kind = alike.1;
    }

pub returns-else-is_alike-clause-none : goal.returns-else-is_alike-clause-none
returns-else-is_alike-clause-none c = λ k s.
    let o = c.args.one.now in
    let n = c.args.other.now in
    let same =
    only_same o n c.args.id.0 k c.in-Some.found.0 c.switch_path-path.result.now c.switch-switch.result
    c.switch-twin.result c.switch-twin.ensures.station c.switch_path-path.ensures.value c.in-Some.ensures.found
    c.switch-switch.ensures.value c.switch-twin.ensures.value s in
    let is_true =
    c.is_alike.ensures.1 (
      sym (get_or_from_slice_get o.part_paths c.switch-switch.result.bay.0 c.part_path-bay.result.now []
          c.part_path-bay.ensures.value)
          ∙ same.0
          ∙ get_or_from_slice_get n.part_paths c.switch-twin.result.bay.0 c.part_path-twin_bay.result.now []
          c.part_path-twin_bay.ensures.value,
      same.1,
    ) in
    cc (is_true, c.if-is_alike.false)
