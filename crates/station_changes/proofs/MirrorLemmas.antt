-- What follows where nothing changes, and the comparison turned round.
use Rattle.std.proofs.Common.{◌≡◌, ℕ, ◌<◌, Bool, true, false, List, length, slice_get, Some, None, sym, inl, inr}
use Rattle.std.specs.Prelude.{◌↔◌}
use Rattle.ilk_base.specs.declared.words.Op.{Op}
use Rattle.ilk_base.specs.declared.words.Rule.{Rule}
use Rattle.ilk_base.specs.declared.words.Rule.TheVariants.{R1, R2, R3}
use Rattle.station_graph.specs.Diagram.{Diagram}
use Rattle.station_graph.specs.CentralRules.{Applies, Breaks}
use Rattle.station_changes.specs.Compare.{SameSwitch, IsJoint, IsIsolated, IsCommon, IsChange}
use Rattle.station_changes.specs.declared.change.Change.{Change}
use Rattle.station_changes.specs.declared.change.Change.TheVariants.{Stricter, Looser}
use Rattle.station_changes.specs.Compare.{mirrored}

-- a station that forbids by no rule what another releases releases it
released : (d e : Diagram) (a b : Op) (u v : List Bool) →
    ((rule : Rule) → Breaks d u a None → Breaks e v b (Some rule) → ⊥) → Breaks d u a None → Breaks e v b None
released d e a b u v none free =
    let first : ¬ Applies R1 e v b = λ x. none R1 free x in
    let second : ¬ Applies R2 e v b = λ x. none R2 free (first, x) in
    (first, second, λ x. none R3 free (first, second, x))

pub stays_released : (o n : Diagram) (a b : Op) (u v : List Bool) →
    ((rule : Rule) → IsChange o n a b Stricter rule u v → ⊥) → Breaks o u a None → Breaks n v b None
stays_released o n a b u v none free = released o n a b u v (λ rule x y. none rule (x, y)) free

pub was_released : (o n : Diagram) (a b : Op) (u v : List Bool) →
    ((rule : Rule) → IsChange o n a b Looser rule u v → ⊥) → Breaks n v b None → Breaks o u a None
was_released o n a b u v none free = released n o b a v u (λ rule x y. none rule (y, x)) free

pub same_back : (o n : Diagram) (i k : ℕ) → SameSwitch o n i k → SameSwitch n o k i
same_back o n i k s = record {
  old = s.new;
  new = s.old;
  old_at = s.new_at;
  new_at = s.old_at;
  path = sym s.path;
  bay = sym s.bay;
  kind = sym s.kind;
}

pub joint_back : (o n : Diagram) (u v : List Bool) → IsJoint o n u v → IsJoint n o v u
joint_back o n u v j = record {
  old = j.new;
  new = j.old;
  agree = λ i k s. sym (j.agree k i (same_back n o i k s));
}

pub isolated_back : (o n : Diagram) (u v : List Bool) → IsIsolated o n u v → IsIsolated n o v u
isolated_back o n u v h = record {
  old = λ i lt alone. h.new i lt (λ k s. alone k (same_back o n k i s));
  new = λ k lt alone. h.old k lt (λ i s. alone i (same_back o n k i s));
}

pub change_back : (o n : Diagram) (a b : Op) (change : Change) (rule : Rule) (u v : List Bool) →
    IsChange o n a b change rule u v → IsChange n o b a (mirrored change) rule v u
change_back o n a b Stricter rule u v h = (h.1, h.0)
change_back o n a b Looser rule u v h = (h.1, h.0)
