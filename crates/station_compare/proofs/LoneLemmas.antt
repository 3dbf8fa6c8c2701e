-- A station of one switch alone: no rule applies to its operations.
use Rattle.std.proofs.Common.{◌≡◌, ℕ, ◌<◌, Bool, List, length, slice_get, Some, sym, ap, ◌∙◌, subst, inl, inr, arith}
use Rattle.std.proofs.lemmas.Option.{slice_get_within, same_Some}
use Rattle.ilk_base.specs.declared.words.Kind.{Kind}
use Rattle.ilk_base.specs.declared.words.Kind.TheVariants.{Disconnector, Earthing, Infeed}
use Rattle.ilk_base.specs.declared.words.Op.{Op}
use Rattle.ilk_base.specs.declared.words.Rule.{Rule}
use Rattle.ilk_base.specs.declared.words.Rule.TheVariants.{R1, R2, R3}
use Rattle.station_graph.specs.declared.items.Switch.{Switch}
use Rattle.station_graph.specs.Diagram.{Diagram, IsTwoEnded}
use Rattle.station_graph.specs.Connection.{a_switch}
use Rattle.station_graph.specs.Supply.{ClosedAt}
use Rattle.station_graph.specs.CentralRules.{Applies, Breaks, BreaksClosing, BreaksFeeding}
use Rattle.contraction.specs.Stands.{Among}
use Rattle.station_changes.specs.declared.change.Change.{Change}
use Rattle.station_changes.specs.declared.change.Change.TheVariants.{Stricter, Looser}
use Rattle.station_changes.specs.Compare.{SameSwitch, IsJoint, IsChange}
use Rattle.step_graphs.specs.declared.step.Step.{Step}
use Rattle.step_graphs.specs.declared.step.Step.TheVariants.{OfSwitch, OfLink, OfTap, OfNothing}
use Rattle.step_graphs.specs.Steps.{items_in, AreSteps}
use Rattle.station_joints.specs.Together.{AreJointSteps}
use Rattle.ilk_base.specs.declared.words.SwitchId.{SwitchId}
use Rattle.release_dependence.specs.Operations.{opening, closing}
use Rattle.station_compare.specs.declared.found.OperationChanges.{OperationChanges}
use Rattle.station_compare.specs.declared.found.SwitchChanges.{SwitchChanges}
use Rattle.station_compare.specs.Comparing.{AreChanges, AreSwitchChanges, no_changes}

-- every switch of the station is the moved one
abbrev IsLone : Diagram → ℕ → Type 0
IsLone d m = (i : ℕ) (x : Switch) → slice_get d.switches i ≡ Some x → i ≡ m

module _ (d : Diagram) (op : Op) (lone : IsLone d op.switch.0) (moved : Switch)
    (at : slice_get d.switches op.switch.0 ≡ Some moved) where
  -- a switch of a kind that stands somewhere is the moved one
  closed_kind : (v : List Bool) (kind : Kind) (m : ℕ) → ClosedAt d v kind m → moved.kind ≡ kind
  closed_kind v kind m h =
      let is : h.switch ≡ moved =
      same_Some h.switch moved
      (sym h.listed ∙ (ap (slice_get d.switches) (lone h.number h.switch h.listed) ∙ at)) in
      ap (λ (x : Switch). x.kind) (sym is) ∙ h.is_kind

  is_moved : (x : Switch) → slice_get d.switches op.switch.0 ≡ Some x → x.kind ≡ moved.kind
  is_moved x e = ap (λ (y : Switch). y.kind) (same_Some x moved (sym e ∙ at))

  closing_not : (v : List Bool) → ¬ BreaksClosing d v op
  closing_not v h =
      subst (λ (k : Kind). IsTwoEnded k)
      (is_moved h.switch h.moves ∙ closed_kind _ Infeed h.energisable.0 h.energisable.2) h.is_two_ended

  feeding_not : (v : List Bool) → ¬ BreaksFeeding d v op
  feeding_not v h =
      let e : Infeed ≡ Earthing =
      sym h.is_infeed ∙ (is_moved h.switch h.moves ∙ closed_kind _ Earthing h.earthable.0 h.earthable.2) in
      cc

  none_applies : (v : List Bool) (rule : Rule) → ¬ Applies rule d v op
  none_applies v R1 h =
      let e : Earthing ≡ Infeed =
      sym h.is_earthing ∙ (is_moved h.switch h.moves ∙ closed_kind _ Infeed h.energisable.0 h.energisable.2) in
      cc
  none_applies v R2 (inl h) = closing_not v h
  none_applies v R2 (inr h) = feeding_not v h
  none_applies v R3 h = elim h.load.live [
    | inl live ↦
        (let e : Disconnector ≡ Infeed =
        sym h.is_disconnector ∙ (is_moved h.switch h.moves ∙ closed_kind _ Infeed live.0 live.2) in
        cc)
    | inr live ↦
        (let e : Disconnector ≡ Infeed =
        sym h.is_disconnector ∙ (is_moved h.switch h.moves ∙ closed_kind _ Infeed live.0 live.2) in
        cc)
  ]

  none_broken : (v : List Bool) (rule : Rule) → ¬ Breaks d v op (Some rule)
  none_broken v R1 h = none_applies v R1 h
  none_broken v R2 h = none_applies v R2 h.1
  none_broken v R3 h = none_applies v R3 h.2

-- ---- one step alone

one_switch : (s : Step) (i j : ℕ) → Among (items_in s) (a_switch i) → Among (items_in s) (a_switch j) → i ≡ j
one_switch (OfSwitch id) i j (inl e) (inl f) = cc
one_switch (OfSwitch id) i j (inl e) (inr never) = absurd never
one_switch (OfSwitch id) i j (inr never) f = absurd never
one_switch (OfLink k) i j (inl e) f = cc
one_switch (OfLink k) i j (inr never) f = absurd never
one_switch (OfTap k) i j (inl e) f = cc
one_switch (OfTap k) i j (inr never) f = absurd never
one_switch OfNothing i j never f = absurd never

lone_of : (d : Diagram) (steps : List Step) → AreSteps d steps → length steps ≡ 1 → (m : ℕ) →
    m < length d.switches → IsLone d m
lone_of d steps are one m lt i x at =
    let (p, t) = are.each (a_switch i) (slice_get_within d.switches i x at) in
    let (q, s) = are.each (a_switch m) lt in
    let same : p ≡ q =
    omega (arith, slice_get_within steps p t.step t.at, slice_get_within steps q s.step s.at, one) in
    let is : t.step ≡ s.step = same_Some t.step s.step (sym t.at ∙ (ap (slice_get steps) same ∙ s.at)) in
    one_switch s.step i m (subst (λ (z : Step). Among (items_in z) (a_switch i)) is t.among) s.among

module _ (o n : Diagram) (ss ts : List Step) (j : AreJointSteps o n ss ts) (one : length ss ≡ 1) (a b : Op)
    (same : SameSwitch o n a.switch.0 b.switch.0) where
  none_shown : (change : Change) (rule : Rule) (u v : List Bool) → IsJoint o n u v → ¬ IsChange o n a b change rule u v
  none_shown Stricter rule u v joint h =
      none_broken n b
      (lone_of n ts j.new_all (sym j.len ∙ one) b.switch.0 (slice_get_within n.switches b.switch.0 same.new same.new_at))
      same.new same.new_at v rule h.1
  none_shown Looser rule u v joint h =
      none_broken o a
      (lone_of o ss j.old_all one a.switch.0 (slice_get_within o.switches a.switch.0 same.old same.old_at))
      same.old same.old_at u rule h.0

  lone_changes : AreChanges o n a b no_changes
  lone_changes = record {
    stricter = record {
      first = none_shown Stricter R1;
      second = none_shown Stricter R2;
      third = none_shown Stricter R3;
    };
    looser = record {
      first = none_shown Looser R1;
      second = none_shown Looser R2;
      third = none_shown Looser R3;
    };
  }

pub lone_switch : (o n : Diagram) (ss ts : List Step) → AreJointSteps o n ss ts → length ss ≡ 1 → (id : SwitchId) (k : ℕ) →
    SameSwitch o n id.0 k → (c : SwitchChanges) → c.old ≡ id → c.opening ≡ no_changes → c.closing ≡ no_changes →
    AreSwitchChanges o n k c
lone_switch o n ss ts j one id k same c old opens closes = record {
  same = subst (λ (x : SwitchId). SameSwitch o n x.0 k) (sym old) same;
  opened =
      subst (λ (x : SwitchId). AreChanges o n (opening x.0) (opening k) c.opening) (sym old)
      (subst (λ (x : OperationChanges). AreChanges o n (opening id.0) (opening k) x) (sym opens)
      (lone_changes o n ss ts j one (opening id.0) (opening k) same));
  closed =
      subst (λ (x : SwitchId). AreChanges o n (closing x.0) (closing k) c.closing) (sym old)
      (subst (λ (x : OperationChanges). AreChanges o n (closing id.0) (closing k) x) (sym closes)
      (lone_changes o n ss ts j one (closing id.0) (closing k) same));
}
