-- A switch has one walk along given steps.
use Rattle.std.proofs.Common.{◌≡◌, ℕ, List, subst}
use Rattle.station_graph.specs.Diagram.{Diagram, IsStation}
use Rattle.station_graph.specs.Connection.{a_switch}
use Rattle.station_changes.specs.Compare.{SameSwitch}
use Rattle.step_graphs.specs.declared.step.Step.{Step}
use Rattle.step_graphs.specs.Steps.{TakesIn}
use Rattle.station_joints.specs.Together.{AreJointSteps}
use Rattle.station_compare.specs.Width.{KeepsWalk, IsNarrowAlong}
use Rattle.station_compare.proofs.TwinLemmas.{one_same}

-- the walk of the one switch that is the same, at the one place of its step
pub one_walk : (o n : Diagram) (ss ts : List Step) (b i k limit : ℕ) → IsStation o → AreJointSteps o n ss ts →
    SameSwitch o n i k → TakesIn ss b (a_switch i) → KeepsWalk o n ss ts b i k limit → IsNarrowAlong o n ss ts k limit
one_walk o n ss ts b i k limit is j same at keeps c h walk =
    let e : i ≡ h = one_same o n i h k is same walk.same in
    let at_h : TakesIn ss b (a_switch h) = subst (λ x. TakesIn ss b (a_switch x)) e at in
    let p : b ≡ c = j.old_all.once b c (a_switch h) at_h walk.old_at in
    subst (λ x. KeepsWalk o n ss ts x h k limit) p (subst (λ x. KeepsWalk o n ss ts b x k limit) e keeps)
