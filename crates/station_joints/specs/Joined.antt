-- The joint steps of two stations.
use Rattle.std.specs.Prelude.{◌<◌, ◌^◌, length}
use Rattle.station_graph.specs.Diagram.{Diagram}
use Rattle.station_joints.specs.declared.joint.JointSteps.{JointSteps}
use Rattle.station_joints.specs.Together.{AreJointSteps, ArePlaces}

-- The joint steps of two stations, with the place of each switch.
pub record HaveJointSteps (o n : Diagram) (j : JointSteps) : Type 0 where
  pub steps : AreJointSteps o n j.old_steps.items j.new_steps.items
  pub old_at : ArePlaces o j.old_steps.items j.old_places.items
  pub new_at : ArePlaces n j.new_steps.items j.new_places.items
  pub few : length j.old_steps.items < 2 ^ 16
