-- Which Answer a node counts for the round that it collects.
use Rattle.std.specs.Prelude.{◌≡◌, ℕ, List, Some}
use Rattle.station_graph.specs.Diagram.{Diagram}
use Rattle.central_rules.specs.Meaning.{Meaning}
use Rattle.bay_frames.specs.declared.frame.Frame.{Frame}
use Rattle.bay_frames.specs.declared.frame.Body.TheVariants.{Answer}
use Rattle.bay_protocol.specs.declared.values.Collection.{Collection}
use Rattle.bay_protocol.specs.State.{State}
use Rattle.bay_protocol.specs.Step.{IsMeant}

-- The frame is an Answer to this node, from another bay, with the round that is being collected, and its
-- summary fits.
pub record Counts (m : Meaning) (d : Diagram) (s : State) (f : Frame) : Type 0 where
  pub meant : IsMeant d s f
  pub round : Collection
  pub collects : s.collecting ≡ Some round
  pub same : round.round ≡ f.round
  pub summary : List ℕ
  pub answer : f.body ≡ Answer summary
  pub fits : m.Fits f.from.0 s.bay summary
