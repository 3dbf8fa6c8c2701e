-- For which records an image may stand after a crash in a session.
use Rattle.std.specs.Prelude.{◌≡◌, ◌≤◌, ◌++◌, ℕ, List, length}
use Rattle.station_graph.specs.Diagram.{Diagram}
use Rattle.central_rules.specs.Meaning.{Meaning}
use Rattle.bay_protocol.specs.State.{State, kept_of}
use Rattle.node_store.specs.Image.{IsImageOf}
use Rattle.stored_session.specs.Stored.{StoredSession}

-- The session of these lines, from the first state to the last, and an image that stands for its record after some
-- number of them, which is not below `low`.
pub record StandsAlong (m : Meaning) (d : Diagram) (b : ℕ) (start : State)
    (lines : List (List ℕ)) (text : List ℕ) (last : State) (low : ℕ) (c : List ℕ) : Type 0 where
  pub done : List (List ℕ)
  pub more : List (List ℕ)
  pub parts : lines ≡ done ++ more
  pub enough : low ≤ length done
  pub text_done : List ℕ
  pub text_more : List ℕ
  pub texts : text ≡ text_done ++ text_more
  pub between : State
  pub first : StoredSession m d b start done text_done between
  pub second : StoredSession m d b between more text_more last
  pub stands : IsImageOf c (kept_of between)
