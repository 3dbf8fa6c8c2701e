-- The vectors that are allowed, and the graphs of one view of a switch that are ready for them.
use Rattle.std.specs.Prelude.{◌≡◌, ℕ, suc, ◌<◌, ◌==◌, ◌↔◌, Bool, List, slice_get, Some}
use Rattle.ilk_base.specs.declared.words.Dbpos.{Dbpos}
use Rattle.double_points.specs.Words.{Agrees, BayAgrees}
use Rattle.station_graph.specs.Diagram.{part_count}
use Rattle.station_graph.specs.Alike.{IsVector}
use Rattle.decision_graphs.specs.Reaching.{IsSet, set_at}
use Rattle.judge_pool.specs.declared.view.View.{View}
use Rattle.release_compile.specs.declared.search.Side.{Side}
use Rattle.judge_pool.specs.Lettered.{Lettered}
use Rattle.judge_pool.specs.Folding.{AreChosen}
use Rattle.judge_pool.specs.Graphs.{other_of, PartChosen, SwitchChosen}
use Rattle.judge_graphs.specs.Through.{IsOfOthers, SaysThrough}
use Rattle.release_compile.specs.Chaining.{IsReady}

-- The vectors that are allowed: the bay's switches agree with its words, and each other part has an allowed index.
pub record Within (a : Lettered) (b : ℕ) (words : List Dbpos) (sets : List (List Bool)) (v : List Bool) : Type 0 where
  pub whole : IsVector a.diagram v
  pub own : BayAgrees a.diagram b words v
  pub others : (j : ℕ) → suc j < part_count a.diagram → (c : ℕ) × PartChosen a b j c v × IsSet (set_at sets j) c

-- The sets of an inner graph behind the first allow the positions that agree with the words.
abbrev pub OwnAllowed : ℕ → ℕ → ℕ → List Dbpos → List (List Bool) → Type 0
OwnAllowed first m others words sets =
    (i c : ℕ) → i < others → c < 2 → IsSet (set_at sets (suc i)) c ↔
    ((word : Dbpos) → slice_get words (other_of first m i) ≡ Some word → Agrees word (c == 1))

-- The graphs of one view of switch m, ready for these sets of the other parts and these words of the bay.
pub record IsSide (view : View) (a : Lettered) (b m first others : ℕ) (words : List Dbpos) (sets : List (List Bool))
    (s : Side) : Type 0 where
  pub outer_is : IsOfOthers a b s.outer.now
  pub inner_is : SaysThrough view a b m first others s.outer.now s.inner.now
  pub ready : IsReady s sets
  pub own : OwnAllowed first m others words s.inner_sets

-- The vector gives the choices, and stands at each switch of the bay as its words allow.
pub record GivesChoices (a : Lettered) (b m first : ℕ) (words : List Dbpos) (cs ds : List ℕ)
    (v : List Bool) : Type 0 where
  pub whole : IsVector a.diagram v
  pub parts : AreChosen (PartChosen a b) v cs
  pub own : AreChosen (SwitchChosen first m) v ds
  pub moved : (word : Dbpos) (closed : Bool) → slice_get words m ≡ Some word → slice_get v m ≡ Some closed →
      Agrees word closed
